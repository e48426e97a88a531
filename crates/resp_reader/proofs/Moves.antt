-- How an element goes on, state by state.
use Rattle.std.proofs.Common.{◌≡◌, ◌≢◌, ℕ, ◌+◌, ◌<◌, List, [], ◌∷◌, ◌++◌, length, arith, refl, ap, sym, ◌∙◌, subst}
use Rattle.std.proofs.Common.{append_assoc, length-append, lit<}
use Rattle.std.specs.Prelude.{Result, Ok, Err, IfErr}
use Rattle.std.specs.Fmt.{decimal}
use Rattle.std.specs.Char.{digit_value}
use Rattle.std.specs.Str.Parse.{AllDigits}
use Rattle.std.specs.List.{AllByRecursion}
use Rattle.flake_model.specs.Resp.{Words, crlf, bulk_string, element_text, null_array, IsElementFront, FaultKind}
use Rattle.flake_model.specs.Resp.{inline, in_count, at_word, in_word, IsFaulty}
use Rattle.flake_model.specs.Fronts.{NoNull, NoWordGoesOn, NoElementGoesOn, array_front, word_front}
use Rattle.flake_model.proofs.Grammar.{NoCr-digits}
use Rattle.flake_model.proofs.Streams.{all_append}
use Rattle.flake_model.proofs.Digits.{no_line_feed, no_minus, NoLf-digits, none_among}
use Rattle.flake_model.proofs.Fronts.{not_a_mark, not_a_count, not_null_line, not_null_line_feed, not_a_length}
use Rattle.flake_model.proofs.Fronts.{not_a_line_end, not_a_line_feed, no_word_in_array, no_mark_in_array, cut_in_count}
use Rattle.flake_model.proofs.Fronts.{cut_in_word, cut_at_word, cut_in_null}
use Rattle.flake_model.proofs.FirstNumber.{cut_before_digits, cut_behind_digits, cut_behind_cr}
use Rattle.flake_model.proofs.FirstWord.{WordCut, cut_in_length}
use Rattle.flake_model.proofs.Faults.{faulty}
use Rattle.resp_reader.specs.declared.head.Head.TheVariants.{Count, Length}
use Rattle.resp_reader.specs.declared.head.Digits.{Digits}
use Rattle.resp_reader.specs.declared.head.Digits.TheVariants.{Nothing, Number, Minus, MinusOne}
use Rattle.resp_reader.specs.declared.begun.State.TheVariants.{Start, InCount, CountEnd, AtWord, InLength, LengthEnd}
use Rattle.resp_reader.specs.declared.begun.State.TheVariants.{InWord, WordEnd}
use Rattle.resp_reader.specs.declared.begun.Stop.{Stop}
use Rattle.resp_reader.specs.declared.begun.Stop.TheVariants.{Fault, Memory as OutOfMemory}
use Rattle.resp_reader.specs.declared.begun.State.{State}
use Rattle.resp_reader.specs.declared.begun.Begun.{Begun}
use Rattle.resp_reader.specs.Head.{digits_text, IsDigits, MayEnd, LineFault}
use Rattle.resp_reader.specs.Begun.{state_front, IsState, Stops, IsArray, IsBegunSound, Breaks}
use Rattle.resp_reader.proofs.Heads.{some_digits}

-- a byte that isn't the one that is wanted
other_first : (bytes : List ℕ) (mark : ℕ) → 0 < length bytes → ((rest : List ℕ) → bytes ≢ mark ∷ rest) → (byte : ℕ)
    × (more : List ℕ) × (bytes ≡ byte ∷ more) × (byte ≢ mark)
other_first [] mark some none = absurd (omega arith)
other_first (byte ∷ more) mark some none = (byte, more, refl, λ same. none more (ap (λ b. b ∷ more) same))

-- an error at the next byte
pub fault_here : (front bytes : List ℕ) (mark kind : ℕ) → IsElementFront front
    → ((byte : ℕ) → byte ≢ mark → NoElementGoesOn front byte) → FaultKind front kind
    → 0 < length bytes → ((rest : List ℕ) → bytes ≢ mark ∷ rest) → IsFaulty (front ++ bytes) [] kind (length front + 0)
fault_here front bytes mark kind begun refused kind_is some none =
    let other = other_first bytes mark some none in
    let place : length front ≡ length front + 0 = omega arith in
    subst (λ place. IsFaulty (front ++ bytes) [] kind place) place
    (subst (λ b. IsFaulty (front ++ b) [] kind (length front)) (sym other.2)
    (faulty [] front other.0 other.1 kind tt begun (refused other.0 other.3) kind_is))

-- no line has an LF before its CR
no_lf : (digits : Digits) → IsDigits Count digits → AllByRecursion (λ b. b ≢ 10) (digits_text digits)
no_lf Nothing allowed = tt
no_lf (Number n) allowed = NoLf-digits (decimal n) (some_digits n (omega arith)).1
no_lf Minus allowed = (λ e. absurd (omega (arith, e)), tt)
no_lf MinusOne allowed = (λ e. absurd (omega (arith, e)), (λ e. absurd (omega (arith, e)), tt))

pub start_stops : (bytes : List ℕ) → 0 < length bytes → ((rest : List ℕ) → bytes ≢ 42 ∷ rest)
    → Stops Start bytes (Fault 4 0)
start_stops bytes some none words word sound = fault_here [] bytes 42 4
    (cut_in_null [] (element_text null_array) refl (lit< tt)) not_a_mark inline some none

-- a count line can go on
pub cut_count : (digits : Digits) → IsDigits Count digits → IsElementFront (42 ∷ digits_text digits)
cut_count Nothing allowed = cut_in_null (42 ∷ []) (45 ∷ 49 ∷ 13 ∷ 10 ∷ []) refl (lit< tt)
cut_count (Number n) allowed = cut_in_count n (decimal n) crlf allowed refl (lit< tt)
cut_count Minus allowed = cut_in_null (42 ∷ 45 ∷ []) (49 ∷ 13 ∷ 10 ∷ []) refl (lit< tt)
cut_count MinusOne allowed = cut_in_null (42 ∷ 45 ∷ 49 ∷ []) (13 ∷ 10 ∷ []) refl (lit< tt)

pub cut_count_end : (digits : Digits) → IsDigits Count digits → MayEnd digits
    → IsElementFront (42 ∷ (digits_text digits ++ 13 ∷ []))
cut_count_end Nothing allowed whole = absurd whole
cut_count_end (Number n) allowed whole = cut_in_count n (decimal n ++ 13 ∷ []) (10 ∷ []) allowed
    (append_assoc (decimal n) (13 ∷ []) (10 ∷ [])) (lit< tt)
cut_count_end Minus allowed whole = absurd whole
cut_count_end MinusOne allowed whole = cut_in_null (42 ∷ 45 ∷ 49 ∷ 13 ∷ []) (10 ∷ []) refl (lit< tt)

-- an error in a line, in its element
line_fault : (front text came : List ℕ) (byte : ℕ) (more bytes now : List ℕ) (place kind : ℕ) → bytes ≡ came ++ byte
    ∷ more → now ≡ text ++ came → place ≡ length came
    → IsElementFront (front ++ now) → NoElementGoesOn (front ++ now) byte → FaultKind (front ++ now) kind
    → IsFaulty ((front ++ text) ++ bytes) [] kind (length (front ++ text) + place)
line_fault front text came byte more bytes now place kind bytes_are now_is place_is begun refused kind_is =
    let all : (front ++ now) ++ byte ∷ more ≡ (front ++ text) ++ bytes =
    ap (λ t. (front ++ t) ++ byte ∷ more) now_is ∙ ap (λ t. t ++ byte ∷ more) (sym (append_assoc front text came))
    ∙ append_assoc (front ++ text) came (byte ∷ more) ∙ ap (λ b. (front ++ text) ++ b) (sym bytes_are) in
    let at : length (front ++ now) ≡ length (front ++ text) + place =
    omega (arith, ap length now_is, length-append front now, length-append front text, length-append text came) in
    subst (λ place. IsFaulty ((front ++ text) ++ bytes) [] kind place) at
    (subst (λ b. IsFaulty b [] kind (length (front ++ now))) all
    (faulty [] (front ++ now) byte more kind tt begun refused kind_is))

pub in_count_stops : (digits : Digits) (bytes : List ℕ) (place : ℕ) → LineFault Count digits bytes place
    → Stops (InCount digits) bytes (Fault 1 place)
in_count_stops digits bytes place fault words word sound =
    line_fault (42 ∷ []) (digits_text digits) fault.front fault.byte fault.more bytes (digits_text fault.now) place 1
    fault.bytes_are fault.now_is fault.place_is
    (cut_count fault.now fault.allowed) (not_a_count (digits_text fault.now) fault.byte fault.refused.0 fault.refused.1)
    (in_count (digits_text fault.now) (none_among 10 (digits_text fault.now) (no_lf fault.now fault.allowed)))

digits_then_cr : (digits : List ℕ) (byte : ℕ) → 0 < length digits → AllDigits 10 digits
    → NoNull (digits ++ 13 ∷ []) byte
digits_then_cr [] byte some all rest e = omega arith
digits_then_cr (c ∷ digits) byte some all rest e = not_null_line c (digits ++ 13 ∷ []) byte
    (λ is. absurd (omega (arith, subst (λ b. digit_value b < 10) is all.0))) rest e

-- no count line goes on behind its CR but by LF
no_count_end : (digits : Digits) (byte : ℕ) → IsDigits Count digits → MayEnd digits → byte ≢ 10
    → NoElementGoesOn (42 ∷ (digits_text digits ++ 13 ∷ [])) byte
no_count_end Nothing byte allowed whole other = absurd whole
no_count_end (Number n) byte allowed whole other =
    let text = some_digits n (omega arith) in
    not_a_count (decimal n ++ 13 ∷ []) byte
    (no_line_feed 1024 (decimal n) byte (lit< tt) (NoCr-digits (decimal n) text.1) other)
    (digits_then_cr (decimal n) byte text.0 text.1)
no_count_end Minus byte allowed whole other = absurd whole
no_count_end MinusOne byte allowed whole other = not_a_count (45 ∷ 49 ∷ 13 ∷ []) byte
    (no_minus 1024 (49 ∷ 13 ∷ []) byte (lit< tt)) (not_null_line_feed byte other)

pub count_end_stops : (digits : Digits) (bytes : List ℕ) → 0 < length bytes → ((rest : List ℕ) → bytes ≢ 10 ∷ rest)
    → Stops (CountEnd digits) bytes (Fault 1 0)
count_end_stops digits bytes some none words word sound =
    let line = digits_text digits ++ 13 ∷ [] in
    let clear : AllByRecursion (λ b. b ≢ 10) line = all_append (λ b. b ≢ 10) (digits_text digits) (13 ∷ [])
    (no_lf digits sound.2) (λ e. absurd (omega (arith, e)), tt) in
    fault_here (42 ∷ line) bytes 10 1 (cut_count_end digits sound.2 sound.3)
    (λ byte other. no_count_end digits byte sound.2 sound.3 other) (in_count line (none_among 10 line clear)) some
    none

pub at_word_stops : (count : ℕ) (bytes : List ℕ) → 0 < length bytes → ((rest : List ℕ) → bytes ≢ 36 ∷ rest)
    → Stops (AtWord count) bytes (Fault 2 0)
at_word_stops count bytes some none words word sound =
    fault_here (array_front count words) bytes 36 2 (cut_at_word count words sound.0.most sound.0.allowed sound.0.less)
    (λ byte other. no_mark_in_array count words byte sound.0.most sound.0.allowed sound.0.less other)
    (at_word count words sound.0.less) some none

-- a length line is the front of a word
pub length_begins : (digits : Digits) → IsDigits Length digits → WordCut (36 ∷ digits_text digits)
length_begins Nothing allowed = cut_in_length [] (cut_before_digits 1048576)
length_begins (Number n) allowed = cut_in_length (decimal n) (cut_behind_digits 1048576 n allowed)
length_begins Minus allowed = absurd allowed
length_begins MinusOne allowed = absurd allowed

pub in_length_stops : (count : ℕ) (digits : Digits) (bytes : List ℕ) (place : ℕ) → LineFault Length digits bytes place
    → Stops (InLength count digits) bytes (Fault 3 place)
in_length_stops count digits bytes place fault words word sound =
    let found = length_begins fault.now fault.allowed in
    let front = array_front count words in
    let same : (front ++ 36 ∷ []) ++ digits_text fault.now ≡ front ++ 36 ∷ digits_text fault.now =
    append_assoc front (36 ∷ []) (digits_text fault.now) in
    let start : (front ++ 36 ∷ []) ++ digits_text digits ≡ front ++ 36 ∷ digits_text digits =
    append_assoc front (36 ∷ []) (digits_text digits) in
    subst (λ b. IsFaulty (b ++ bytes) [] 3 (length b + place)) start
    (line_fault (front ++ 36 ∷ []) (digits_text digits) fault.front fault.byte fault.more bytes (digits_text fault.now)
    place 3 fault.bytes_are fault.now_is fault.place_is
    (subst IsElementFront (sym same)
    (cut_in_word count words found.word (36 ∷ digits_text fault.now) found.more sound.0.most sound.0.allowed
    sound.0.less found.allowed found.goes_on found.some))
    (subst (λ b. NoElementGoesOn b fault.byte) (sym same)
    (no_word_in_array count words (36 ∷ digits_text fault.now) fault.byte sound.0.most sound.0.allowed sound.0.less
    (not_a_length (digits_text fault.now) fault.byte fault.refused)))
    (subst (λ b. FaultKind b 3) (sym same)
    (in_word count words found.word (digits_text fault.now) found.more sound.0.less found.goes_on found.some)))

-- an error at the next byte inside a word
pub fault_in_word : (count : ℕ) (words : Words) (begun bytes : List ℕ) (mark : ℕ) → IsArray count words
    → WordCut (36 ∷ begun)
    → ((byte : ℕ) → byte ≢ mark → NoWordGoesOn (36 ∷ begun) byte) → 0 < length bytes
    → ((rest : List ℕ) → bytes ≢ mark ∷ rest)
    → IsFaulty ((array_front count words ++ 36 ∷ begun) ++ bytes) [] 3
    (length (array_front count words ++ 36 ∷ begun) + 0)
fault_in_word count words begun bytes mark sound cut refused some none =
    fault_here (array_front count words ++ 36 ∷ begun) bytes mark 3
    (cut_in_word count words cut.word (36 ∷ begun) cut.more sound.most sound.allowed sound.less cut.allowed
    cut.goes_on cut.some)
    (λ byte other. no_word_in_array count words (36 ∷ begun) byte sound.most sound.allowed sound.less
    (refused byte other)) (in_word count words cut.word begun cut.more sound.less cut.goes_on cut.some) some none

pub length_end_stops : (count len : ℕ) (bytes : List ℕ) → 0 < length bytes → ((rest : List ℕ) → bytes ≢ 10 ∷ rest)
    → Stops (LengthEnd count len) bytes (Fault 3 0)
length_end_stops count len bytes some none words word sound =
    fault_in_word count words (decimal len ++ 13 ∷ []) bytes 10 sound.0
    (cut_in_length (decimal len ++ 13 ∷ []) (cut_behind_cr 1048576 len sound.2))
    (λ byte other. not_a_length (decimal len ++ 13 ∷ []) byte
    (no_line_feed 1048576 (decimal len) byte (lit< tt)
    (NoCr-digits (decimal len) (some_digits len (omega (arith, sound.2))).1) other)) some none

-- an error behind a word's bytes
pub word_stops : (count len : ℕ) (words : Words) (word bytes : List ℕ) → IsState (InWord count len) words word
    → length word ≡ len → 0 < length bytes → ((rest : List ℕ) → bytes ≢ 13 ∷ rest)
    → IsFaulty (state_front (InWord count len) words word ++ bytes) [] 3
    (length (state_front (InWord count len) words word) + 0)
word_stops count len words word bytes sound whole some none =
    let front : word_front word ≡ 36 ∷ (decimal len ++ 13 ∷ 10 ∷ word) = let shape : word_front word
    ≡ 36 ∷ (decimal (length word) ++ 13 ∷ 10 ∷ word) = simp append_assoc in shape
    ∙ ap (λ n. 36 ∷ (decimal n ++ 13 ∷ 10 ∷ word)) whole in
    let begins : bulk_string word ≡ 36 ∷ (decimal len ++ 13 ∷ 10 ∷ word) ++ crlf = ap (λ f. f ++ crlf) front in
    fault_in_word count words (decimal len ++ 13 ∷ 10 ∷ word) bytes 13 sound.0
    (record { word = word; more = crlf; allowed = omega (arith, sound.2); goes_on = begins; some = lit< tt })
    (λ byte other. subst (λ f. NoWordGoesOn f byte) front (not_a_line_end word byte (omega (arith, sound.2)) other))
    some none

-- and behind the CR there
pub word_end_stops : (count : ℕ) (words : Words) (word bytes : List ℕ) → IsState (WordEnd count) words word
    → 0 < length bytes → ((rest : List ℕ) → bytes ≢ 10 ∷ rest)
    → IsFaulty (state_front (WordEnd count) words word ++ bytes) [] 3
    (length (state_front (WordEnd count) words word) + 0)
word_end_stops count words word bytes sound some none =
    let begun = decimal (length word) ++ crlf ++ word ++ 13 ∷ [] in
    let front : word_front word ++ 13 ∷ [] ≡ 36 ∷ begun = refl in
    let begins : bulk_string word ≡ 36 ∷ begun ++ 10 ∷ [] = sym (append_assoc (word_front word) (13 ∷ []) (10 ∷ [])) in
    fault_in_word count words begun bytes 10 sound.0
    (record { word = word; more = 10 ∷ []; allowed = sound.1; goes_on = begins; some = lit< tt })
    (λ byte other. not_a_line_feed word byte sound.1 other) some none

-- an error behind the front, by the state that it comes at
pub breaks : {X Y : Type 0} (next : Result X Stop) (result : Result Y Stop) (begun : Begun) (state : State)
    (bytes : List ℕ) → begun.state ≡ state → IsBegunSound begun
    → IfErr next (Stops state bytes) → IfErr result (λ e. next ≡ Err e) → IfErr result (Breaks begun bytes)
breaks next (Ok y) begun state bytes at sound stops same = tt
breaks (Ok x) (Err e) begun state bytes at sound stops same = absurd cc
breaks (Err d) (Err (Fault kind place)) begun state bytes at sound stops same =
    let is : d ≡ Fault kind place = cc in
    let words = begun.room.words in
    let stop : Stops state bytes (Fault kind place) = subst (Stops state bytes) is stops in
    subst (λ s. IsFaulty (state_front s words begun.room.word ++ bytes) [] kind
    (length (state_front s words begun.room.word) + place)) (sym at)
    (stop words begun.room.word (subst (λ s. IsState s words begun.room.word) at sound))
breaks (Err d) (Err OutOfMemory) begun state bytes at sound stops same = tt
