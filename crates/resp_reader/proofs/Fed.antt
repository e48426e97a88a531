-- What was fed in all, from piece to piece.
use Rattle.std.proofs.Common.{◌≡◌, ◌≢◌, ℕ, ◌+◌, ◌-◌, ◌<◌, ◌≤◌, ◌⊎◌, inl, inr, List, [], ◌∷◌, ◌++◌, Some, None, length}
use Rattle.std.proofs.Common.{take, arith, refl, ap, sym, ◌∙◌, subst, append_assoc, append-nil, length-append, lit<}
use Rattle.std.specs.Prelude.{Result, Ok, Err, OnOk, IfErr, MatchOption}
use Rattle.std.proofs.lemmas.List.{take_all, length-take-le}
use Rattle.std.proofs.Math.Seq.{take-append-add}
use Rattle.flake_base.specs.declared.session.End.TheVariants as ends
use Rattle.flake_model.specs.Resp.{Words, null_array, element_text, IsElement, stream, requests_of, IsElementFront}
use Rattle.flake_model.specs.Resp.{FaultKind, inline, in_count, at_word, in_word, IsClean, IsTruncated, IsFaulty}
use Rattle.flake_model.specs.Resp.{judged_bytes, Parses}
use Rattle.flake_model.proofs.Faults.{error_stays, long_stays}
use Rattle.flake_model.proofs.Fronts.{cut_in_null}
use Rattle.flake_model.proofs.Streams.{all_append, stream-append, requests_of-append}
use Rattle.resp_reader.specs.declared.error.ReadError.{ReadError}
use Rattle.resp_reader.specs.declared.error.ReadError.TheVariants.{BadCount, ExpectedBulk, BadLength, Inline, TooLong}
use Rattle.resp_reader.specs.declared.error.ReadError.TheVariants.{Memory}
use Rattle.resp_reader.specs.declared.parser.Parser.{Parser}
use Rattle.resp_reader.specs.Begun.{begun_front}
use Rattle.resp_reader.specs.Parser.{IsBetweenCalls, TakesTo, HasFault}
use Rattle.resp_reader.specs.Reader.{error_end, IsErrorTaken, error_at, Progress, IsReadTo, ReadsRequests, progress}
use Rattle.resp_reader.specs.Errors.{HasError}
use Rattle.resp_reader.proofs.Parsers.{faulty_behind}
use Rattle.resp_reader.proofs.Cuts.{cut_short}

-- how many bytes were fed
fed : (bytes : List ℕ) (given : List Words) (old : Parser) → IsBetweenCalls old
    → ReadsRequests bytes given (progress old None) → length bytes ≡ old.taken
fed bytes given old kept read =
    omega (
      arith,
      ap length read.bytes_are,
      length-append (stream read.elements) (begun_front old.begun),
      read.place_is,
      kept.taken_is,
    )

-- a piece was taken whole
pub read_on : (bytes : List ℕ) (given : List Words) (old new : Parser) (piece : List ℕ) → IsBetweenCalls old
    → IsBetweenCalls new → TakesTo old new piece [] → old.taken + length piece ≤ judged_bytes
    → ReadsRequests bytes given (progress old None) → ReadsRequests (bytes ++ piece) given (progress new None)
read_on bytes given old new piece kept now taken judged read =
    let behind : begun_front old.begun ++ piece ≡ stream taken.elements ++ begun_front new.begun = taken.bytes_are
    ∙ ap (λ b. stream taken.elements ++ b) (append-nil (begun_front new.begun)) in
    record {
      elements = read.elements ++ taken.elements;
      allowed = all_append IsElement read.elements taken.elements read.allowed taken.allowed;
      judged = omega (arith, length-append bytes piece, fed bytes given old kept read);
      bytes_are = ap (λ b. b ++ piece) read.bytes_are ∙ append_assoc (stream read.elements) (begun_front old.begun)
          piece ∙ ap (λ b. stream read.elements ++ b) behind
          ∙ sym (append_assoc (stream read.elements) (stream taken.elements) (begun_front new.begun))
          ∙ ap (λ b. b ++ begun_front new.begun) (sym (stream-append read.elements taken.elements));
      requests_are = ap (λ r. given ++ r) taken.ready_is
          ∙ sym (append_assoc given old.ready.items (requests_of taken.elements))
          ∙ ap (λ r. r ++ requests_of taken.elements) read.requests_are
          ∙ sym (requests_of-append read.elements taken.elements);
      place_is = omega (
        arith,
        taken.place_is,
        read.place_is,
        ap length (stream-append read.elements taken.elements),
        length-append (stream read.elements) (stream taken.elements),
      );
      cut_short = cut_short new.begun.state _ new.begun.room.word now.sound now.awaits;
    }

-- the judged bytes of an input that goes on
judged_on : (bytes piece : List ℕ) → length bytes ≤ judged_bytes → take judged_bytes (bytes ++ piece) ≡ bytes
    ++ take (judged_bytes - length bytes) piece
judged_on bytes piece short =
    let sum : judged_bytes ≡ length bytes + (judged_bytes - length bytes) = omega arith in
    ap (λ n. take n (bytes ++ piece)) sum ∙ take-append-add bytes piece (judged_bytes - length bytes)

-- an error of the kinds has its place behind all that was fed
pub fault_on : (bytes : List ℕ) (given : List Words) (old new : Parser) (piece : List ℕ) (kind place : ℕ)
    → IsBetweenCalls old → ReadsRequests bytes given (progress old None)
    → HasFault old new (take (judged_bytes - old.taken) piece) kind place
    → Parses (bytes ++ piece) (given ++ new.ready.items) (ends.Protocol kind (old.taken + place))
fault_on bytes given old new piece kind place kept read fault =
    let count : length bytes ≡ old.taken = fed bytes given old kept read in
    let judged = take (judged_bytes - old.taken) piece in
    let behind = faulty_behind read.elements (begun_front old.begun ++ judged) fault.requests kind
    (length (begun_front old.begun) + place) read.allowed fault.faulty in
    let all : take judged_bytes (bytes ++ piece) ≡ stream read.elements ++ (begun_front old.begun ++ judged) =
    judged_on bytes piece read.judged ∙ ap (λ n. bytes ++ take (judged_bytes - n) piece) count
    ∙ ap (λ b. b ++ judged) read.bytes_are ∙ append_assoc (stream read.elements) (begun_front old.begun) judged in
    let requests : given ++ new.ready.items ≡ requests_of read.elements ++ fault.requests =
    ap (λ r. given ++ r) fault.ready_is ∙ sym (append_assoc given old.ready.items fault.requests)
    ∙ ap (λ r. r ++ fault.requests) read.requests_are in
    let at : old.taken + place ≡ length (stream read.elements) + (length (begun_front old.begun) + place) =
    omega (arith, read.place_is, kept.taken_is) in
    subst (λ b. IsFaulty b (given ++ new.ready.items) kind (old.taken + place)) (sym all)
    (subst (λ r. IsFaulty (stream read.elements ++ (begun_front old.begun ++ judged)) r kind (old.taken + place))
    (sym requests)
    (subst (λ p. IsFaulty (stream read.elements ++ (begun_front old.begun ++ judged))
    (requests_of read.elements ++ fault.requests) kind p) (sym at) behind))

-- the error of a kind is that end
kind_of : (front : List ℕ) (kind place : ℕ) → FaultKind front kind → IsErrorTaken (error_at kind place)
    × (error_end (error_at kind place) ≡ ends.Protocol kind place)
kind_of front kind place inline = (tt, refl)
kind_of front kind place (in_count digits clear) = (tt, refl)
kind_of front kind place (at_word n words less) = (tt, refl)
kind_of front kind place (in_word n words word begun more less e some) = (tt, refl)

pub error_on : (bytes : List ℕ) (given : List Words) (old new : Parser) (piece : List ℕ) (error : ReadError)
    → IsBetweenCalls old → ReadsRequests bytes given (progress old None)
    → HasError old new (take (judged_bytes - old.taken) piece) error → ReadsRequests (bytes ++ piece) given
    (progress new (Some error))
error_on bytes given old new piece error kept read found =
    let parsed = fault_on bytes given old new piece found.kind found.place kept read found.fault in
    let kind = kind_of found.fault.faulty.front found.kind (old.taken + found.place) found.fault.faulty.kind_is in (
      subst IsErrorTaken (sym found.error_is) kind.0,
      subst (Parses (bytes ++ piece) (given ++ new.ready.items))
          (sym (ap error_end found.error_is ∙ kind.1)) parsed,
    )

-- what was read to an end: whole elements, or the front of one behind them
pub read_ends : (bytes : List ℕ) (requests : List Words) (place : ℕ) (front : List ℕ)
    → IsReadTo bytes requests place front
    → ((front ≡ []) × IsClean bytes requests) ⊎ ((0 < length front) × IsTruncated bytes requests place)
read_ends bytes requests place [] read = inl (
  refl,
  record {
    elements = read.elements;
    allowed = read.allowed;
    bytes_are = read.bytes_are ∙ append-nil (stream read.elements);
    requests_are = read.requests_are;
  },
)
read_ends bytes requests place (byte ∷ front) read = inr (
  omega arith,
  record {
    elements = read.elements;
    front = byte ∷ front;
    allowed = read.allowed;
    begun = omega arith;
    cut_short = read.cut_short;
    bytes_are = read.bytes_are;
    requests_are = read.requests_are;
    place_is = read.place_is;
  },
)

-- more came than is judged
pub too_long_on : (bytes : List ℕ) (given : List Words) (old new : Parser) (piece : List ℕ) → IsBetweenCalls old
    → IsBetweenCalls new → ReadsRequests bytes given (progress old None)
    → judged_bytes - old.taken < length piece → TakesTo old new (take (judged_bytes - old.taken) piece) []
    → ReadsRequests (bytes ++ piece) given (progress new (Some (TooLong judged_bytes)))
too_long_on bytes given old new piece kept now read longer taken =
    let count : length bytes ≡ old.taken = fed bytes given old kept read in
    let judged = take (judged_bytes - old.taken) piece in
    let size : length judged ≡ judged_bytes - old.taken = length-take-le (judged_bytes - old.taken) piece
    (omega arith) in
    let all : take judged_bytes (bytes ++ piece) ≡ bytes ++ judged = judged_on bytes piece read.judged
    ∙ ap (λ n. bytes ++ take (judged_bytes - n) piece) count in
    let read' : IsReadTo (bytes ++ judged) (given ++ new.ready.items) new.place (begun_front new.begun) =
    read_on bytes given old new judged kept now taken (omega (arith, kept.judged)) read in
    let long : judged_bytes < length (bytes ++ piece) = omega (arith, length-append bytes piece, kept.judged) in (
      refl,
      (
        long,
        elim (read_ends (bytes ++ judged) (given ++ new.ready.items) new.place (begun_front new.begun) read') [
          | inl whole ↦ inl (subst (λ b. IsClean b (given ++ new.ready.items)) (sym all) whole.1)
          | inr cut ↦ inr (new.place, subst (λ b. IsTruncated b (given ++ new.ready.items) new.place) (sym all) cut.1)
        ],
      ),
    )

-- a piece that is judged whole
pub fed_on : {X : Type 0} (result : Result X ReadError) (old new : Parser) (piece : List ℕ) → IsBetweenCalls old
    → old.taken + length piece ≤ judged_bytes → OnOk result (IsBetweenCalls new)
    → OnOk result (TakesTo old new piece [])
    → OnOk result ((bytes : List ℕ) (given : List Words) → ReadsRequests bytes given (progress old None)
    → ReadsRequests (bytes ++ piece) given (progress new None))
fed_on (Ok x) old new piece kept judged now taken = λ bytes given read. read_on bytes given old new piece kept now taken
    judged read
fed_on (Err e) old new piece kept judged now taken = tt

pub failed_on : {X : Type 0} (result : Result X ReadError) (old new : Parser) (piece : List ℕ) → IsBetweenCalls old
    → old.taken + length piece ≤ judged_bytes → IfErr result (λ e. e ≢ Memory → HasError old new piece e)
    → IfErr result (λ e. e ≢ Memory → (bytes : List ℕ) (given : List Words)
    → ReadsRequests bytes given (progress old None) → ReadsRequests (bytes ++ piece) given (progress new (Some e)))
failed_on (Ok x) old new piece kept judged found = tt
failed_on (Err e) old new piece kept judged found = λ other bytes given read.
    let all : take (judged_bytes - old.taken) piece ≡ piece = take_all (judged_bytes - old.taken) piece (omega arith) in
    error_on bytes given old new piece e kept read (subst (λ p. HasError old new p e) (sym all) (found other))

-- an input that has an error has it whatever is behind
pub still_closed : (bytes piece : List ℕ) (requests : List Words) (error : ReadError) → IsErrorTaken error
    → Parses bytes requests (error_end error) → Parses (bytes ++ piece) requests (error_end error)
still_closed bytes piece requests (BadCount place) taken parsed = error_stays bytes piece requests 1 place parsed
still_closed bytes piece requests (ExpectedBulk place) taken parsed = error_stays bytes piece requests 2 place parsed
still_closed bytes piece requests (BadLength place) taken parsed = error_stays bytes piece requests 3 place parsed
still_closed bytes piece requests (Inline place) taken parsed = error_stays bytes piece requests 4 place parsed
still_closed bytes piece requests (TooLong taken) is parsed = long_stays bytes piece requests parsed
still_closed bytes piece requests Memory taken parsed = absurd taken

-- a closed reader
pub closed_on : (bytes : List ℕ) (given : List Words) (reader : Progress) (piece : List ℕ) (error : ReadError)
    → reader.closed ≡ Some error → ReadsRequests bytes given reader → ReadsRequests (bytes ++ piece) given reader
closed_on bytes given reader piece error closed read =
    let requests = given ++ reader.requests in
    let known : IsErrorTaken error × Parses bytes requests (error_end error) =
    subst (λ c. MatchOption c (IsReadTo bytes requests reader.place reader.front)
    (λ e. IsErrorTaken e × Parses bytes requests (error_end e))) closed read in
    subst (λ c. MatchOption c (IsReadTo (bytes ++ piece) requests reader.place reader.front)
    (λ e. IsErrorTaken e × Parses (bytes ++ piece) requests (error_end e))) (sym closed)
    (known.0, still_closed bytes piece requests error known.0 known.1)

-- a request was given
pub given_on : (bytes : List ℕ) (given : List Words) (old new : Progress) (some : List Words) → old.requests ≡ some
    ++ new.requests → new.front ≡ old.front → new.place ≡ old.place → new.closed ≡ old.closed
    → ReadsRequests bytes given old → ReadsRequests bytes (given ++ some) new
given_on bytes given old new some requests front place closed read =
    let all : given ++ old.requests ≡ (given ++ some) ++ new.requests = ap (λ r. given ++ r) requests
    ∙ sym (append_assoc given some new.requests) in
    subst (λ c. MatchOption c (IsReadTo bytes ((given ++ some) ++ new.requests) new.place new.front)
    (λ e. IsErrorTaken e × Parses bytes ((given ++ some) ++ new.requests) (error_end e))) (sym closed)
    (subst (λ f. MatchOption old.closed (IsReadTo bytes ((given ++ some) ++ new.requests) new.place f)
    (λ e. IsErrorTaken e × Parses bytes ((given ++ some) ++ new.requests) (error_end e))) (sym front)
    (subst (λ p. MatchOption old.closed (IsReadTo bytes ((given ++ some) ++ new.requests) p old.front)
    (λ e. IsErrorTaken e × Parses bytes ((given ++ some) ++ new.requests) (error_end e))) (sym place)
    (subst (λ r. MatchOption old.closed (IsReadTo bytes r old.place old.front)
    (λ e. IsErrorTaken e × Parses bytes r (error_end e))) all read)))

-- nothing was fed
pub nothing_fed : (reader : Progress) → reader.requests ≡ [] → reader.front ≡ [] → reader.place ≡ 0 → reader.closed
    ≡ None → ReadsRequests [] [] reader
nothing_fed reader requests front place closed =
    let start : IsReadTo [] reader.requests reader.place reader.front = record {
      elements = [];
      allowed = tt;
      judged = omega arith;
      bytes_are = sym front;
      requests_are = requests;
      place_is = place;
      cut_short = subst IsElementFront (sym front) (cut_in_null [] (element_text null_array) refl (lit< tt));
    } in
    subst (λ c. MatchOption c (IsReadTo [] reader.requests reader.place reader.front)
    (λ e. IsErrorTaken e × Parses [] reader.requests (error_end e))) (sym closed) start

-- what was fed is the whole input
pub input_ends : (bytes : List ℕ) (given : List Words) (reader : Progress) → reader.closed ≡ None
    → ReadsRequests bytes given reader
    → ((reader.front ≡ []) × Parses bytes (given ++ reader.requests) ends.Clean)
    ⊎ ((0 < length reader.front) × Parses bytes (given ++ reader.requests) (ends.Truncated reader.place))
input_ends bytes given reader closed read =
    let requests = given ++ reader.requests in
    let known : IsReadTo bytes requests reader.place reader.front =
    subst (λ c. MatchOption c (IsReadTo bytes requests reader.place reader.front)
    (λ e. IsErrorTaken e × Parses bytes requests (error_end e))) closed read in
    elim (read_ends bytes requests reader.place reader.front known) [
      | inl whole ↦ inl (whole.0, (known.judged, whole.1))
      | inr cut ↦ inr (cut.0, (known.judged, cut.1))
    ]

pub clean_end : (bytes : List ℕ) (given : List Words) (reader : Progress) → reader.closed ≡ None → length reader.front
    ≡ 0 → ReadsRequests bytes given reader → Parses bytes (given ++ reader.requests) ends.Clean
clean_end bytes given reader closed none read =
    elim (input_ends bytes given reader closed read)
    [ inl whole ↦ whole.1 | inr cut ↦ absurd (let some : 0 < length reader.front = cut.0 in omega arith) ]

pub truncated_end : (bytes : List ℕ) (given : List Words) (reader : Progress) (place : ℕ) → reader.closed ≡ None
    → 0 < length reader.front → reader.place ≡ place → ReadsRequests bytes given reader
    → Parses bytes (given ++ reader.requests) (ends.Truncated place)
truncated_end bytes given reader place closed some is read =
    elim (input_ends bytes given reader closed read) [
      | inl whole ↦ absurd (omega (arith, ap length whole.0))
      | inr cut ↦ subst (λ p. Parses bytes (given ++ reader.requests) (ends.Truncated p)) is cut.1
    ]
