-- One line more, of one of several sessions.
use Rattle.std.proofs.Common.{◌≡◌, ℕ, zero, suc, ◌+◌, ◌<◌, Bool, true, false, List, [], ◌∷◌, ◌++◌, length, take, get_or}
use Rattle.std.proofs.Common.{slice_get, Some, arith, rules, refl, ap, sym, ◌∙◌, subst, append-nil}
use Rattle.std.specs.Prelude.{map, ◌==◌, if◌then◌else◌, IsSome, All}
use Rattle.std.specs.List.{flat_map, filter}
use Rattle.std.proofs.Math.ListN.{set}
use Rattle.std.proofs.lemmas.List.{map-append, map-set, take_more, length-set, length-map}
use Rattle.std.proofs.lemmas.Option.{slice_get_read}
use Rattle.std.proofs.lemmas.List.Elements.{filter-append, All-get_or}
use Rattle.std.proofs.lemmas.Grind.{flat_map-append}
use Rattle.flake_base.specs.Told.{HostTold}
use Rattle.pin_core.specs.declared.sizes.Sizes.{Sizes}
use Rattle.schedule_text.specs.declared.line.Line.{Line}
use Rattle.schedule_text.specs.Text.{line_session}
use Rattle.transcript_model.specs.Lines.{LineEvent, EventLine, line_of, transcript_line}
use Rattle.any_wire.specs.Texts.{Sending}
use Rattle.transcript_model.specs.Sessions.{events_of}
use Rattle.transcript_model.specs.Told.{said}
use Rattle.drive_script.specs.Driving.{Driving, IsAble, IsUnderWay, AreUnderWay, AreFresh, WereDriven}
use Rattle.drive_script.specs.Says.{PrintsText}
use Rattle.drive_script.proofs.Few.{few_posted}
use Rattle.drive_script.proofs.Sayings.{says_then, says_nothing}

set_here : {A : Type 0} (xs : List A) (i : ℕ) (old new x : A) → slice_get xs i ≡ Some old → slice_get (set xs i new) i
    ≡ Some x → new ≡ x
set_here [] i old new x at is = absurd (cc)
set_here (y ∷ xs) zero old new x at is = cc
set_here (y ∷ xs) (suc i) old new x at is = set_here xs i old new x at is

set_there : {A : Type 0} (xs : List A) (i k : ℕ) (new : A) → (i ≡ k → ⊥) → slice_get (set xs i new) k ≡ slice_get xs k
set_there [] i k new other = refl
set_there (y ∷ xs) zero zero new other = absurd (other refl)
set_there (y ∷ xs) zero (suc k) new other = refl
set_there (y ∷ xs) (suc i) zero new other = refl
set_there (y ∷ xs) (suc i) (suc k) new other = set_there xs i k new (λ is. other (ap suc is))

events-append : (session : ℕ) (lines : List EventLine) (last : EventLine) → events_of session (lines ++ last ∷ [])
    ≡ events_of session lines ++ map (λ (line : EventLine). line.event)
    (if last.session == session then last ∷ [] else [])
events-append session lines last =
    ap (map (λ (line : EventLine). line.event))
    (filter-append (λ (line : EventLine). line.session == session) lines (last ∷ []))
    ∙ map-append (λ (line : EventLine). line.event) (filter (λ (line : EventLine). line.session == session) lines)
    (if last.session == session then last ∷ [] else [])

text_more : (lines : List EventLine) (last : EventLine) → flat_map transcript_line (lines ++ last ∷ [])
    ≡ flat_map transcript_line lines ++ transcript_line last
text_more lines last = flat_map-append transcript_line lines (last ∷ [])
    ∙ ap (λ text. flat_map transcript_line lines ++ text) (append-nil (transcript_line last))

pub get_mapped : {A B : Type 0} (f : A → B) (xs : List A) (k : ℕ) (x : A) → slice_get xs k ≡ Some x
    → slice_get (map f xs) k ≡ Some (f x)
get_mapped f [] k x is = absurd (cc)
get_mapped f (y ∷ xs) zero x is = let same : y ≡ x = cc in ap (λ z. Some (f z)) same
get_mapped f (y ∷ xs) (suc k) x is = get_mapped f xs k x is

pub some_at : {A : Type 0} (xs : List A) (place : ℕ) → place < length xs → (x : A) × (slice_get xs place ≡ Some x)
some_at [] place below = absurd (omega arith)
some_at (x ∷ xs) zero below = (x, refl)
some_at (x ∷ xs) (suc place) below = some_at xs place (omega arith)

module _ {W : Type 0} (sends : Sending W) (z : Sizes) (shards : ℕ) where
  module _ (number : ℕ) (event : LineEvent) (one one' : Driving W)
      (right : (first : Driving W) (events : List LineEvent) → IsUnderWay sends z shards first events one
      → IsUnderWay sends z shards first (events ++ event ∷ []) one') where
    -- the sessions behind one line more
    sessions_more : (firsts nows : List (Driving W)) (lines : List EventLine) → slice_get nows number ≡ Some one
        → AreUnderWay sends z shards firsts lines nows
        → AreUnderWay sends z shards firsts (lines ++ said number event ∷ []) (set nows number one')
    sessions_more firsts nows lines at are session first now began is = by_number (number == session) refl
      where
        by_number : (same : Bool) → (number == session) ≡ same
            → IsUnderWay sends z shards first (events_of session (lines ++ said number event ∷ [])) now
        by_number true same =
            let here : number ≡ session = grind arith in
            let there : slice_get nows session ≡ Some one = subst (λ n. slice_get nows n ≡ Some one) here at in
            let now_is : one' ≡ now = set_here nows session one one' now there
            (subst (λ n. slice_get (set nows n one') session ≡ Some now) here is) in
            let events : events_of session (lines ++ said number event ∷ []) ≡ events_of session lines ++ event ∷ [] =
            events-append session lines (said number event)
            ∙ ap (λ b. events_of session lines ++ map (λ (line : EventLine). line.event)
            (if b then said number event ∷ [] else [])) same in
            subst (λ list. IsUnderWay sends z shards first list now) (sym events)
            (subst (λ (d : Driving W). IsUnderWay sends z shards first (events_of session lines ++ event ∷ []) d) now_is
            (right first (events_of session lines) (are session first one began there)))
        by_number false same =
            let other : (number ≡ session) → ⊥ = λ here. let clash : (number == session) ≡ true = grind arith in
            let never : true ≡ false = sym clash ∙ same in absurd (cc) in
            let there : slice_get nows session ≡ Some now = sym (set_there nows number session one' other) ∙ is in
            let events : events_of session (lines ++ said number event ∷ []) ≡ events_of session lines =
            events-append session lines (said number event)
            ∙ ap (λ b. events_of session lines ++ map (λ (line : EventLine). line.event)
            (if b then said number event ∷ [] else [])) same ∙ append-nil (events_of session lines) in
            subst (λ list. IsUnderWay sends z shards first list now) (sym events) (are session first now began there)

    driven_more : (firsts nows : List (Driving W)) (schedule : List Line) (line : Line) (failed failed' : Bool)
        (old mid new : HostTold) → line_of (said number event) ≡ line → slice_get nows number ≡ Some one
        → PrintsText failed failed' (transcript_line (said number event)) mid new
        → WereDriven sends z shards firsts schedule nows failed old mid
        → WereDriven sends z shards firsts (schedule ++ line ∷ []) (set nows number one') failed' old new
    driven_more firsts nows schedule line failed failed' old mid new answers at says driven = record {
      lines = driven.lines ++ said number event ∷ [];
      answers = map-append line_of driven.lines (said number event ∷ []) ∙ (λ i. driven.answers i ++ answers i ∷ []);
      said = subst (λ text. PrintsText false failed' text old new) (sym (text_more driven.lines (said number event)))
          (says_then false failed failed' (flat_map transcript_line driven.lines) (transcript_line (said number event))
          old mid new driven.said says);
      as_many = length-set nows number one' ∙ driven.as_many;
      are = sessions_more firsts nows driven.lines at driven.are;
    }

  -- nothing was asked, and nothing said
  pub driven_at_first : (firsts : List (Driving W)) (told : HostTold) → AreFresh sends z shards firsts
      → WereDriven sends z shards firsts [] firsts false told told
  driven_at_first firsts told fresh = record {
    lines = [];
    answers = refl;
    said = says_nothing false told;
    as_many = refl;
    are = λ session first now began is. let same : first ≡ now = both first now (sym began ∙ is) in
        subst (λ (d : Driving W). IsUnderWay sends z shards first [] d) same (fresh session first began);
  }
    where
      both : (first now : Driving W) → Some first ≡ Some now → first ≡ now
      both first now is = cc

  -- a line can be done of each of them
  pub able_of : (first : Driving W) (events : List LineEvent) (now : Driving W)
      → IsUnderWay sends z shards first events now → IsAble z now
  able_of first events now is = record {
    ring = is.ring;
    small = is.small;
    few = let few = few_posted first.pump.origin first.pump.faults is.given (length now.session.posted) now.kept now.end
        now.pump is.asked in omega (arith, few);
    wire = subst IsSome (sym is.wire_is) (search rules);
  }

  there : {A : Type 0} (view : A → Driving W) (nows : List A) (place : ℕ) (one : A) → place < length nows
      → one ≡ get_or nows place one → slice_get (map view nows) place ≡ Some (view one)
  there view nows place one below is = get_mapped view nows place one
      (slice_get_read nows (length nows) place one refl below is)

  pub able_at : {A : Type 0} (view : A → Driving W) (firsts : List (Driving W)) (schedule : List Line) (nows : List A)
      (place : ℕ) (one : A) (failed : Bool) (old new : HostTold)
      → place < length nows → one ≡ get_or nows place one → WereDriven sends z shards firsts schedule
      (map view nows) failed old new → IsAble z (view one)
  able_at view firsts schedule nows place one failed old new below is driven =
      let first = some_at firsts place (omega (arith, driven.as_many, length-map nows view)) in
      able_of first.0 (events_of place driven.lines) (view one)
      (driven.are place first.0 (view one) first.1 (there view nows place one below is))

  -- the session of the next line is one of them
  pub is_there : {A : Type 0} (view : A → Driving W) (olds nows : List A) (schedule some : List Line) (index : ℕ)
      (d : Line) (number place : ℕ) (failed : Bool) (old new : HostTold)
      → All (λ line. line_session line < length olds) schedule
      → index < length schedule → number ≡ line_session (get_or schedule index d) → place ≡ number
      → WereDriven sends z shards (map view olds) some (map view nows) failed old new → place < length nows
  is_there view olds nows schedule some index d number place failed old new all within number_is same driven =
      let below : line_session (get_or schedule index d) < length olds =
      All-get_or (λ line. line_session line < length olds) schedule index d within all in
      omega (arith, below, number_is, same, driven.as_many, length-map olds view, length-map nows view)

  -- the step of the loop, over plain lists
  pub step_driven : {A : Type 0} (view : A → Driving W) (firsts : List (Driving W)) (schedule : List Line) (index : ℕ)
      (d : Line) (nows : List A) (number place : ℕ) (one one' : A) (event : LineEvent) (failed failed' : Bool)
      (old mid new : HostTold)
      → index < length schedule → number ≡ line_session (get_or schedule index d) → place ≡ number → place < length nows
      → one ≡ get_or nows place one
      → line_of (said (line_session (get_or schedule index d)) event) ≡ get_or schedule index d
      → ((first : Driving W) (events : List LineEvent) → IsUnderWay sends z shards first events (view one)
      → IsUnderWay sends z shards first (events ++ event ∷ []) (view one'))
      → PrintsText failed failed' (transcript_line (said number event)) mid new
      → WereDriven sends z shards firsts (take index schedule) (map view nows) failed old mid
      → WereDriven sends z shards firsts (take (index + 1) schedule) (map view (set nows place one')) failed' old new
  step_driven view firsts schedule index d nows number place one one' event failed failed' old mid new within number_is
      same below is answers right says driven =
      let line : Line = get_or schedule index d in
      let at : slice_get (map view nows) number ≡ Some (view one) =
      subst (λ n. slice_get (map view nows) n ≡ Some (view one)) same (there view nows place one below is) in
      let answers_it : line_of (said number event) ≡ line = subst (λ n. line_of (said n event) ≡ line)
      (sym number_is) answers in
      let next = driven_more number event (view one) (view one') right firsts (map view nows) (take index schedule) line
      failed failed' old mid new answers_it at says driven in
      let lines : take index schedule ++ line ∷ [] ≡ take (index + 1) schedule =
      sym (take_more schedule index d within) in
      let placed : set (map view nows) number (view one') ≡ map view (set nows place one') =
      ap (λ n. set (map view nows) n (view one')) (sym same) ∙ sym (map-set view nows place one') in
      subst (λ list. WereDriven sends z shards firsts list (map view (set nows place one')) failed' old new) lines
      (subst (λ all. WereDriven sends z shards firsts (take index schedule ++ line ∷ []) all failed' old new) placed
      next)
