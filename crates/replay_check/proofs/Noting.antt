-- Answers that are noted, one after another.
use Rattle.std.proofs.Common.{◌≡◌, ℕ, ◌+◌, ◌<◌, ◌≤◌, ◌⊎◌, ⊎_elim, inl, inr, zero, suc, Bool, true, false, cond, ◌==◌}
use Rattle.std.proofs.Common.{◌&&◌, List, [], ◌∷◌, ◌++◌, Option, Some, None, is_some, unwrap_or, length, map, set, take}
use Rattle.std.proofs.Common.{replicate, slice_get, get_or, arith, refl, ap, sym, ◌∙◌, subst}
use Rattle.std.proofs.lemmas.Bool.{eq-eqb, eqb-true, cases_Bool}
use Rattle.std.proofs.lemmas.List.{length-map, length-set, get_or_read}
use Rattle.std.proofs.lemmas.Option.{slice_get_within}
use Rattle.std.specs.Global.{Vec}
use Rattle.std.specs.List.{AllByRecursion, flat_map}
use Rattle.flake_base.specs.declared.journal.Entry.{Entry}
use Rattle.flake_model.specs.Store.{Store, Operation, Answer, answer, after}
use Rattle.flake_model.specs.Command.{Command}
use Rattle.flake_model.specs.Journal.{Step, is_entry, answer_at, answers_from, store_after, session_steps, operation_at}
use Rattle.flake_model.specs.Journal.{step_of, commands_of}
use Rattle.flake_model.specs.Order.{IsBefore}
use Rattle.flake_model.proofs.Entries.{is_itself}
use Rattle.byte_store.specs.Store.{answer_meant}
use Rattle.byte_store.specs.declared.store.ByteAnswer.{ByteAnswer}
use Rattle.replay_check.specs.Inputs.{parts_of}
use Rattle.replay_check.specs.Noted.{slot_meant, slots_meant, first_answer, noted, answers_by, AreNoted, HasPart}
use Rattle.replay_check.proofs.Lists.{read_set}
use Rattle.replay_check.proofs.Rising.{Later, AreRising, rising, not_before, not_behind, all_own, has_part, at_place}

-- a slot that is written, or kept
set_there : (slots : List (Option ByteAnswer)) (k : ℕ) (found : ByteAnswer) → k < length slots
    → is_some (get_or slots k None) ≡ false → slots_meant (set slots k (Some found)) ≡ noted k (answer_meant found)
    (slots_meant slots)
set_there [] k found within is = absurd (omega arith)
set_there (None ∷ slots) zero found within is = refl
set_there (Some first ∷ slots) zero found within is = absurd (cc (is))
set_there (slot ∷ slots) (suc k) found within is = ap (λ rest. slot_meant slot ∷ rest)
    (set_there slots k found (omega arith) is)

kept_there : (slots : List (Option ByteAnswer)) (k : ℕ) (found : ByteAnswer) → k < length slots
    → is_some (get_or slots k None) ≡ true → slots_meant slots ≡ noted k (answer_meant found) (slots_meant slots)
kept_there [] k found within is = absurd (omega arith)
kept_there (None ∷ slots) zero found within is = absurd (cc (is))
kept_there (Some first ∷ slots) zero found within is = refl
kept_there (slot ∷ slots) (suc k) found within is = ap (λ rest. slot_meant slot ∷ rest)
    (kept_there slots k found (omega arith) is)

pub noted_set : (slots : List (Option ByteAnswer)) (k : ℕ) (found : ByteAnswer) (was : Option ByteAnswer)
    → k < length slots → was ≡ get_or slots k was → is_some was ≡ false
    → slots_meant (set slots k (Some found)) ≡ noted k (answer_meant found) (slots_meant slots)
noted_set slots k found was within at is = set_there slots k found within
    (ap (λ (o : Option ByteAnswer). is_some o) (sym (get_or_read slots k was within at None)) ∙ is)

pub noted_kept : (slots : List (Option ByteAnswer)) (k : ℕ) (found : ByteAnswer) (was : Option ByteAnswer)
    → k < length slots → was ≡ get_or slots k was → is_some was ≡ true
    → slots_meant slots ≡ noted k (answer_meant found) (slots_meant slots)
noted_kept slots k found was within at is = kept_there slots k found within
    (ap (λ (o : Option ByteAnswer). is_some o) (sym (get_or_read slots k was within at None)) ∙ is)

-- the answer at an entry, with one answer more
at_more : (entry other : Entry) (told : Answer) (answers : List (Entry × Answer)) → is_entry entry other ≡ false
    → answer_at entry (answers ++ (other, told) ∷ []) ≡ answer_at entry answers
at_more entry other told [] is = rw is refl
at_more entry other told (first ∷ answers) is = ap (λ rest. cond (is_entry entry first.0) (Some first.1) rest)
    (at_more entry other told answers is)

at_last : (entry : Entry) (told : Answer) (answers : List (Entry × Answer))
    → answer_at entry (answers ++ (entry, told) ∷ []) ≡ first_answer (answer_at entry answers) told
at_last entry told [] = let is = is_itself entry in rw is refl
at_last entry told (first ∷ answers) = ⊎_elim
    (λ here. rw here refl)
    (λ there. rw there (at_last entry told answers))
    (cases_Bool (is_entry entry first.0))

-- answers at other entries
others : (steps : List Step) (entry : Entry) (told : Answer) (answers : List (Entry × Answer))
    → AllByRecursion (λ (step : Step). is_entry step.0 entry ≡ false) steps
    → map (λ (step : Step). answer_at step.0 (answers ++ (entry, told) ∷ [])) steps
    ≡ map (λ (step : Step). answer_at step.0 answers) steps
others [] entry told answers all = refl
others (step ∷ steps) entry told answers all =
    let first = at_more step.0 entry told answers all.0 in
    let rest = others steps entry told answers all.1 in
    λ i. first i ∷ rest i

all_later : (first : Step) (steps : List Step) → AllByRecursion (Later first) steps
    → AllByRecursion (λ (step : Step). is_entry step.0 first.0 ≡ false) steps
all_later first [] all = tt
all_later first (step ∷ steps) all = (not_behind first.0 step.0 all.0, all_later first steps all.1)

-- the answers to a session's parts, with that to one of them
one_noted : (steps : List Step) (k : ℕ) (entry : Entry) (operation : Operation) (told : Answer)
    (answers : List (Entry × Answer)) → AreRising steps → slice_get steps k ≡ Some (entry, operation)
    → map (λ (step : Step). answer_at step.0 (answers ++ (entry, told) ∷ [])) steps
    ≡ noted k told (map (λ (step : Step). answer_at step.0 answers) steps)
one_noted [] k entry operation told answers rises is = absurd (cc (is))
one_noted (step ∷ steps) zero entry operation told answers rises is =
    let same : step.0 ≡ entry = ap (λ (s : Step). s.0) (let here : step ≡ (entry, operation) = cc in here) in
    let first : answer_at step.0 (answers ++ (entry, told) ∷ []) ≡ first_answer (answer_at step.0 answers) told =
    subst (λ e. answer_at step.0 (answers ++ (e, told) ∷ []) ≡ first_answer (answer_at step.0 answers) told) same
    (at_last step.0 told answers) in
    let rest = others steps entry told answers
    (subst (λ e. AllByRecursion (λ (s : Step). is_entry s.0 e ≡ false) steps) same (all_later step steps rises.0))
    in
    λ i. first i ∷ rest i
one_noted (step ∷ steps) (suc k) entry operation told answers rises is =
    let before = at_place (Later step) steps k (entry, operation) rises.0 is in
    let first = at_more step.0 entry told answers (not_before step.0 entry before) in
    let rest = one_noted steps k entry operation told answers rises.1 is in
    λ i. first i ∷ rest i

other_session : (session : ℕ) (steps : List Step) (entry : Entry)
    → AllByRecursion (λ (step : Step). step.0.session ≡ session) steps → (session ≡ entry.session → ⊥)
    → AllByRecursion (λ (step : Step). is_entry step.0 entry ≡ false) steps
other_session session [] entry all other = tt
other_session session (step ∷ steps) entry all other =
    let test : (step.0.session == entry.session) ≡ false =
    ⊎_elim (λ yes. absurd (other (sym all.0 ∙ eqb-true step.0.session entry.session yes))) (λ no. no)
    (cases_Bool (step.0.session == entry.session)) in
    let here : is_entry step.0 entry ≡ false = rw test refl in
    (here, other_session session steps entry all.1 other)

-- all answers with one more
pub one_more : (sessions : List (List Command)) (answers : List (Entry × Answer))
    (slots : List (Vec (Option ByteAnswer))) (old new : Vec (Option ByteAnswer)) (entry : Entry) (k : ℕ)
    (operation : Operation) (told : Answer)
    → AreNoted sessions answers slots → slice_get slots entry.session ≡ Some old
    → slice_get (parts_of sessions entry.session) k ≡ Some (entry, operation)
    → slots_meant new.items ≡ noted k told (slots_meant old.items) → AreNoted sessions (answers ++ (entry, told) ∷ [])
    (set slots entry.session new)
one_more sessions answers slots old new entry k operation told were had step_is written = record {
  count = length-set slots entry.session new ∙ were.count;
  each = λ session commands own there is. ⊎_elim
      (λ here.
      let commands_there : slice_get sessions entry.session ≡ Some commands = ap (slice_get sessions) (sym here.0)
      ∙ there in
      let step : slice_get (session_steps entry.session 0 commands) k ≡ Some (entry, operation) =
      subst (λ (found : Option (List Command)). slice_get (session_steps entry.session 0 (unwrap_or found [])) k
      ≡ Some (entry, operation)) commands_there step_is in
      ap (λ (v : Vec (Option ByteAnswer)). slots_meant v.items) here.1 ∙ written
      ∙ ap (noted k told) (were.each entry.session commands old commands_there had)
      ∙ sym (one_noted (session_steps entry.session 0 commands) k entry operation told answers
      (rising entry.session 0 commands) step)
      ∙ ap (λ n. answers_by (answers ++ (entry, told) ∷ []) n commands) (sym here.0))
      (λ apart.
      were.each session commands own there apart.1
      ∙ sym (others (session_steps session 0 commands) entry told answers
      (other_session session (session_steps session 0 commands) entry (all_own session 0 commands) apart.0)))
      (read_set slots entry.session session new own is);
}

-- the answers of a history with one step more
pub answers_more : (store : Store) (steps : List Step) (step : Step) → answers_from store (steps ++ step ∷ [])
    ≡ answers_from store steps ++ (step.0, answer (store_after store steps) step.1) ∷ []
answers_more store [] step = refl
answers_more store (first ∷ steps) step = ap (λ rest. (first.0, answer store first.1) ∷ rest)
    (answers_more (after store first.1) steps step)

pub store_more : (store : Store) (steps : List Step) (step : Step) → store_after store (steps ++ step ∷ [])
    ≡ after (store_after store steps) step.1
store_more store [] step = refl
store_more store (first ∷ steps) step = store_more (after store first.1) steps step

-- a session has a slot for each of its parts
pub has_slot : (sessions : List (List Command)) (answers : List (Entry × Answer))
    (slots : List (Vec (Option ByteAnswer))) (session k : ℕ) (commands : List Command) (own : Vec (Option ByteAnswer))
    (step : Step) → AreNoted sessions answers slots
    → slice_get sessions session ≡ Some commands → slice_get slots session ≡ Some own
    → slice_get (session_steps session 0 commands) k ≡ Some step → k < length own.items
has_slot sessions answers slots session k commands own step were there has is =
    omega (
      arith,
      slice_get_within (session_steps session 0 commands) k step is,
      ap length (were.each session commands own there has),
      length-map own.items slot_meant,
      length-map (session_steps session 0 commands) (λ (s : Step). answer_at s.0 answers),
    )
