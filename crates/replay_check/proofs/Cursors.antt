-- Where each session stands, with one entry more, and at a history's end.
use Rattle.std.proofs.Common.{◌≡◌, ◌≢◌, ℕ, ◌+◌, ◌<◌, ◌≤◌, ◌⊎◌, ⊎_elim, inl, inr, nat_lt, zero, suc, Bool, true, false}
use Rattle.std.proofs.Common.{cond, not, ◌==◌, ◌||◌, ◌&&◌, List, [], ◌∷◌, ◌++◌, Option, Some, None, unwrap_or, length}
use Rattle.std.proofs.Common.{map, drop, set, slice_get, arith, refl, ap, sym, ◌∙◌, subst, append-nil}
use Rattle.std.proofs.lemmas.Bool.{eq-eqb, eqb-true, ltb-true, ltb-false, cases_Bool}
use Rattle.std.proofs.Math.Nat.{eq-or-lt_of_le}
use Rattle.std.proofs.lemmas.List.{length-map, length-set}
use Rattle.std.proofs.lemmas.List.Elements.{filter-append}
use Rattle.std.proofs.lemmas.Option.{slice_get-map}
use Rattle.std.specs.Option.{option_map}
use Rattle.std.specs.List.{AllByRecursion, list_all}
use Rattle.flake_base.specs.declared.journal.Entry.{Entry}
use Rattle.flake_model.specs.Store.{key_of}
use Rattle.flake_model.specs.Command.{Command}
use Rattle.flake_model.specs.Journal.{Step, shard_of, of_session, in_shard, commands_of, session_steps}
use Rattle.replay_check.specs.Writes.{writes}
use Rattle.replay_check.specs.Inputs.{parts_of}
use Rattle.replay_check.specs.InOrder.{behind, steps_behind, AreWrites, IsNext, left_behind}
use Rattle.replay_check.specs.Places.{step_place, is_due, all_due_from, IsFound, told, ArePlaced, AreAt}
use Rattle.replay_check.specs.Taken.{IsEntryTaken}
use Rattle.replay_check.specs.declared.place.Place.{Place}
use Rattle.replay_check.specs.declared.session.Session.{Session}
use Rattle.replay_check.proofs.Orders.{is_write, no_write, none_next, left_by-append}
use Rattle.replay_check.proofs.Lists.{read_set}
use Rattle.replay_check.proofs.Passed.{from_place, in_shard_here, in_shard_there}

-- the commands of a session that is there
pub told_at : (sessions : List Session) (number : ℕ) (session : Session) → slice_get sessions number ≡ Some session
    → slice_get (told sessions) number ≡ Some session.commands.items
told_at sessions number session is = slice_get-map (λ (s : Session). s.commands.items) sessions number
    ∙ ap (option_map (λ (s : Session). s.commands.items)) is

pub commands_at : (sessions : List Session) (number : ℕ) (session : Session) → slice_get sessions number ≡ Some session
    → commands_of (told sessions) number ≡ session.commands.items
commands_at sessions number session is = ap (λ (found : Option (List Command)). unwrap_or found [])
    (told_at sessions number session is)

-- its places are those of its parts
pub placed_at : (shards : ℕ) (sessions : List Session) (number : ℕ) (session : Session) → slice_get sessions number
    ≡ Some session → ArePlaced shards sessions
    → session.places.items ≡ map (step_place shards) (parts_of (told sessions) number)
placed_at shards sessions number session is placed =
    placed number session is ∙ ap (λ commands. map (step_place shards) (session_steps number 0 commands))
    (sym (commands_at sessions number session is))

-- what isn't there has no parts
none_there : {A : Type 0} (xs : List A) (k : ℕ) → length xs ≤ k → slice_get xs k ≡ None
none_there [] k past = refl
none_there (x ∷ xs) zero past = absurd (omega arith)
none_there (x ∷ xs) (suc k) past = none_there xs k (omega arith)

pub left_by-nil : (entries : List Entry) → steps_behind [] entries ≡ []
left_by-nil [] = refl
left_by-nil (entry ∷ entries) = left_by-nil entries

pub none_left : (sessions : List (List Command)) (shards shard : ℕ) (earlier : List Entry) (number : ℕ)
    → length sessions ≤ number → left_behind sessions shards shard earlier number ≡ []
none_left sessions shards shard earlier number past =
    let commands : commands_of sessions number ≡ [] = ap (λ (found : Option (List Command)). unwrap_or found [])
    (none_there sessions number past) in
    ap (λ c. steps_behind (in_shard shards shard (session_steps number 0 c)) (of_session number earlier)) commands
    ∙ left_by-nil (of_session number earlier)

-- the entries of a session with one more
pub own_entry : (earlier : List Entry) (entry : Entry) → of_session entry.session (earlier ++ entry ∷ [])
    ≡ of_session entry.session earlier ++ entry ∷ []
own_entry earlier entry =
    let test : (entry.session == entry.session) ≡ true = eq-eqb entry.session entry.session refl in
    let last : of_session entry.session (entry ∷ []) ≡ entry ∷ [] = rw test refl in
    filter-append (λ (e : Entry). e.session == entry.session) earlier (entry ∷ [])
    ∙ ap (λ l. of_session entry.session earlier ++ l) last

pub other_entry : (session : ℕ) (earlier : List Entry) (entry : Entry) → (session ≡ entry.session → ⊥)
    → of_session session (earlier ++ entry ∷ []) ≡ of_session session earlier
other_entry session earlier entry other =
    let test : (entry.session == session) ≡ false =
    ⊎_elim (λ yes. absurd (other (sym (eqb-true entry.session session yes)))) (λ no. no)
    (cases_Bool (entry.session == session)) in
    let last : of_session session (entry ∷ []) ≡ [] = rw test refl in
    filter-append (λ (e : Entry). e.session == session) earlier (entry ∷ [])
    ∙ ap (λ l. of_session session earlier ++ l) last ∙ append-nil (of_session session earlier)

pub left_own : (sessions : List (List Command)) (shards shard : ℕ) (earlier : List Entry) (entry : Entry)
    → left_behind sessions shards shard (earlier ++ entry ∷ []) entry.session
    ≡ behind entry (left_behind sessions shards shard earlier entry.session)
left_own sessions shards shard earlier entry =
    let steps = in_shard shards shard (parts_of sessions entry.session) in
    ap (steps_behind steps) (own_entry earlier entry) ∙ left_by-append steps (of_session entry.session earlier) entry

pub left_other : (sessions : List (List Command)) (shards shard : ℕ) (earlier : List Entry) (entry : Entry)
    (session : ℕ) → (session ≡ entry.session → ⊥)
    → left_behind sessions shards shard (earlier ++ entry ∷ []) session
    ≡ left_behind sessions shards shard earlier session
left_other sessions shards shard earlier entry session other =
    ap (steps_behind (in_shard shards shard (parts_of sessions session))) (other_entry session earlier entry other)

-- the session of an entry that was found moves behind its part
pub is_taken : (sessions : List (List Command)) (shards shard : ℕ) (earlier : List Entry) (cursors : List ℕ)
    (entry : Entry) (at place : ℕ) → AreAt sessions shards shard earlier cursors → slice_get cursors entry.session
    ≡ Some at
    → IsFound shards shard (parts_of sessions entry.session) at place entry → IsEntryTaken sessions shards shard earlier
    (set cursors entry.session (place + 1)) entry place
is_taken sessions shards shard earlier cursors entry at place were is found =
    let left = were.each entry.session at is in
    record {
      next = subst (λ steps. IsNext steps entry) left found.next;
      at = record {
        count = length-set cursors entry.session (place + 1) ∙ were.count;
        each = λ session now there. ⊎_elim
            (λ here.
            let moved : from_place shards shard (parts_of sessions entry.session) now
            ≡ left_behind sessions shards shard (earlier ++ entry ∷ []) entry.session =
            ap (from_place shards shard (parts_of sessions entry.session)) here.1 ∙ found.left ∙ ap (behind entry) left
            ∙ sym (left_own sessions shards shard earlier entry) in
            subst (λ n. from_place shards shard (parts_of sessions n) now ≡ left_behind sessions shards shard
            (earlier ++ entry ∷ []) n) (sym here.0) moved)
            (λ others. were.each session now others.1
            ∙ sym (left_other sessions shards shard earlier entry session others.0))
            (read_set cursors entry.session session (place + 1) now there);
      };
      operation = found.operation;
      step_is = found.step_is;
    }

pub not_taken : (sessions : List (List Command)) (shards shard : ℕ) (earlier : List Entry) (cursors : List ℕ)
    (entry : Entry) (at : ℕ) → AreAt sessions shards shard earlier cursors → slice_get cursors entry.session ≡ Some at
    → (IsNext (from_place shards shard (parts_of sessions entry.session) at) entry → ⊥)
    → IsNext (left_behind sessions shards shard earlier entry.session) entry → ⊥
not_taken sessions shards shard earlier cursors entry at were is refused next =
    refused (subst (λ steps. IsNext steps entry) (sym (were.each entry.session at is)) next)

-- the test of what is left, part by part
due_here : (shards shard : ℕ) (step : Step) → (shard_of shards (key_of step.1) == shard) ≡ true
    → is_due shard (step_place shards step) ≡ writes step.1
due_here shards shard step is = rw is refl

due_there : (shards shard : ℕ) (step : Step) → (shard_of shards (key_of step.1) == shard) ≡ false
    → is_due shard (step_place shards step) ≡ true
due_there shards shard step is = rw is refl

and_both : (a b : Bool) → (a && b) ≡ true → (a ≡ true) × (b ≡ true)
and_both true b is = (refl, is)
and_both false b is = absurd (cc (is))

all_writes : (shards shard : ℕ) (steps : List Step) → list_all (is_due shard) (map (step_place shards) steps) ≡ true
    → AreWrites (in_shard shards shard steps)
all_writes shards shard [] is = tt
all_writes shards shard (step ∷ steps) is =
    let both = and_both (is_due shard (step_place shards step))
    (list_all (is_due shard) (map (step_place shards) steps)) is in
    let rest = all_writes shards shard steps both.1 in
    ⊎_elim (λ here. subst AreWrites (sym (in_shard_here shards shard step steps here))
    (is_write step.1 (sym (due_here shards shard step here) ∙ both.0), rest))
    (λ there. subst AreWrites (sym (in_shard_there shards shard step steps there)) rest)
    (cases_Bool (shard_of shards (key_of step.1) == shard))

all_due : (shards shard : ℕ) (steps : List Step) → AreWrites (in_shard shards shard steps)
    → list_all (is_due shard) (map (step_place shards) steps) ≡ true
all_due shards shard [] all = refl
all_due shards shard (step ∷ steps) all = ⊎_elim
    (λ here.
    let both : AreWrites (step ∷ in_shard shards shard steps) =
    subst AreWrites (in_shard_here shards shard step steps here) all in
    let write : writes step.1 ≡ true = ⊎_elim (λ yes. yes) (λ no. absurd (no_write step.1 no both.0))
    (cases_Bool (writes step.1)) in
    let first = due_here shards shard step here ∙ write in
    let rest = all_due shards shard steps both.1 in
    λ i. first i && rest i)
    (λ there.
    let first = due_there shards shard step there in
    let rest = all_due shards shard steps (subst AreWrites (in_shard_there shards shard step steps there) all) in
    λ i. first i && rest i)
    (cases_Bool (shard_of shards (key_of step.1) == shard))

drop-map : {A B : Type 0} (f : A → B) (k : ℕ) (xs : List A) → drop k (map f xs) ≡ map f (drop k xs)
drop-map f zero xs = refl
drop-map f (suc k) [] = refl
drop-map f (suc k) (x ∷ xs) = drop-map f k xs

pub due_writes : (shards shard at : ℕ) (places : List Place) (steps : List Step)
    → places ≡ map (step_place shards) steps → all_due_from at shard places ≡ true
    → AreWrites (from_place shards shard steps at)
due_writes shards shard at places steps are is =
    all_writes shards shard (drop at steps)
    (ap (list_all (is_due shard)) (sym (ap (drop at) are ∙ drop-map (step_place shards) at steps)) ∙ is)

pub not_due : (shards shard at : ℕ) (places : List Place) (steps : List Step) → places ≡ map (step_place shards) steps
    → all_due_from at shard places ≡ false → AreWrites (from_place shards shard steps at) → ⊥
not_due shards shard at places steps are is all =
    cc (
      is,
      ap (list_all (is_due shard)) (ap (drop at) are ∙ drop-map (step_place shards) at steps),
      all_due shards
          shard (drop at steps) all,
    )

-- what holds below a number, and of it, holds below the next
pub below_next : (P : ℕ → Type 0) (n : ℕ) → ((k : ℕ) → k < n → P k) → P n → (k : ℕ) → k < n + 1 → P k
below_next P n below here k within = ⊎_elim (λ same. subst P (sym same) here) (λ less. below k less)
    (eq-or-lt_of_le {n = k} {m = n} (omega arith))

-- a number is below another, or not
pub below_or_not : (k n : ℕ) → (k < n) ⊎ (n ≤ k)
below_or_not k n = ⊎_elim (λ yes. inl (ltb-true k n yes)) (λ no. inr (ltb-false k n no)) (cases_Bool (nat_lt k n))
