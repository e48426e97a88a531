-- The deed at an entry, in a list that grows.
use Rattle.std.proofs.Common.{◌≡◌, ℕ, ◌+◌, ◌<◌, ◌≤◌, Bool, true, false, List, [], ◌∷◌, ◌++◌, Option, None, Some, arith}
use Rattle.std.proofs.Common.{refl, ap, sym, ◌∙◌, subst, append_assoc}
use Rattle.std.specs.Prelude.{map, if◌then◌else◌}
use Rattle.std.specs.List.{AllByRecursion}
use Rattle.flake_base.specs.declared.journal.Entry.{Entry}
use Rattle.flake_model.specs.Store.{Operation}
use Rattle.flake_model.specs.Journal.{is_entry, call_steps}
use Rattle.flake_model.specs.Deed.{Deed}
use Rattle.transcript_model.specs.Deeds.{find_deed}
use Rattle.drive_script.specs.Calls.{AreDone, done_deeds}

-- the deed isn't at the entry
abbrev pub IsElsewhere : Entry → Deed → Type 0
IsElsewhere entry deed = is_entry entry deed.entry ≡ false

pub find_deed-skip : (entry : Entry) (some more : List Deed) → AllByRecursion (IsElsewhere entry) some
    → find_deed entry (some ++ more) ≡ find_deed entry more
find_deed-skip entry [] more none = refl
find_deed-skip entry (deed ∷ some) more none = ap (λ b. if b then Some deed else find_deed entry (some ++ more)) none.0
    ∙ find_deed-skip entry some more none.1

pub find_deed-none : (entry : Entry) (deeds : List Deed) → AllByRecursion (IsElsewhere entry) deeds
    → find_deed entry deeds ≡ None
find_deed-none entry [] none = refl
find_deed-none entry (deed ∷ deeds) none = ap (λ b. if b then Some deed else find_deed entry deeds) none.0
    ∙ find_deed-none entry deeds none.1

-- deeds elsewhere that come behind change nothing
pub find_deed-append : (entry : Entry) (some more : List Deed) → AllByRecursion (IsElsewhere entry) more
    → find_deed entry (some ++ more) ≡ find_deed entry some
find_deed-append entry [] more none = find_deed-none entry more none
find_deed-append entry (deed ∷ some) more none =
    ap (λ (found : Option Deed). if is_entry entry deed.entry then Some deed else found)
    (find_deed-append entry some more none)

pub all-map : {A : Type 0} (P Q : A → Type 0) → ((x : A) → P x → Q x) → (xs : List A) → AllByRecursion P xs
    → AllByRecursion Q xs
all-map P Q f [] all = tt
all-map P Q f (x ∷ xs) all = (f x all.0, all-map P Q f xs all.1)

pub all-append : {A : Type 0} (P : A → Type 0) (xs ys : List A) → AllByRecursion P xs → AllByRecursion P ys
    → AllByRecursion P (xs ++ ys)
all-append P [] ys all more = more
all-append P (x ∷ xs) ys all more = (all.0, all-append P xs ys all.1 more)

abbrev pub entry_at : ℕ → ℕ → ℕ → Entry
entry_at session call part = record { session = session; call = call; part = part }

pub is_itself : (entry : Entry) → is_entry entry entry ≡ true
is_itself entry = grind arith

-- entries of other calls, or of other parts, are others
pub other_call : (entry other : Entry) → (entry.call ≡ other.call → ⊥) → is_entry entry other ≡ false
other_call entry other differ = by_test (is_entry entry other) refl
  where
    by_test : (b : Bool) → is_entry entry other ≡ b → is_entry entry other ≡ false
    by_test true is = let same : entry.call ≡ other.call = grind arith in absurd (differ same)
    by_test false is = is

pub other_part : (entry other : Entry) → (entry.part ≡ other.part → ⊥) → is_entry entry other ≡ false
other_part entry other differ = by_test (is_entry entry other) refl
  where
    by_test : (b : Bool) → is_entry entry other ≡ b → is_entry entry other ≡ false
    by_test true is = let same : entry.part ≡ other.part = grind arith in absurd (differ same)
    by_test false is = is

-- the deeds of a call, from a part on
pub record IsOfCall (session call part : ℕ) (deed : Deed) : Type 0 where
  pub session_is : deed.entry.session ≡ session
  pub call_is : deed.entry.call ≡ call
  pub part_is : part ≤ deed.entry.part

outcomes_of_call : (session call part : ℕ) (operations : List Operation) (outcomes : List (Option Deed))
    → AreDone session call part operations outcomes → AllByRecursion (IsOfCall session call part) (done_deeds outcomes)
outcomes_of_call session call part [] outcomes are =
    subst (λ os. AllByRecursion (IsOfCall session call part) (done_deeds os)) (sym are) tt
outcomes_of_call session call part (operation ∷ operations) [] are = absurd are
outcomes_of_call session call part (operation ∷ operations) (None ∷ outcomes) are =
    all-map (IsOfCall session call (part + 1)) (IsOfCall session call part)
    (λ deed is. record { session_is = is.session_is; call_is = is.call_is; part_is = omega (arith, is.part_is) })
    (done_deeds outcomes) (outcomes_of_call session call (part + 1) operations outcomes are.1)
outcomes_of_call session call part (operation ∷ operations) (Some deed ∷ outcomes) are = (
  record {
    session_is = ap (λ (e : Entry). e.session) are.0.entry;
    call_is = ap (λ (e : Entry). e.call) are.0.entry;
    part_is = let same = ap (λ (e : Entry). e.part) are.0.entry in omega arith;
  },
  all-map (IsOfCall session call (part + 1)) (IsOfCall session call part)
      (λ deed is. record { session_is = is.session_is; call_is = is.call_is; part_is = omega (arith, is.part_is) })
      (done_deeds outcomes) (outcomes_of_call session call (part + 1) operations outcomes are.1),
)

pub of_call : (session call : ℕ) (operations : List Operation) (outcomes : List (Option Deed))
    → AreDone session call 0 operations outcomes → AllByRecursion (IsOfCall session call 0) (done_deeds outcomes)
of_call session call operations outcomes are = outcomes_of_call session call 0 operations outcomes are

-- none of the deeds before is at a part from here on
abbrev NoneFrom : ℕ → ℕ → ℕ → List Deed → Type 0
NoneFrom session call part deeds = (later : ℕ) → part ≤ later
    → AllByRecursion (IsElsewhere (entry_at session call later)) deeds

elsewhere_behind : (session call part : ℕ) (deeds : List Deed) → AllByRecursion (IsOfCall session call (part + 1)) deeds
    → AllByRecursion (IsElsewhere (entry_at session call part)) deeds
elsewhere_behind session call part deeds all = all-map (IsOfCall session call (part + 1))
    (IsElsewhere (entry_at session call part))
    (λ deed is. other_part (entry_at session call part) deed.entry
    (λ same. let behind = is.part_is in absurd (omega arith))) deeds all

-- what is found at the entries of a call's parts is their outcomes
outcomes_found : (session call part : ℕ) (operations : List Operation) (outcomes : List (Option Deed))
    (before : List Deed) → AreDone session call part operations outcomes → NoneFrom session call part before
    → map (λ step. find_deed step.0 (before ++ done_deeds outcomes)) (call_steps session call part operations)
    ≡ outcomes
outcomes_found session call part [] outcomes before are none = sym are
outcomes_found session call part (operation ∷ operations) [] before are none = absurd are
outcomes_found session call part (operation ∷ operations) (None ∷ outcomes) before are none =
    let here : find_deed (entry_at session call part) (before ++ done_deeds outcomes) ≡ None =
    find_deed-skip (entry_at session call part) before (done_deeds outcomes) (none part (omega arith))
    ∙ find_deed-none (entry_at session call part) (done_deeds outcomes)
    (elsewhere_behind session call part (done_deeds outcomes)
    (outcomes_of_call session call (part + 1) operations outcomes are.1)) in
    let rest = outcomes_found session call (part + 1) operations outcomes before are.1
    (λ later from. none later (omega arith)) in
    λ i. here i ∷ rest i
outcomes_found session call part (operation ∷ operations) (Some deed ∷ outcomes) before are none =
    let here : find_deed (entry_at session call part) (before ++ deed ∷ done_deeds outcomes) ≡ Some deed =
    find_deed-skip (entry_at session call part) before (deed ∷ done_deeds outcomes) (none part (omega arith))
    ∙ ap (λ b. if b then Some deed else find_deed (entry_at session call part) (done_deeds outcomes))
    (subst (λ e. is_entry (entry_at session call part) e ≡ true) (sym are.0.entry)
    (is_itself (entry_at session call part))) in
    let none_more : NoneFrom session call (part + 1) (before ++ deed ∷ []) = λ later from.
    all-append (IsElsewhere (entry_at session call later)) before (deed ∷ []) (none later (omega arith)) (
      other_part (entry_at session call later) deed.entry
          (λ same. let at = ap (λ (e : Entry). e.part) are.0.entry in absurd (omega arith)),
      tt,
    ) in
    let rest = outcomes_found session call (part + 1) operations outcomes (before ++ deed ∷ []) are.1 none_more in
    let rest' : map (λ step. find_deed step.0 (before ++ deed ∷ done_deeds outcomes))
    (call_steps session call (part + 1) operations) ≡ outcomes =
    subst (λ deeds. map (λ step. find_deed step.0 deeds) (call_steps session call (part + 1) operations) ≡ outcomes)
    (append_assoc before (deed ∷ []) (done_deeds outcomes)) rest in
    λ i. here i ∷ rest' i

-- of the call behind those that the deeds before are of
pub outcomes_are_found : (session call : ℕ) (operations : List Operation) (outcomes : List (Option Deed))
    (before : List Deed) → AreDone session call 0 operations outcomes
    → AllByRecursion (λ (deed : Deed). deed.entry.call < call) before
    → map (λ step. find_deed step.0 (before ++ done_deeds outcomes)) (call_steps session call 0 operations) ≡ outcomes
outcomes_are_found session call operations outcomes before are earlier =
    outcomes_found session call 0 operations outcomes before are
    (λ later from. all-map (λ (deed : Deed). deed.entry.call < call) (IsElsewhere (entry_at session call later))
    (λ deed below. other_call (entry_at session call later) deed.entry (λ same. absurd (omega arith))) before
    earlier)

-- its deeds change nothing at the entries of earlier calls
pub earlier_stay : (session call : ℕ) (operations : List Operation) (outcomes : List (Option Deed)) (before : List Deed)
    (entry : Entry) → AreDone session call 0 operations outcomes → entry.call < call
    → find_deed entry (before ++ done_deeds outcomes) ≡ find_deed entry before
earlier_stay session call operations outcomes before entry are below = find_deed-append entry before
    (done_deeds outcomes)
    (all-map (IsOfCall session call 0) (IsElsewhere entry)
    (λ deed is. other_call entry deed.entry (λ same. let at = is.call_is in absurd (omega arith)))
    (done_deeds outcomes) (of_call session call operations outcomes are))
