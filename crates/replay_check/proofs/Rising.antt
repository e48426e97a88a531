-- The parts of a session rise by call and part, and stand for their entries.
use Rattle.std.proofs.Common.{◌≡◌, ℕ, ◌+◌, ◌<◌, ◌≤◌, ◌⊎◌, ⊎_elim, inl, inr, zero, suc, Bool, true, false, List, [], ◌∷◌}
use Rattle.std.proofs.Common.{◌++◌, Some, None, length, slice_get, arith, refl, ap, sym, ◌∙◌, subst}
use Rattle.std.proofs.lemmas.Bool.{cond_both}
use Rattle.std.specs.List.{AllByRecursion, filter}
use Rattle.std.specs.Prelude.{⊤}
use Rattle.flake_base.specs.declared.journal.Entry.{Entry}
use Rattle.flake_model.specs.Store.{Operation}
use Rattle.flake_model.specs.Command.{Command, parts}
use Rattle.flake_model.specs.Journal.{Step, is_entry, call_steps, session_steps}
use Rattle.flake_model.specs.Order.{IsBefore}
use Rattle.flake_model.proofs.Streams.{all_append}
use Rattle.replay_check.specs.Noted.{HasPart}

-- a step behind that of an entry of its session
abbrev pub Later : Step → Step → Type 0
Later first step = IsBefore first.0 step.0

-- each step is before those behind it
abbrev pub AreRising : List Step → Type 0
AreRising [] = ⊤
AreRising (step ∷ steps) = AllByRecursion (Later step) steps × AreRising steps

-- what holds of each part from one on holds of those of a call
all_call : (P : Step → Type 0) (session call part : ℕ) (operations : List Operation)
    → ((k : ℕ) (operation : Operation) → part ≤ k → P (record { session = session; call = call; part = k }, operation))
    → AllByRecursion P (call_steps session call part operations)
all_call P session call part [] each = tt
all_call P session call part (operation ∷ operations) each = (
  each part operation (omega arith),
  all_call P session call (part + 1) operations
      (λ k other from. each k other (omega arith)),
)

-- what holds of each part of each call from one on holds of those of a session
all_session : (P : Step → Type 0) (session call : ℕ) (commands : List Command)
    → ((n k : ℕ) (operation : Operation) → call ≤ n → P (record { session = session; call = n; part = k }, operation))
    → AllByRecursion P (session_steps session call commands)
all_session P session call [] each = tt
all_session P session call (command ∷ commands) each = all_append P (call_steps session call 0 (parts command))
    (session_steps session (call + 1) commands)
    (all_call P session call 0 (parts command) (λ k operation from. each call k operation (omega arith)))
    (all_session P session (call + 1) commands (λ n k operation from. each n k operation (omega arith)))

-- all steps are of the session
pub all_own : (session call : ℕ) (commands : List Command) → AllByRecursion (λ (step : Step). step.0.session ≡ session)
    (session_steps session call commands)
all_own session call commands = all_session (λ step. step.0.session ≡ session) session call commands
    (λ n k operation from. refl)

rising_call : (session call part : ℕ) (operations : List Operation) (more : List Step)
    → AllByRecursion (λ (step : Step). call < step.0.call) more → AreRising more
    → AreRising (call_steps session call part operations ++ more)
rising_call session call part [] more later rising = rising
rising_call session call part (operation ∷ operations) more later rising = (
  all_append (Later (record { session = session; call = call; part = part }, operation))
      (call_steps session call (part + 1) operations) more
      (all_call _ session call (part + 1) operations (λ k other from. inr (refl, omega arith)))
      (all_later more later),
  rising_call session call (part + 1) operations more later rising,
) where
  all_later : (steps : List Step) → AllByRecursion (λ (step : Step). call < step.0.call) steps
      → AllByRecursion (Later (record { session = session; call = call; part = part }, operation)) steps
  all_later [] all = tt
  all_later (step ∷ steps) all = (inl all.0, all_later steps all.1)

pub rising : (session call : ℕ) (commands : List Command) → AreRising (session_steps session call commands)
rising session call [] = tt
rising session call (command ∷ commands) = rising_call session call 0 (parts command)
    (session_steps session (call + 1) commands)
    (all_session (λ step. call < step.0.call) session (call + 1) commands (λ n k operation from. omega arith))
    (rising session (call + 1) commands)

all_filter : (P : Step → Type 0) (test : Step → Bool) (steps : List Step) → AllByRecursion P steps
    → AllByRecursion P (filter test steps)
all_filter P test [] all = tt
all_filter P test (step ∷ steps) all =
    let rest = all_filter P test steps all.1 in
    cond_both (test step) (step ∷ filter test steps) (filter test steps) (AllByRecursion P) (λ yes. (all.0, rest))
    (λ no. rest)

pub rising_filter : (test : Step → Bool) (steps : List Step) → AreRising steps → AreRising (filter test steps)
rising_filter test [] rising = tt
rising_filter test (step ∷ steps) rising =
    let rest = rising_filter test steps rising.1 in
    cond_both (test step) (step ∷ filter test steps) (filter test steps) AreRising
    (λ yes. (all_filter (Later step) test steps rising.0, rest)) (λ no. rest)

-- an entry before another isn't that
pub not_before : (a b : Entry) → IsBefore a b → is_entry a b ≡ false
not_before a b (inl less) = grind arith
not_before a b (inr same) = grind (arith, same.1)

pub not_behind : (a b : Entry) → IsBefore a b → is_entry b a ≡ false
not_behind a b (inl less) = grind arith
not_behind a b (inr same) = grind (arith, same.1)

-- what all steps are, the one at a place is
pub at_place : (P : Step → Type 0) (steps : List Step) (k : ℕ) (step : Step) → AllByRecursion P steps
    → slice_get steps k ≡ Some step → P step
at_place P [] k step all is = absurd (cc (is))
at_place P (first ∷ steps) zero step all is = let same : first ≡ step = cc in subst P same all.0
at_place P (first ∷ steps) (suc k) step all is = at_place P steps k step all.1 is

-- the part stands among the commands from a call on
abbrev Stands : ℕ → List Command → Step → Type 0
Stands call commands step = (command : Command) × (k : ℕ) × (step.0.call ≡ call + k)
    × (slice_get commands k ≡ Some command) × (slice_get (parts command) step.0.part ≡ Some step.1)

one_call : (session call part : ℕ) (command : Command) (operations : List Operation)
    → ((k : ℕ) (operation : Operation) → slice_get operations k ≡ Some operation → slice_get (parts command) (part + k)
    ≡ Some operation)
    → AllByRecursion (λ (step : Step). (step.0.call ≡ call) × (slice_get (parts command) step.0.part ≡ Some step.1))
    (call_steps session call part operations)
one_call session call part command [] each = tt
one_call session call part command (operation ∷ operations) each = (
  (refl, subst (λ n. slice_get (parts command) n ≡ Some operation) (omega arith) (each 0 operation refl)),
  one_call session call (part + 1) command operations
      (λ k other is. subst (λ n. slice_get (parts command) n ≡ Some other) (omega arith) (each (suc k) other is)),
)

weaker : (P Q : Step → Type 0) (steps : List Step) → ((step : Step) → P step → Q step) → AllByRecursion P steps
    → AllByRecursion Q steps
weaker P Q [] each all = tt
weaker P Q (step ∷ steps) each all = (each step all.0, weaker P Q steps each all.1)

all_stand : (session call : ℕ) (commands : List Command) → AllByRecursion (Stands call commands)
    (session_steps session call commands)
all_stand session call [] = tt
all_stand session call (command ∷ commands) = all_append (Stands call (command ∷ commands))
    (call_steps session call 0 (parts command)) (session_steps session (call + 1) commands)
    (weaker _ _ (call_steps session call 0 (parts command)) (λ step is. (command, 0, omega (arith, is.0), refl, is.1))
    (one_call session call 0 command (parts command)
    (λ k operation is. subst (λ n. slice_get (parts command) n ≡ Some operation) (omega arith) is)))
    (weaker _ _ (session_steps session (call + 1) commands)
    (λ step is. (is.0, suc is.1, omega (arith, is.2), is.3, is.4)) (all_stand session (call + 1) commands))

-- a step of a session names its part
pub has_part : (session : ℕ) (commands : List Command) (k : ℕ) (entry : Entry) (operation : Operation)
    → slice_get (session_steps session 0 commands) k ≡ Some (entry, operation)
    → HasPart commands entry operation
has_part session commands k entry operation is =
    let stands = at_place (Stands 0 commands) (session_steps session 0 commands) k (entry, operation)
    (all_stand session 0 commands) is in
    let call : stands.1 ≡ entry.call = omega (arith, stands.2) in
    record {
      command = stands.0;
      command_is = subst (λ n. slice_get commands n ≡ Some stands.0) call stands.3;
      part_is = stands.4;
    }
