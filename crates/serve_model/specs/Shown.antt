-- What the end of a served pool shows, by the journal.
use Rattle.std.specs.Prelude.{◌≡◌, ℕ, ◌+◌, ◌<◌, ◌≤◌, Bool, false, List, [], ◌∷◌, nat_lt}
use Rattle.std.specs.Prelude.{if◌then◌else◌, slice_get}
use Rattle.std.specs.List.{flat_map}
use Rattle.std.specs.Option.{option_map_or}
use Rattle.std.specs.FinMap as finite
use Rattle.view_sums.specs.Total.{total}
use Rattle.flake_base.specs.declared.journal.Entry.{Entry}
use Rattle.flake_base.specs.declared.session.SessionEnd.{SessionEnd}
use Rattle.pin_core.specs.declared.class.Class.{Class}
use Rattle.pin_core.specs.declared.class.Class.TheVariants.{Small, Large}
use Rattle.pin_core.specs.declared.sizes.Sizes.{Sizes}
use Rattle.pinned_pool.specs.Claims.{count_of}
use Rattle.pinned_pool.specs.Classes.{buffers_in}
use Rattle.pinned_pool.specs.Ends.{End}
use Rattle.pinned_pool.specs.Named.{ClaimsAreNearby}
use Rattle.pinned_pool.specs.Views.{looked_at}
use Rattle.frag_value.specs.Fragments.{fragments_in}
use Rattle.flake_model.specs.Command.{Command}
use Rattle.flake_model.specs.Fragments.{fragments_of}
use Rattle.flake_model.specs.Journal.{Step, step_of, store_after, answers_of, answer_at}
use Rattle.flake_model.specs.Run.{WasServed, all_commands, served_steps, missing_writes}
use Rattle.flake_model.specs.Session.{Session}
use Rattle.shard_core.specs.CallDemand.{pins_by}
use Rattle.shard_core.specs.Needed.{may_need, may_need_some}
use Rattle.flake_model.specs.Store.{Store, answer, first_at, after}
use Rattle.serve_model.specs.Demand.{demand_of}

-- the values that a journal leaves
abbrev pub values_left : List (List Command) → List (List Entry) → List (List ℕ)
values_left commands journal =
    flat_map
    (λ (history : List Entry). finite.values (store_after finite.empty (flat_map (step_of commands) history)))
    journal

-- how many of their fragments need a buffer of the class
abbrev pub fragments_by_class : Class → List (List Command) → List (List Entry) → ℕ
fragments_by_class class commands journal =
    total (λ (bytes : List ℕ). fragments_in class (fragments_of bytes)) (values_left commands journal)

-- whether the entry is of a call that has its reply
abbrev pub has_reply : List Session → Entry → Bool
has_reply sessions entry =
    option_map_or (λ (session : Session). nat_lt entry.call session.end.replies) (slice_get sessions entry.session)
    false

-- how many holds a history pins, from a store on, by the answers to the calls that have their reply
abbrev pub pins_after : ℕ → List Session → Store → List Step → ℕ
pins_after threshold sessions store [] = 0
pins_after threshold sessions store (step ∷ steps) =
    (if has_reply sessions step.0
    then pins_by threshold step.1 (answer store step.1) (first_at store step.1)
    else 0)
    + pins_after threshold sessions (after store step.1) steps

-- how many pieces of those answers have at least the threshold's bytes, by each shard's history
abbrev pub pins_found : ℕ → List Session → List (List Entry) → ℕ
pins_found threshold sessions journal =
    total
    (λ (history : List Entry). pins_after threshold sessions finite.empty
    (flat_map (step_of (all_commands sessions)) history))
    journal

-- how many of the writes that are missing may need a buffer of the class
abbrev pub missing_in_class : Class → List Session → List (List Entry) → ℕ
missing_in_class class sessions journal =
    let answers = answers_of (all_commands sessions) journal in
    total (λ (step : Step). may_need class step.1 (answer_at step.0 answers)) (served_steps 0 sessions)

-- how many of the writes that are missing may need a buffer at all
abbrev pub missing_in_need : List Session → List (List Entry) → ℕ
missing_in_need sessions journal =
    let answers = answers_of (all_commands sessions) journal in
    total (λ (step : Step). may_need_some step.1 (answer_at step.0 answers)) (served_steps 0 sessions)

-- The buffers that are held, that were claimed and that were missed, and the pinned holds that were given back.
pub record IsCounted (z : Sizes) (threshold : ℕ) (sessions : List Session) (journal : List (List Entry)) (end : End)
    : Type 0 where
  -- a buffer is held for each fragment of a final value
  pub held_small : end.small ≡ fragments_by_class Small (all_commands sessions) journal
  pub held_large : end.large ≡ fragments_by_class Large (all_commands sessions) journal
  -- and no more than there are
  pub few : (end.small ≤ z.small) × (end.large ≤ z.large)
  -- each write that is missing missed a buffer, of the one class or the other
  pub missed : Class → ℕ
  pub missed_are : missed Small + missed Large ≡ missing_writes sessions journal
  -- of each class no more than may need a buffer of it
  pub needed : (class : Class) → missed class ≤ missing_in_class class sessions journal
  -- and each write that is missing may need one
  pub all_need : missing_in_need sessions journal ≡ missing_writes sessions journal
  -- of each class no more were claimed and missed than the commands may claim
  pub claims : (class : Class)
      → buffers_in z class end.seat.claims + missed class ≤ demand_of class (all_commands sessions)
  -- each of whose buffers was found held as often
  pub looks_small : (b : ℕ) → b < z.small → missed Small ≤ looked_at b end.seat.looks
  pub looks_large : (b : ℕ) → z.small ≤ b → b < z.small + z.large → missed Large ≤ looked_at b end.seat.looks
  pub exceeded : (class : Class) → 0 < missed class → count_of z class < demand_of class (all_commands sessions)
  -- a pinned hold came back for each of those pieces
  pub returned : pins_found threshold sessions journal ≤ end.seat.returns
  -- each claim is of a buffer that this pool has
  pub nearby : ClaimsAreNearby z end.seat

-- What a whole run says: the inputs were served, and the end of the pool is that of their commands.
pub record WasRun (z : Sizes) (threshold : ℕ) (givens : List (List ℕ)) (endeds : List Bool)
    (ends : List SessionEnd) (journal : List (List Entry)) (end : End) : Type 0 where
  pub served : WasServed givens endeds ends journal
  pub counted : IsCounted z threshold served.sessions journal end
