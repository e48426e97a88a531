-- What a plan was given, step by step.
use Rattle.std.specs.Prelude.{List, [], ◌∷◌, ◌++◌, Option, None, Some, drop}
use Rattle.pin_core.specs.declared.sizes.Sizes.{Sizes}
use Rattle.frag_value.specs.Taken.{PlacedRun, Begun, TakenPiece, copied, whole, entire, ranged, begun_with, more}
use Rattle.frag_value.specs.Taken.{placed_part}
use Rattle.frag_value.specs.Taken.{placed_over}
use Rattle.reply_planner.specs.declared.history.Step.{Step}
use Rattle.reply_planner.specs.declared.history.Step.TheVariants.{Copied, Began, BeganPart, Took, TookOver, Finished}
use Rattle.reply_planner.specs.declared.history.History.{History, Nothing, Then'}

pub record PlanTaken : Type 0 where
  pub taken : List TakenPiece
  pub begun : Option Begun

abbrev pub with_run : PlacedRun → Option Begun → Option Begun
with_run f None = None
with_run f (Some b) = Some (more f b)

abbrev pub with_value : List TakenPiece → Option Begun → List TakenPiece
with_value ps None = ps
with_value ps (Some b) = ps ++ whole b ∷ []

module _ {N : Type 0} (z : Sizes) where
  abbrev pub does : PlanTaken → Step N → PlanTaken
  does t (Copied place text) = record { taken = t.taken ++ copied (drop place text.value.items) ∷ []; begun = t.begun }
  does t (Began len) = record { taken = t.taken; begun = Some (begun_with entire len) }
  does t (BeganPart len) = record { taken = t.taken; begun = Some (begun_with ranged len) }
  does t (Took owner buffer from len) =
      record { taken = t.taken; begun = with_run (placed_part z owner.value.holds buffer from len) t.begun }
  does t (TookOver owner buffer len) =
      record { taken = t.taken; begun = with_run (placed_over z owner.value.holds (buffer, len)) t.begun }
  does t Finished = record { taken = with_value t.taken t.begun; begun = None }

  abbrev pub told : History N → PlanTaken
  told Nothing = record { taken = []; begun = None }
  told (Then' step _ before) = does (told before) step.value
