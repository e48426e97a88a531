-- What became of a call's parts, by their deeds.
use Rattle.std.proofs.Common.{◌≡◌, ℕ, ◌+◌, List, [], ◌∷◌, ◌++◌, Option, Some, None, length, map, refl, ap, sym, ◌∙◌}
use Rattle.std.proofs.Common.{arith}
use Rattle.std.specs.List.{AllByRecursion, flat_map}
use Rattle.std.specs.Option.{option_map, option_map_or}
use Rattle.flake_model.specs.Store.{Operation}
use Rattle.flake_model.specs.Command.{Command, parts}
use Rattle.flake_model.specs.Reply.{reply_of}
use Rattle.flake_model.specs.Deed.{Deed}
use Rattle.reply_layout.specs.Pieces.{reply_from}
use Rattle.shard_core.specs.Outcomes as run
use Rattle.shard_core.specs.Outcomes.{Outcomes, call_told, call_deeds, answers_told}
use Rattle.shard_core.specs.Parts.{call_segs, segs_told}
use Rattle.shard_core.proofs.CallDeeds.{deed_answers}
use Rattle.transcript_model.specs.Frames.{fragments_stored}
use Rattle.drive_script.specs.Calls.{AreDone}

-- one outcome for each part
pub parts_done : (session call part : ℕ) (operations : List Operation) (outcomes : Outcomes)
    → run.AreOutcomes operations outcomes → length outcomes ≡ length operations
    → AreDone session call part operations (call_deeds session call part operations outcomes)
parts_done session call number [] [] are count = refl
parts_done session call number [] (outcome ∷ outcomes) are count = absurd are
parts_done session call number (operation ∷ operations) [] are count = absurd (omega arith)
parts_done session call number (operation ∷ operations) (None ∷ outcomes) are count =
    (are.0.0, parts_done session call (number + 1) operations outcomes are.1 (omega arith))
parts_done session call number (operation ∷ operations) (Some done ∷ outcomes) are count = (
  record { entry = refl; operation_is = refl },
  parts_done session call (number + 1) operations outcomes are
      (omega arith),
)

-- the stored fragments
pub fragments_done : (session call part : ℕ) (operations : List Operation) (outcomes : Outcomes)
    → call_segs operations outcomes ≡ flat_map fragments_stored (call_deeds session call part operations outcomes)
fragments_done session call number operations [] = refl
fragments_done session call number [] (outcome ∷ outcomes) = refl
fragments_done session call number (operation ∷ operations) (None ∷ outcomes) = fragments_done session call
    (number + 1) operations outcomes
fragments_done session call number (operation ∷ operations) (Some done ∷ outcomes) =
    ap (λ rest. segs_told operation (Some done) ++ rest) (fragments_done session call (number + 1) operations outcomes)

-- the answers
one_answer : (found : Option Deed) → option_map (λ (deed : Deed). deed.answer) found
    ≡ option_map_or (λ (deed : Deed). Some deed.answer) found None
one_answer None = refl
one_answer (Some deed) = refl

all_answers : (deeds : List (Option Deed)) → map (option_map (λ (deed : Deed). deed.answer)) deeds
    ≡ map (λ found. option_map_or (λ (deed : Deed). Some deed.answer) found None) deeds
all_answers [] = refl
all_answers (found ∷ deeds) = λ i. one_answer found i ∷ all_answers deeds i

pub reply_done : (session call : ℕ) (command : Command) (outcomes : Outcomes) → run.AreOutcomes (parts command) outcomes
    → reply_of command (answers_told outcomes) ≡ reply_from command (call_deeds session call 0 (parts command) outcomes)
reply_done session call command outcomes are =
    ap (reply_of command) (sym (deed_answers session call 0 (parts command) outcomes are)
    ∙ all_answers (call_deeds session call 0 (parts command) outcomes))

-- all that is told is of the call
pub of_the_call : (shards session call part : ℕ) (operations : List Operation) (outcomes : Outcomes)
    → AllByRecursion (λ (deed : Deed). deed.entry.call ≡ call)
    (map (λ (told : ℕ × Deed). told.1) (call_told shards session call part operations outcomes))
of_the_call shards session call number operations [] = tt
of_the_call shards session call number [] (outcome ∷ outcomes) = tt
of_the_call shards session call number (operation ∷ operations) (None ∷ outcomes) = of_the_call shards session call
    (number + 1) operations outcomes
of_the_call shards session call number (operation ∷ operations) (Some done ∷ outcomes) =
    (refl, of_the_call shards session call (number + 1) operations outcomes)
