-- The deeds of a call's parts, their answers, and what a session is told of them.
use Rattle.std.proofs.Common.{◌≡◌, ℕ, suc, ◌+◌, List, [], ◌∷◌, Option, Some, None, length, map, refl, ap}
use Rattle.std.specs.List.{flat_map}
use Rattle.std.specs.Option.{option_map, option_to_list}
use Rattle.flake_model.specs.Store.{Operation, Answer}
use Rattle.flake_model.specs.Deed.{Deed}
use Rattle.shard_core.specs.Outcomes.{Outcomes, AreOutcomes, entry_at, deed_of, call_told, call_deeds, answers_told}
use Rattle.shard_core.specs.Steps.{DeedsAreTold}

module _ (session call : ℕ) where
  pub as_many : (part : ℕ) (operations : List Operation) (outcomes : Outcomes) → AreOutcomes operations outcomes
      → length (call_deeds session call part operations outcomes) ≡ length outcomes
  as_many part operations [] are = refl
  as_many part [] (outcome ∷ outcomes) are = absurd are
  as_many part (operation ∷ operations) (None ∷ outcomes) are =
      ap (λ n. suc n) (as_many (part + 1) operations outcomes are.1)
  as_many part (operation ∷ operations) (Some done ∷ outcomes) are =
      ap (λ n. suc n) (as_many (part + 1) operations outcomes are)

  pub deed_answers : (part : ℕ) (operations : List Operation) (outcomes : Outcomes) → AreOutcomes operations outcomes
      → map (option_map (λ (deed : Deed). deed.answer)) (call_deeds session call part operations outcomes)
      ≡ answers_told outcomes
  deed_answers part operations [] are = refl
  deed_answers part [] (outcome ∷ outcomes) are = absurd are
  deed_answers part (operation ∷ operations) (None ∷ outcomes) are =
      ap (λ (answers : List (Option Answer)). None ∷ answers) (deed_answers (part + 1) operations outcomes are.1)
  deed_answers part (operation ∷ operations) (Some done ∷ outcomes) are =
      ap (λ (answers : List (Option Answer)). Some done.answer ∷ answers)
      (deed_answers (part + 1) operations outcomes are)

  pub deeds_told : (shards part : ℕ) (operations : List Operation) (outcomes : Outcomes)
      → AreOutcomes operations outcomes
      → map (λ (told : ℕ × Deed). told.1) (call_told shards session call part operations outcomes)
      ≡ flat_map option_to_list (call_deeds session call part operations outcomes)
  deeds_told shards part operations [] are = refl
  deeds_told shards part [] (outcome ∷ outcomes) are = absurd are
  deeds_told shards part (operation ∷ operations) (None ∷ outcomes) are =
      deeds_told shards (part + 1) operations outcomes are.1
  deeds_told shards part (operation ∷ operations) (Some done ∷ outcomes) are =
      ap (λ (deeds : List Deed). deed_of (entry_at session call part) operation done ∷ deeds)
      (deeds_told shards (part + 1) operations outcomes are)

pub deeds_are_told : DeedsAreTold
deeds_are_told shards session call part operations outcomes are = record {
  as_many = as_many session call part operations outcomes are;
  answers = deed_answers session call part operations outcomes are;
  told = deeds_told session call shards part operations outcomes are;
}
