-- A call of which no part was begun.
use Rattle.std.proofs.Common.{ℕ, inl, List, [], ◌∷◌, refl, sym, append-nil, arith}
use Rattle.pin_core.specs.declared.sizes.Sizes.{Sizes}
use Rattle.pinned_pool.proofs.SoughtLaws.{sought_nothing, sought_within}
use Rattle.pinned_pool.specs.declared.view.View.{View}
use Rattle.flake_model.specs.Command.{Command, parts}
use Rattle.flake_model.specs.Store.{Operation}
use Rattle.shard_core.specs.Calls.{IsCutShort}
use Rattle.shard_core.specs.CallDemand.{parts_row}
use Rattle.shard_core.specs.Outcomes.{AreOutcomes, SessionDeeds}
use Rattle.command_exec.specs.Passes.{PassView}
use Rattle.command_exec.specs.Executed.{FallsShort}

pub no_outcomes : (operations : List Operation) → AreOutcomes operations []
no_outcomes [] = tt
no_outcomes (operation ∷ operations) = tt

pub not_begun : (z : Sizes) (shards number call : ℕ) (command : Command) (told : SessionDeeds) (seat : View)
    → IsCutShort z shards number call command [] told told seat seat
not_begun z shards number call command told seat = record {
  are = no_outcomes (parts command);
  short = inl refl;
  told = sym (append-nil told);
  sought =
      sought_within z (λ class. 0) (λ class. parts_row class (parts command)) 0 seat seat
      (sought_nothing z seat seat refl refl) (λ class. omega arith);
}

pub nothing_run : (z : Sizes) (shards call : ℕ) (command : Command) (p : PassView)
    → FallsShort z shards command call p p
nothing_run z shards call command p = record {
  outcomes = [];
  cut = not_begun z shards p.list.number call command p.list.told p.seat;
  number = refl;
  looks = refl;
  holds = refl;
  credits = refl;
  returns = omega arith;
  free = refl;
  stage = refl;
  threshold = refl;
}
