-- A call whose parts were not begun.
use Rattle.std.proofs.Common.{ℕ, inl, [], refl, sym, append-nil, arith}
use Rattle.pin_core.specs.declared.sizes.Sizes.{Sizes}
use Rattle.pinned_pool.proofs.SoughtLaws.{sought_nothing, sought_within}
use Rattle.flake_model.specs.Command.{Command, parts}
use Rattle.shard_core.specs.CallDemand.{parts_row}
use Rattle.command_exec.specs.Passes.{PassView}
use Rattle.command_exec.specs.Executed.{FallsShort}

pub not_begun : (z : Sizes) (shards call : ℕ) (command : Command) (p : PassView) → FallsShort z shards command call p p
not_begun z shards call command p = record {
  outcomes = [];
  cut = record {
    are = tt;
    short = inl refl;
    told = sym (append-nil p.list.told);
    sought = sought_within z (λ class. 0) (λ class. parts_row class (parts command)) 0 p.seat p.seat
        (sought_nothing z p.seat p.seat refl refl) (λ class. omega arith);
  };
  number = refl;
  looks = refl;
  holds = refl;
  credits = refl;
  returns = omega arith;
  free = refl;
  stage = refl;
  threshold = refl;
}
