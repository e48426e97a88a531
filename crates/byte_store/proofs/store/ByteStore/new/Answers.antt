use Rattle.std.proofs.Common.{subst, sym}
use Rattle.std.specs.FinMap as finite
use Rattle.byte_store.specs.Store.{HoldsStore}
use Rattle.byte_store.proofs.Held.{empty_holds}
use Rattle.byte_store.proofs.store.ByteStore.new.Goals as goal

pub returns : goal.returns
returns c = subst (λ entries. HoldsStore entries finite.empty) (sym c.new.ensures.empty) empty_holds
