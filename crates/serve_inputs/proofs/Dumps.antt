-- A dump that was put on its wire.
use Rattle.std.proofs.Common.{◌≡◌, ℕ, Bool, false, List, Result, Ok, IfOk, sym, subst}
use Rattle.std.specs.Borrow.{Bor}
use Rattle.device_model.proofs.Puts.{sends-loosened}
use Rattle.pin_dump.specs.Dumps.{PutsAndFlushes}
use Rattle.session_serve.specs.Wires.{SendsOut}

-- what holds of what is there
pub if_is : {A E : Type 0} (P : A → Type 0) (r : Result A E) (x : A) → r ≡ Ok x → P x → IfOk r P
if_is P r x is holds = subst (λ s. IfOk s P) (sym is) holds

module _ {W : Type 0} (put_may : W → Bor (List ℕ) → (W × Bool) → Type 0) (flush_may : W → (W × Bool) → Type 0) where
  -- what is put, and flushed behind it
  pub sends-out : (failed : Bool) (text : List ℕ) (old new : W) → PutsAndFlushes put_may flush_may failed text old new
      → SendsOut put_may flush_may false failed text old new
  sends-out failed text old new put = record {
    between = put.1;
    middle = put.0;
    sends = sends-loosened put_may flush_may false put.1 text old put.0 put.2;
    flushed = put.3;
  }
