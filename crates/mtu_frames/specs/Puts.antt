-- What a wire has of a text that was put, or after a failure of a front of it.
use Rattle.std.specs.Prelude.{◌≡◌, ℕ, Bool, List}
use Rattle.flake_base.specs.Growth.{Grew}
use Rattle.flake_base.specs.Told.{WireTold}
use Rattle.flake_model.specs.Wire.{FaultIs}

pub record WasPut (failed : Bool) (text : List ℕ) (old new : WireTold) : Type 0 where
  pub put : Grew failed text old.put new.put
  pub faults : FaultIs failed old.put_faults new.put_faults
  pub flush_faults : new.flush_faults ≡ old.flush_faults
