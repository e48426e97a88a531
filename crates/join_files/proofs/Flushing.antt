-- A wire that was put a text, and then flushed.
use Rattle.std.proofs.Common.{◌≡◌, inl, inr, ℕ, Bool, true, false, List, [], ◌++◌, sym, ap, ap₂, ◌∙◌, subst, append-nil}
use Rattle.flake_base.specs.Causes.{Rose}
use Rattle.flake_base.specs.Growth.{Grew}
use Rattle.flake_base.specs.Told.{WireTold}
use Rattle.mtu_frames.specs.Puts.{WasPut}
use Rattle.any_wire.specs.Sent.{FlushIs, WasSent}

-- a put failed, and nothing more was done
pub not_put : (text : List ℕ) (old new : WireTold) → WasPut true text old new → WasSent true text old new
not_put text old new was = record { put = was.put; faults = inl (was.faults, was.flush_faults) }

pub flushed : (failed : Bool) (text : List ℕ) (old mid new : WireTold) → WasPut false text old mid
    → FlushIs failed mid new → WasSent failed text old new
flushed false text old mid new was is = record {
  put = subst (λ put. Grew false text old.put put) (sym is.flushed.put) was.put;
  faults = ap₂ (λ (puts flushes : ℕ). (puts, flushes)) (is.flushed.put_faults ∙ was.faults)
      (is.faults ∙ was.flush_faults);
}
flushed true text old mid new was is = record {
  put = (
    was.put.0,
    ([], sym was.put.1 ∙ sym (append-nil was.put.0)),
    is.flushed.put ∙ was.put.2,
  );
  faults = inr (
    is.flushed.put_faults ∙ was.faults,
    subst (λ n. Rose n new.flush_faults) was.flush_faults is.faults,
  );
}
