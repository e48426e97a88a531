-- What a wire was sent, by what it tells.
use Rattle.std.specs.Prelude.{◌≡◌, ℕ, ◌<◌, Bool, false, List, [], length}
use Rattle.std.specs.Borrow.{Bor}
use Rattle.any_wire.specs.Sends.{Sends, Flushes}
use Rattle.flake_base.specs.Growth.{Grew}
use Rattle.flake_base.specs.Told.{WireTold, Took, Flushed}
use Rattle.flake_model.specs.Wire.{FaultIs, WireFaultIs, faults_told, KeptIs}

-- a wire was sent a text, or after a failure a front of it
pub record WasSent (failed : Bool) (text : List ℕ) (old new : WireTold) : Type 0 where
  pub put : Grew failed text old.put new.put
  pub faults : WireFaultIs failed (faults_told old) (faults_told new)

-- it was sent by puts of some bytes each: where there are none, no put failed
pub record WasSentByPuts (failed : Bool) (text : List ℕ) (old new : WireTold) : Type 0 where
  pub sent : WasSent failed text old new
  pub spares : text ≡ [] → new.put_faults ≡ old.put_faults

-- one put, which failed or not
pub record PutIs (failed : Bool) (piece : List ℕ) (old new : WireTold) : Type 0 where
  pub took : Took failed piece old new
  pub faults : FaultIs failed old.put_faults new.put_faults

-- one flush
pub record FlushIs (failed : Bool) (old new : WireTold) : Type 0 where
  pub flushed : Flushed old new
  pub all : KeptIs failed old.kept new.kept
  pub faults : FaultIs failed old.flush_faults new.flush_faults

module _
    {W : Type 0}
    (put_may : W → Bor (List ℕ) → (W × Bool) → Type 0)
    (flush_may : W → (W × Bool) → Type 0)
    (tells : W → WireTold) where
  -- the puts and flushes tell what they do
  pub record AreTold : Type 0 where
    pub put : (w : W) (piece : Bor (List ℕ)) (r : W × Bool) → 0 < length piece.now → put_may w piece r
        → PutIs r.1 piece.now (tells w) (tells r.0)
    pub flush : (w : W) (r : W × Bool) → flush_may w r → FlushIs r.1 (tells w) (tells r.0)

  -- so a text that was put in pieces was sent
  abbrev pub SendsAreTold : Type 0
  SendsAreTold = AreTold → (failed : Bool) (text : List ℕ) (w end : W)
      → Sends put_may flush_may false failed text w end → WasSentByPuts failed text (tells w) (tells end)

  -- and a flush behind it leaves that as it is
  abbrev pub FlushIsTold : Type 0
  FlushIsTold = AreTold → (failed now : Bool) (text : List ℕ) (w mid end : W)
      → WasSent failed text (tells w) (tells mid) → Flushes flush_may failed now mid end
      → WasSent now text (tells w) (tells end) × KeptIs now (tells mid).kept (tells end).kept
