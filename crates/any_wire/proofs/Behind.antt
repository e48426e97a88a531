-- A wire behind a failure, and what puts and flushes send text by text.
use Rattle.std.proofs.Common.{◌≡◌, ℕ, Bool, true, false, List, [], ◌∷◌, refl, arith}
use Rattle.std.specs.Borrow.{Bor}
use Rattle.any_wire.specs.Sends.{WireStep, puts, flushes, Chain, Sends}
use Rattle.any_wire.specs.Texts.{IsSending}
use Rattle.any_wire.proofs.Sending.{sends-none, sends-on, sends-put}

module _ {W : Type 0} (put_may : W → Bor (List ℕ) → (W × Bool) → Type 0) (flush_may : W → (W × Bool) → Type 0) where
  -- nothing more is put behind a failure
  pub sends-over : (text : List ℕ) (wire : W) → Sends put_may flush_may true true text wire wire
  sends-over [] wire = sends-none put_may flush_may true wire
  sends-over (byte ∷ text) wire =
      sends-on put_may flush_may true true true (byte ∷ []) text wire wire wire
      (sends-put put_may flush_may true true (byte ∷ []) wire wire (omega arith, omega arith) (refl, refl))
      (sends-over text wire)

  chain-stays : (steps : List WireStep) (now : Bool) (wire end : W) → Chain put_may flush_may steps true now wire end
      → (end ≡ wire) × (now ≡ true)
  chain-stays [] now wire end chain = chain
  chain-stays (puts piece ∷ steps) now wire end chain = chain-stays steps now wire end chain
  chain-stays (flushes ∷ steps) now wire end chain = chain-stays steps now wire end chain

  -- and so the wire is as it was
  pub stays-behind : (now : Bool) (text : List ℕ) (wire end : W) → Sends put_may flush_may true now text wire end
      → (end ≡ wire) × (now ≡ true)
  stays-behind now text wire end sends = chain-stays sends.steps now wire end sends.chain

  -- a text may be sent in parts, of which only the last may fail
  pub puts-are-sending : IsSending (Sends put_may flush_may false)
  puts-are-sending = record {
    nothing = λ wire. sends-none put_may flush_may false wire;
    joins = λ failed text more old middle new first next. sends-on put_may flush_may false false failed text more old
        middle new first next;
    longer = λ text more old new first. sends-on put_may flush_may false true true text more old new new first
        (sends-over more new);
  }
