-- What is put without a flush, and a flush behind it.
use Rattle.std.proofs.Common.{ℕ, Bool, true, false, List, [], ◌∷◌, ◌++◌, append-nil}
use Rattle.std.specs.Borrow.{Bor}
use Rattle.any_wire.specs.Sends.{WireStep, puts, flushes, Chain, Sends, Flushes}
use Rattle.any_wire.proofs.Sending.{sends-on, sends-same, sends-flush}

module _ {W : Type 0} (put_may : W → Bor (List ℕ) → (W × Bool) → Type 0) (flush_may : W → (W × Bool) → Type 0) where
  may_flush : (steps : List WireStep) (failed now : Bool) (w end : W) → Chain put_may (λ w r. ⊥) steps failed now w end
      → Chain put_may flush_may steps failed now w end
  may_flush [] failed now w end chain = chain
  may_flush (puts x ∷ steps) true now w end chain = may_flush steps true now w end chain
  may_flush (flushes ∷ steps) true now w end chain = may_flush steps true now w end chain
  may_flush (puts x ∷ steps) false now w end chain =
      (chain.0, chain.1, chain.2, chain.3, may_flush steps chain.0.1 now chain.0.0 end chain.4)
  may_flush (flushes ∷ steps) false now w end chain = absurd chain.1

  pub flushed : (failed between now : Bool) (text : List ℕ) (w v end : W)
      → Sends put_may (λ w r. ⊥) failed between text w v → Flushes flush_may between now v end
      → Sends put_may flush_may failed now text w end
  flushed failed between now text w v end sends flush =
      let put : Sends put_may flush_may failed between text w v = record {
        steps = sends.steps;
        whole = sends.whole;
        short = sends.short;
        chain = may_flush sends.steps failed between w v sends.chain;
      } in
      sends-same put_may flush_may failed now (text ++ []) text w end (append-nil text)
      (sends-on put_may flush_may failed between now text [] w v end put
      (sends-flush put_may flush_may between now v end flush))
