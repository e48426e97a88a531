-- How sendings are put together.
use Rattle.std.proofs.Common.{◌≡◌, ℕ, ◌<◌, ◌≤◌, Bool, true, false, List, [], ◌∷◌, ◌++◌, length, refl, ap, sym, ◌∙◌}
use Rattle.std.proofs.Common.{subst, append_assoc, append-nil}
use Rattle.std.specs.Borrow.{Bor}
use Rattle.view_sums.proofs.Eachs.{each-append}
use Rattle.any_wire.specs.Sends.{WireStep, puts, flushes, step_bytes, steps_bytes, IsShortPut, Chain, Puts, Flushes}
use Rattle.any_wire.specs.Sends.{Sends}

joined-append : (xs ys : List WireStep) → steps_bytes (xs ++ ys) ≡ steps_bytes xs ++ steps_bytes ys
joined-append [] ys = refl
joined-append (x ∷ xs) ys =
    ap (λ t. step_bytes x ++ t) (joined-append xs ys)
    ∙ sym (append_assoc (step_bytes x) (steps_bytes xs) (steps_bytes ys))

module _ {W : Type 0} (put_may : W → Bor (List ℕ) → (W × Bool) → Type 0) (flush_may : W → (W × Bool) → Type 0) where
  pub chain-on : (xs ys : List WireStep) (failed between now : Bool) (w v end : W)
      → Chain put_may flush_may xs failed between w v
      → Chain put_may flush_may ys between now v end → Chain put_may flush_may (xs ++ ys) failed now w end
  chain-on [] ys failed between now w v end a b =
      subst (λ f. Chain put_may flush_may ys f now w end) a.1
      (subst (λ u. Chain put_may flush_may ys between now u end) a.0 b)
  chain-on (puts x ∷ xs) ys true between now w v end a b = chain-on xs ys true between now w v end a b
  chain-on (flushes ∷ xs) ys true between now w v end a b = chain-on xs ys true between now w v end a b
  chain-on (puts x ∷ xs) ys false between now w v end a b =
      (a.0, a.1, a.2, a.3, chain-on xs ys a.0.1 between now a.0.0 v end a.4 b)
  chain-on (flushes ∷ xs) ys false between now w v end a b =
      (a.0, a.1, chain-on xs ys a.0.1 between now a.0.0 v end a.2 b)

  pub sends-none : (failed : Bool) (w : W) → Sends put_may flush_may failed failed [] w w
  sends-none failed w = record { steps = []; whole = refl; short = tt; chain = (refl, refl) }

  pub sends-on : (failed between now : Bool) (first more : List ℕ) (w v end : W)
      → Sends put_may flush_may failed between first w v
      → Sends put_may flush_may between now more v end → Sends put_may flush_may failed now (first ++ more) w end
  sends-on failed between now first more w v end a b = record {
    steps = a.steps ++ b.steps;
    whole = (λ i. a.whole i ++ b.whole i) ∙ sym (joined-append a.steps b.steps);
    short = each-append IsShortPut a.steps b.steps a.short b.short;
    chain = chain-on a.steps b.steps failed between now w v end a.chain b.chain;
  }

  pub sends-same : (failed now : Bool) (text other : List ℕ) (w end : W) → text ≡ other
      → Sends put_may flush_may failed now text w end → Sends put_may flush_may failed now other w end
  sends-same failed now text other w end is s = subst (λ t. Sends put_may flush_may failed now t w end) is s

  pub sends-put : (failed now : Bool) (piece : List ℕ) (w end : W) → (0 < length piece) × (length piece ≤ 512)
      → Puts put_may failed now piece w end → Sends put_may flush_may failed now piece w end
  sends-put true now piece w end short put = record {
    steps = puts piece ∷ [];
    whole = sym (append-nil piece);
    short = (short, tt);
    chain = put;
  }
  sends-put false now piece w end short put = record {
    steps = puts piece ∷ [];
    whole = sym (append-nil piece);
    short = (short, tt);
    chain = ((end, now), put.0, put.1, put.2, (refl, refl));
  }

  pub sends-flush : (failed now : Bool) (w end : W) → Flushes flush_may failed now w end
      → Sends put_may flush_may failed now [] w end
  sends-flush true now w end flush = record { steps = flushes ∷ []; whole = refl; short = (tt, tt); chain = flush }
  sends-flush false now w end flush = record {
    steps = flushes ∷ [];
    whole = refl;
    short = (tt, tt);
    chain = ((end, now), flush, (refl, refl));
  }
