-- A buffer that is filled from its first word on.
use Rattle.std.proofs.Common.{◌≡◌, ℕ, suc, ◌+◌, ◌/◌, ◌<◌, List, [], ◌∷◌, ◌++◌, length, take, sym, ap, ◌∙◌, append-nil}
use Rattle.std.proofs.Common.{append_assoc, length-append, arith}
use Rattle.pinned_pool.specs.Bytes.{bytes_of_words, put_all, PutsBytes}
use Rattle.pinned_pool.specs.declared.view.View.{View}
use Rattle.frag_value.specs.Filled.{Fills}
use Rattle.frag_value.proofs.Fronts.{after, put-after}

put_all-after : (b : ℕ) (ws xs : List ℕ) (v : View) → put_all b (length ws) xs (after b ws v) ≡ after b (ws ++ xs) v
put_all-after b ws [] v = ap (λ l. after b l v) (sym (append-nil ws))
put_all-after b ws (x ∷ xs) v =
    let one : suc (length ws) ≡ length (ws ++ x ∷ []) = omega (arith, length-append ws (x ∷ [])) in
    (λ i. put_all b (one i) xs (put-after b x ws v i)) ∙ put_all-after b (ws ++ x ∷ []) xs v
    ∙ ap (λ l. after b l v) (append_assoc ws (x ∷ []) xs)

pub filled : (b : ℕ) (bytes : List ℕ) (v w : View) → 0 < length bytes → PutsBytes b 0 bytes v w → Fills b bytes v w
filled b bytes v w some puts = of_words puts.words puts.count puts.begin puts.seat
  where
    of_words : (ws : List ℕ) → length ws ≡ (length bytes + 7) / 8 → take (length bytes) (bytes_of_words ws) ≡ bytes
        → w ≡ put_all b 0 ws v → Fills b bytes v w
    of_words [] count begin seat = absurd (omega arith)
    of_words (x ∷ ws) count begin seat = record {
      words = x ∷ ws;
      seat = seat ∙ put_all-after b [] (x ∷ ws) v;
      text = record { begin = begin; long = omega arith };
    }
