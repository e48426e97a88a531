-- The looks of a claim that goes over the buffers of a class.
use Rattle.std.proofs.Common.{◌≡◌, ℕ, suc, ◌+◌, ◌<◌, List, [], ◌∷◌, ◌++◌, length, sym, refl, ap, ◌∙◌, subst}
use Rattle.std.proofs.Common.{append_assoc, append-nil, length-append, arith}
use Rattle.pinned_pool.specs.Moves.{lost}
use Rattle.pinned_pool.specs.Claims.{LooksFrom, Passed, looking}
use Rattle.pinned_pool.specs.declared.view.View.{View}

pub passed_none : (b : ℕ) (v : View) → Passed b 0 v v
passed_none b v = record {
  looks = [];
  from = tt;
  count = refl;
  seat = ap (λ (ls : List (ℕ × ℕ)). record v { looks = ls }) (sym (append-nil v.looks));
}

looks_more : (b found n : ℕ) (ls : List (ℕ × ℕ)) → LooksFrom b ls → length ls ≡ n → 0 < found
    → LooksFrom b (ls ++ (b + n, found) ∷ [])
looks_more b found n [] all len more = (omega arith, more, tt)
looks_more b found n (l ∷ ls) all len more = (
  all.0,
  all.1,
  subst (λ m. LooksFrom (suc b) (ls ++ (m, found) ∷ [])) (omega arith)
      (looks_more (suc b) found (length ls) ls all.2 refl more),
)

pub passed_more : (b n found : ℕ) (v u w : View) → Passed b n v u → 0 < found → w ≡ lost (b + n) found u
    → Passed b (n + 1) v w
passed_more b n found v u w p more e = record {
  looks = p.looks ++ (b + n, found) ∷ [];
  from = looks_more b found n p.looks p.from p.count more;
  count = length-append p.looks ((b + n, found) ∷ []) ∙ omega (arith, p.count);
  seat = e ∙ ap (lost (b + n) found) p.seat ∙ ap (λ (ls : List (ℕ × ℕ)). record v { looks = ls })
      (append_assoc v.looks p.looks ((b + n, found) ∷ []));
}

looks_then : (b : ℕ) (ks ls : List (ℕ × ℕ)) → LooksFrom b ks → LooksFrom (b + length ks) ls → LooksFrom b (ks ++ ls)
looks_then b [] ls first then = subst (λ n. LooksFrom n ls) (omega arith) then
looks_then b (k ∷ ks) ls first then =
    (first.0, first.1, looks_then (suc b) ks ls first.2 (subst (λ n. LooksFrom n ls) (omega arith) then))

-- some were found held, and then some more behind them
pub passed_then : (b n m : ℕ) (v u w : View) → Passed b n v u → Passed (b + n) m u w → Passed b (n + m) v w
passed_then b n m v u w p q = record {
  looks = p.looks ++ q.looks;
  from = looks_then b p.looks q.looks p.from (subst (λ c. LooksFrom (b + c) q.looks) (sym p.count) q.from);
  count = length-append p.looks q.looks ∙ omega (arith, p.count, q.count);
  seat = q.seat ∙ ap (looking q.looks) p.seat ∙ ap (λ (ls : List (ℕ × ℕ)). record v { looks = ls })
      (append_assoc v.looks p.looks q.looks);
}

pub passed_so : (b n m : ℕ) (v u w : View) → Passed b n v u → n ≡ m → w ≡ u → Passed b m v w
passed_so b n m v u w p same seat = subst (λ c. Passed b c v w) same (subst (Passed b n v) (sym seat) p)
