-- Each step keeps the rule of a queue of jobs.
use Rattle.std.proofs.Common.{
  ◌≡◌,
  ◌≢◌,
  ℕ,
  zero,
  suc,
  ◌+◌,
  ◌<◌,
  ◌≤◌,
  List,
  [],
  ◌∷◌,
  ◌++◌,
  length,
  drop,
  set,
  get_or,
  sym,
  refl,
  ap,
  subst,
  ◌∙◌,
  ⊎_elim,
  arith,
  length-append,
}
use mathlib.Core.Option.{some, some-injective, some-ne-none}
use lib.ListN.{get_elem?}
use Rattle.std.proofs.lemmas.List.{length-drop, drop-append-le}
use Rattle.crossbeam_queue.specs.Fifo.{Pushes, Pops, Forks, Merges, Learns}
use Rattle.crossbeam_queue.proofs.Lists.{at_set, at_snoc}
use Rattle.view_sums.specs.Total.{total, same}
use Rattle.view_sums.proofs.Sums.{total-append, total-set, term-le, terms-le, total-alone}
use Rattle.work_queue.specs.declared.hand.Numbered.{Numbered}
use Rattle.work_queue.specs.declared.hand.Hand.{Hand}
use Rattle.work_queue.specs.declared.hand.Done.{Done}
use Rattle.work_queue.specs.Dealt.{
  times_listed,
  once_below,
  hand,
  opener,
  nobody,
  lender,
  lent,
  joined,
  numbered,
  IsAt,
  Dealt,
  puts,
  takes,
  AllTaken,
  Fits,
  Given,
}

pub times-append : (j : ℕ) (xs ys : List ℕ) → times_listed j (xs ++ ys) ≡ times_listed j xs + times_listed j ys
times-append j xs ys = total-append (same j) xs ys

module _ {T : Type 0} where
  abbrev parts_in : Hand T → ℕ
  parts_in v = v.parts

  abbrev times_in : ℕ → Hand T → ℕ
  times_in j v = times_listed j v.taken

  abbrev taken_in : Hand T → ℕ
  taken_in v = length v.taken

  numbered-append : (n : ℕ) (xs ys : List T) → numbered n (xs ++ ys) ≡ numbered n xs ++ numbered (n + length xs) ys
  numbered-append n [] ys = ap (λ k. numbered k ys) (let e : n ≡ n + 0 = omega arith in e)
  numbered-append n (x ∷ xs) ys =
      let behind : suc n + length xs ≡ n + suc (length xs) = omega arith in
      ap (λ t. record { number = n; job = x } ∷ t)
      (numbered-append (suc n) xs ys ∙ ap (λ k. numbered (suc n) xs ++ numbered k ys) behind)

  dropped-length : (n : ℕ) (xs : List T) → n ≤ length xs → n + length (drop n xs) ≡ length xs
  dropped-length n xs h = omega (arith, h, length-drop n xs)

  first-job : (x y : Numbered T) (xs ys : List (Numbered T)) → x ∷ xs ≡ y ∷ ys → (x ≡ y) × (xs ≡ ys)
  first-job x y xs ys e = (cc, cc)

  -- what stands at a place, where something is left from it on
  heads : (low n : ℕ) (xs : List T) (x : Numbered T) (items : List (Numbered T)) → x ∷ items ≡ numbered low (drop n xs)
      → (x.number ≡ low) × (n < length xs) × ((d : T) → get_or xs n d ≡ x.job)
      × (items ≡ numbered (suc low) (drop (suc n) xs))
  heads low zero [] x items e = absurd (cc)
  heads low (suc n) [] x items e = absurd (cc)
  heads low zero (y ∷ ys) x items e =
      let both = first-job x (record { number = low; job = y }) items (numbered (suc low) ys) e in
      let number : x.number ≡ low = ap (λ (z : Numbered T). z.number) both.0 in
      let job : x.job ≡ y = ap (λ (z : Numbered T). z.job) both.0 in
      (number, omega arith, (λ d. sym job), both.1)
  heads low (suc n) (y ∷ ys) x items e =
      let inner = heads low n ys x items e in (inner.0, omega (arith, inner.1), inner.2, inner.3)

  numbered-length : (n : ℕ) (xs : List T) → length (numbered n xs) ≡ length xs
  numbered-length n [] = refl
  numbered-length n (x ∷ xs) = ap suc (numbered-length (suc n) xs)

  first-alone : (pass : ℕ) (v : Hand T) → get_elem? (opener {T = T} ∷ []) pass ≡ some v → v ≡ opener
  first-alone zero v e = sym (some-injective opener v e)
  first-alone (suc k) v e = absurd (some-ne-none v (sym e))

  pub begins : Dealt {T = T} [] (opener ∷ [])
  begins = record {
    all = [];
    low = 0;
    within = omega arith;
    left = refl;
    whole = omega arith;
    dealt = λ j. omega arith;
    count = omega arith;
    knows = λ pass v e p. ap (λ (z : Hand T). z.all) (first-alone pass v e);
    idle = λ pass v e p. ap (λ (z : Hand T). z.taken) (first-alone pass v e);
  }

  -- where one pass has all parts, each other has none
  only-one : (items : List (Numbered T)) (views : List (Hand T)) (h : Dealt items views) (pass : ℕ) (v : Hand T)
      → get_elem? views pass ≡ some v → v.parts ≡ 1024
      → (k : ℕ) (u : Hand T) → k ≢ pass → get_elem? views k ≡ some u → u.parts ≡ 0
  only-one items views h pass v at whole k u apart there =
      omega (arith, h.whole, whole, terms-le parts_in views pass k v u apart at there)

  -- a fact of each pass, where one of them changed
  each-set : (F : ℕ → Hand T → Type 0) (views : List (Hand T)) (pass : ℕ) (w : Hand T) → F pass w
      → ((k : ℕ) (u : Hand T) → k ≢ pass → get_elem? views k ≡ some u → F k u)
      → (k : ℕ) (u : Hand T) → get_elem? (set views pass w) k ≡ some u → F k u
  each-set F views pass w mine others k u e = ⊎_elim
      (λ (z : (k ≡ pass) × (w ≡ u)). subst (λ (y : ℕ × Hand T). F y.0 y.1) (λ i. (sym z.0 i, z.1 i)) mine)
      (λ (z : (k ≢ pass) × (get_elem? views k ≡ some u)). others k u z.0 z.1)
      (at_set views pass k w u e)

  -- the jobs that are left, once one more was pushed
  left-pushed : (all : List T) (low : ℕ) (items : List (Numbered T)) (x : Numbered T) → low ≤ length all
      → x.number ≡ length all → items ≡ numbered low (drop low all)
      → items ++ x ∷ [] ≡ numbered low (drop low (all ++ x.job ∷ []))
  left-pushed all low items x within next left =
      let rest = drop low all in
      let number : x.number ≡ low + length rest = next ∙ sym (dropped-length low all within) in
      ap (λ t. t ++ x ∷ []) left
      ∙ ap (λ k. numbered low rest ++ record { number = k; job = x.job } ∷ []) number
      ∙ sym (numbered-append low rest (x.job ∷ []))
      ∙ ap (numbered low) (sym (drop-append-le low all (x.job ∷ []) within))

  pub pushes : (n pass : ℕ) (v : Hand T) (x : Numbered T) → v.parts ≡ 1024 → x.number ≡ length v.all
      → Pushes (Dealt {T = T}) n pass v x (puts v x)
  pushes n pass v x whole next items views room h at =
      let w : Hand T = hand v.parts (v.all ++ x.job ∷ []) v.taken in
      let sums : (weight : Hand T → ℕ) → total weight (set views pass w) + weight v ≡ total weight views + weight w =
      λ weight. total-set weight views pass v w at in
      let alike : v.all ≡ h.all = h.knows pass v at (omega (arith, whole)) in (
        w,
        record {
          all = h.all ++ x.job ∷ [];
          low = h.low;
          within = omega (arith, h.within, length-append h.all (x.job ∷ []));
          left = left-pushed h.all h.low items x h.within (next ∙ ap length alike) h.left;
          whole = omega (arith, h.whole, sums parts_in);
          dealt = λ j. omega (arith, h.dealt j, sums (times_in j));
          count = omega (arith, h.count, sums taken_in);
          knows = each-set (λ k u. 0 < u.parts → u.all ≡ h.all ++ x.job ∷ []) views pass w
              (λ p. ap (λ t. t ++ x.job ∷ []) alike)
              (λ k u apart there part.
              let none = only-one items views h pass v at whole k u apart there in absurd (omega (arith, none, part)));
          idle = each-set (λ k u. u.parts ≡ 0 → u.taken ≡ []) views pass w
              (λ none. absurd (omega (arith, whole, none)))
              (λ k u apart there. h.idle k u there);
        },
        refl,
      )

  pub pops : (pass : ℕ) (v : Hand T) → 0 < v.parts → Pops (Dealt {T = T}) pass v (takes v)
  pops pass v some_part x items views h at =
      let w : Hand T = hand v.parts v.all (v.taken ++ x.number ∷ []) in
      let sums : (weight : Hand T → ℕ) → total weight (set views pass w) + weight v ≡ total weight views + weight w =
      λ weight. total-set weight views pass v w at in
      let alike : v.all ≡ h.all = h.knows pass v at some_part in
      let head = heads h.low h.low h.all x items h.left in
      let number : (j : ℕ) → times_listed j (x.number ∷ []) ≡ times_listed j (h.low ∷ []) =
      λ j. ap (λ k. times_listed j (k ∷ [])) head.0 in (
        w,
        record {
          all = h.all;
          low = suc h.low;
          within = omega (arith, head.1);
          left = head.3;
          whole = omega (arith, h.whole, sums parts_in);
          dealt = λ j. omega (arith, h.dealt j, sums (times_in j), times-append j v.taken (x.number ∷ []), number j);
          count = omega (arith, h.count, sums taken_in, length-append v.taken (x.number ∷ []));
          knows = each-set (λ k u. 0 < u.parts → u.all ≡ h.all) views pass w
              (λ p. alike)
              (λ k u apart there. h.knows k u there);
          idle = each-set (λ k u. u.parts ≡ 0 → u.taken ≡ []) views pass w
              (λ none. absurd (omega (arith, some_part, none)))
              (λ k u apart there. h.idle k u there);
        },
        (
          refl,
          (
            omega (arith, head.0, head.1, ap length alike),
            (λ d. ap (λ t. get_or t x.number d) alike ∙ ap (λ k. get_or h.all k d) head.0 ∙ head.2 d),
          ),
          omega (arith, term-le taken_in views pass v at, h.count, head.1, ap length alike),
        ),
      )

  -- as many are left as were not taken
  left-length : (items : List (Numbered T)) (views : List (Hand T)) (h : Dealt items views)
      → h.low + length items ≡ length h.all
  left-length items views h =
      omega (arith, dropped-length h.low h.all h.within, numbered-length h.low (drop h.low h.all), ap length h.left)

  pub learns : (pass : ℕ) (v : Hand T) → Learns (Dealt {T = T}) pass v (AllTaken v)
  learns pass v items views h at whole none j =
      let alike : v.all ≡ h.all = h.knows pass v at (omega (arith, whole)) in
      let others : (k : ℕ) (u : Hand T) → k ≢ pass → get_elem? views k ≡ some u → times_in j u ≡ 0 =
      λ k u apart there. ap (times_listed j) (h.idle k u there (only-one items views h pass v at whole k u apart there))
      in
      let low : h.low ≡ length v.all = omega (arith, left-length items views h, ap length none, ap length alike) in
      sym (total-alone (times_in j) views pass v at others) ∙ h.dealt j ∙ ap (once_below j) low

  pub fits : (pass : ℕ) (v : Hand T) → Learns (Dealt {T = T}) pass v (Fits v)
  fits pass v items views h at some_part =
      omega (arith, left-length items views h, ap length (h.knows pass v at some_part))

  pub forks : (pass : ℕ) (v : Hand T) → 1 < v.parts → Forks (Dealt {T = T}) pass v (lender v) (lent v)
  forks pass v parts items views h at =
      let l : Hand T = lender v in
      let r : Hand T = lent v in
      let vs : List (Hand T) = set views pass l in
      let sums : (weight : Hand T → ℕ)
      → total weight (vs ++ r ∷ []) + weight v ≡ total weight views + (weight l + weight r) =
      λ weight. omega (arith, total-set weight views pass v l at, total-append weight vs (r ∷ [])) in
      let alike : v.all ≡ h.all = h.knows pass v at (omega (arith, parts)) in
      let knows = each-set (λ k u. 0 < u.parts → u.all ≡ h.all) views pass l
      (λ p. alike)
      (λ k u apart there. h.knows k u there) in
      let idle = each-set (λ k u. u.parts ≡ 0 → u.taken ≡ []) views pass l
      (λ none. absurd (omega (arith, parts, none)))
      (λ k u apart there. h.idle k u there) in
      record {
        all = h.all;
        low = h.low;
        within = h.within;
        left = h.left;
        whole = omega (arith, h.whole, sums parts_in, parts);
        dealt = λ j. omega (arith, h.dealt j, sums (times_in j));
        count = omega (arith, h.count, sums taken_in);
        knows = λ k u e. ⊎_elim
            (λ z. knows k u z)
            (λ (is : r ≡ u) p. ap (λ (y : Hand T). y.all) (sym is) ∙ alike)
            (at_snoc vs r u k e);
        idle = λ k u e. ⊎_elim
            (λ z. idle k u z)
            (λ (is : r ≡ u) p. ap (λ (y : Hand T). y.taken) (sym is))
            (at_snoc vs r u k e);
      }

  pub merges : (pass : ℕ) (v : Hand T) (other : ℕ) (u : Hand T) → 0 < v.parts
      → Merges (Dealt {T = T}) pass v other u (joined v u) nobody
  merges pass v other u parts items views h at apart there =
      let b : Hand T = joined v u in
      let vs : List (Hand T) = set views pass b in
      let sums : (weight : Hand T → ℕ)
      → total weight (set vs other nobody) + weight u + weight v ≡ total weight views + weight b + weight nobody =
      λ weight. omega (arith, total-set weight views pass v b at, total-set weight vs other u nobody there) in
      let alike : v.all ≡ h.all = h.knows pass v at parts in
      let knows = each-set (λ k y. 0 < y.parts → y.all ≡ h.all) views pass b
      (λ p. alike)
      (λ k y away found. h.knows k y found) in
      let idle = each-set (λ k y. y.parts ≡ 0 → y.taken ≡ []) views pass b
      (λ none. absurd (omega (arith, parts, none)))
      (λ k y away found. h.idle k y found) in
      record {
        all = h.all;
        low = h.low;
        within = h.within;
        left = h.left;
        whole = omega (arith, h.whole, sums parts_in);
        dealt = λ j. omega (arith, h.dealt j, sums (times_in j), times-append j v.taken u.taken);
        count = omega (arith, h.count, sums taken_in, length-append v.taken u.taken);
        knows = each-set (λ k y. 0 < y.parts → y.all ≡ h.all) vs other nobody
            (λ p. absurd (omega (arith, p)))
            (λ k y away found. knows k y found);
        idle = each-set (λ k y. y.parts ≡ 0 → y.taken ≡ []) vs other nobody
            (λ p. refl)
            (λ k y away found. idle k y found);
      }

module _ {T X : Type 0} (gives : T → X → Type 0) (all : List T) where
  pub given-both : (ds es : List (Done X)) → Given gives all ds → Given gives all es → Given gives all (ds ++ es)
  given-both [] es a b = b
  given-both (d ∷ ds) es a b = (a.0, given-both ds es a.1 b)

  pub given-more : (ds : List (Done X)) (d : Done X) (x : T) → Given gives all ds → IsAt all d.number x
      → gives x d.result → Given gives all (ds ++ d ∷ [])
  given-more ds d x before at is = given-both ds (d ∷ []) before ((x, at, is), tt)
