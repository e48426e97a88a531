-- Names, with one more.
use Rattle.std.proofs.Common.{◌≡◌, ◌≢◌, ℕ, suc, List, [], ◌∷◌, ◌++◌, Option, length, arith, refl, sym, ap}
use Rattle.check_files.specs.Named.{AreDistinct, AreOther, HaveTheirOwn}

pub others_split : (name last : List ℕ) (names : List (List ℕ)) → AreOther name (names ++ last ∷ [])
    → AreOther name names × (last ≢ name)
others_split name last [] all = (tt, all.0)
others_split name last (other ∷ names) all = let rest = others_split name last names all.1 in ((all.0, rest.0), rest.1)

pub distinct_split : (last : List ℕ) (names : List (List ℕ)) → AreDistinct (names ++ last ∷ []) → AreDistinct names
    × AreOther last names
distinct_split last [] all = (tt, tt)
distinct_split last (name ∷ names) all =
    let here = others_split name last names all.0 in
    let rest = distinct_split last names all.1 in
    ((here.0, rest.0), ((λ same. here.1 (sym same)), rest.1))

pub longer : (names : List (List ℕ)) (name : List ℕ) → length (names ++ name ∷ []) ≡ suc (length names)
longer [] name = refl
longer (other ∷ names) name = ap suc (longer names name)

-- the names in front of what comes behind these
pub onto : List (List ℕ) → List (List ℕ) → List (List ℕ)
onto [] before = before
onto (name ∷ names) before = onto names (name ∷ before)

pub others_onto : (name : List ℕ) (names before : List (List ℕ)) → AreOther name (onto names before)
    → AreOther name names × AreOther name before
unfolding onto
others_onto name [] before all = (tt, all)
others_onto name (other ∷ names) before all = let rest = others_onto name names (other ∷ before) all in
    ((rest.1.0, rest.0), rest.1.1)

pub own_more : (holds : List ℕ → Option (List ℕ)) (before names : List (List ℕ)) (name : List ℕ)
    (wholes : List (Option (List ℕ))) (whole : Option (List ℕ)) → length wholes ≡ length names
    → HaveTheirOwn holds before names wholes
    → (AreOther name (onto names before) → whole ≡ holds name) → HaveTheirOwn holds before (names ++ name ∷ [])
    (wholes ++ whole ∷ [])
unfolding onto
own_more holds before [] name [] whole same own one = (one, tt)
own_more holds before [] name (other ∷ wholes) whole same own one = absurd (cc same)
own_more holds before (first ∷ names) name [] whole same own one = absurd (cc same)
own_more holds before (first ∷ names) name (other ∷ wholes) whole same own one =
    (own.0, own_more holds (first ∷ before) names name wholes whole (omega (arith, same)) own.1 one)
