-- The journal pins a hold for the answer, and none came back.
use Rattle.std.proofs.Common.{◌≡◌, ℕ, ◌+◌, true, List, [], ◌∷◌, Option, Some, codes, pos, refl, ap, arith}
use Rattle.std.specs.Cmp.Lexicographic.{slice_cmp}
use Rattle.std.specs.FinMap as finite
use Rattle.std.specs.Ordering.{nat_cmp}
use Rattle.std.proofs.lemmas.Cmp.{nat_list_cmp_total}
use Rattle.flake_model.specs.Store as part
use Rattle.flake_model.specs.Store.{Operation, answer_on, first_on}
use Rattle.shard_core.specs.CallDemand.{pins_by}
use Rattle.serve_model.specs.Shown.{pins_found}
use Rattle.serve_model.specs.Copied.{asking_session, asking_journal, asks_all, asks_one, asks_old, CopiedIsNone}

-- what the SET leaves at the key
left : finite.get {R = slice_cmp nat_cmp} (finite.insert finite.empty (codes "k") (codes "xy")) (codes "k")
    ≡ Some (codes "xy")
left = finite.get-insert nat_list_cmp_total (finite.empty {X = List ℕ} {R = slice_cmp nat_cmp}) (codes "k")
    (codes "xy") (codes "k")

-- what the operation behind it pins, by what the key has
abbrev behind : Operation → Option (List ℕ) → ℕ
behind operation old = 0 + (pins_by 1 operation (answer_on old operation) (first_on old operation) + 0) + 0

all_pinned : (given : List ℕ) (taken : ℕ) → pins_found 1 (asking_session given taken asks_all ∷ []) asking_journal ≡ 1
all_pinned given taken = ap (behind (part.get (codes "k"))) left

one_pinned : (given : List ℕ) (taken : ℕ) → pins_found 1 (asking_session given taken asks_one ∷ []) asking_journal ≡ 1
one_pinned given taken = ap (behind (part.get_range (codes "k") (pos 1) (pos 1))) left

old_pinned : (given : List ℕ) (taken : ℕ) → pins_found 1 (asking_session given taken asks_old ∷ []) asking_journal ≡ 1
old_pinned given taken = ap (behind (part.set part.if_missing true (codes "k") (codes "z"))) left

above : (given : List ℕ) (taken : ℕ) → pins_found 3 (asking_session given taken asks_all ∷ []) asking_journal ≡ 0
above given taken =
    ap
    (λ (old : Option (List ℕ)). 0 + (pins_by 3 (part.get (codes "k")) (answer_on old (part.get (codes "k"))) 0 + 0) + 0)
    left

pub copied_is_none : (given : List ℕ) (taken : ℕ) → CopiedIsNone given taken
copied_is_none given taken = record {
  not_all = λ z end none counted.
      let no : ⊥ = omega (arith, counted.returned, none, all_pinned given taken) in
      no;
  not_one = λ z end none counted.
      let no : ⊥ = omega (arith, counted.returned, none, one_pinned given taken) in
      no;
  not_old = λ z end none counted.
      let no : ⊥ = omega (arith, counted.returned, none, old_pinned given taken) in
      no;
  none_replaced = refl;
  two_pieces = refl;
  none_above = above given taken;
}
