-- Each worked dump computes, once it is known what an empty store has, and one with one key.
use Rattle.std.proofs.Common.{◌≡◌, ℕ, List, [], ◌∷◌, ◌++◌, length, map, codes, refl, sym, ◌∙◌, arith}
use Rattle.std.specs.Fmt.{digits}
use Rattle.std.specs.List.{AllByRecursion}
use Rattle.std.specs.FinMap as finite
use Rattle.std.specs.Ordering.{nat_cmp}
use Rattle.std.specs.Cmp.Lexicographic.{slice_cmp}
use Rattle.std.proofs.lemmas.Cmp.{nat_list_cmp_total}
use Rattle.flake_model.specs.Command.{command_of}
use Rattle.dump_model.specs.Dump.{Pair, pairs_in, pairs_text, dumped}
use Rattle.dump_model.specs.Worked.{dump_table, long_value}

no_pairs : (pairs : List Pair) → length pairs ≡ 0 → pairs ≡ []
no_pairs [] none = refl
no_pairs (pair ∷ pairs) none = absurd (omega (arith, none))

none : pairs_in finite.empty ≡ []
none = no_pairs (pairs_in finite.empty) (sym (finite.len-entries finite.empty) ∙ finite.len-empty _ _)

one : (key value : List ℕ) → pairs_in (finite.insert finite.empty key value) ≡ (key, value) ∷ []
one key value =
    finite.entries-insert nat_list_cmp_total finite.empty key value
    ∙ (λ i. finite.put (slice_cmp nat_cmp) key value (none i))

pub table_is : AllByRecursion (λ row.
    dumped (map command_of row.requests ∷ []) row.journal row.points ≡ row.sent) dump_table
unfolding digits
table_is = (
  (λ i. pairs_text (none i ++ (none i ++ (none i ++ (none i ++ (one (codes "a") (codes "1") i
      ++ (one (codes "b") (codes "2") i ++ (none i ++ (none i ++ []))))))))),
  (
    (λ i. pairs_text (none i ++ (none i ++ (one (codes "k") long_value i
        ++ (none i ++ (none i ++ (none i ++ (none i ++ (none i ++ []))))))))),
    tt,
  ),
)
