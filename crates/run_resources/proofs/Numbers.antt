-- The sessions' numbers.
use Rattle.std.proofs.Common.{◌≡◌, ℕ, ◌+◌, List, [], ◌∷◌, All, map, length, refl, ap, sym, ◌∙◌, subst}
use Rattle.std.specs.List.{range_with_len}
use Rattle.std.proofs.lemmas.List.{length-map}
use Rattle.std.proofs.lemmas.List.Elements.{All-nil, All-cons, All-head, All-tail, All-map}
use Rattle.std.proofs.lemmas.List.FromFn.{length-range_with_len}
use Rattle.pin_core.specs.declared.sizes.Sizes.{Sizes}
use Rattle.order_book.specs.Pages.{SessionList, new_session, new_sessions}
use Rattle.command_exec.specs.Passes.{PassView}
use Rattle.run_resources.specs.Opened.{IsNewPass}
use Rattle.run_resources.specs.Passing.{IsNewList}

pub new_count : (lists : List SessionList) (n : ℕ) → lists ≡ new_sessions n → length lists ≡ n
new_count lists n is =
    ap length is ∙ length-map (range_with_len 0 n) new_session ∙ length-range_with_len 0 n

pub all_new : (lists : List SessionList) (n : ℕ) → lists ≡ new_sessions n → All IsNewList lists
all_new lists n is =
    subst (All IsNewList) (sym is) (All-map IsNewList new_session (range_with_len 0 n) (λ k d near. refl))

numbers_back : (ns : List ℕ) → map (λ (l : SessionList). l.number) (map new_session ns) ≡ ns
numbers_back [] = refl
numbers_back (n ∷ ns) = ap (λ (more : List ℕ). n ∷ more) (numbers_back ns)

numbers_by : (passes : List PassView)
    → map (λ (p : PassView). p.list.number) passes
    ≡ map (λ (l : SessionList). l.number) (map (λ (p : PassView). p.list) passes)
numbers_by [] = refl
numbers_by (p ∷ passes) = ap (λ (more : List ℕ). p.list.number ∷ more) (numbers_by passes)

pub pass_numbers : (lists : List SessionList) (passes : List PassView) (n : ℕ) → lists ≡ new_sessions n
    → map (λ (p : PassView). p.list) passes ≡ lists
    → map (λ (p : PassView). p.list.number) passes ≡ range_with_len 0 n
pass_numbers lists passes n new same =
    numbers_by passes ∙ ap (map (λ (l : SessionList). l.number)) (same ∙ new) ∙ numbers_back (range_with_len 0 n)

pub numbers_on : (passes rest : List PassView) (pass : PassView) (n : ℕ) → passes ≡ pass ∷ rest
    → map (λ (p : PassView). p.list.number) passes ≡ range_with_len n (length passes)
    → map (λ (p : PassView). p.list.number) rest ≡ range_with_len (n + 1) (length rest)
numbers_on passes rest pass n split is =
    let own : map (λ (p : PassView). p.list.number) (pass ∷ rest) ≡ range_with_len n (length (pass ∷ rest)) =
    subst (λ (l : List PassView). map (λ (p : PassView). p.list.number) l ≡ range_with_len n (length l)) split is in
    cc

module _ {K : Type 0} where
  of_passes : (slots : List K) (own : K → PassView)
      → map (λ (k : K). (own k).list.number) slots ≡ map (λ (p : PassView). p.list.number)
      (map own slots)
  of_passes [] own = refl
  of_passes (k ∷ slots) own = ap (λ (more : List ℕ). (own k).list.number ∷ more) (of_passes slots own)

  pub slot_numbers : (slots : List K) (own : K → PassView) (passes : List PassView) (n : ℕ)
      → map own slots ≡ passes
      → map (λ (p : PassView). p.list.number) passes ≡ range_with_len 0 n
      → map (λ (k : K). (own k).list.number) slots ≡ range_with_len 0 n
  slot_numbers slots own passes n same is =
      of_passes slots own ∙ ap (map (λ (p : PassView). p.list.number)) same ∙ is

  thresholds_in : (z : Sizes) (threshold : ℕ) (slots : List K) (own : K → PassView)
      → All (λ (p : PassView). IsNewPass z p × (p.threshold ≡ threshold)) (map own slots)
      → All (λ (k : K). (own k).threshold ≡ threshold) slots
  thresholds_in z threshold [] own all = All-nil (λ (k : K). (own k).threshold ≡ threshold)
  thresholds_in z threshold (k ∷ slots) own all =
      let fits : PassView → Type 0 = λ p. IsNewPass z p × (p.threshold ≡ threshold) in
      All-cons (λ (k : K). (own k).threshold ≡ threshold) k slots
      (All-head fits (own k) (map own slots) all).1
      (thresholds_in z threshold slots own (All-tail fits (own k) (map own slots) all))

  pub thresholds : (z : Sizes) (threshold : ℕ) (slots : List K) (own : K → PassView) (passes : List PassView)
      → map own slots ≡ passes → All (λ (p : PassView). IsNewPass z p × (p.threshold ≡ threshold)) passes
      → All (λ (k : K). (own k).threshold ≡ threshold) slots
  thresholds z threshold slots own passes same all =
      thresholds_in z threshold slots own
      (subst (All (λ (p : PassView). IsNewPass z p × (p.threshold ≡ threshold))) (sym same) all)
