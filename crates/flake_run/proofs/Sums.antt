-- Sums of counts and of replies, one after another.
use Rattle.std.proofs.Common.{◌≡◌, ◌<◌, ◌≤◌, ℕ, ◌+◌, List, [], ◌∷◌, length, take, get_or, arith, ap, ◌∙◌}
use Rattle.std.proofs.lemmas.List.{take_all, take_more}
use Rattle.view_sums.proofs.Sums.{total-append}
use Rattle.serve_inputs.specs.Whole.{raised}
use Rattle.flake_base.specs.declared.session.SessionEnd.{SessionEnd}
use Rattle.flake_run.specs.Generated.{replies_in, sum_of}

pub sum_step : (counts : List ℕ) (k d bytes next : ℕ) → bytes ≡ raised 0 (sum_of (take k counts))
    → next ≡ raised bytes (get_or counts k d) → k < length counts
    → next ≡ raised 0 (sum_of (take (k + 1) counts))
sum_step counts k d bytes next before is within =
    omega (
      arith,
      is,
      before,
      ap sum_of (take_more counts k d within),
      total-append (λ (count : ℕ). count) (take k counts) (get_or counts k d ∷ []),
    )

pub sum_all : (counts : List ℕ) (k bytes : ℕ) → bytes ≡ raised 0 (sum_of (take k counts)) → length counts ≤ k
    → bytes ≡ raised 0 (sum_of counts)
sum_all counts k bytes before past = before ∙ ap (λ cs. raised 0 (sum_of cs)) (take_all k counts past)

pub replies_step : (ends : List SessionEnd) (k : ℕ) (d : SessionEnd) (replies next : ℕ)
    → replies ≡ replies_in (take k ends) → next ≡ replies + (get_or ends k d).replies → k < length ends
    → next ≡ replies_in (take (k + 1) ends)
replies_step ends k d replies next before is within =
    omega (
      arith,
      is,
      before,
      ap replies_in (take_more ends k d within),
      total-append (λ (end : SessionEnd). end.replies) (take k ends) (get_or ends k d ∷ []),
    )

pub replies_all : (ends : List SessionEnd) (k replies : ℕ) → replies ≡ replies_in (take k ends) → length ends ≤ k
    → replies ≡ replies_in ends
replies_all ends k replies before past = before ∙ ap replies_in (take_all k ends past)
