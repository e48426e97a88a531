-- What a source gave, and that it was read to its end.
use Rattle.std.proofs.Common.{◌≡◌, ◌==◌, ◌<◌, ℕ, Bool, true, List, [], ◌++◌, length, take, arith, ap, sym, ◌∙◌}
use Rattle.std.proofs.Common.{append_assoc, append-nil, length-append}
use Rattle.flake_base.specs.Reads.{Gives}
use Rattle.check_files.specs.Whole.{GaveMore, IsPast}

module _ (old given new bytes room : List ℕ) (ended : Bool) (n : ℕ) (gave : given ≡ old ++ bytes)
    (gives : Gives given new ended n room) where
  pub more_given : (piece : List ℕ) → piece ≡ take n room → new ≡ old ++ (bytes ++ piece)
  more_given piece is = gives.bytes ∙ ap (λ g. g ++ take n room) gave ∙ append_assoc old bytes (take n room)
      ∙ ap (λ p. old ++ (bytes ++ p)) (sym is)

  -- a read that gave nothing more
  pub all_given : n ≡ 0 → new ≡ old ++ bytes
  all_given none = gives.bytes ∙ ap (λ k. given ++ take k room) none ∙ append-nil given ∙ gave

  pub at_end : n ≡ 0 → ended ≡ true
  at_end none = gives.end ∙ ap (λ k. k == 0) none

pub past_limit : (old new bytes : List ℕ) (limit : ℕ) → new ≡ old ++ bytes → limit < length bytes
    → IsPast limit old new
past_limit old new bytes limit gave above = omega (arith, above, ap length gave, length-append old bytes)

pub gave_nothing : (old new : List ℕ) → new ≡ old → GaveMore old new
gave_nothing old new same = ([], same ∙ sym (append-nil old))

pub gave_through : (old mid new : List ℕ) → GaveMore old mid → GaveMore mid new → GaveMore old new
gave_through old mid new first second = (
  first.0 ++ second.0,
  second.1 ∙ ap (λ m. m ++ second.0) first.1 ∙ append_assoc old first.0 second.0,
)
