use Rattle.std.proofs.Common.{sym, ◌≡◌, ℕ, ◌+◌, ◌*◌, List, replicate, subst, ap, ◌∙◌, [], ◌∷◌, arith}
use Rattle.std.proofs.lemmas.Grind.{common_steps}
use Rattle.pin_core.specs.declared.sizes.Sizes.{Sizes}
use Rattle.pinned_pool.specs.Views.{opener}
use Rattle.pinned_pool.specs.Rule.{table_words, IsSoundTable}
use Rattle.pinned_pool.proofs.Keeps.{begins}
use Rattle.pinned_pool.proofs.blank.PoolBlank.open.Goals as goal

pub of_words-requires : goal.of_words-requires
of_words-requires c =
    let z : Sizes = record { small = c.args.small; large = c.args.large; credits = c.args.credits } in
    let e : c.as_slice.result.now ≡ replicate (c.args.small + c.args.large + 64 * c.args.small + 512 * c.args.large) 0 =
    grind (arith, common_steps) in
    let count : c.args.small + c.args.large + 64 * c.args.small + 512 * c.args.large ≡ table_words z = omega arith in
    subst (λ (ws : List ℕ). IsSoundTable z ws (opener c.args.credits ∷ []))
    (sym (e ∙ ap (λ (n : ℕ). replicate n 0) count)) (begins z c.requires.some.1 c.requires.within.few_credits)
