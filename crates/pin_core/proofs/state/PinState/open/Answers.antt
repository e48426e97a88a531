use Rattle.std.proofs.Common.{ℕ, List, [], replicate, sym, ap, subst, ◌∙◌}
use Rattle.pin_core.specs.Sound.{IsSound}
use Rattle.pin_core.proofs.Steps.{opened_sound}
use Rattle.pin_core.specs.declared.holder.Holder.TheVariants.{Session}
use Rattle.pin_core.specs.declared.sizes.Sizes.{Sizes}
use Rattle.pin_core.proofs.state.PinState.open.Goals as goal

pub invariant_of-result : goal.invariant_of-result
invariant_of-result c =
    let z : Sizes = record { small = c.args.small; large = c.args.large; credits = c.args.credits } in
    rw (c.new.ensures.items, c.in_ok-credits.ensures) (
    let P : List ℕ → Type 0 =
    λ words. IsSound z (record { holds = []; words = words; credits = replicate c.args.credits (Session 0) }) in
    record {
      within = c.requires;
      sound = subst P (sym (c.in-Ok.ensures.items_if_clones_equal (λ y e. e)
          ∙ ap {B = List ℕ} (λ (n : ℕ). replicate n 0) c.word_count.ensures)) (opened_sound z (Session 0));
      short = tt;
    })
