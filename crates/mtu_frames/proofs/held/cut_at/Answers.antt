use Rattle.std.proofs.Common.{◌≡◌, Option, Some, None, refl, ap, ◌∙◌}
use Rattle.std.specs.Borrow.{Bor}
use Rattle.std.specs.Option.{option_map, option_copied}
use Rattle.mtu_frames.specs.Frames.{MtuFrame}
use Rattle.mtu_frames.specs.Held.{frame_with}
use Rattle.mtu_frames.specs.declared.held.Cut.{Cut}
use Rattle.mtu_frames.proofs.Lookups.{looked_up}
use Rattle.mtu_frames.proofs.held.cut_at.Goals as goal

through : (f : Cut → MtuFrame) (found : Option (Bor Cut))
    → option_map (λ (cut : Bor Cut). f cut.now) found ≡ option_map f (option_copied found)
through f None = refl
through f (Some cut) = refl

pub returns : goal.returns
returns c =
    let at = frame_with c.args.call c.args.index in
    through at c.get.result ∙ ap (option_map at) c.get.ensures.value
    ∙ looked_up c.args.held.now.entries c.args.call c.args.index
