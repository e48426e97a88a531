use Rattle.std.proofs.Common.{◌≡◌, ◌+◌, ◌≤◌, [], ◌∷◌, ◌++◌, length, sym, ap, ◌∙◌, subst}
use Rattle.reply_planner.specs.Parcels.{Sent}
use Rattle.reply_planner.specs.Stages.{stage_size}
use Rattle.tx_ring.specs.Changes.{IsPosted, IsReaped}
use Rattle.tx_ring.specs.Rule.{blank_driver}
use Rattle.tx_ring.specs.declared.view.DriverView.{DriverView}
use Rattle.test_replies.proofs.replies.gather_replaced.Goals as goal

-- the only reply that was posted is the one that is reaped
only_one : (p f : Sent) (new once after : DriverView Sent) → new ≡ blank_driver → IsPosted p new once
    → IsReaped f once after → f ≡ p
only_one p f new once after blank posted reaped =
    let first : new.posted ≡ [] = ap (λ (d : DriverView Sent). d.posted) blank in
    let none : new.reaped ≡ [] = ap (λ (d : DriverView Sent). d.reaped) blank in
    let one : once.posted ≡ p ∷ [] = posted.posted ∙ ap (λ l. l ++ p ∷ []) first in
    let oldest : once.posted ≡ f ∷ reaped.more = reaped.oldest ∙ ap (λ l. l ++ f ∷ reaped.more)
    (posted.reaped ∙ none) in
    let same : p ∷ [] ≡ f ∷ reaped.more = sym one ∙ oldest in
    cc

pub give_back-lasts-requires-clause-room : goal.give_back-lasts-requires-clause-room
give_back-lasts-requires-clause-room g c =
    subst (λ (p : Sent). length c.args.replies.range.stage + length p.staged ≤ stage_size)
    (sym (only_one c.args.replies.range.parcel c.in-Some.parcel _ _ _ c.in-Ok.ensures.driver c.in-Ok-post.ensures.ok
    c.in-Some.ensures.found))
    c.args.replies.range.room
