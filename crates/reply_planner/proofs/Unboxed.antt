-- A plan whose lists are borrowed out of their box.
use Rattle.std.proofs.Common.{◌≡◌, ℕ, length, sym, ap, ◌∙◌, subst}
use Rattle.std.specs.Vec.{vec_capacity}
use Rattle.pin_core.specs.declared.sizes.Sizes.{Sizes}
use Rattle.pinned_pool.specs.declared.view.View.{View}
use Rattle.reply_planner.specs.Owned.{key_buffers}
use Rattle.reply_planner.specs.Planned.{Planned, terms, planned}
use Rattle.reply_planner.specs.Plans.{IsPlan, HasRoom}
use Rattle.reply_planner.specs.Told.{PlanTaken}
use Rattle.reply_planner.specs.declared.lists.Lists.{Lists}

module _ {N : Type 0} (descriptors threshold : ℕ) (t : PlanTaken) where
  -- its view, if these are its lists
  abbrev pub view_with : Lists N → Planned
  view_with l = planned (terms descriptors (key_buffers l.staged.items) threshold) t.taken t.begun

  pub seen_with : (l m : Lists N) (v : Planned) → l ≡ m → view_with m ≡ v → view_with l ≡ v
  seen_with l m v is seen = ap view_with is ∙ seen

  module _ (z : Sizes) (run paid : ℕ) (seat : View) where
    -- what its fields keep then
    abbrev pub Keeps : Lists N → Type 0
    Keeps l =
        IsPlan z (view_with l) l.text.items l.segments.items l.pins.items l.staged.items run paid seat
        × HasRoom descriptors (length l.staged.items) (vec_capacity l.text) (vec_capacity l.segments)
        (vec_capacity l.pins)

    pub kept_with : (l m : Lists N) → l ≡ m → Keeps m → Keeps l
    kept_with l m is kept = subst Keeps (sym is) kept
