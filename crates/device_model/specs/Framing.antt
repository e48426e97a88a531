-- A place in a reply's text, as a device reads it: a segment, and so many of its bytes.
use Rattle.std.specs.Prelude.{◌≡◌, ℕ, ◌<◌, List, drop, slice_get, Some}
use Rattle.flake_base.specs.declared.segment.Seg.{Seg}
use Rattle.pin_core.specs.declared.sizes.Sizes.{Sizes}
use Rattle.reply_layout.specs.Gathered.{read_all}
use Rattle.reply_planner.specs.Parcels.{Sent}
use Rattle.reply_planner.specs.Places.{reading}

-- the text from a place on
abbrev pub text_behind : Sizes → Sent → ℕ → ℕ → List ℕ
text_behind z reply segment offset = drop offset (read_all (reading z reply.holds) (drop segment reply.segments))

-- where there is such a segment, it has a byte behind the offset
abbrev pub IsInText : List Seg → ℕ → ℕ → Type 0
IsInText segments segment offset = (seg : Seg) → slice_get segments segment ≡ Some seg → offset < seg.len
