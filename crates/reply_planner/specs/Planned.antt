-- What contracts see of a plan, and what is left of its need.
use Rattle.std.specs.Prelude.{ℕ, ◌+◌, ◌-◌, ◌*◌, ◌/◌, List, min, nat_le, if◌then◌else◌, Option, None}
use Rattle.std.specs.Prelude.{Some, length}
use Rattle.view_sums.specs.Total.{total}
use Rattle.frag_value.specs.Taken.{PlacedRun, Extent, entire, ranged, Begun, TakenPiece, copied, whole}
use Rattle.reply_layout.specs.Layout.{placings_of, pinned_of, staging_limit}
use Rattle.reply_layout.specs.Gathered.{copied_text}
use Rattle.reply_planner.specs.Laid.{pieces_so_far}
use Rattle.reply_planner.specs.declared.terms.Terms.{Terms}

pub record Planned : Type 0 where
  pub base : Terms
  pub taken : List TakenPiece
  pub begun : Option Begun

abbrev pub terms : ℕ → List ℕ → ℕ → Terms
terms descriptors stage threshold = record { descriptors = descriptors; stage = stage; threshold = threshold }

abbrev pub planned : Terms → List TakenPiece → Option Begun → Planned
planned base taken begun = record { base = base; taken = taken; begun = begun }

-- the bytes of a run that is copied; 1 for a run that isn't, and for one that takes a credit
abbrev pub short_of : ℕ → PlacedRun → ℕ
short_of threshold f = if nat_le threshold (length f.bytes) then 0 else length f.bytes

abbrev pub long_of : ℕ → PlacedRun → ℕ
long_of threshold f = if nat_le threshold (length f.bytes) then 1 else 0

abbrev pub paid_of : ℕ → PlacedRun → ℕ
paid_of threshold f = if f.over then 0 else long_of threshold f

-- Of a value that is taken whole one short fragment and the line end may still come, of a range two short ones. At most
-- 16 runs stay.
abbrev pub copied_of_extent : Extent → ℕ
copied_of_extent entire = 513
copied_of_extent ranged = 1024

abbrev pub bytes_aside : ℕ → Option Begun → ℕ
bytes_aside threshold None = 0
bytes_aside threshold (Some b) = copied_of_extent b.extent - total (short_of threshold) b.frags

abbrev pub pins_aside : ℕ → Option Begun → ℕ
pins_aside threshold None = 0
pins_aside threshold (Some b) = 16 - total (long_of threshold) b.frags

-- how many values were taken or begun
abbrev pub one_value : TakenPiece → ℕ
one_value (copied bytes) = 0
one_value (whole b) = 1

abbrev pub one_begun : Option Begun → ℕ
one_begun None = 0
one_begun (Some b) = 1

abbrev pub values_in : Planned → ℕ
values_in p = total one_value p.taken + one_begun p.begun

-- how many bytes were copied, how many pieces stay
abbrev pub copied_in : Planned → ℕ
copied_in p = length (copied_text p.base.threshold (pieces_so_far p.taken p.begun))

abbrev pub pinned_in : Planned → ℕ
pinned_in p = pinned_of (placings_of p.base.threshold (pieces_so_far p.taken p.begun))

-- and how many of these took a credit
abbrev pub paid_by : ℕ → TakenPiece → ℕ
paid_by threshold (copied bytes) = 0
paid_by threshold (whole b) = total (paid_of threshold) b.frags

abbrev pub paid_begun : ℕ → Option Begun → ℕ
paid_begun threshold None = 0
paid_begun threshold (Some b) = total (paid_of threshold) b.frags

abbrev pub paid_in : Planned → ℕ
paid_in p = total (paid_by p.base.threshold) p.taken + paid_begun p.base.threshold p.begun

-- how many bytes may still be copied, and how many runs may stay
abbrev pub left_of : Planned → ℕ
left_of p = staging_limit * length p.base.stage - (copied_in p + bytes_aside p.base.threshold p.begun)

-- each value may begin one run of copied bytes more, and each staging buffer but the first cuts one
abbrev pub slots_of : Planned → ℕ
slots_of p =
    p.base.descriptors - (length p.base.stage + values_in p + pinned_in p + pins_aside p.base.threshold p.begun)

-- how many values more fit, each with 521 copied bytes, 16 runs that stay and one that is copied
abbrev pub room_of : Planned → ℕ
room_of p = min (left_of p / 521) (slots_of p / 17)

-- and how many ranges, each with 1,032 copied bytes
abbrev pub range_room_of : Planned → ℕ
range_room_of p = min (left_of p / 1032) (slots_of p / 17)
