-- Where a session stands between two lines, and what is free then.
use Rattle.std.specs.Prelude.{ℕ, ◌+◌, ◌-◌, ◌<◌, ◌≤◌, Bool, false, not, ◌==◌, List, [], length, drop}
use Rattle.std.specs.List.{filter, list_any}
use Rattle.view_sums.specs.Total.{total}
use Rattle.reply_layout.specs.declared.need.Need.{Need}
use Rattle.reply_layout.specs.Frames.{Frame}
use Rattle.transcript_model.specs.Terms.{Terms}

-- the frames that were posted, of which the first so many were gathered and reaped; and whether the session's end was
-- said
pub record Standing : Type 0 where
  pub frames : List Frame
  pub gathered : ℕ
  pub reaped : ℕ
  pub ended : Bool

abbrev pub at_first : Standing
at_first = record { frames = []; gathered = 0; reaped = 0; ended = false }

-- the frames that wait once so many are reaped
abbrev pub frames_waiting : Standing → ℕ → List Frame
frames_waiting standing reaped = drop reaped standing.frames

-- how many descriptors of a ring are free beside waiting frames: its tail never meets its head
abbrev pub ring_room : ℕ → List Frame → ℕ
ring_room ring waits = ring - 1 - total (λ (frame : Frame). length frame.segments) waits

-- the frame has the staging buffer at an address
abbrev pub has_lent : ℕ → Frame → Bool
has_lent address frame = list_any (λ lent. lent == address) frame.lent

-- the staging buffers that no waiting frame has, in ascending order as they stand in the stage
abbrev pub free : List ℕ → List Frame → List ℕ
free stage waits = filter (λ address. not (list_any (has_lent address) waits)) stage

pub record FitsStanding (ring : ℕ) (stage : List ℕ) (waits : List Frame) (need : Need) : Type 0 where
  pub in_ring : need.descriptors ≤ ring_room ring waits
  pub in_stage : need.stage ≤ length (free stage waits)

-- a call reaps the least number of gathered frames behind which its need is there
pub record IsLeast (terms : Terms) (standing : Standing) (need : Need) (n : ℕ) : Type 0 where
  pub gathered : standing.reaped + n ≤ standing.gathered
  pub fits : FitsStanding terms.ring terms.stage (frames_waiting standing (standing.reaped + n)) need
  pub least : (fewer : ℕ) → fewer < n
      → FitsStanding terms.ring terms.stage (frames_waiting standing (standing.reaped + fewer)) need → ⊥
