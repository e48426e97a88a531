-- The replies that wait to be reaped, and what is free beside them.
use Rattle.std.specs.Prelude.{ℕ, ◌+◌, ◌-◌, ◌≤◌, ◌==◌, Bool, not, List, length, drop, filter}
use Rattle.std.specs.List.{list_any}
use Rattle.atomic_table.specs.Seated.{TableId}
use Rattle.view_sums.specs.Total.{total}
use Rattle.reply_layout.specs.declared.need.Need.{Need}
use Rattle.reply_planner.specs.Parcels.{Sent}
use Rattle.tx_ring.specs.Shown.{ring_size}
use Rattle.session_pass.specs.Views.{SessionView}

-- the replies that wait, once so many more are reaped
abbrev pub waiting : SessionView → ℕ → List Sent
waiting s behind = drop (length s.reaped + behind) s.posted

-- how many descriptors replies take
abbrev pub descriptors_of : List Sent → ℕ
descriptors_of replies = total (λ (reply : Sent). length reply.segments) replies

-- how many descriptors of a ring are free: its tail never meets its head
abbrev pub room_left : TableId → List Sent → ℕ
room_left ring waits = ring_size ring - 1 - descriptors_of waits

-- the buffer is one of the reply's staging buffers
abbrev pub is_staged_by : ℕ → Sent → Bool
is_staged_by buffer reply = list_any (λ staged. staged == buffer) reply.staged

-- the buffers of a stage that no waiting reply uses, in order
abbrev pub free_of : List ℕ → List Sent → List ℕ
free_of stage waits = filter (λ buffer. not (list_any (is_staged_by buffer) waits)) stage

-- beside the replies that wait, ring and stage have what is needed
pub record FitsBeside (ring : TableId) (stage : List ℕ) (waits : List Sent) (need : Need) : Type 0 where
  pub in_ring : need.descriptors ≤ room_left ring waits
  pub in_stage : need.stage ≤ length (free_of stage waits)
