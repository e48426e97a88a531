-- The memory that a run of workers takes.
use Rattle.std.specs.Prelude.{◌≡◌, ℕ, ◌≤◌, [], All, None, replicate, vec_len, vec_capacity}
use Rattle.std.specs.Global.{Vec}
use Rattle.work_queue.specs.declared.hand.Done.{Done}
use Rattle.work_queue.specs.declared.room.Room.{Room}

-- an empty list with room for so many
abbrev pub IsRoomy : {X : Type 0} → ℕ → Vec (Done X) → Type 0
IsRoomy n done = (done.items ≡ []) × (n ≤ vec_capacity done)

-- room for so many workers who have n jobs in all
pub record HasWorkersRoom {T X : Type 0} (workers n : ℕ) (room : Room T X) : Type 0 where
  pub count : vec_len room.dones ≡ workers
  pub dones : All (IsRoomy n) room.dones.items
  pub worker_slots : (room.worker_slots.items ≡ []) × (workers ≤ vec_capacity room.worker_slots)
  pub rest : IsRoomy n room.rest
  pub slots : room.slots.items ≡ replicate n None
  pub results : (room.results.items ≡ []) × (n ≤ vec_capacity room.results)
