-- What lines are judged by, as a session and its device show it.
use Rattle.std.specs.Prelude.{◌≡◌, ℕ, Bool, List, ◌++◌, map, drop, length, ◌+◌}
use Rattle.flake_model.specs.Deed.{Deed}
use Rattle.pin_core.specs.declared.sizes.Sizes.{Sizes}
use Rattle.reply_layout.specs.Frames.{Frame}
use Rattle.reply_planner.specs.Parcels.{Sent}
use Rattle.command_exec.specs.Executed.{frame_shown}

pub record SessionShown : Type 0 where
  pub number : ℕ
  -- how many buffers of each class its pool has
  pub sizes : Sizes
  -- how many descriptors its ring has
  pub ring : ℕ
  pub threshold : ℕ
  -- the addresses of all its staging buffers
  pub stage : List ℕ
  pub posted : List Sent
  pub reaped : List Sent
  -- so many replies were completed when both ends of the ring were last at hand
  pub told : ℕ
  pub deeds : List Deed

pub record DeviceShown : Type 0 where
  pub completed : List Sent
  -- a put or a flush has failed
  pub failed : Bool
  -- so many replies were posted when both ends of the ring were last at hand
  pub told : ℕ

abbrev pub IsFront : {A : Type 0} → List A → List A → Type 0
IsFront xs ys = (rest : List _) × (ys ≡ xs ++ rest)

-- both ends at hand: reaped replies are a front of the completed ones, and these of the posted ones
pub record InOrder (session : SessionShown) (device : DeviceShown) : Type 0 where
  pub reaped : IsFront session.reaped device.completed
  pub completed : IsFront device.completed session.posted

-- the posted replies, as a standing has them
abbrev pub frames_shown : SessionShown → List Frame
frames_shown session = map (frame_shown session.sizes) session.posted

-- those that wait behind so many further reaps
abbrev pub waiting_behind : SessionShown → ℕ → List Frame
waiting_behind session n = drop (length session.reaped + n) (frames_shown session)
