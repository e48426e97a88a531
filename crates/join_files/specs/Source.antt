-- What a source of frames comes to.
use Rattle.std.specs.Prelude.{◌≡◌, ◌≤◌, ◌<◌, ℕ, Bool, true, List, length}
use Rattle.flake_base.specs.Causes.{Rose}
use Rattle.mtu_frames.specs.Joining.{Joining}
use Rattle.join_files.specs.Cutting.{file_frames}
use Rattle.join_files.specs.Joined.{IsJoinedOf, WhyNotJoined}
use Rattle.join_files.specs.declared.error.JoinError.{JoinError}
use Rattle.join_files.specs.declared.error.JoinError.TheVariants.{ReadFault, TooLarge, BadFrame, Missing, Memory}

-- how many bytes it may have
abbrev pub join_limit : ℕ
join_limit = 67_108_864

-- it was read to its end
pub record IsWithinLimit (given : List ℕ) (ended : Bool) : Type 0 where
  pub end : ended ≡ true
  pub within : length given ≤ join_limit

-- The source was read to its end, and the frames that it gave are put together.
pub record IsJoinerOf (mtu calls : ℕ) (given : List ℕ) (ended : Bool) (joining : Joining) : Type 0 where
  pub read : IsWithinLimit given ended
  pub joined : IsJoinedOf mtu calls (file_frames given) joining

-- Why they are not, and how often its reads had failed before and behind. Where memory was wanting the cause is free.
abbrev pub IsUnjoined : JoinError → ℕ → ℕ → List ℕ → Bool → ℕ → ℕ → Type 0
IsUnjoined ReadFault mtu calls given ended old new = Rose old new
IsUnjoined TooLarge mtu calls given ended old new = (join_limit < length given) × (new ≡ old)
IsUnjoined (BadFrame number) mtu calls given ended old new =
    IsWithinLimit given ended × WhyNotJoined (BadFrame number) mtu calls (file_frames given) × (new ≡ old)
IsUnjoined (Missing call frame) mtu calls given ended old new =
    IsWithinLimit given ended × WhyNotJoined (Missing call frame) mtu calls (file_frames given) × (new ≡ old)
IsUnjoined Memory mtu calls given ended old new = new ≡ old
