-- What comes of frames that a joiner takes one after another.
use Rattle.std.specs.Prelude.{◌≡◌, ◌⊎◌, ◌<◌, ◌-◌, ℕ, List, [], Some, None, IsSome, Ok, map, take, slice_get, ⊤}
use Rattle.std.specs.List.{AllByRecursion}
use Rattle.mtu_frames.specs.Frames.{MtuFrame}
use Rattle.mtu_frames.specs.Reading.{frame_read, refusal}
use Rattle.mtu_frames.specs.Joining.{Joining, Answers, Conflicts, IsLeastMissing, IsWhole}
use Rattle.mtu_frames.specs.Texts.{TookInTurn}
use Rattle.mtu_frames.specs.declared.joiner.Missing.{Missing}
use Rattle.mtu_frames.specs.declared.joiner.Taken.{Taken}
use Rattle.mtu_frames.specs.declared.error.BadFrame.{BadFrame as Refused}
use Rattle.mtu_frames.specs.declared.error.BadFrame.TheVariants as refusals
use Rattle.join_files.specs.declared.error.JoinError.{JoinError}
use Rattle.join_files.specs.declared.error.JoinError.TheVariants.{ReadFault, TooLarge, BadFrame, Memory}
use Rattle.join_files.specs.declared.error.JoinError.TheVariants as errors

-- a frame was taken, as new or again
pub record IsTakenAs (mtu calls : ℕ) (bytes : List ℕ) (old new : List MtuFrame) : Type 0 where
  pub fits : refusal mtu calls bytes ≡ None
  pub taken : Taken
  pub answers : Answers (frame_read bytes) (Ok taken) old new

-- each of these frames was taken in its turn, from none, and these are there
pub record TookAll (mtu calls : ℕ) (sent : List (List ℕ)) (frames : List MtuFrame) : Type 0 where
  pub fit : AllByRecursion (λ bytes. refusal mtu calls bytes ≡ None) sent
  pub took : TookInTurn (map frame_read sent) [] frames

-- a frame is refused, by itself or for one that was taken
abbrev pub IsRefusedBy : ℕ → ℕ → List MtuFrame → List ℕ → Type 0
IsRefusedBy mtu calls frames bytes = IsSome (refusal mtu calls bytes) ⊎ Conflicts frames (frame_read bytes)

-- the frame of this number, counted from 1, is the first that is refused
pub record IsFirstRefused (mtu calls : ℕ) (sent : List (List ℕ)) (number : ℕ) : Type 0 where
  pub counted : 0 < number
  pub bytes : List ℕ
  pub bytes_are : slice_get sent (number - 1) ≡ Some bytes
  pub frames : List MtuFrame
  pub taken : TookAll mtu calls (take (number - 1) sent) frames
  pub refused : IsRefusedBy mtu calls frames bytes

-- none is refused, and this is the least that is missing
pub record IsMissingOf (mtu calls : ℕ) (sent : List (List ℕ)) (missing : Missing) : Type 0 where
  pub frames : List MtuFrame
  pub taken : TookAll mtu calls sent frames
  pub least : IsLeastMissing frames calls missing

-- why frames are not put together; where memory was wanting this is free
abbrev pub WhyNotJoined : JoinError → ℕ → ℕ → List (List ℕ) → Type 0
WhyNotJoined ReadFault mtu calls sent = ⊥
WhyNotJoined TooLarge mtu calls sent = ⊥
WhyNotJoined (BadFrame number) mtu calls sent = IsFirstRefused mtu calls sent number
WhyNotJoined (errors.Missing call frame) mtu calls sent =
    IsMissingOf mtu calls sent (record { call = call; frame = frame })
WhyNotJoined Memory mtu calls sent = ⊤

-- the least frame that is not there
abbrev pub MissesBy : JoinError → List MtuFrame → ℕ → Type 0
MissesBy ReadFault frames calls = ⊥
MissesBy TooLarge frames calls = ⊥
MissesBy (BadFrame number) frames calls = ⊥
MissesBy (errors.Missing call frame) frames calls =
    IsLeastMissing frames calls (record { call = call; frame = frame })
MissesBy Memory frames calls = ⊥

-- what it is that the frame of this number is refused
abbrev pub error_of : Refused → ℕ → JoinError
error_of (refusals.BadLength len) number = BadFrame number
error_of (refusals.BadField byte) number = BadFrame number
error_of (refusals.BadIndex index count) number = BadFrame number
error_of (refusals.BadSize len) number = BadFrame number
error_of (refusals.BadCall call) number = BadFrame number
error_of (refusals.Conflict call index) number = BadFrame number
error_of refusals.Memory number = Memory

-- the same of one frame, of this number
abbrev pub IsRefusedAt : JoinError → ℕ → ℕ → ℕ → List MtuFrame → List ℕ → Type 0
IsRefusedAt ReadFault at mtu calls frames bytes = ⊥
IsRefusedAt TooLarge at mtu calls frames bytes = ⊥
IsRefusedAt (BadFrame number) at mtu calls frames bytes = (number ≡ at) × IsRefusedBy mtu calls frames bytes
IsRefusedAt (errors.Missing call frame) at mtu calls frames bytes = ⊥
IsRefusedAt Memory at mtu calls frames bytes = ⊤

-- none is refused and none is missing; the joiner has them
pub record IsJoinedOf (mtu calls : ℕ) (sent : List (List ℕ)) (joining : Joining) : Type 0 where
  pub calls_are : joining.calls ≡ calls
  pub taken : TookAll mtu calls sent joining.frames
  pub whole : IsWhole joining.frames calls
