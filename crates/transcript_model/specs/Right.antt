-- When a line is right: by where its session stood before it, and it leaves where the session stands then.
use Rattle.std.specs.Prelude.{◌≡◌, ℕ, ◌+◌, ◌<◌, ◌≤◌, Bool, true, false, List, [], ◌∷◌, ◌++◌, length, slice_get, Some, ⊤}
use Rattle.view_sums.specs.Total.{Each}
use Rattle.flake_base.specs.declared.segment.Seg.{Seg}
use Rattle.flake_base.specs.declared.session.End.{End}
use Rattle.flake_base.specs.declared.session.End.TheVariants.{Clean, Protocol, Truncated, TooLong, ReadFault, Memory}
use Rattle.flake_base.specs.declared.session.End.TheVariants.{Left}
use Rattle.flake_model.specs.Command.{Command}
use Rattle.reply_layout.specs.Frames.{Frame}
use Rattle.reply_layout.specs.Need.{need_of}
use Rattle.shard_core.specs.Parts.{IsInBuffer}
use Rattle.transcript_model.specs.Lines.{LineEvent, posted, ring_full, stage_full, at_end, sent, dropped}
use Rattle.transcript_model.specs.Lines.{nothing_posted}
use Rattle.transcript_model.specs.Lines.{reaped, nothing_reaped}
use Rattle.transcript_model.specs.Terms.{Terms}
use Rattle.transcript_model.specs.Standing.{Standing, frames_waiting, ring_room, free, IsLeast}
use Rattle.transcript_model.specs.Frames.{frame_of, stored_of}

-- whether it is known how the session's input ends
abbrev pub is_known : End → Bool
is_known Clean = true
is_known (Protocol kind place) = true
is_known (Truncated place) = true
is_known TooLong = true
is_known ReadFault = true
is_known Memory = true
is_known Left = false

-- a call that met want of memory may have reaped any number of gathered frames: they count at the first line that
-- says the end
abbrev pub MayHaveReaped : End → Bool → ℕ → Type 0
MayHaveReaped Memory false n = ⊤
MayHaveReaped end said n = n ≡ 0

module _ (terms : Terms) (before : Standing) where
  -- the next call was posted: behind the least number of reaps, laid out over what is free then
  pub record IsPosted (call freed : ℕ) (segments fragments : List Seg) (after : Standing) : Type 0 where
    pub command : Command
    pub next : call ≡ length before.frames
    pub asked : slice_get terms.commands call ≡ Some command
    pub least : IsLeast terms before (need_of command) freed
    pub segments_are : segments
        ≡ (frame_of terms (free terms.stage (frames_waiting before (before.reaped + freed))) call command).segments
    pub fragments_are : fragments ≡ stored_of terms call command
    pub buffers : Each (IsInBuffer terms.sizes) fragments
    pub leaves : after ≡ record before {
      frames = before.frames
          ++ frame_of terms (free terms.stage (frames_waiting before (before.reaped + freed))) call command ∷ [];
      reaped = before.reaped + freed;
    }

  -- all gathered frames were reaped, and the ring has less than the next call needs
  pub record IsRingFull (need_is room_is : ℕ) (after : Standing) : Type 0 where
    pub command : Command
    pub asked : slice_get terms.commands (length before.frames) ≡ Some command
    pub open_yet : before.ended ≡ false
    pub needs : need_is ≡ (need_of command).descriptors
    pub has : room_is ≡ ring_room terms.ring (frames_waiting before before.gathered)
    pub less : room_is < need_is
    pub leaves : after ≡ record before { reaped = before.gathered }

  -- the ring has enough, and the stage has less
  pub record IsStageFull (need_is free_is : ℕ) (after : Standing) : Type 0 where
    pub command : Command
    pub asked : slice_get terms.commands (length before.frames) ≡ Some command
    pub open_yet : before.ended ≡ false
    pub enough : (need_of command).descriptors ≤ ring_room terms.ring (frames_waiting before before.gathered)
    pub needs : need_is ≡ (need_of command).stage
    pub has : free_is ≡ length (free terms.stage (frames_waiting before before.gathered))
    pub less : free_is < need_is
    pub leaves : after ≡ record before { reaped = before.gathered }

  -- all calls that have a reply were posted, and the end is known
  pub record IsAtEnd (after : Standing) : Type 0 where
    pub freed : ℕ
    pub served : length before.frames ≡ terms.end.replies
    pub known : is_known terms.end.end ≡ true
    pub may : MayHaveReaped terms.end.end before.ended freed
    pub gathered : before.reaped + freed ≤ before.gathered
    pub leaves : after ≡ record before { reaped = before.reaped + freed; ended = true }

  -- the first frame that wasn't gathered, with the length of its text
  pub record IsGathered (call bytes : ℕ) (after : Standing) : Type 0 where
    pub frame : Frame
    pub next : call ≡ before.gathered
    pub posted_is : slice_get before.frames call ≡ Some frame
    pub bytes_are : bytes ≡ frame.bytes
    pub leaves : after ≡ record before { gathered = before.gathered + 1 }

  -- the first gathered frame that wasn't reaped; only its holds on stored fragments can be the last of their buffers
  pub record IsReaped (call recycled : ℕ) (after : Standing) : Type 0 where
    pub frame : Frame
    pub next : call ≡ before.reaped
    pub gathered : before.reaped < before.gathered
    pub posted_is : slice_get before.frames call ≡ Some frame
    pub recycles : recycled ≤ frame.pinned
    pub leaves : after ≡ record before { reaped = before.reaped + 1 }

  abbrev pub IsRight : LineEvent → Standing → Type 0
  IsRight (posted call freed segments fragments) after = IsPosted call freed segments fragments after
  IsRight (ring_full need_is room_is) after = IsRingFull need_is room_is after
  IsRight (stage_full need_is free_is) after = IsStageFull need_is free_is after
  IsRight at_end after = IsAtEnd after
  IsRight (sent call bytes) after = IsGathered call bytes after × (call < terms.whole)
  IsRight (dropped call bytes) after = IsGathered call bytes after × (terms.whole ≤ call)
  IsRight nothing_posted after = (before.gathered ≡ length before.frames) × (after ≡ before)
  IsRight (reaped call recycled) after = IsReaped call recycled after
  IsRight nothing_reaped after = (before.reaped ≡ before.gathered) × (after ≡ before)

-- a session's lines, each where the one before it left the session
abbrev pub AreRight : Terms → Standing → List LineEvent → Standing → Type 0
AreRight terms before [] last = last ≡ before
AreRight terms before (event ∷ events) last =
    (after : Standing) × IsRight terms before event after × AreRight terms after events last
