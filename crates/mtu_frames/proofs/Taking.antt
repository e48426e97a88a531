-- What a joiner answers to a frame.
use Rattle.std.proofs.Common.{◌≡◌, ℕ, ◌+◌, ◌*◌, ◌^◌, ◌<◌, Bool, true, false, List, Some, None, Result, Ok, Err}
use Rattle.std.proofs.Common.{get_or, drop, refl, ap, sym, ◌∙◌, subst, arith}
use Rattle.mtu_frames.specs.Frames.{MtuFrame}
use Rattle.mtu_frames.specs.Reading.{refusal, head_of, head_unless, frame_read}
use Rattle.mtu_frames.specs.Joining.{Joining, HasNewFrame, Answers}
use Rattle.mtu_frames.specs.Kept.{AreKept, Knows}
use Rattle.mtu_frames.specs.declared.head.Head.{Head}
use Rattle.mtu_frames.specs.declared.joiner.Taken.{Taken}
use Rattle.mtu_frames.specs.declared.joiner.Taken.TheVariants.{New, Again}
use Rattle.mtu_frames.specs.declared.error.BadFrame.{BadFrame}
use Rattle.mtu_frames.specs.declared.error.BadFrame.TheVariants.{BadLength, BadField, BadIndex, BadSize, BadCall}
use Rattle.mtu_frames.specs.declared.error.BadFrame.TheVariants.{Conflict, Memory}
use Rattle.mtu_frames.proofs.Refusing.{IsFit, fit, read_ok, read_err}
use Rattle.mtu_frames.proofs.Keeping.{kept_more}

-- a frame as it was read
abbrev pub read_frame : Head → List ℕ → MtuFrame
read_frame head bytes = record { call = head.call; index = head.index; count = head.count; bytes = bytes }

pub count_fits : (bytes : List ℕ) → ((i : ℕ) → get_or bytes i 0 < 256) → (head_of bytes).count < 2 ^ 32
count_fits bytes small = omega (arith, small 8, small 9, small 10, small 11)

-- bytes that no test refuses, their header, and what stands behind it
module _ (mtu calls : ℕ) (bytes part : List ℕ) (head : Head)
    (is : Ok head ≡ head_unless (refusal mtu calls bytes) bytes) (behind : part ≡ drop 16 bytes) where
  frame_is : read_frame head part ≡ frame_read bytes
  frame_is = ap (λ (h : Head). read_frame h part) (read_ok mtu calls bytes head is).1
      ∙ ap (read_frame (head_of bytes)) behind

  pub known_so : (frames : List MtuFrame) (said want : Result Bool BadFrame) → said ≡ want
      → Knows (read_frame head part) frames said → Knows (frame_read bytes) frames want
  known_so frames said want same known =
      subst (λ (r : Result Bool BadFrame). Knows (frame_read bytes) frames r) same
      (subst (λ (f : MtuFrame). Knows f frames said) frame_is known)

  pub taken_so : (old new : List MtuFrame) → HasNewFrame old new (read_frame head part)
      → HasNewFrame old new (frame_read bytes)
  taken_so old new taken = subst (λ (f : MtuFrame). HasNewFrame old new f) frame_is taken

  -- with this frame the joiner is as every joiner is
  pub kept_so : (old new : List MtuFrame) → ((i : ℕ) → get_or bytes i 0 < 256) → AreKept old
      → Knows (frame_read bytes) old (Ok false) → HasNewFrame old new (frame_read bytes) → AreKept new
  kept_so old new small kept known taken =
      let fits = fit mtu calls bytes (read_ok mtu calls bytes head is).0 in
      kept_more old new (frame_read bytes) taken kept known.2 fits.low (count_fits bytes small) fits.some

module _ (mtu calls : ℕ) (frames : List MtuFrame) (old : Joining) (bytes : List ℕ)
    (view : record { mtu = mtu; calls = calls; frames = frames } ≡ old) where
  pub refused_so : (error : BadFrame) → Err error ≡ head_unless (refusal mtu calls bytes) bytes
      → refusal old.mtu old.calls bytes ≡ Some error
  refused_so error is = ap (λ (v : Joining). refusal v.mtu v.calls bytes) (sym view) ∙ read_err mtu calls bytes error is

  pub passed_so : (head : Head) → Ok head ≡ head_unless (refusal mtu calls bytes) bytes
      → refusal old.mtu old.calls bytes ≡ None
  passed_so head is = ap (λ (v : Joining). refusal v.mtu v.calls bytes) (sym view) ∙ (read_ok mtu calls bytes head is).0

pub again_so : (frame : MtuFrame) (frames : List MtuFrame) → Knows frame frames (Ok true)
    → Answers frame (Ok Again) frames frames
again_so frame frames known = (known.0, known.1, refl)

pub new_so : (frame : MtuFrame) (old new : List MtuFrame) → Knows frame old (Ok false) → HasNewFrame old new frame
    → Answers frame (Ok New) old new
new_so frame old new known taken = (known.0, known.1, taken)

pub memory_so : (frame : MtuFrame) (old new : List MtuFrame) → Knows frame old (Ok false) → new ≡ old
    → Answers frame (Err Memory) old new
memory_so frame old new known same = (known.0, known.1, same)

pub conflict_so : (frame : MtuFrame) (frames : List MtuFrame) (conflict : BadFrame) → Knows frame frames (Err conflict)
    → Answers frame (Err conflict) frames frames
conflict_so frame frames (Conflict call index) known = (known.0, known.1, known.2, refl)
conflict_so frame frames (BadLength len) known = absurd known
conflict_so frame frames (BadField byte) known = absurd known
conflict_so frame frames (BadIndex index count) known = absurd known
conflict_so frame frames (BadSize len) known = absurd known
conflict_so frame frames (BadCall call) known = absurd known
conflict_so frame frames Memory known = absurd known
