-- A frame of a text is read as it was sent, and no test refuses it.
use Rattle.std.proofs.Common.{◌≡◌, ◌≢◌, ◌⊎◌, inl, inr, ⊎_elim, ℕ, zero, suc, ◌+◌, ◌-◌, ◌^◌, ◌<◌, ◌≤◌, Bool, true}
use Rattle.std.proofs.Common.{false, cond, ◌&&◌, ◌||◌, eqb, leb, ltb, List, [], ◌∷◌, ◌++◌, Option, Some, None}
use Rattle.std.proofs.Common.{slice_get, length, take, drop, refl, ap, sym, ◌∙◌, subst, arith, length-drop}
use Rattle.std.proofs.Common.{length-take, drop_of_length-le, eq-eqb}
use Rattle.std.proofs.lemmas.Bool.{cases_lt, and_from, or_left, or_right, lt-ltb, le-leb}
use Rattle.std.proofs.lemmas.Nat.{from_le_bytes-to_le_bytes_2, from_le_bytes-to_le_bytes_4}
use Rattle.std.proofs.lemmas.Option.{slice_get_within}
use Rattle.mtu_frames.specs.Frames.{MtuFrame, cuts_from, cuts_of, mtu_frame_bytes, frames_of}
use Rattle.mtu_frames.specs.Reading.{FrameTest, first_failed, refusal, has_length, has_size, head_of, frame_read}
use Rattle.mtu_frames.specs.Reading.{four_at}
use Rattle.mtu_frames.specs.Reading.{two_at}
use Rattle.mtu_frames.specs.Joining.{Joining, frame_at, Conflicts}
use Rattle.mtu_frames.specs.Texts.{IsFrameOf, TookFramesOf, TakesFrames}
use Rattle.mtu_frames.specs.declared.error.BadFrame.{BadFrame}
use Rattle.mtu_frames.specs.declared.error.BadFrame.TheVariants.{BadLength, BadField, BadIndex, BadSize, BadCall}
use Rattle.mtu_frames.proofs.Cutting.{IsCut, frame_cut, length-numbered}

cut_nil : (size more : ℕ) → cuts_from size more [] ≡ []
cut_nil size zero = refl
cut_nil size (suc more) = refl

-- how long a cut is; only the last is shorter than it may be
pub record IsPiece (size at all : ℕ) (piece : List ℕ) : Type 0 where
  pub some : 0 < length piece
  pub few : length piece ≤ size
  pub full : (length piece ≡ size) ⊎ (at + 1 ≡ all)

piece_of : (size more : ℕ) (bytes : List ℕ) (i : ℕ) (piece : List ℕ) → 0 < size
    → slice_get (cuts_from size more bytes) i ≡ Some piece
    → IsPiece size i (length (cuts_from size more bytes)) piece
piece_of size zero bytes i piece wide is = absurd (cc)
piece_of size (suc more) [] i piece wide is = absurd (cc)
piece_of size (suc more) (byte ∷ bytes) zero piece wide is =
    let one : take size (byte ∷ bytes) ≡ piece = cc in
    let long : length (take size (byte ∷ bytes)) ≡ length piece = ap length one in
    ⊎_elim
    (λ short.
    let none : cuts_from size more (drop size (byte ∷ bytes)) ≡ [] =
    ap (cuts_from size more) (drop_of_length-le (byte ∷ bytes) {i = size} (omega arith)) ∙ cut_nil size more in
    let last : length (cuts_from size more (drop size (byte ∷ bytes))) ≡ 0 = ap length none in
    record {
      some = omega (arith, long, length-take size (byte ∷ bytes));
      few =
          omega (arith, long, length-take size (byte ∷ bytes));
      full = inr (omega (arith, last));
    })
    (λ all. record {
      some = omega (arith, long, length-take size (byte ∷ bytes));
      few =
          omega (arith, long, length-take size (byte ∷ bytes));
      full =
          inl (omega (arith, long, length-take size (byte ∷ bytes)));
    })
    (cases_lt (length (byte ∷ bytes)) size)
piece_of size (suc more) (byte ∷ bytes) (suc i) piece wide is =
    let later = piece_of size more (drop size (byte ∷ bytes)) i piece wide is in
    record {
      some = later.some;
      few = later.few;
      full =
          ⊎_elim (λ whole. inl whole) (λ last. inr (omega (arith, last))) later.full;
    }

-- what is read of a frame as it is sent
read_back : (frame : MtuFrame) → frame.call < 2 ^ 32 → frame.index < 2 ^ 32 → frame.count < 2 ^ 32
    → frame_read (mtu_frame_bytes frame) ≡ frame
read_back frame call index count = λ k. record {
  call = from_le_bytes-to_le_bytes_4 frame.call call k;
  index = from_le_bytes-to_le_bytes_4 frame.index index k;
  count = from_le_bytes-to_le_bytes_4 frame.count count k;
  bytes = frame.bytes;
}

len_back : (frame : MtuFrame) → length frame.bytes < 2 ^ 16 → (head_of (mtu_frame_bytes frame)).len ≡ length frame.bytes
len_back frame fits = from_le_bytes-to_le_bytes_2 (length frame.bytes) fits

-- all tests hold
passes : (test : FrameTest) (tests : List FrameTest) → test.0 ≡ true → first_failed tests ≡ None
    → first_failed (test ∷ tests) ≡ None
passes test tests holds none = ap (λ b. cond b (first_failed tests) (Some test.1)) holds ∙ none

pub takes : TakesFrames
takes texts joining frame low high few fits took of =
    let cuts = cuts_of joining.mtu of.text in
    let is = frame_cut of.text frame.call joining.mtu frame.index frame of.frame_is in
    let within = slice_get_within cuts frame.index frame.bytes is.bytes_are in
    let piece = piece_of (joining.mtu - 16) (length of.text) of.text frame.index frame.bytes
    (omega arith) is.bytes_are in
    let count = is.count_is in
    let calls = took.count in
    let placed = slice_get_within texts frame.call of.text of.text_is in
    let back = read_back frame (omega (arith, placed)) (omega (arith, within, count)) fits in
    let some = piece.some in
    let most = piece.few in
    let len = len_back frame (omega (arith, most)) in
    let bytes = mtu_frame_bytes frame in
    let call_is : (head_of bytes).call ≡ frame.call = ap (λ (f : MtuFrame). f.call) back in
    let index_is : (head_of bytes).index ≡ frame.index = ap (λ (f : MtuFrame). f.index) back in
    let count_back : (head_of bytes).count ≡ frame.count = ap (λ (f : MtuFrame). f.count) back in
    let long : has_length bytes ≡ true = and_from _ _ (le-leb 16 (length bytes) (omega arith))
    (eq-eqb (length bytes) (16 + (head_of bytes).len) (omega (arith, len))) in
    let sized : has_size joining.mtu (head_of bytes) ≡ true =
    and_from _ _
    (and_from _ _ (lt-ltb 0 (head_of bytes).len (omega (arith, len, some)))
    (le-leb (head_of bytes).len (joining.mtu - 16) (omega (arith, len, most))))
    (⊎_elim
    (λ whole. or_left _ _ (eq-eqb (head_of bytes).len (joining.mtu - 16) (omega (arith, len, whole))))
    (λ last. or_right _ _ (eq-eqb ((head_of bytes).index + 1) (head_of bytes).count
    (omega (arith, last, index_is, count_back, count))))
    piece.full) in
    let head = head_of bytes in
    let t5 : List FrameTest = (ltb head.call joining.calls, BadCall head.call) ∷ [] in
    let t4 : List FrameTest = (has_size joining.mtu head, BadSize head.len) ∷ t5 in
    let t3 : List FrameTest = (ltb head.index head.count, BadIndex head.index head.count) ∷ t4 in
    let t2 : List FrameTest = (true, BadField 15) ∷ t3 in
    let t1 : List FrameTest = (true, BadField 14) ∷ t2 in (
      passes (has_length bytes, BadLength (length bytes)) t1 long
          (passes (true, BadField 14) t2 refl (passes (true, BadField 15) t3 refl
          (passes (ltb head.index head.count, BadIndex head.index head.count) t4
          (lt-ltb (head_of bytes).index (head_of bytes).count
          (omega (arith, within, index_is, count_back, count)))
          (passes (has_size joining.mtu head, BadSize head.len) t5 sized
          (passes (ltb head.call joining.calls, BadCall head.call) []
          (lt-ltb (head_of bytes).call joining.calls (omega (arith, placed, call_is, calls))) refl))))),
      back,
      λ conflict.
          let earlier = conflict.0 in
          let other = took.each earlier.call earlier.index earlier conflict.1 in
          let there : slice_get texts frame.call ≡ Some other.text = ap (slice_get texts) (sym conflict.2)
          ∙ other.text_is in
          let both : Some other.text ≡ Some of.text = sym there ∙ of.text_is in
          let same : other.text ≡ of.text = cc in
          let was = frame_cut other.text earlier.call joining.mtu earlier.index earlier other.frame_is in
          let was_count : earlier.count ≡ frame.count = was.count_is ∙ ap (λ t. length (cuts_of joining.mtu t)) same
          ∙ sym count in
          ⊎_elim
          (λ differs. differs was_count)
          (λ at. let piece_is : Some earlier.bytes ≡ Some frame.bytes = sym was.bytes_are
          ∙ ap (λ t. slice_get (cuts_of joining.mtu t) earlier.index) same ∙ ap (slice_get cuts) at.0
          ∙ is.bytes_are in
          let bytes_are : earlier.bytes ≡ frame.bytes = cc in at.1 bytes_are)
          conflict.3,
    )
