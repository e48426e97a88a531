-- What is known of bytes that no test refuses.
use Rattle.std.proofs.Common.{◌≡◌, ℕ, ◌+◌, ◌-◌, ◌<◌, ◌≤◌, Bool, true, false, cond, ◌&&◌, ◌||◌, eqb, leb, ltb, List}
use Rattle.std.proofs.Common.{[], ◌∷◌, Option, Some, None, Ok, Err, length, drop, refl, ap, sym, ◌∙◌, subst, arith}
use Rattle.std.proofs.Common.{length-drop}
use Rattle.std.proofs.lemmas.Bool.{and_parts, eqb-true, leb-true, ltb-true}
use Rattle.mtu_frames.specs.Frames.{MtuFrame}
use Rattle.mtu_frames.specs.Reading.{FrameTest, first_failed, refusal, has_length, has_size, head_of, head_unless}
use Rattle.mtu_frames.specs.Reading.{frame_read}
use Rattle.mtu_frames.specs.declared.error.BadFrame.{BadFrame}
use Rattle.mtu_frames.specs.declared.head.Head.{Head}

first_by : (b : Bool) (bad : BadFrame) (rest : Option BadFrame) → cond b rest (Some bad) ≡ None → (b ≡ true)
    × (rest ≡ None)
first_by true bad rest none = (refl, none)
first_by false bad rest none = absurd (cc)

-- what is known of a frame that no test refuses
pub record IsFit (mtu calls : ℕ) (bytes : List ℕ) : Type 0 where
  pub long : length bytes ≡ 16 + (head_of bytes).len
  pub low : (frame_read bytes).index < (frame_read bytes).count
  pub some : 0 < length (frame_read bytes).bytes
  pub known : (frame_read bytes).call < calls

pub fit : (mtu calls : ℕ) (bytes : List ℕ) → refusal mtu calls bytes ≡ None → IsFit mtu calls bytes
fit mtu calls bytes none =
    let a = first_by _ _ _ none in
    let b = first_by _ _ _ a.1 in
    let c = first_by _ _ _ b.1 in
    let d = first_by _ _ _ c.1 in
    let e = first_by _ _ _ d.1 in
    let f = first_by _ _ _ e.1 in
    let lengths = and_parts _ _ a.0 in
    let sizes = and_parts _ _ (and_parts _ _ e.0).0 in
    let long : length bytes ≡ 16 + (head_of bytes).len = eqb-true _ _ lengths.1 in
    let some : 0 < (head_of bytes).len = ltb-true 0 _ sizes.0 in
    record {
      long = long;
      low = ltb-true _ _ d.0;
      some = omega (arith, length-drop 16 bytes, long, some);
      known = ltb-true _ _ f.0;
    }

-- what a reading that gave a header says
unless_ok : (refused : Option BadFrame) (bytes : List ℕ) (head : Head) → Ok head ≡ head_unless refused bytes
    → (refused ≡ None) × (head ≡ head_of bytes)
unless_ok None bytes head is = (refl, cc)
unless_ok (Some e) bytes head is = absurd (cc)

pub read_ok : (mtu calls : ℕ) (bytes : List ℕ) (head : Head) → Ok head ≡ head_unless (refusal mtu calls bytes) bytes
    → (refusal mtu calls bytes ≡ None) × (head ≡ head_of bytes)
read_ok mtu calls bytes head is = unless_ok (refusal mtu calls bytes) bytes head is

unless_err : (refused : Option BadFrame) (bytes : List ℕ) (error : BadFrame) → Err error ≡ head_unless refused bytes
    → refused ≡ Some error
unless_err None bytes error is = absurd (cc)
unless_err (Some e) bytes error is = cc

pub read_err : (mtu calls : ℕ) (bytes : List ℕ) (error : BadFrame)
    → Err error ≡ head_unless (refusal mtu calls bytes) bytes
    → refusal mtu calls bytes ≡ Some error
read_err mtu calls bytes error is = unless_err (refusal mtu calls bytes) bytes error is
