-- What stays true of the frames of a joiner.
use Rattle.std.proofs.Common.{◌≡◌, ◌≢◌, ◌⊎◌, ℕ, zero, suc, ◌+◌, ◌^◌, ◌<◌, ◌≤◌, Bool, true, false, cond, ◌&&◌, eqb}
use Rattle.std.proofs.Common.{List, [], Option, Some, None, IsSome, length, refl, ap, sym, ◌∙◌, subst, arith, inl}
use Rattle.std.proofs.Common.{inr, ⊎_elim}
use Rattle.std.proofs.lemmas.Bool.{cases_Bool, cond-true, cond-false, cases_lt, eqb-true, eqb-false}
use Rattle.std.specs.Bool.{MatchBool}
use Rattle.mtu_frames.specs.Frames.{MtuFrame}
use Rattle.mtu_frames.specs.Joining.{frame_at, HasNewFrame, Conflicts, HasWhole, IsLeastMissing, IsWhole, Misses}
use Rattle.mtu_frames.specs.Kept.{AreKept, AreBefore, AllAgree, OneDiffers, IsMissingBy}
use Rattle.mtu_frames.specs.declared.joiner.Missing.{Missing}
use Rattle.mtu_frames.proofs.Lookups.{both, found_is}

pub some_there : {A : Type 0} (o : Option A) → IsSome o → (x : A) × (o ≡ Some x)
some_there None h = absurd (cc)
some_there (Some x) h = (x, refl)

pub some_here : {A : Type 0} (o : Option A) (x : A) → o ≡ Some x → IsSome o
some_here None x h = absurd (cc)
some_here (Some y) x h = refl

pub none_kept : AreKept []
none_kept = record { agree = λ call i k a b x y. absurd (cc); below = λ call index frame x. absurd (cc) }

pub none_before : AreBefore [] 0 0
none_before = record {
  whole = λ earlier h. absurd (omega arith);
  here = λ earlier h. absurd (omega arith);
  counted = λ i frame x. absurd (cc);
}

module _ (old new : List MtuFrame) (frame : MtuFrame) (taken : HasNewFrame old new frame) where
  -- what is there now was there before, or is the frame
  pub now_there : (call index : ℕ) (found : MtuFrame) → frame_at new call index ≡ Some found
      → ((call ≡ frame.call) × (index ≡ frame.index) × (found ≡ frame)) ⊎ (frame_at old call index ≡ Some found)
  now_there call index found is =
      let test : Bool = eqb frame.call call && eqb frame.index index in
      ⊎_elim
      (λ yes. let at = both frame.call frame.index call index yes in
      let one : Some frame ≡ Some found = sym (taken call index
      ∙ cond-true test (Some frame) (frame_at old call index) yes) ∙ is in
      inl (sym at.0, sym at.1, cc))
      (λ no. inr (sym (taken call index ∙ cond-false test (Some frame) (frame_at old call index) no) ∙ is))
      (cases_Bool test)

  module _ (absent : frame_at old frame.call frame.index ≡ None) where
    -- what was there is there
    pub stays : (call index : ℕ) (found : MtuFrame) → frame_at old call index ≡ Some found
        → frame_at new call index ≡ Some found
    stays call index found is =
        let test : Bool = eqb frame.call call && eqb frame.index index in
        ⊎_elim
        (λ yes. let at = both frame.call frame.index call index yes in
        let free : frame_at old call index ≡ None = ap (λ c. frame_at old c index) (sym at.0)
        ∙ ap (frame_at old frame.call) (sym at.1) ∙ absent in
        absurd (cc))
        (λ no. taken call index ∙ cond-false test (Some frame) (frame_at old call index) no ∙ is)
        (cases_Bool test)

    pub whole_more : (call : ℕ) → HasWhole old call → HasWhole new call
    whole_more call whole = (
      whole.0,
      whole.1,
      λ index lt. let was = whole.2 index lt in
          (was.0, stays call index was.0 was.1, was.2),
    )

    pub all_more : (calls : ℕ) → IsWhole old calls → IsWhole new calls
    all_more calls whole = λ call lt. whole_more call (whole call lt)

  -- where the frame has the count that its call has
  pub kept_more : AreKept old → ((index : ℕ) (other : MtuFrame) → frame_at old frame.call index ≡ Some other
      → other.count ≡ frame.count)
      → frame.index < frame.count → frame.count < 2 ^ 32 → 0 < length frame.bytes → AreKept new
  kept_more kept same low fits some = record {
    agree = λ call i k a b x y.
        ⊎_elim
        (λ a_now. ⊎_elim
        (λ b_now. ap (λ (f : MtuFrame). f.count) (a_now.2 ∙ sym b_now.2))
        (λ b_was. ap (λ (f : MtuFrame). f.count) a_now.2
        ∙ sym (same k b (ap (λ c. frame_at old c k) (sym a_now.0) ∙ b_was)))
        (now_there call k b y))
        (λ a_was. ⊎_elim
        (λ b_now. same i a (ap (λ c. frame_at old c i) (sym b_now.0) ∙ a_was)
        ∙ ap (λ (f : MtuFrame). f.count) (sym b_now.2))
        (λ b_was. kept.agree call i k a b a_was b_was)
        (now_there call k b y))
        (now_there call i a x);
    below = λ call index found x.
        ⊎_elim
        (λ now. subst (λ (f : MtuFrame). (index < f.count) × (f.count < 2 ^ 32) × (0 < length f.bytes)) (sym now.2)
        (subst (λ n. n < frame.count) (sym now.1) low, fits, some))
        (λ was. kept.below call index found was)
        (now_there call index found x);
  }

  -- nothing before what was missing is missing
  pub before_more : (calls : ℕ) (missing : Missing) → frame_at old frame.call frame.index ≡ None → AreKept new
      → IsLeastMissing old calls missing → AreBefore new missing.call missing.frame
  before_more calls missing absent kept least = record {
    whole = λ earlier lt. whole_more absent earlier (least.before earlier lt);
    here = λ earlier lt.
        let was = some_there (frame_at old missing.call earlier) (least.here earlier lt) in
        some_here (frame_at new missing.call earlier) was.0 (stays absent missing.call earlier was.0 was.1);
    counted = λ i found x.
        ⊎_elim
        (λ none. let low = (kept.below missing.call i found x).0 in omega (arith, none, low))
        (λ some.
        let was = some_there (frame_at old missing.call 0) (least.here 0 some) in
        let first = least.counted 0 was.0 was.1 in
        let same = kept.agree missing.call 0 i was.0 found (stays absent missing.call 0 was.0 was.1) x in
        omega (arith, first, same))
        (first_or_more missing.frame);
  } where
    first_or_more : (n : ℕ) → (n ≡ 0) ⊎ (0 < n)
    first_or_more zero = inl refl
    first_or_more (suc n) = inr (omega arith)

-- one frame more of the call is there
pub before_next : (frames : List MtuFrame) (call index : ℕ) (frame : MtuFrame) → AreKept frames
    → AreBefore frames call index
    → frame_at frames call index ≡ Some frame → index + 1 < frame.count → AreBefore frames call (index + 1)
before_next frames call index frame kept before at more = record {
  whole = before.whole;
  here = λ earlier lt.
      ⊎_elim (λ less. before.here earlier less)
      (λ same. let last : index ≡ earlier = omega arith in
      some_here (frame_at frames call earlier) frame (ap (frame_at frames call) (sym last) ∙ at))
      (cases_lt earlier index);
  counted = λ i found x. let same = kept.agree call index i frame found at x in omega (arith, more, same);
}

-- all frames of the call are there
pub whole_now : (frames : List MtuFrame) (call index : ℕ) (frame : MtuFrame) → AreKept frames
    → AreBefore frames call index
    → frame_at frames call index ≡ Some frame → frame.count ≤ index + 1 → HasWhole frames call
whole_now frames call index frame kept before at last =
    let low = (kept.below call index frame at).0 in (
      frame.count,
      omega (arith, low),
      λ i lt.
          ⊎_elim
          (λ less. let was = some_there (frame_at frames call i) (before.here i less) in
          (was.0, was.1, kept.agree call i index was.0 frame was.1 at))
          (λ same. let last_one : index ≡ i = omega (arith, low, last, lt, same) in
          (frame, ap (frame_at frames call) (sym last_one) ∙ at, refl))
          (cases_lt i index),
    )

pub before_call : (frames : List MtuFrame) (call index : ℕ) (frame : MtuFrame) → AreKept frames
    → AreBefore frames call index
    → frame_at frames call index ≡ Some frame → frame.count ≤ index + 1 → AreBefore frames (call + 1) 0
before_call frames call index frame kept before at last = record {
  whole = λ earlier lt.
      ⊎_elim (λ less. before.whole earlier less)
      (λ same. let is : call ≡ earlier = omega arith in
      subst (HasWhole frames) is (whole_now frames call index frame kept before at last))
      (cases_lt earlier call);
  here = λ earlier lt. absurd (omega arith);
  counted = λ i found x. let low = (kept.below (call + 1) i found x).0 in omega (arith, low);
}

-- the counts of a call's frames, from one of them
pub same_counts : (frames : List MtuFrame) (call at : ℕ) (one : MtuFrame) (count : ℕ) → AreKept frames
    → frame_at frames call at ≡ Some one
    → one.count ≡ count → (index : ℕ) (other : MtuFrame) → frame_at frames call index ≡ Some other → other.count ≡ count
same_counts frames call at one count kept is counts index other x = kept.agree call index at other one x is ∙ counts

-- none, where none is below the most that an index can be
pub none_differs : (frames : List MtuFrame) (call count : ℕ) → AreKept frames
    → ((index : ℕ) → index < 2 ^ 32 → frame_at frames call index ≡ None)
    → (index : ℕ) (other : MtuFrame) → frame_at frames call index ≡ Some other → other.count ≡ count
none_differs frames call count kept none index other x =
    let low = kept.below call index other x in
    let free : frame_at frames call index ≡ None = none index (omega (arith, low.0, low.1)) in absurd (cc)

-- no frame conflicts with one whose place is free, or has the same frame
pub free_agrees : (frames : List MtuFrame) (frame : MtuFrame)
    → ((index : ℕ) (other : MtuFrame) → frame_at frames frame.call index ≡ Some other → other.count ≡ frame.count)
    → frame_at frames frame.call frame.index ≡ None → ¬ (Conflicts frames frame)
free_agrees frames frame same free = λ conflict.
    let at : frame_at frames frame.call conflict.0.index ≡ Some conflict.0 =
    ap (λ c. frame_at frames c conflict.0.index) (sym conflict.2) ∙ conflict.1 in
    ⊎_elim
    (λ other. other (same conflict.0.index conflict.0 at))
    (λ bytes. let found : frame_at frames frame.call frame.index ≡ Some conflict.0 =
    ap (frame_at frames frame.call) (sym bytes.0) ∙ at in absurd (cc))
    conflict.3

pub again_agrees : (frames : List MtuFrame) (frame : MtuFrame)
    → ((index : ℕ) (other : MtuFrame) → frame_at frames frame.call index ≡ Some other → other.count ≡ frame.count)
    → frame_at frames frame.call frame.index ≡ Some frame → ¬ (Conflicts frames frame)
again_agrees frames frame same there = λ conflict.
    let at : frame_at frames frame.call conflict.0.index ≡ Some conflict.0 =
    ap (λ c. frame_at frames c conflict.0.index) (sym conflict.2) ∙ conflict.1 in
    ⊎_elim
    (λ other. other (same conflict.0.index conflict.0 at))
    (λ bytes. let found : frame_at frames frame.call frame.index ≡ Some conflict.0 =
    ap (frame_at frames frame.call) (sym bytes.0) ∙ at in
    let one : conflict.0 ≡ frame = cc in bytes.1 (ap (λ (f : MtuFrame). f.bytes) one))
    conflict.3

-- one that is there, with another count or with other bytes, does
pub conflicts_by : (frames : List MtuFrame) (frame : MtuFrame) (index : ℕ) (other : MtuFrame)
    → frame_at frames frame.call index ≡ Some other
    → ((other.count ≢ frame.count) ⊎ ((index ≡ frame.index) × (other.bytes ≢ frame.bytes))) → Conflicts frames frame
conflicts_by frames frame index other at differs =
    let place = found_is frames frame.call index other at in (
      other,
      ap (λ c. frame_at frames c other.index) place.0 ∙ ap (frame_at frames frame.call) place.1 ∙ at,
      place.0,
      ⊎_elim (λ count. inl count) (λ bytes. inr (place.1 ∙ bytes.0, bytes.1)) differs,
    )

-- whether one frame of a call has a count says whether all have it
pub agrees_by : (frames : List MtuFrame) (call at : ℕ) (one : MtuFrame) (known count : ℕ) → AreKept frames
    → frame_at frames call at ≡ Some one → one.count ≡ known
    → (test : Bool) → eqb known count ≡ test
    → MatchBool test (AllAgree frames call count) (OneDiffers frames call count)
agrees_by frames call at one known count kept is counts true same =
    same_counts frames call at one count kept is (counts ∙ eqb-true known count same)
agrees_by frames call at one known count kept is counts false differs =
    (at, one, is, λ other. eqb-false known count differs (sym counts ∙ other))

-- what was missing before a frame came, once it is there
pub missing_by : (old new : List MtuFrame) (frame : MtuFrame) (calls : ℕ) (missing : Option Missing)
    → HasNewFrame old new frame
    → frame_at old frame.call frame.index ≡ None → AreKept new → Misses old calls missing
    → IsMissingBy new calls missing
missing_by old new frame calls None taken absent kept whole = all_more old new frame taken absent calls whole
missing_by old new frame calls (Some missing) taken absent kept least =
    let low = least.in_range in (omega (arith, low), before_more old new frame taken calls missing absent kept least)
