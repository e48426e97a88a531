-- The frames of a file, by the next one.
use Rattle.std.proofs.Common.{◌≡◌, ◌<◌, ◌≤◌, ℕ, zero, suc, ◌+◌, List, [], ◌∷◌, ◌++◌, Some, slice_get, length, take}
use Rattle.std.proofs.Common.{drop, map, refl, ap, ap₂, sym, ◌∙◌, arith, length-drop}
use Rattle.std.specs.List.{flat_map}
use Rattle.std.proofs.lemmas.List.{take_at, drop_at}
use Rattle.mtu_frames.specs.Frames.{MtuFrame, mtu_frame_bytes}
use Rattle.mtu_frames.specs.Reading.{head_of}
use Rattle.join_files.specs.Cutting.{file_frames, frames_within, next_length}

none_within : (n : ℕ) → frames_within n [] ≡ []
none_within zero = refl
none_within (suc n) = refl

-- no frame is left out, whatever number of them is enough
enough : (n m : ℕ) (bytes : List ℕ) → length bytes ≤ n → length bytes ≤ m → frames_within n bytes
    ≡ frames_within m bytes
enough zero m [] a b = sym (none_within m)
enough zero m (byte ∷ bytes) a b = absurd (omega (arith, a))
enough (suc n) m [] a b = sym (none_within m)
enough (suc n) zero (byte ∷ bytes) a b = absurd (omega (arith, b))
enough (suc n) (suc m) (byte ∷ bytes) a b =
    let size = next_length (byte ∷ bytes) in
    let rest = drop size (byte ∷ bytes) in
    let short = length-drop size (byte ∷ bytes) in
    ap (λ frames. take size (byte ∷ bytes) ∷ frames) (enough n m rest (omega (arith, short, a))
    (omega (arith, short, b)))

pub next_frame : (bytes : List ℕ) → 0 < length bytes → file_frames bytes ≡ take (next_length bytes) bytes
    ∷ file_frames (drop (next_length bytes) bytes)
next_frame [] some = absurd (omega (arith, some))
next_frame (byte ∷ bytes) some =
    let size = next_length (byte ∷ bytes) in
    let rest = drop size (byte ∷ bytes) in
    let short = length-drop size (byte ∷ bytes) in
    ap (λ frames. take size (byte ∷ bytes) ∷ frames) (enough (length bytes) (length rest) rest (omega (arith, short))
    (omega arith))

-- where a list goes on by an item at a place
pub record GoesOn {A : Type 0} (xs : List A) (at : ℕ) (x : A) (rest : List A) : Type 0 where
  pub front : take (at + 1) xs ≡ take at xs ++ x ∷ []
  pub behind : drop (at + 1) xs ≡ rest
  pub here : slice_get xs at ≡ Some x

pub goes_on : {A : Type 0} (xs : List A) (at : ℕ) (x : A) (rest : List A) → drop at xs ≡ x ∷ rest
    → GoesOn xs at x rest
goes_on [] zero x rest is = absurd (cc is)
goes_on [] (suc at) x rest is = absurd (cc is)
goes_on (y ∷ ys) zero x rest is =
    let one : y ≡ x = cc is in
    let more : ys ≡ rest = cc is in
    record { front = ap (λ z. z ∷ []) one; behind = more; here = ap Some one }
goes_on (y ∷ ys) (suc at) x rest is =
    let later = goes_on ys at x rest is in
    let more : suc at + 1 ≡ suc (at + 1) = omega arith in
    record {
      front = ap (λ n. take n (y ∷ ys)) more ∙ ap (λ zs. y ∷ zs) later.front;
      behind = ap (λ n. drop n (y ∷ ys)) more ∙ later.behind;
      here = later.here;
    }

-- as many bytes as its header says
abbrev pub TellsLength : MtuFrame → Type 0
TellsLength frame = length (mtu_frame_bytes frame) ≡ next_length (mtu_frame_bytes frame)

-- frames one behind the other are cut as they were sent
pub cut_again : (sent : List MtuFrame)
    → ((place : ℕ) (frame : MtuFrame) → slice_get sent place ≡ Some frame → TellsLength frame)
    → file_frames (flat_map mtu_frame_bytes sent) ≡ map mtu_frame_bytes sent
cut_again [] tell = refl
cut_again (frame ∷ sent) tell =
    let bytes = mtu_frame_bytes frame in
    let more = flat_map mtu_frame_bytes sent in
    let long : length bytes ≡ next_length bytes = tell zero frame refl in
    let size : next_length (bytes ++ more) ≡ next_length bytes = refl in
    let fits : length bytes ≡ next_length (bytes ++ more) = long ∙ sym size in
    next_frame (bytes ++ more) (omega arith)
    ∙ ap₂ (λ (one : List ℕ) (others : List (List ℕ)). one ∷ others)
    (take_at bytes more (next_length (bytes ++ more)) fits)
    (ap file_frames (drop_at bytes more (next_length (bytes ++ more)) fits)
    ∙ cut_again sent (λ place found is. tell (suc place) found is))
