-- The cuts of a text, and its frames by their numbers.
use Rattle.std.proofs.Common.{◌≡◌, ◌≢◌, ◌⊎◌, inl, inr, ⊎_elim, ℕ, zero, suc, ◌+◌, ◌-◌, ◌<◌, ◌≤◌, List, [], ◌∷◌, ◌++◌}
use Rattle.std.proofs.Common.{Option, Some, None, slice_get, length, take, drop, refl, ap, sym, ◌∙◌, subst, arith}
use Rattle.std.proofs.Common.{append_assoc, append-nil, length-drop, length-take, take-append-drop, take_all}
use Rattle.std.proofs.lemmas.Bool.{cases_lt}
use Rattle.std.specs.List.{concat}
use Rattle.mtu_frames.specs.Frames.{MtuFrame, cuts_from, cuts_of, frames_from, frames_of}

-- the cuts of bytes, joined, are the bytes
pub concat_cut : (size more : ℕ) (bytes : List ℕ) → 0 < size → length bytes ≤ more
    → concat (cuts_from size more bytes) ≡ bytes
concat_cut size zero [] some few = refl
concat_cut size zero (byte ∷ bytes) some few = absurd (omega arith)
concat_cut size (suc more) [] some few = refl
concat_cut size (suc more) (byte ∷ bytes) some few =
    ap (λ t. take size (byte ∷ bytes) ++ t) (concat_cut size more (drop size (byte ∷ bytes)) some
    (omega (arith, length-drop size (byte ∷ bytes))))
    ∙ take-append-drop size (byte ∷ bytes)

pub concat_cuts : (mtu : ℕ) (text : List ℕ) → 16 < mtu → concat (cuts_of mtu text) ≡ text
concat_cuts mtu text wide = concat_cut (mtu - 16) (length text) text (omega arith) (omega arith)

-- what was joined of a list, and one more
pub concat_take : (lists : List (List ℕ)) (n : ℕ) (one : List ℕ) → slice_get lists n ≡ Some one
    → concat (take (suc n) lists) ≡ concat (take n lists) ++ one
concat_take [] n one is = absurd (cc)
concat_take (list ∷ lists) zero one is = let same : list ≡ one = cc in append-nil list ∙ same
concat_take (list ∷ lists) (suc n) one is =
    ap (λ t. list ++ t) (concat_take lists n one is) ∙ sym (append_assoc list (concat (take n lists)) one)

-- a frame by its number
pub record IsCut (call count at : ℕ) (bytes : Option (List ℕ)) (frame : MtuFrame) : Type 0 where
  pub call_is : frame.call ≡ call
  pub count_is : frame.count ≡ count
  pub index_is : frame.index ≡ at
  pub bytes_are : bytes ≡ Some frame.bytes

pub numbered_get : (call count from : ℕ) (cuts : List (List ℕ)) (i : ℕ) (frame : MtuFrame)
    → slice_get (frames_from call count from cuts) i ≡ Some frame → IsCut call count (from + i) (slice_get cuts i) frame
numbered_get call count from [] i frame is = absurd (cc)
numbered_get call count from (bytes ∷ cuts) zero frame is =
    let one : record { call = call; index = from; count = count; bytes = bytes } ≡ frame = cc in
    record {
      call_is = ap (λ (f : MtuFrame). f.call) (sym one);
      count_is = ap (λ (f : MtuFrame). f.count) (sym one);
      index_is = ap (λ (f : MtuFrame). f.index) (sym one) ∙ (omega arith);
      bytes_are = ap (λ (f : MtuFrame). Some f.bytes) one;
    }
numbered_get call count from (bytes ∷ cuts) (suc i) frame is =
    let later = numbered_get call count (from + 1) cuts i frame is in
    record {
      call_is = later.call_is;
      count_is = later.count_is;
      index_is = omega (arith, later.index_is);
      bytes_are =
          later.bytes_are;
    }

pub length-numbered : (call count from : ℕ) (cuts : List (List ℕ))
    → length (frames_from call count from cuts) ≡ length cuts
length-numbered call count from [] = refl
length-numbered call count from (bytes ∷ cuts) = ap suc (length-numbered call count (from + 1) cuts)

pub frame_cut : (text : List ℕ) (call mtu i : ℕ) (frame : MtuFrame) → slice_get (frames_of text call mtu) i ≡ Some frame
    → IsCut call (length (cuts_of mtu text)) i (slice_get (cuts_of mtu text) i) frame
frame_cut text call mtu i frame is =
    let got = numbered_get call (length (cuts_of mtu text)) 0 (cuts_of mtu text) i frame is in
    record {
      call_is = got.call_is;
      count_is = got.count_is;
      index_is = omega (arith, got.index_is);
      bytes_are =
          got.bytes_are;
    }
