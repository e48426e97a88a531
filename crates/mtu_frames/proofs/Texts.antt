-- A joiner that took frames of texts alone.
use Rattle.std.proofs.Common.{◌≡◌, ◌≢◌, ◌⊎◌, inl, inr, ⊎_elim, ℕ, zero, suc, ◌+◌, ◌-◌, ◌<◌, ◌≤◌, List, [], ◌∷◌, ◌++◌}
use Rattle.std.proofs.Common.{Option, Some, None, IsSome, slice_get, length, take, drop, refl, ap, sym, ◌∙◌, subst}
use Rattle.std.proofs.Common.{arith, take_all}
use Rattle.std.proofs.lemmas.Option.{slice_get_within}
use Rattle.std.specs.List.{concat}
use Rattle.mtu_frames.specs.Frames.{MtuFrame, cuts_from, cuts_of, frames_from, frames_of}
use Rattle.mtu_frames.specs.Joining.{Joining, frame_at, HasNewFrame, frame_piece, pieces_joined, reply_at, replies}
use Rattle.mtu_frames.specs.Joining.{HasWhole}
use Rattle.mtu_frames.specs.Joining.{IsWhole, IsLeastMissing}
use Rattle.mtu_frames.specs.Texts.{IsFrameOf, TookFramesOf, IsLess, IsLeastOf, JoinsTexts, NamesLeast, GoesOnJoining}
use Rattle.mtu_frames.specs.declared.joiner.Missing.{Missing}
use Rattle.mtu_frames.proofs.Lookups.{found_is}
use Rattle.mtu_frames.proofs.Keeping.{now_there, some_there}
use Rattle.mtu_frames.proofs.Putting.{reply_is}
use Rattle.mtu_frames.proofs.Cutting.{concat_cuts, concat_take, IsCut, frame_cut, length-numbered}

module _ (texts : List (List ℕ)) (joining : Joining) (took : TookFramesOf texts joining) where
  -- a frame that was taken is a cut of the text of its call
  taken_cut : (call index : ℕ) (text : List ℕ) (frame : MtuFrame) → slice_get texts call ≡ Some text
      → frame_at joining.frames call index ≡ Some frame
      → IsCut call (length (cuts_of joining.mtu text)) index (slice_get (cuts_of joining.mtu text) index) frame
  taken_cut call index text frame is at =
      let place = found_is joining.frames call index frame at in
      let of = took.each call index frame at in
      let here : slice_get texts call ≡ Some of.text = ap (slice_get texts) (sym place.0) ∙ of.text_is in
      let same : of.text ≡ text = cc in
      let got : slice_get (frames_of text call joining.mtu) index ≡ Some frame =
      ap (λ t. slice_get (frames_of t call joining.mtu) index) (sym same)
      ∙ ap (λ c. slice_get (frames_of of.text c joining.mtu) index) (sym place.0)
      ∙ ap (slice_get (frames_of of.text frame.call joining.mtu)) (sym place.1) ∙ of.frame_is in
      frame_cut text call joining.mtu index frame got

  -- where all frames of a call are there, they are as many as its text's
  whole_count : (call : ℕ) (text : List ℕ) → slice_get texts call ≡ Some text → (whole : HasWhole joining.frames call)
      → whole.0 ≡ length (cuts_of joining.mtu text)
  whole_count call text is whole = let first = whole.2 0 whole.1 in
      sym first.2 ∙ (taken_cut call 0 text first.0 is first.1).count_is

  joined_cuts : (call : ℕ) (text : List ℕ) → slice_get texts call ≡ Some text → (whole : HasWhole joining.frames call)
      → (n : ℕ) → n ≤ whole.0 → pieces_joined joining.frames call n ≡ concat (take n (cuts_of joining.mtu text))
  joined_cuts call text is whole zero le = refl
  joined_cuts call text is whole (suc n) le =
      let one = whole.2 n (omega arith) in
      let got = taken_cut call n text one.0 is one.1 in
      ap (λ o. pieces_joined joining.frames call n ++ frame_piece o) one.1
      ∙ ap (λ t. t ++ one.0.bytes) (joined_cuts call text is whole n (omega arith))
      ∙ sym (concat_take (cuts_of joining.mtu text) n one.0.bytes got.bytes_are)

  reply_text : (call : ℕ) (text : List ℕ) → 16 < joining.mtu → slice_get texts call ≡ Some text
      → HasWhole joining.frames call → reply_at joining.frames call ≡ text
  reply_text call text wide is whole =
      let cuts = cuts_of joining.mtu text in
      let count = whole_count call text is whole in
      reply_is joining.frames call whole ∙ joined_cuts call text is whole whole.0 (omega arith)
      ∙ ap (λ n. concat (take n cuts)) count ∙ ap concat (take_all (length cuts) cuts (omega arith))
      ∙ concat_cuts joining.mtu text wide

  some_text : (call : ℕ) → call < length texts → (text : List ℕ) × (slice_get texts call ≡ Some text)
  some_text call lt = at_place texts call lt where
    at_place : (lists : List (List ℕ)) (i : ℕ) → i < length lists → (text : List ℕ) × (slice_get lists i ≡ Some text)
    at_place [] i lt = absurd (omega arith)
    at_place (list ∷ lists) zero lt = (list, refl)
    at_place (list ∷ lists) (suc i) lt = at_place lists i (omega arith)

  replies_texts : 16 < joining.mtu → IsWhole joining.frames joining.calls → (n : ℕ) → n ≤ length texts
      → replies joining.frames n ≡ concat (take n texts)
  replies_texts wide whole zero le = refl
  replies_texts wide whole (suc n) le =
      let one = some_text n (omega arith) in
      let count = took.count in
      ap (λ t. replies joining.frames n ++ t) (reply_text n one.0 wide one.1 (whole n (omega (arith, count))))
      ∙ ap (λ t. t ++ one.0) (replies_texts wide whole n (omega arith))
      ∙ sym (concat_take texts n one.0 one.1)

  -- a frame that was taken is the one of its place
  same_frame : (frame : MtuFrame) → IsFrameOf joining.mtu texts frame → (found : MtuFrame)
      → frame_at joining.frames frame.call frame.index ≡ Some found
      → frame_at joining.frames frame.call frame.index ≡ Some frame
  same_frame frame of found at =
      let got = taken_cut frame.call frame.index of.text found of.text_is at in
      let want = frame_cut of.text frame.call joining.mtu frame.index frame of.frame_is in
      let both : Some found.bytes ≡ Some frame.bytes = sym got.bytes_are ∙ want.bytes_are in
      let bytes : found.bytes ≡ frame.bytes = cc in
      let count : found.count ≡ frame.count = got.count_is ∙ sym want.count_is in
      at ∙ (λ k. Some (record { call = got.call_is k; index = got.index_is k; count = count k; bytes = bytes k }))

  -- all frames of a whole call were taken
  all_taken : (frame : MtuFrame) → IsFrameOf joining.mtu texts frame → HasWhole joining.frames frame.call
      → frame_at joining.frames frame.call frame.index ≡ Some frame
  all_taken frame of whole =
      let count = whole_count frame.call of.text of.text_is whole in
      let within = slice_get_within (frames_of of.text frame.call joining.mtu) frame.index frame of.frame_is in
      let long = length-numbered frame.call (length (cuts_of joining.mtu of.text)) 0 (cuts_of joining.mtu of.text) in
      let one = whole.2 frame.index (omega (arith, count, within, long)) in
      same_frame frame of one.0 one.1

pub joins : JoinsTexts
joins texts joining wide took whole =
    let count = took.count in
    ap (replies joining.frames) count ∙ replies_texts texts joining took wide whole (length texts) (omega arith)
    ∙ ap concat (take_all (length texts) texts (omega arith))

some_cut : (mtu : ℕ) (text : List ℕ) → (text ≡ [] → ⊥) → 0 < length (cuts_of mtu text)
some_cut mtu [] filled = absurd (filled refl)
some_cut mtu (byte ∷ bytes) filled = omega arith

first_or_more : (n : ℕ) → (n ≡ 0) ⊎ (0 < n)
first_or_more zero = inl refl
first_or_more (suc n) = inr (omega arith)

pub least : NamesLeast
least texts joining missing wide filled took is =
    let count = took.count in
    let in_range = is.in_range in
    let one = some_text texts joining took missing.call (omega (arith, count, in_range)) in
    let cuts = cuts_of joining.mtu one.0 in
    let long = length-numbered missing.call (length cuts) 0 cuts in
    record {
      text = one.0;
      text_is = one.1;
      is_frame =
          ⊎_elim
          (λ none. let some = some_cut joining.mtu one.0 (λ empty. filled missing.call (one.1 ∙ ap Some empty)) in
          omega (arith, none, some, long))
          (λ some.
          let first = some_there (frame_at joining.frames missing.call 0) (is.here 0 some) in
          let more = is.counted 0 first.0 first.1 in
          let counted = (taken_cut texts joining took missing.call 0 one.0 first.0 one.1 first.1).count_is in
          omega (arith, more, counted, long))
          (first_or_more missing.frame);
      absent = is.absent;
      lesser = λ frame of less.
          ⊎_elim
          (λ earlier. all_taken texts joining took frame of (is.before frame.call earlier))
          (λ here. let there = some_there (frame_at joining.frames missing.call frame.index)
          (is.here frame.index here.1) in
          same_frame texts joining took frame of there.0
          (ap (λ c. frame_at joining.frames c frame.index) here.0 ∙ there.1))
          less;
    }

pub more : GoesOnJoining
more texts old new frame mtu calls took of taken = record {
  count = calls ∙ took.count;
  each = λ call index found at.
      ⊎_elim
      (λ now. subst (λ (f : MtuFrame). IsFrameOf new.mtu texts f) (sym now.2)
      (subst (λ m. IsFrameOf m texts frame) (sym mtu) of))
      (λ was. subst (λ m. IsFrameOf m texts found) (sym mtu) (took.each call index found was))
      (now_there old.frames new.frames frame taken call index found at);
}
