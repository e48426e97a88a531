-- All frames of some texts are put together to the texts.
use Rattle.std.proofs.Common.{◌≡◌, ◌<◌, ◌≤◌, ℕ, zero, suc, ◌-◌, ◌^◌, List, [], ◌∷◌, ◌++◌, Option, Some, None, IsSome}
use Rattle.std.proofs.Common.{slice_get, length, map, take, refl, ap, sym, ◌∙◌, subst, arith, ⊎_elim}
use Rattle.std.specs.List.{concat, flat_map}
use Rattle.mtu_frames.specs.Frames.{MtuFrame, cuts_of, frames_of, mtu_frame_bytes}
use Rattle.mtu_frames.specs.Reading.{frame_read, refusal}
use Rattle.mtu_frames.specs.Joining.{Conflicts, IsLeastMissing, IsWhole, Joining, frame_at, replies}
use Rattle.mtu_frames.specs.Texts.{HasSent, IsFrameOf, TookFramesOf, TookInTurn}
use Rattle.mtu_frames.specs.declared.error.BadFrame.{BadFrame}
use Rattle.mtu_frames.specs.declared.joiner.Missing.{Missing}
use Rattle.mtu_frames.proofs.Cutting.{frame_cut}
use Rattle.mtu_frames.proofs.Refusing.{fit}
use Rattle.mtu_frames.proofs.Runs.{takes_each}
use Rattle.mtu_frames.proofs.Sending.{takes}
use Rattle.mtu_frames.proofs.Texts.{joins, least}
use Rattle.join_files.specs.Cutting.{file_frames}
use Rattle.join_files.specs.Joined.{TookAll, IsFirstRefused, IsMissingOf, IsRefusedBy}
use Rattle.join_files.specs.Texts.{AreFramesOf, AreJoinedTo, JoinsFrames}
use Rattle.join_files.proofs.Cuts.{TellsLength, cut_again}

-- what is mapped to a place
pub record IsMapped {A B : Type 0} (f : A → B) (xs : List A) (place : ℕ) (y : B) : Type 0 where
  pub x : A
  pub here : slice_get xs place ≡ Some x
  pub y_is : y ≡ f x

mapped : {A B : Type 0} (f : A → B) (xs : List A) (place : ℕ) (y : B) → slice_get (map f xs) place ≡ Some y
    → IsMapped f xs place y
mapped f [] place y is = absurd (cc is)
mapped f (x ∷ xs) zero y is = let same : f x ≡ y = cc is in record { x = x; here = refl; y_is = sym same }
mapped f (x ∷ xs) (suc place) y is =
    let later = mapped f xs place y is in record { x = later.x; here = later.here; y_is = later.y_is }

take_map : {A B : Type 0} (f : A → B) (n : ℕ) (xs : List A) → take n (map f xs) ≡ map f (take n xs)
take_map f zero xs = refl
take_map f (suc n) [] = refl
take_map f (suc n) (x ∷ xs) = ap (λ ys. f x ∷ ys) (take_map f n xs)

in_front : {A : Type 0} (n : ℕ) (xs : List A) (place : ℕ) (x : A) → slice_get (take n xs) place ≡ Some x
    → slice_get xs place ≡ Some x
in_front zero xs place x is = absurd (cc is)
in_front (suc n) [] place x is = absurd (cc is)
in_front (suc n) (y ∷ ys) zero x is = is
in_front (suc n) (y ∷ ys) (suc place) x is = in_front n ys place x is

-- each is read as it was sent
read_again : (sent : List MtuFrame)
    → ((place : ℕ) (frame : MtuFrame) → slice_get sent place ≡ Some frame → frame_read (mtu_frame_bytes frame) ≡ frame)
    → map frame_read (map mtu_frame_bytes sent) ≡ sent
read_again [] same = refl
read_again (frame ∷ sent) same =
    ap (λ one. one ∷ map frame_read (map mtu_frame_bytes sent)) (same zero frame refl)
    ∙ ap (λ others. frame ∷ others) (read_again sent (λ place found is. same (suc place) found is))

not_both : (refused : Option BadFrame) → refused ≡ None → IsSome refused → ⊥
not_both refused none some = let no : IsSome {T = BadFrame} None = subst IsSome none some in cc no

module _ (mtu : ℕ) (texts : List (List ℕ)) (bytes : List ℕ) (low : 64 ≤ mtu) (high : mtu ≤ 9216)
    (few : length texts < 2 ^ 32) (are : AreFramesOf mtu texts bytes) where
  abbrev none_yet : Joining
  none_yet = record { mtu = mtu; calls = length texts; frames = [] }

  took_none : TookFramesOf texts none_yet
  took_none = record { count = refl; each = λ call index frame at. absurd (cc at) }

  unrefused : (place : ℕ) (frame : MtuFrame) → slice_get are.sent place ≡ Some frame
      → (refusal mtu (length texts) (mtu_frame_bytes frame) ≡ None)
      × (frame_read (mtu_frame_bytes frame) ≡ frame)
  unrefused place frame is =
      let all = takes texts none_yet frame low high few (are.fits place frame is) took_none (are.each place frame is) in
      (all.0, all.1)

  cut : file_frames bytes ≡ map mtu_frame_bytes are.sent
  cut = ap file_frames are.bytes_are
      ∙ cut_again are.sent (λ place frame is. (fit mtu (length texts) (mtu_frame_bytes frame)
      (unrefused place frame is).0).long)

  -- what a joiner has that took some of them, in the order of the file
  took_some : (n : ℕ) (frames : List MtuFrame)
      → TookAll mtu (length texts) (take n (map mtu_frame_bytes are.sent)) frames
      → TookFramesOf texts (record { mtu = mtu; calls = length texts; frames = frames })
      × HasSent (take n are.sent) frames
  took_some n frames taken =
      let front = take n are.sent in
      let sent : map frame_read (take n (map mtu_frame_bytes are.sent)) ≡ front =
      ap (map frame_read) (take_map mtu_frame_bytes n are.sent)
      ∙ read_again front (λ place frame is. (unrefused place frame (in_front n are.sent place frame is)).1) in
      takes_each texts (record { mtu = mtu; calls = length texts; frames = frames }) front refl
      (λ place frame is. are.each place frame (in_front n are.sent place frame is))
      (subst (λ fs. TookInTurn fs [] frames) sent taken.took)

  none_refused : (number : ℕ) → IsFirstRefused mtu (length texts) (map mtu_frame_bytes are.sent) number → ⊥
  none_refused number first =
      let one = mapped mtu_frame_bytes are.sent (number - 1) first.bytes first.bytes_are in
      let frame = one.x in
      let good = unrefused (number - 1) frame one.here in
      let took = took_some (number - 1) first.frames first.taken in
      let free = (takes texts (record { mtu = mtu; calls = length texts; frames = first.frames }) frame low high few
      (are.fits (number - 1) frame one.here) took.0 (are.each (number - 1) frame one.here)).2 in
      ⊎_elim
      (λ some. not_both (refusal mtu (length texts) (mtu_frame_bytes frame)) good.0
      (subst (λ b. IsSome (refusal mtu (length texts) b)) one.y_is some))
      (λ conflict. free (subst (Conflicts first.frames) (ap frame_read one.y_is ∙ good.1) conflict))
      first.refused

  all_of : (frames : List MtuFrame) → TookAll mtu (length texts) (map mtu_frame_bytes are.sent) frames
      → TookAll mtu (length texts) (take (length are.sent) (map mtu_frame_bytes are.sent)) frames
  all_of frames taken = subst (λ s. TookAll mtu (length texts) s frames) (sym (take_map mtu_frame_bytes
      (length are.sent) are.sent ∙ ap (map mtu_frame_bytes) (whole_front are.sent))) taken
    where
      whole_front : (xs : List MtuFrame) → take (length xs) xs ≡ xs
      whole_front [] = refl
      whole_front (x ∷ xs) = ap (λ ys. x ∷ ys) (whole_front xs)

  some_at : {A : Type 0} (xs : List A) (place : ℕ) → place < length xs → (x : A) × (slice_get xs place ≡ Some x)
  some_at [] place within = absurd (omega (arith, within))
  some_at (x ∷ xs) zero within = (x, refl)
  some_at (x ∷ xs) (suc place) within = some_at xs place (omega (arith, within))

  in_all : (n : ℕ) (xs : List MtuFrame) (place : ℕ) (x : MtuFrame) → length xs ≤ n → slice_get xs place ≡ Some x
      → slice_get (take n xs) place ≡ Some x
  in_all zero [] place x le is = absurd (cc is)
  in_all zero (y ∷ ys) place x le is = absurd (omega (arith, le))
  in_all (suc n) [] place x le is = absurd (cc is)
  in_all (suc n) (y ∷ ys) zero x le is = is
  in_all (suc n) (y ∷ ys) (suc place) x le is = in_all n ys place x (omega (arith, le)) is

  none_missing : (missing : Missing) → IsMissingOf mtu (length texts) (map mtu_frame_bytes are.sent) missing → ⊥
  none_missing missing is =
      let joining : Joining = record { mtu = mtu; calls = length texts; frames = is.frames } in
      let took = took_some (length are.sent) is.frames (all_of is.frames is.taken) in
      let first = least texts joining missing (omega (arith, low)) are.filled took.0 is.least in
      let one = some_at (frames_of first.text missing.call mtu) missing.frame first.is_frame in
      let frame = one.0 in
      let places = frame_cut first.text missing.call mtu missing.frame frame one.1 in
      let of : IsFrameOf mtu texts frame = record {
        text = first.text;
        text_is = ap (slice_get texts) places.call_is ∙ first.text_is;
        frame_is = ap (slice_get (frames_of first.text frame.call mtu)) places.index_is
            ∙ ap (λ c. slice_get (frames_of first.text c mtu) missing.frame) places.call_is ∙ one.1;
      } in
      let place = are.all frame of in
      let there = took.1.each place.0 frame (in_all (length are.sent) are.sent place.0 frame (omega arith) place.1) in
      let same : frame_at is.frames frame.call frame.index ≡ frame_at is.frames missing.call missing.frame =
      ap (λ c. frame_at is.frames c frame.index) places.call_is
      ∙ ap (frame_at is.frames missing.call) places.index_is in
      let both : Some frame ≡ None = sym there ∙ same ∙ first.absent in
      absurd (cc both)

  put_together : (frames : List MtuFrame) → TookAll mtu (length texts) (map mtu_frame_bytes are.sent) frames
      → IsWhole frames (length texts) → replies frames (length texts) ≡ concat texts
  put_together frames taken whole =
      let took = took_some (length are.sent) frames (all_of frames taken) in
      joins texts (record { mtu = mtu; calls = length texts; frames = frames }) (omega (arith, low)) took.0 whole

  pub all_joined : AreJoinedTo mtu texts (file_frames bytes)
  all_joined = subst (AreJoinedTo mtu texts) (sym cut)
      (record { none_refused = none_refused; none_missing = none_missing; joined = put_together })

pub joins_frames : JoinsFrames
joins_frames mtu texts bytes low high few are = all_joined mtu texts bytes low high few are
