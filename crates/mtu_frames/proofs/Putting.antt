-- What a wire has of pieces that were put one after another, and the replies of which they are.
use Rattle.std.proofs.Common.{◌≡◌, ℕ, zero, suc, ◌+◌, ◌<◌, ◌≤◌, ◌⊎◌, inl, inr, ⊎_elim, Bool, true, false, List, []}
use Rattle.std.proofs.Common.{◌∷◌, ◌++◌, Option, Some, None, length, take, drop, take-append-drop, refl, ap, sym, ◌∙◌}
use Rattle.std.proofs.Common.{eqb, subst, arith, append_assoc, append-nil, add-one}
use Rattle.std.proofs.lemmas.Bool.{cases_lt, eqb-true, eqb-false}
use Rattle.flake_base.specs.Growth.{Grew}
use Rattle.flake_base.specs.Causes.{Rose}
use Rattle.flake_base.specs.Told.{WireTold, Took}
use Rattle.flake_model.specs.Wire.{FaultIs}
use Rattle.mtu_frames.specs.Frames.{MtuFrame}
use Rattle.mtu_frames.specs.Joining.{frame_at, frame_piece, frame_count, pieces_joined, reply_at, replies, HasWhole}
use Rattle.mtu_frames.specs.Joining.{IsWhole}
use Rattle.mtu_frames.specs.Kept.{AreKept}
use Rattle.mtu_frames.specs.Puts.{WasPut}
use Rattle.mtu_frames.proofs.Growing.{grew_more, grew_no_more, nothing_grew}

pub nothing_put : (wire : WireTold) → WasPut false [] wire wire
nothing_put wire = record { put = nothing_grew wire.put; faults = refl; flush_faults = refl }

pub put_piece : (piece : List ℕ) (old new : WireTold) → Took false piece old new → new.put_faults ≡ old.put_faults
    → WasPut false piece old new
put_piece piece old new took same = record { put = took.put; faults = same; flush_faults = took.flush_faults }

pub put_front : (piece : List ℕ) (old new : WireTold) → Took true piece old new → Rose old.put_faults new.put_faults
    → WasPut true piece old new
put_front piece old new took rose = record { put = took.put; faults = rose; flush_faults = took.flush_faults }

-- nothing is put behind a failure
pub no_more : (front text : List ℕ) (old new : WireTold) → WasPut true front old new
    → WasPut true (front ++ text) old new
no_more front text old new was = record {
  put = grew_no_more old.put new.put front text was.put;
  faults = was.faults;
  flush_faults = was.flush_faults;
}

-- one piece more
pub put_more : (now : Bool) (front text : List ℕ) (old mid new : WireTold) → WasPut false front old mid
    → WasPut now text mid new → WasPut now (front ++ text) old new
put_more now front text old mid new was put = record {
  put = grew_more now old.put mid.put new.put front text was.put put.put;
  faults = subst (λ n. FaultIs now n new.put_faults) was.faults put.faults;
  flush_faults = put.flush_faults ∙ was.flush_faults;
}

-- bytes of which a front was put, where of the rest a piece of so many is put next
module _ (bytes front rest piece behind : List ℕ) (count : ℕ) (old mid new : WireTold) (is : bytes ≡ front ++ rest)
    (cut : piece ≡ take count rest) (left : behind ≡ drop count rest) (was : WasPut false front old mid) where
  cut_is : bytes ≡ (front ++ piece) ++ behind
  cut_is =
      is ∙ ap (λ (t : List ℕ). front ++ t) (sym (take-append-drop count rest))
      ∙ sym (append_assoc front (take count rest) (drop count rest))
      ∙ ap (λ (t : List ℕ). (front ++ t) ++ drop count rest) (sym cut)
      ∙ ap (λ (t : List ℕ). (front ++ piece) ++ t) (sym left)

  pub piece_put : WasPut false piece mid new
      → (more : List ℕ) × (bytes ≡ more ++ behind) × WasPut false more old new
  piece_put put = (front ++ piece, cut_is, put_more false front piece old mid new was put)

  pub piece_failed : WasPut true piece mid new → WasPut true bytes old new
  piece_failed put =
      subst (λ (t : List ℕ). WasPut true t old new) (sym cut_is)
      (no_more (front ++ piece) behind old new (put_more true front piece old mid new was put))

-- some are left, or none, by the test
pub some_left : (rest : List ℕ) (empty : Bool) → empty ≡ eqb (length rest) 0 → empty ≡ false → 0 < length rest
some_left rest empty is filled = let some = eqb-false (length rest) 0 (sym is ∙ filled) in omega (arith, some)

pub none_left : (rest : List ℕ) (empty : Bool) → empty ≡ eqb (length rest) 0 → empty ≡ true → length rest ≡ 0
none_left rest empty is none = eqb-true (length rest) 0 (sym is ∙ none)

-- and where none is left
pub all_put : (bytes front rest : List ℕ) (old new : WireTold) → bytes ≡ front ++ rest → length rest ≡ 0
    → WasPut false front old new → WasPut false bytes old new
all_put bytes front [] old new is none was =
    subst (λ (t : List ℕ). WasPut false t old new) (sym (is ∙ append-nil front)) was
all_put bytes front (byte ∷ rest) old new is none was = absurd (omega (arith, none))

-- the bytes of one frame more
pub joined_next : (frames : List MtuFrame) (call index : ℕ) (frame : MtuFrame) → frame_at frames call index ≡ Some frame
    → pieces_joined frames call (index + 1) ≡ pieces_joined frames call index ++ frame.bytes
joined_next frames call index frame at = let next : index + 1 ≡ suc index = omega arith in
    ap (pieces_joined frames call) next ∙ ap (λ o. pieces_joined frames call index ++ frame_piece o) at

-- what was joined is a front of what is joined later
grows : (front mid piece : List ℕ) (rest : List ℕ) → mid ≡ front ++ rest → mid ++ piece ≡ front ++ (rest ++ piece)
grows front mid piece rest is = ap (λ t. t ++ piece) is ∙ append_assoc front rest piece

pub joined_front : (frames : List MtuFrame) (call n m : ℕ) → n ≤ m → (rest : List ℕ)
    × (pieces_joined frames call m ≡ pieces_joined frames call n ++ rest)
joined_front frames call n zero le = let none : zero ≡ n = omega arith in
    ([], ap (pieces_joined frames call) none ∙ sym (append-nil (pieces_joined frames call n)))
joined_front frames call n (suc m) le =
    ⊎_elim
    (λ less. let before = joined_front frames call n m (omega arith) in (
      before.0 ++ frame_piece (frame_at frames call m),
      grows (pieces_joined frames call n) (pieces_joined frames call m) (frame_piece (frame_at frames call m)) before.0
          before.1,
    ))
    (λ all. let same : suc m ≡ n = omega arith in
    ([], ap (pieces_joined frames call) same ∙ sym (append-nil (pieces_joined frames call n))))
    (cases_lt n (suc m))

pub replies_next : (frames : List MtuFrame) (call : ℕ)
    → replies frames (call + 1) ≡ replies frames call ++ reply_at frames call
replies_next frames call = let next : call + 1 ≡ suc call = omega arith in ap (replies frames) next

pub replies_front : (frames : List MtuFrame) (n m : ℕ) → n ≤ m → (rest : List ℕ)
    × (replies frames m ≡ replies frames n ++ rest)
replies_front frames n zero le = let none : zero ≡ n = omega arith in
    ([], ap (replies frames) none ∙ sym (append-nil (replies frames n)))
replies_front frames n (suc m) le =
    ⊎_elim
    (λ less. let before = replies_front frames n m (omega arith) in
    (before.0 ++ reply_at frames m, grows (replies frames n) (replies frames m) (reply_at frames m) before.0 before.1))
    (λ all. let same : suc m ≡ n = omega arith in ([], ap (replies frames) same ∙ sym (append-nil (replies frames n))))
    (cases_lt n (suc m))

-- a reply of which a front was put before a put failed
pub reply_failed : (frames : List MtuFrame) (call index count : ℕ) (old new : WireTold) → index ≤ count
    → WasPut true (pieces_joined frames call index) old new → WasPut true (pieces_joined frames call count) old new
reply_failed frames call index count old new le was = let front = joined_front frames call index count le in
    subst (λ t. WasPut true t old new) (sym front.1) (no_more (pieces_joined frames call index) front.0 old new was)

pub replies_failed : (frames : List MtuFrame) (call calls : ℕ) (old new : WireTold) → call ≤ calls
    → WasPut true (replies frames call) old new → WasPut true (replies frames calls) old new
replies_failed frames call calls old new le was = let front = replies_front frames call calls le in
    subst (λ t. WasPut true t old new) (sym front.1) (no_more (replies frames call) front.0 old new was)

-- how many frames the reply has
pub reply_is : (frames : List MtuFrame) (call : ℕ) (whole : HasWhole frames call)
    → reply_at frames call ≡ pieces_joined frames call whole.0
reply_is frames call whole = let first = whole.2 0 whole.1 in
    ap (λ o. pieces_joined frames call (frame_count o)) first.1 ∙ ap (pieces_joined frames call) first.2

-- one frame more of a reply, and one reply more
pub reply_step : (now : Bool) (frames : List MtuFrame) (call index : ℕ) (frame : MtuFrame) (piece : List ℕ)
    (old mid new : WireTold)
    → frame_at frames call index ≡ Some frame → piece ≡ frame.bytes
    → WasPut false (pieces_joined frames call index) old mid
    → WasPut now piece mid new → WasPut now (pieces_joined frames call (index + 1)) old new
reply_step now frames call index frame piece old mid new at is was put =
    subst (λ (t : List ℕ). WasPut now t old new)
    (ap (λ (t : List ℕ). pieces_joined frames call index ++ t) is ∙ sym (joined_next frames call index frame at))
    (put_more now (pieces_joined frames call index) piece old mid new was put)

pub replies_step : (now : Bool) (frames : List MtuFrame) (call : ℕ) (old mid new : WireTold)
    → WasPut false (replies frames call) old mid → WasPut now (reply_at frames call) mid new
    → WasPut now (replies frames (call + 1)) old new
replies_step now frames call old mid new was put =
    subst (λ (t : List ℕ). WasPut now t old new) (sym (replies_next frames call))
    (put_more now (replies frames call) (reply_at frames call) old mid new was put)

-- a frame of a whole call is below the count of its first
pub below_count : (frames : List MtuFrame) (call index : ℕ) (frame : MtuFrame) → AreKept frames → HasWhole frames call
    → frame_at frames call index ≡ Some frame → index < frame_count (frame_at frames call 0)
below_count frames call index frame kept whole at =
    let first = whole.2 0 whole.1 in
    let low = (kept.below call index frame at).0 in
    let same = kept.agree call index 0 frame first.0 at first.1 in
    let count : frame_count (frame_at frames call 0) ≡ first.0.count = ap frame_count first.1 in
    omega (arith, low, same, count)

-- and behind them there is none
pub full_count : (frames : List MtuFrame) (call index : ℕ) → HasWhole frames call → frame_at frames call index ≡ None
    → index ≤ frame_count (frame_at frames call 0) → index ≡ frame_count (frame_at frames call 0)
full_count frames call index whole none le =
    let first = whole.2 0 whole.1 in
    let count : frame_count (frame_at frames call 0) ≡ whole.0 = ap frame_count first.1 ∙ first.2 in
    ⊎_elim
    (λ less. let there = whole.2 index less in let found = there.1 in absurd (cc))
    (λ all. omega (arith, all, le, count))
    (cases_lt index whole.0)
