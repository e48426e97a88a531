-- Pieces that are put one after another.
use Rattle.std.proofs.Common.{◌≡◌, ℕ, zero, suc, ◌+◌, ◌*◌, ◌<◌, ◌≤◌, ◌⊎◌, inl, inr, ⊎_elim, Bool, true, false, List, []}
use Rattle.std.proofs.Common.{◌∷◌, ◌++◌, length, take, drop}
use Rattle.std.proofs.Common.{refl, ap, sym, ◌∙◌, subst, append_assoc, append-nil, arith}
use Rattle.std.proofs.lemmas.List.{length-append, length-drop, take-append-le, drop-append-le, take_more, take_all}
use Rattle.std.proofs.Math.ListN.{drop_of_length-le}
use Rattle.std.proofs.lemmas.Option.{slice_get_within, get_or_from_slice_get}
use Rattle.std.specs.List.{slice_get}
use Rattle.std.specs.Prelude.{Some}
use Rattle.std.specs.Borrow.{Bor}
use Rattle.flake_base.specs.declared.segment.Seg.{Seg}
use Rattle.any_wire.specs.Sends.{WireStep, puts, flushes, Puts, Chain}
use Rattle.any_wire.proofs.Sending.{chain-on}
use Rattle.reply_layout.specs.Gathered.{Reading}
use Rattle.pin_core.specs.declared.sizes.Sizes.{Sizes}
use Rattle.pinned_pool.specs.Addresses.{Covers}
use Rattle.reply_planner.specs.Parcels.{Sent, IsSent, HasBytes}
use Rattle.reply_planner.specs.Places.{buffer_bytes}
use Rattle.device_model.specs.Pieces.{AreCuts, AreCutsAt}
use Rattle.device_model.proofs.Puts.{bytes-more, run-length, run-there}

-- a piece behind whole ones
pub cuts-more : (k : ℕ) (steps : List WireStep) (bytes more : List ℕ) → length bytes ≡ 512 * k → AreCuts steps bytes
    → 0 < length more → length more ≤ 512 → AreCuts (steps ++ puts more ∷ []) (bytes ++ more)
cuts-more k [] bytes more whole cuts some short =
    let same : more ≡ bytes ++ more = ap (λ t. t ++ more) (sym cuts) in
    subst (λ t. AreCuts (puts more ∷ []) t) same (some, sym (take_all 512 more short), drop_of_length-le more short)
cuts-more zero (puts piece ∷ steps) bytes more whole cuts some short =
    absurd (omega (arith, whole, cuts.0))
cuts-more (suc k) (puts piece ∷ steps) bytes more whole cuts some short =
    let long : 512 ≤ length bytes = omega (arith, whole) in
    let rest = cuts-more k steps (drop 512 bytes) more (omega (arith, whole, length-drop 512 bytes)) cuts.2 some short
    in (
      omega (arith, cuts.0, length-append bytes more),
      cuts.1 ∙ sym (take-append-le 512 bytes more long),
      subst (AreCuts (steps ++ puts more ∷ [])) (sym (drop-append-le 512 bytes more long)) rest,
    )
cuts-more k (flushes ∷ steps) bytes more whole cuts some short = absurd cuts

-- how many of them there are, where some bytes are left
pub whole-times : (done len : ℕ) → (done ≡ len) ⊎ ((k : ℕ) × (done ≡ 512 * k)) → done < len → (k : ℕ) × (done ≡ 512 * k)
whole-times done len was less = ⊎_elim (λ end. absurd (omega (arith, end, less))) (λ some. some) was

pub whole-more : (done len n : ℕ) → (done ≡ len) ⊎ ((k : ℕ) × (done ≡ 512 * k)) → done < len
    → (n ≡ 512) ⊎ (done + n ≡ len) → (done + n ≡ len) ⊎ ((k : ℕ) × (done + n ≡ 512 * k))
whole-more done len n was less next =
    let some = whole-times done len was less in
    ⊎_elim (λ full. inr (some.0 + 1, omega (arith, some.1, full))) (λ last. inl last) next

-- a piece of a segment behind others
pub pieces-more : (z : Sizes) (p : Sent) (i : ℕ) (seg : Seg) (b from done n k : ℕ) (steps : List WireStep) → IsSent z p
    → slice_get p.segments i ≡ Some seg → Covers z b from seg.address → done ≡ 512 * k → 0 < n → n ≤ 512
    → done + n ≤ seg.len → AreCuts steps (buffer_bytes p.holds b from done)
    → AreCuts (steps ++ puts (buffer_bytes p.holds b (from + done) n) ∷ []) (buffer_bytes p.holds b from (done + n))
pieces-more z p i seg b from done n k steps is found covers whole some short within cuts =
    let before : HasBytes z p.segments b from done =
    subst (λ t. HasBytes z p.segments b t done) (omega arith)
    (run-there z p i seg b from 0 done found covers (omega (arith, within))) in
    let next = run-length z p b (from + done) n is (run-there z p i seg b from done n found covers within) in
    subst
    (AreCuts (steps ++ puts (buffer_bytes p.holds b (from + done) n) ∷ []))
    (bytes-more p.holds b from done n)
    (cuts-more k steps (buffer_bytes p.holds b from done) (buffer_bytes p.holds b (from + done) n)
    (run-length z p b from done is before ∙ whole) cuts (omega (arith, next, some)) (omega (arith, next, short)))

-- a segment behind others
pub cuts-at-more : (read : Reading) (steps more : List WireStep) (segments : List Seg) (seg : Seg)
    → AreCutsAt read steps segments → AreCuts more (read seg.address seg.len)
    → AreCutsAt read (steps ++ more) (segments ++ seg ∷ [])
cuts-at-more read steps more [] seg none cuts =
    (more, [], ap (λ t. t ++ more) none ∙ sym (append-nil more), cuts, refl)
cuts-at-more read steps more (s ∷ segments) seg at cuts = (
  at.0,
  at.1 ++ more,
  ap (λ t. t ++ more) at.2 ∙ append_assoc at.0 at.1 more,
  at.3,
  cuts-at-more read at.1 more segments seg at.4 cuts,
)

-- the next segment of a list
pub cuts-at-next : (read : Reading) (steps more : List WireStep) (segments : List Seg) (i : ℕ) (seg : Seg)
    → slice_get segments i ≡ Some seg → AreCutsAt read steps (take i segments)
    → AreCuts more (read seg.address seg.len) → AreCutsAt read (steps ++ more) (take (i + 1) segments)
cuts-at-next read steps more segments i seg found at cuts =
    let front = take i segments in
    let next : front ++ seg ∷ [] ≡ take (i + 1) segments =
    sym (take_more segments i seg (slice_get_within segments i seg found)
    ∙ ap (λ s. front ++ s ∷ []) (get_or_from_slice_get segments i seg seg found)) in
    subst (AreCutsAt read (steps ++ more)) next (cuts-at-more read steps more front seg at cuts)

pub cuts-at-all : (read : Reading) (steps : List WireStep) (segments : List Seg) (i : ℕ) → length segments ≤ i
    → AreCutsAt read steps (take i segments) → AreCutsAt read steps segments
cuts-at-all read steps segments i all at = subst (AreCutsAt read steps) (take_all i segments all) at

module _ {W : Type 0} (put_may : W → Bor (List ℕ) → (W × Bool) → Type 0) where
  -- a piece is put, where nothing has failed
  pub chain-put : (failed now : Bool) (piece : List ℕ) (w end : W) → Puts put_may failed now piece w end
      → Chain put_may (λ w r. ⊥) (puts piece ∷ []) failed now w end
  chain-put true now piece w end put = put
  chain-put false now piece w end put = ((end, now), put.0, put.1, put.2, (refl, refl))

  -- and another behind others
  pub chain-more : (steps more : List WireStep) (failed between now : Bool) (w v end : W)
      → Chain put_may (λ w r. ⊥) steps failed between w v → Chain put_may (λ w r. ⊥) more between now v end
      → Chain put_may (λ w r. ⊥) (steps ++ more) failed now w end
  chain-more steps more failed between now w v end first then =
      chain-on put_may (λ w r. ⊥) steps more failed between now w v end first then
