-- The calls of a gather.
use Rattle.std.proofs.Common.{◌≡◌, ℕ, ◌+◌, ◌-◌, ◌*◌, ◌%◌, ◌<◌, List, [], ◌∷◌, ◌++◌, true, sym, ap, ◌∙◌, subst, arith}
use Rattle.std.proofs.Common.{Option, Some}
use mathlib.Core.Option.{none}
use Rattle.atomic_table.specs.Table.{Me, step, Allows}
use Rattle.atomic_table.specs.Seated.{TableId}
use Rattle.flake_base.specs.declared.segment.Seg.{Seg}
use Rattle.tx_ring.specs.Words.{length_word, last_len, IsFrame, size, extent}
use Rattle.tx_ring.specs.Ends.{HasRingSizes, gathering, IsAtRest, IsFetching, IsHolding, IsBehind}
use Rattle.tx_ring.specs.Moves.{fetching, completing, blanked}
use Rattle.tx_ring.specs.Plays.{Keeps, looked, wrote_back, moved_head, saw_closed, with_device}
use Rattle.tx_ring.specs.declared.view.View.{View}
use Rattle.tx_ring.specs.declared.view.DeviceStage.TheVariants.{Holding}
use Rattle.tx_ring.proofs.Words.{extent-append}
use Rattle.tx_ring.proofs.Posting.{word-at, next-place}
use Rattle.tx_ring.proofs.Steps.{looks-at-tail, looks-at-closed, writes-status, moves-the-head}

pub sized-at : (n k : ℕ) (y z : TableId) → n ≡ k → y ≡ z → HasRingSizes n y → HasRingSizes k z
sized-at n k y z e d = subst (λ (p : ℕ × TableId). HasRingSizes p.0 p.1) (λ j. (e j, d j))

module _ {P : Type 0} (segs : P → List Seg) (n slots seat : ℕ) (same : slots ≡ n) where
  pub look-call : (m : Me (Option P) (View P)) → IsAtRest m → Allows (Keeps segs n) slots seat m 0 (λ x. x)
      (looked segs (step slots 0 0 0 none) m)
  look-call m rests = subst (λ (s : ℕ). Allows (Keeps segs n) s seat m 0 (λ x. x) (looked segs (step s 0 0 0 none) m))
      (sym same)
      (looks-at-tail segs n seat m (ap (λ (z : Me (Option P) (View P)). z.0.gathers) rests.0) rests.1)

  pub closed-call : (m : Me (Option P) (View P)) → IsAtRest m → Allows (Keeps segs n) slots seat m 2 (λ x. x)
      (saw_closed segs (step slots 2 0 0 none) m)
  closed-call m rests =
      subst (λ (s : ℕ). Allows (Keeps segs n) s seat m 2 (λ x. x) (saw_closed segs (step s 2 0 0 none) m)) (sym same)
      (looks-at-closed segs n seat m (ap (λ (z : Me (Option P) (View P)). z.0.gathers) rests.0) rests.1)

  pub after-blank : (m m' : Me (Option P) (View P)) → IsAtRest m → m' ≡ (with_device (blanked m.0.device) m.0, m.1)
      → (m' ≡ (gathering (blanked m.0.device), [])) × IsAtRest m'
  after-blank m m' rests e = let q : m' ≡ (gathering (blanked m.0.device), []) = e
      ∙ ap (λ (z : Me (Option P) (View P)). (with_device (blanked m.0.device) z.0, z.1)) rests.0 in (
        q,
        (
          q ∙ ap (λ (z : Me (Option P) (View P)). (gathering z.0.device, [])) (sym q),
          ap
              (λ (z : Me (Option P) (View P)). z.0.device.stage) q ∙ rests.1,
        ),
      )

  pub after-look : (m m' : Me (Option P) (View P)) (head : ℕ) (f : P) → IsAtRest m
      → head ≡ extent segs m.0.device.completed % n → m' ≡ (with_device (fetching f 0 m.0.device) m.0, m.1)
      → IsFrame (segs f)
      → (m' ≡ (gathering (fetching f 0 m.0.device), [])) × IsFetching segs n m' head 0 f
  after-look m m' head f rests at e frame =
      let q : m' ≡ (gathering (fetching f 0 m.0.device), []) = e
      ∙ ap (λ (z : Me (Option P) (View P)). (with_device (fetching f 0 m.0.device) z.0, z.1)) rests.0 in
      let done = ap (λ (z : Me (Option P) (View P)). extent segs z.0.device.completed) q in (
        q,
        (
          q ∙ ap (λ (z : Me (Option P) (View P)). (gathering z.0.device, [])) (sym q),
          ap
              (λ (z : Me (Option P) (View P)). z.0.device.stage) q,
          frame.0,
          frame,
          at
              ∙ ap (λ (t : ℕ). t % n) (let z : extent segs m.0.device.completed ≡ extent segs m'.0.device.completed
              + 0 =
              omega arith in z),
        ),
      )

  pub write-back-call : (m : Me (Option P) (View P)) (w : View P) (f : P) (last x : ℕ) → 0 < n
      → m ≡ (w, (last, Some f) ∷ []) → w.gathers ≡ true → w.device.stage ≡ Holding f → 0 < size segs f
      → last ≡ (extent segs w.device.completed + (size segs f - 1)) % n
      → x ≡ length_word (last_len (segs f)) true true → Allows (Keeps segs n) slots seat m (3 + 2 * last + 1) (λ _. x)
      (λ _. wrote_back segs (step slots (3 + 2 * last + 1) x 0 none) m x)
  write-back-call m w f last x some_place e gathers holds some_seg at value =
      let done = ap (λ (z : Me (Option P) (View P)). extent segs z.0.device.completed) e in
      let q : 2 * extent segs m.0.device.completed + (2 * size segs f - 1)
      ≡ 2 * (extent segs w.device.completed + (size segs f - 1)) + 1 = omega arith in
      let word : 3 + (2 * extent segs m.0.device.completed + (2 * size segs f - 1)) % (2 * n) ≡ 3 + 2 * last + 1 =
      (let u = ap (λ t. t % (2 * n)) q ∙ word-at (extent segs w.device.completed + (size segs f - 1)) n 1 some_place
      (omega arith) in omega arith) in
      subst (λ (p : ℕ × ℕ × ℕ). Allows (Keeps segs n) p.0 seat m p.1 (λ _. p.2)
      (λ _. wrote_back segs (step p.0 p.1 p.2 0 none) m p.2)) (λ k. (sym same k, word k, sym value k))
      (writes-status segs n seat m (ap (λ (z : Me (Option P) (View P)). z.0.gathers) e ∙ gathers) f
      (ap (λ (z : Me (Option P) (View P)). z.0.device.stage) e ∙ holds)
      (ap (λ (z : Me (Option P) (View P)). z.1) e
      ∙ (λ k. ((at ∙ ap (λ (t : ℕ). (t + (size segs f - 1)) % n) (sym done)) k, Some f) ∷ [])))

  pub behind : (m : Me (Option P) (View P)) (w : View P) (f : P) (last v : ℕ) → 0 < n
      → m ≡ (with_device (completing f w.device) w, []) → w.gathers ≡ true → 0 < size segs f
      → last ≡ (extent segs w.device.completed + (size segs f - 1)) % n → v ≡ (last + 1) % n
      → (v ≡ extent segs (w.device.completed ++ f ∷ []) % n) × IsBehind segs n m v
  behind m w f last v some_place e gathers some_seg at next =
      let more = extent-append segs w.device.completed (f ∷ []) in
      let head : v ≡ extent segs (w.device.completed ++ f ∷ []) % n =
      next-place (extent segs w.device.completed + (size segs f - 1)) last n v some_place at next
      ∙ ap (λ (t : ℕ). t % n)
      (let q : extent segs w.device.completed + (size segs f - 1) + 1 ≡ extent segs (w.device.completed ++ f ∷ []) =
      omega arith in q) in
      let now : extent segs m.0.device.completed % n ≡ v =
      ap (λ (z : Me (Option P) (View P)). extent segs z.0.device.completed % n) e ∙ sym head in (
        head,
        (
          f,
          ap (λ (z : Me (Option P) (View P)). z.0.gathers) e
              ∙ gathers,
          ap (λ (z : Me (Option P) (View P)). z.0.device.stage) e,
          sym now,
        ),
      )

  pub behind-call : (m : Me (Option P) (View P)) (v : ℕ) → IsBehind segs n m v → Allows (Keeps segs n) slots seat m 1
      (λ _. v) (λ _. moved_head segs (step slots 1 v 0 none) m v)
  behind-call m v b = subst
      (λ (p : ℕ × ℕ). Allows (Keeps segs n) p.0 seat m 1 (λ _. p.1)
      (λ _. moved_head segs (step p.0 1 p.1 0 none) m p.1)) (λ k. (sym same k, sym b.3 k))
      (moves-the-head segs n seat m b.1 b.0 b.2)

  pub held-call : (m : Me (Option P) (View P)) (last x : ℕ) → 0 < n → IsHolding segs n m last x
      → Allows (Keeps segs n) slots seat m (3 + 2 * last + 1) (λ _. x)
      (λ _. wrote_back segs (step slots (3 + 2 * last + 1) x 0 none) m x)
  held-call m last x some_place h = write-back-call m m.0 h.0 last x some_place (λ k. (m.0, h.3 k)) h.1 h.2 h.4 h.5 h.6
