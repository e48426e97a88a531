-- What the driver keeps beside the table, from call to call.
use Rattle.std.proofs.Common.{◌≡◌, ℕ, suc, ◌+◌, ◌-◌, ◌*◌, ◌/◌, ◌%◌, ◌<◌, ◌≤◌, List, [], ◌∷◌, ◌++◌, length, map, drop}
use Rattle.std.proofs.Common.{get_or, sym, refl, ap, ◌∙◌, subst, length-append, append_assoc, append-nil, arith, Option}
use Rattle.std.proofs.lemmas.List.{map-append, get_or_append_left}
use Rattle.std.proofs.Math.Seq.{get_or-append_seam}
use native.Mathlib.Nat.{mul-add-mod_self_right}
use Rattle.std.proofs.lemmas.Nat.{div-add-mod'}
use mathlib.Core.Logic.{dite}
use native.Mathlib.Decide.{ℕ_discrete}
use Rattle.atomic_table.specs.Table.{Me}
use Rattle.flake_base.specs.declared.segment.Seg.{Seg}
use Rattle.tx_ring.specs.Words.{size, extent}
use Rattle.tx_ring.specs.Ends.{IsDrafting, driving, with_draft}
use Rattle.tx_ring.specs.Moves.{posting, reaping}
use Rattle.tx_ring.specs.Plays.{with_driver}
use Rattle.tx_ring.specs.declared.view.View.{View}
use Rattle.tx_ring.specs.declared.view.DriverView.{DriverView}
use Rattle.tx_ring.proofs.Words.{extent-append}
use Rattle.tx_ring.proofs.Posting.{next-place}
use Rattle.tx_ring.proofs.Steps.{one_frame}

pub drop-front : {A : Type 0} (xs ys : List A) → drop (length xs) (xs ++ ys) ≡ ys
drop-front [] ys = refl
drop-front (x ∷ xs) ys = drop-front xs ys

pub drop-more : {A : Type 0} (all xs : List A) (a : A) → all ≡ xs ++ drop (length xs) all
    → drop (length xs) (all ++ a ∷ []) ≡ drop (length xs) all ++ a ∷ []
drop-more all xs a e = ap (λ t. drop (length xs) (t ++ a ∷ [])) e
    ∙ ap (drop (length xs)) (append_assoc xs (drop (length xs) all) (a ∷ []))
    ∙ drop-front xs (drop (length xs) all ++ a ∷ [])

module _ {P : Type 0} (segs : P → List Seg) where
  pub starts : (n tail room : ℕ) (m : Me (Option P) (View P)) → m ≡ (driving m.0.driver, [])
      → tail ≡ extent segs m.0.driver.posted % n → room + extent segs m.0.driver.posted + 1
      ≡ extent segs m.0.driver.reaped + n → 0 < room
      → IsDrafting segs n m.0 tail
  starts n tail room m posed at fits some_room = record {
    drives = ap (λ (z : Me (Option P) (View P)). z.0.drives) posed;
    idle = ap (λ (z : Me (Option P) (View P)). z.0.driver.stage) posed;
    drafted = 0;
    whole = ap (λ (z : Me (Option P) (View P)). length z.0.driver.draft) posed;
    is_place = at ∙ ap (λ t. t % n) (let z : extent segs m.0.driver.posted ≡ extent segs m.0.driver.posted + 0 =
        omega arith in z);
    room = omega arith;
  }

  -- the seat after a post
  pub after-post : (f : P) (ws : List ℕ) (m w m' : Me (Option P) (View P)) → m ≡ (driving m.0.driver, [])
      → w ≡ (with_draft ws m.0, m.1) → m' ≡ (with_driver (posting f w.0.driver) w.0, [])
      → m' ≡ (driving (posting f m.0.driver), [])
  after-post f ws m w m' posed a b = b
      ∙ ap (λ (z : Me (Option P) (View P)). (with_driver (posting f z.0.driver) z.0, [])) a
      ∙ ap (λ (z : Me (Option P) (View P)). (with_driver (posting f m.0.driver) z.0, [])) posed

  pub still-posed : (m' : Me (Option P) (View P)) (d : DriverView P) → m' ≡ (driving d, [])
      → m' ≡ (driving m'.0.driver, [])
  still-posed m' d e = e ∙ ap (λ (z : Me (Option P) (View P)). (driving z.0.driver, [])) (sym e)

  pub grown : (f : P) (d : DriverView P) (m' : Me (Option P) (View P)) → m' ≡ (driving (posting f d), [])
      → extent segs m'.0.driver.posted ≡ extent segs d.posted + size segs f
  grown f d m' e = ap (λ (z : Me (Option P) (View P)). extent segs z.0.driver.posted) e
      ∙ extent-append segs d.posted (f ∷ [])
      ∙ (let z : extent segs d.posted + extent segs (f ∷ []) ≡ extent segs d.posted + size segs f = omega arith in z)

  pub places-more : (n oldest room need place after last : ℕ) (f : P) (d : DriverView P) (m' : Me (Option P) (View P))
      → m' ≡ (driving (posting f d), []) → 0 < n → place ≡ (extent segs d.posted + last) % n → after ≡ (place + 1) % n
      → last + 1 ≡ size segs f
      → oldest ≡ extent segs d.reaped % n → room + extent segs d.posted + 1 ≡ extent segs d.reaped + n
      → need ≡ size segs f → need ≤ room
      → (after ≡ extent segs m'.0.driver.posted % n) × (oldest ≡ extent segs m'.0.driver.reaped % n)
      × (room - need + extent segs m'.0.driver.posted + 1 ≡ extent segs m'.0.driver.reaped + n)
  places-more n oldest room need place after last f d m' e some_place at next whole low fits is within =
      let more = grown f d m' e in
      let same = ap (λ (z : Me (Option P) (View P)). extent segs z.0.driver.reaped) e in (
        next-place (extent segs d.posted + last) place n after some_place at next
            ∙ ap (λ t. t % n) (let z : extent segs d.posted + last + 1 ≡ extent segs m'.0.driver.posted = omega arith in
            z),
        low ∙ ap (λ t. t % n) (sym same),
        omega arith,
      )

  pub pending-more : (need : ℕ) (f : P) (d : DriverView P) (m' : Me (Option P) (View P)) (sizes sizes' : List ℕ)
      → m' ≡ (driving (posting f d), []) → d.posted ≡ d.reaped ++ drop (length d.reaped) d.posted
      → sizes ≡ map (size segs) (drop (length d.reaped) d.posted)
      → sizes' ≡ sizes ++ need ∷ [] → need ≡ size segs f
      → (m'.0.driver.posted ≡ m'.0.driver.reaped ++ drop (length m'.0.driver.reaped) m'.0.driver.posted)
      × (sizes' ≡ map (size segs) (drop (length m'.0.driver.reaped) m'.0.driver.posted))
  pending-more need f d m' sizes sizes' e split were are is =
      let more = drop-more d.posted d.reaped f split in
      subst (λ (z : Me (Option P) (View P)).
      (z.0.driver.posted ≡ z.0.driver.reaped ++ drop (length z.0.driver.reaped) z.0.driver.posted)
      × (sizes' ≡ map (size segs) (drop (length z.0.driver.reaped) z.0.driver.posted))) (sym e) (
        ap (λ t. t ++ f ∷ []) split ∙ append_assoc d.reaped (drop (length d.reaped) d.posted) (f ∷ [])
            ∙ ap (λ t. d.reaped ++ t) (sym more),
        are ∙ (λ k. were k ++ is k ∷ []) ∙ sym (map-append (size segs) (drop (length d.reaped) d.posted) (f ∷ []))
            ∙ ap (map (size segs)) (sym more),
      )

pub kept-more : (count room cap cap' need : ℕ) (sizes sizes' : List ℕ) → sizes' ≡ sizes ++ need ∷ [] → 0 < need
    → need ≤ room → (length sizes + room + 1 ≤ count) × (count ≤ cap)
    × ((i : ℕ) → i < length sizes → 0 < get_or sizes i 0) → cap ≤ cap'
    → (length sizes' + (room - need) + 1 ≤ count) × (count ≤ cap')
    × ((i : ℕ) → i < length sizes' → 0 < get_or sizes' i 0)
kept-more count room cap cap' need sizes sizes' e some_seg within k grew =
    let long = ap length e ∙ length-append sizes (need ∷ []) in (
      (let a = k.0 in omega arith),
      (let a = k.1 in omega arith),
      λ i h. subst (λ t. 0 < get_or t i 0) (sym e) (dite (ℕ_discrete i (length sizes))
          (λ z. subst (λ t. 0 < get_or (sizes ++ need ∷ []) t 0) (sym z)
          (subst (λ t. 0 < t) (sym (get_or-append_seam sizes need [] 0)) some_seg))
          (λ ne. subst (λ t. 0 < t) (sym (get_or_append_left sizes (need ∷ []) 0 i (omega arith)))
          (k.2 i (omega arith)))),
    )

module _ {P : Type 0} (segs : P → List Seg) where
  -- the oldest of the frames that were not reaped
  pub oldest-frame : (sizes : List ℕ) (pending : List P) → sizes ≡ map (size segs) pending → 0 < length sizes → (f : P)
      × (more : List P) × (pending ≡ f ∷ more) × (get_or sizes 0 0 ≡ size segs f)
  oldest-frame sizes [] e h = absurd (omega (arith, ap length e))
  oldest-frame sizes (f ∷ more) e h = (f, more, refl, ap (λ t. get_or t 0 0) e)

  pub none-left : (sizes : List ℕ) (pending : List P) → sizes ≡ map (size segs) pending → length sizes ≡ 0
      → pending ≡ []
  none-left sizes [] e h = refl
  none-left sizes (f ∷ more) e h = absurd (omega (arith, ap length e))

  lengths-le : (pending : List P)
      → ((i : ℕ) → i < length (map (size segs) pending) → 0 < get_or (map (size segs) pending) i 0)
      → length (map (size segs) pending) ≤ extent segs pending
  lengths-le [] each = omega arith
  lengths-le (f ∷ more) each = let a = each 0 (omega arith) in let b =
      lengths-le more (λ i h. each (suc i) (omega arith)) in omega arith

  -- the oldest frame, and its room
  pub record Oldest (n room : ℕ) (d : DriverView P) (sizes : List ℕ) : Type 0 where
    pub frame : P
    pub more : List P
    pub pending : d.posted ≡ d.reaped ++ frame ∷ more
    pub size_is : get_or sizes 0 0 ≡ size segs frame
    pub fits : room + size segs frame + 1 ≤ n
    pub left : sizes ≡ map (size segs) (frame ∷ more)

  pub oldest-of : (n room : ℕ) (d : DriverView P) (sizes : List ℕ) → d.posted ≡ d.reaped
      ++ drop (length d.reaped) d.posted → sizes ≡ map (size segs) (drop (length d.reaped) d.posted) → 0 < length sizes
      → room + extent segs d.posted + 1 ≡ extent segs d.reaped + n → Oldest n room d sizes
  oldest-of n room d sizes split are some_frame room_is =
      let o = oldest-frame sizes (drop (length d.reaped) d.posted) are some_frame in
      let pending : d.posted ≡ d.reaped ++ o.0 ∷ o.1 = split ∙ ap (λ t. d.reaped ++ t) o.2 in
      record {
        frame = o.0;
        more = o.1;
        pending = pending;
        size_is = o.3;
        fits = omega (arith, ap (extent segs) pending, extent-append segs d.reaped (o.0 ∷ o.1));
        left = are ∙ ap (map (size segs)) o.2;
      }

  pub all-reaped : (d : DriverView P) (sizes : List ℕ) → d.posted ≡ d.reaped ++ drop (length d.reaped) d.posted
      → sizes ≡ map (size segs) (drop (length d.reaped) d.posted) → length sizes ≡ 0 → d.posted ≡ d.reaped
  all-reaped d sizes split are none = split
      ∙ ap (λ t. d.reaped ++ t) (none-left sizes (drop (length d.reaped) d.posted) are none) ∙ append-nil d.reaped

  -- what is kept after a reap of f
  pub record Kept (n tail oldest room cap : ℕ) (sizes : List ℕ) (d : DriverView P) : Type 0 where
    pub places : (tail ≡ extent segs d.posted % n) × (oldest ≡ extent segs d.reaped % n)
        × (room + extent segs d.posted + 1 ≡ extent segs d.reaped + n)
    pub pending : (d.posted ≡ d.reaped ++ drop (length d.reaped) d.posted)
        × (sizes ≡ map (size segs) (drop (length d.reaped) d.posted))
    pub kept : (length sizes + room + 1 ≤ n) × (n ≤ cap) × ((i : ℕ) → i < length sizes → 0 < get_or sizes i 0)

  pub after-reap : (n tail room cap last oldest' : ℕ) (sizes : List ℕ) (d : DriverView P) (o : Oldest n room d sizes)
      (f : P) (gs : List P) → d.posted ≡ d.reaped ++ f ∷ gs → 0 < n
      → tail ≡ extent segs d.posted % n → room + extent segs d.posted + 1 ≡ extent segs d.reaped + n
      → ((i : ℕ) → i < length sizes → 0 < get_or sizes i 0) → n ≤ cap
      → last ≡ (extent segs d.reaped + (size segs o.frame - 1)) % n → oldest' ≡ (last + 1) % n
      → Kept n tail oldest' (room + get_or sizes 0 0) cap (drop 1 sizes) (driving (reaping f d)).driver
  after-reap n tail room cap last oldest' sizes d o f gs is some_place tail_is room_is each capacity at next =
      let same : o.frame ≡ f = one_frame d.reaped o.frame f o.more gs (sym o.pending ∙ is) in
      let big = subst (λ (t : List ℕ). 0 < get_or t 0 0) o.left (each 0 (omega (arith, ap length o.left))) in
      let grown : extent segs (d.reaped ++ f ∷ []) ≡ extent segs d.reaped + size segs o.frame =
      extent-append segs d.reaped (f ∷ [])
      ∙ (let z : extent segs d.reaped + extent segs (f ∷ []) ≡ extent segs d.reaped + size segs o.frame =
      omega (arith, ap (size segs) same) in z) in
      let split : d.posted ≡ (d.reaped ++ f ∷ []) ++ o.more = o.pending ∙ ap (λ (x : P). d.reaped ++ x ∷ o.more) same
      ∙ sym (append_assoc d.reaped (f ∷ []) o.more) in
      let rest_is : drop (length (d.reaped ++ f ∷ [])) d.posted ≡ o.more = ap (drop (length (d.reaped ++ f ∷ []))) split
      ∙ drop-front (d.reaped ++ f ∷ []) o.more in
      let left : drop 1 sizes ≡ map (size segs) o.more = ap (drop 1) o.left in
      let each_left : (i : ℕ) → i < length (map (size segs) o.more) → 0 < get_or (map (size segs) o.more) i 0 =
      λ i h. subst (λ (t : List ℕ). 0 < get_or t (suc i) 0) o.left (each (suc i) (omega (arith, ap length o.left)))
      in
      record {
        places = (
          tail_is,
          next-place (extent segs d.reaped + (size segs o.frame - 1)) last n oldest' some_place at next
              ∙ ap (λ (t : ℕ). t % n)
              (let z : extent segs d.reaped + (size segs o.frame - 1) + 1 ≡ extent segs (d.reaped ++ f ∷ []) =
              omega arith in z),
          omega (arith, o.size_is),
        );
        pending = (
          split ∙ ap (λ t. (d.reaped ++ f ∷ []) ++ t) (sym rest_is),
          left
              ∙ ap (map (size segs)) (sym rest_is),
        );
        kept = (
          (let l = lengths-le o.more each_left in
              omega (
                arith,
                ap length left,
                o.size_is,
                ap (extent segs) split,
                extent-append segs
                    (d.reaped ++ f ∷ []) o.more,
              )),
          capacity,
          subst (λ (t : List ℕ). (i : ℕ) → i < length t → 0 < get_or t i 0) (sym left) each_left,
        );
      }

pub place-from : (a k p n r : ℕ) → p ≡ a % n → r ≡ (p + k) % n → r ≡ (a + k) % n
place-from a k p n r is e = e ∙ ap (λ t. (t + k) % n) is
    ∙ (let h : a / n * n + a % n ≡ a = div-add-mod' a n in sym (mul-add-mod_self_right (a / n) n (a % n + k))
    ∙ ap (λ t. t % n) (let z : a / n * n + (a % n + k) ≡ a + k = omega arith in z))
