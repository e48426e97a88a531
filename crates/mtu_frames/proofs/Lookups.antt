-- The frame of a call at an index, as a map by both finds it.
use Rattle.std.proofs.Common.{◌≡◌, ℕ, Bool, true, false, cond, ◌&&◌, eqb, List, [], ◌∷◌, Option, Some, None, refl, ap}
use Rattle.std.proofs.Common.{sym, ◌∙◌, arith, is_eq, is_gt, nat_cmp, Ordering, ◌≤◌, IfSome, slice_get, subst}
use Rattle.std.proofs.lemmas.Bool.{and_parts, eqb-true}
use Rattle.std.proofs.lemmas.Bool.Decides.{nat_tests}
use Rattle.std.specs.Ordering.{ordering_then}
use Rattle.std.specs.Map.{lookup}
use Rattle.std.specs.Option.{option_map}
use Rattle.mtu_frames.specs.Frames.{MtuFrame}
use Rattle.mtu_frames.specs.Joining.{frame_at, HasNewFrame}
use Rattle.mtu_frames.specs.Held.{Entry, frame_in, frames_in, frame_with}
use Rattle.mtu_frames.specs.declared.held.Cut.{Cut}

abbrev pub place_cmp : ℕ × ℕ → ℕ × ℕ → Ordering
place_cmp p q = ordering_then (nat_cmp p.0 q.0) (nat_cmp p.1 q.1)

abbrev pub cut_in : ℕ → ℕ → List Entry → Option Cut
cut_in call index entries = lookup (λ (k : ℕ × ℕ). is_eq (place_cmp (call, index) k)) entries

then_eq : (a b : ℕ) (o : Ordering) (r : Bool) → is_eq o ≡ r → is_eq (ordering_then (nat_cmp a b) o) ≡ (eqb a b && r)
then_eq a b o r e = grind (arith, nat_tests)

one_eq : (a b : ℕ) → is_eq (nat_cmp a b) ≡ eqb a b
one_eq a b = grind (arith, nat_tests)

pub same_place : (a b c d : ℕ) → is_eq (ordering_then (nat_cmp a c) (nat_cmp b d)) ≡ (eqb a c && eqb b d)
same_place a b c d = then_eq a c (nat_cmp b d) (eqb b d) (one_eq b d)

pub both : (a b c d : ℕ) → (eqb a c && eqb b d) ≡ true → (a ≡ c) × (b ≡ d)
both a b c d h = let p = and_parts (eqb a c) (eqb b d) h in (eqb-true a c p.0, eqb-true b d p.1)

-- the cut at the head is the frame of the place that is sought
here : (entry : Entry) (call index : ℕ) (rest : Option Cut) (found : Option MtuFrame) (test : Bool)
    → (test ≡ true → (call ≡ entry.0.0) × (index ≡ entry.0.1)) → option_map (frame_with call index) rest ≡ found
    → option_map (frame_with call index) (cond test (Some entry.1) rest) ≡ cond test (Some (frame_in entry)) found
here entry call index rest found true same others = let at = same refl in
    λ k. Some (record { call = at.0 k; index = at.1 k; count = entry.1.count; bytes = entry.1.bytes.items })
here entry call index rest found false same others = others

pub looked_up : (entries : List Entry) (call index : ℕ)
    → option_map (frame_with call index) (cut_in call index entries) ≡ frame_at (frames_in entries) call index
looked_up [] call index = refl
looked_up (entry ∷ entries) call index =
    ap (λ test. option_map (frame_with call index) (cond test (Some entry.1) (cut_in call index entries)))
    (same_place call index entry.0.0 entry.0.1)
    ∙ here entry call index (cut_in call index entries) (frame_at (frames_in entries) call index)
    (eqb call entry.0.0 && eqb index entry.0.1)
    (both call index entry.0.0 entry.0.1) (looked_up entries call index)

-- the frame that was put there, where that is what is sought
there : (call index c i : ℕ) (cut : Cut) (rest : Option Cut) (found : Option MtuFrame) (test : Bool)
    → (test ≡ true → (call ≡ c) × (index ≡ i)) → option_map (frame_with c i) rest ≡ found
    → option_map (frame_with c i) (cond test (Some cut) rest) ≡ cond test (Some (frame_with call index cut)) found
there call index c i cut rest found true same others = let at = same refl in
    λ k. Some (record { call = sym at.0 k; index = sym at.1 k; count = cut.count; bytes = cut.bytes.items })
there call index c i cut rest found false same others = others

pub stored : (olds news : List Entry) (call index : ℕ) (cut : Cut)
    → ((q : ℕ × ℕ) → cut_in q.0 q.1 news ≡ cond (is_eq (place_cmp (call, index) q)) (Some cut) (cut_in q.0 q.1 olds))
    → HasNewFrame (frames_in olds) (frames_in news) (frame_with call index cut)
stored olds news call index cut updated c i =
    sym (looked_up news c i) ∙ ap (option_map (frame_with c i)) (updated (c, i))
    ∙ ap (λ test. option_map (frame_with c i) (cond test (Some cut) (cut_in c i olds))) (same_place call index c i)
    ∙ there call index c i cut (cut_in c i olds) (frame_at (frames_in olds) c i) (eqb call c && eqb index i)
    (both call index c i) (looked_up olds c i)

-- a frame that is found has the call and the index that were sought
found_by : (frame : MtuFrame) (call index : ℕ) (found : MtuFrame) (rest : Option MtuFrame) (test : Bool)
    → (test ≡ true → (call ≡ frame.call) × (index ≡ frame.index))
    → (rest ≡ Some found → (found.call ≡ call) × (found.index ≡ index))
    → cond test (Some frame) rest ≡ Some found → (found.call ≡ call) × (found.index ≡ index)
found_by frame call index found rest true same others is = let at = same refl in let one : frame ≡ found = cc in
    (ap (λ (f : MtuFrame). f.call) (sym one) ∙ sym at.0, ap (λ (f : MtuFrame). f.index) (sym one) ∙ sym at.1)
found_by frame call index found rest false same others is = others is

pub found_is : (frames : List MtuFrame) (call index : ℕ) (found : MtuFrame) → frame_at frames call index ≡ Some found
    → (found.call ≡ call) × (found.index ≡ index)
found_is [] call index found is = absurd (cc)
found_is (frame ∷ frames) call index found is =
    found_by frame call index found (frame_at frames call index) (eqb call frame.call && eqb index frame.index)
    (both call index frame.call frame.index) (found_is frames call index found) is

-- the places of one call lie between its first and its last
pub forward : (call high : ℕ) → is_gt (ordering_then (nat_cmp call call) (nat_cmp 0 high)) ≡ false
forward call high = grind (arith, nat_tests)

backward : (call index high : ℕ) → index ≤ high → is_gt (ordering_then (nat_cmp call call) (nat_cmp index high)) ≡ false
backward call index high le = grind (arith, nat_tests)

pub forward_by : (lo hi : ℕ × ℕ) (call high : ℕ) → lo ≡ (call, 0) → hi ≡ (call, high) → is_gt (place_cmp lo hi) ≡ false
forward_by lo hi call high from to =
    subst (λ (q : ℕ × ℕ). is_gt (place_cmp lo q) ≡ false) (sym to)
    (subst (λ (p : ℕ × ℕ). is_gt (place_cmp p (call, high)) ≡ false) (sym from) (forward call high))

-- and no others do
between : (call high c i : ℕ) → is_gt (ordering_then (nat_cmp call c) (nat_cmp 0 i)) ≡ false
    → is_gt (ordering_then (nat_cmp c call) (nat_cmp i high)) ≡ false → c ≡ call
between call high c i low up = grind (arith, nat_tests)

pub one_of_call : (entries r : List Entry) (lo hi place : ℕ × ℕ) (call high : ℕ) (cut : Cut) (rest : List Entry)
    → lo ≡ (call, 0) → hi ≡ (call, high)
    → IfSome (slice_get r 0) (λ (e : Entry). ((is_gt (place_cmp lo e.0) ≡ false) × (is_gt (place_cmp e.0 hi) ≡ false))
    × (lookup (λ (k : ℕ × ℕ). is_eq (place_cmp e.0 k)) entries ≡ Some e.1))
    → r ≡ (place, cut) ∷ rest
    → (index : ℕ) × (frame : MtuFrame) × (frame_at (frames_in entries) call index ≡ Some frame)
    × (frame.count ≡ cut.count)
one_of_call entries r lo hi place call high cut rest from to has is =
    let first : slice_get r 0 ≡ Some (place, cut) = ap (λ (l : List Entry). slice_get l 0) is in
    let here = subst (λ (o : Option Entry). IfSome o
    (λ (e : Entry). ((is_gt (place_cmp lo e.0) ≡ false) × (is_gt (place_cmp e.0 hi) ≡ false))
    × (lookup (λ (k : ℕ × ℕ). is_eq (place_cmp e.0 k)) entries ≡ Some e.1))) first has in
    let low = subst (λ (p : ℕ × ℕ). is_gt (place_cmp p place) ≡ false) from here.0.0 in
    let up = subst (λ (p : ℕ × ℕ). is_gt (place_cmp place p) ≡ false) to here.0.1 in
    let same = between call high place.0 place.1 low up in
    let found : cut_in call place.1 entries ≡ Some cut = ap (λ c. cut_in c place.1 entries) (sym same) ∙ here.1 in (
      place.1,
      frame_with call place.1 cut,
      sym (looked_up entries call place.1)
          ∙ ap (option_map (frame_with call place.1)) found,
      refl,
    )

pub none_of_call : (entries r : List Entry) (lo hi : ℕ × ℕ) (call high : ℕ) → lo ≡ (call, 0) → hi ≡ (call, high)
    → (r ≡ [] → (q : ℕ × ℕ) → (is_gt (place_cmp lo q) ≡ false) × (is_gt (place_cmp q hi) ≡ false)
    → lookup (λ (k : ℕ × ℕ). is_eq (place_cmp q k)) entries ≡ None)
    → r ≡ [] → (index : ℕ) → index ≤ high → frame_at (frames_in entries) call index ≡ None
none_of_call entries r lo hi call high from to none empty index le =
    sym (looked_up entries call index)
    ∙ ap (option_map (frame_with call index)) (none empty (call, index) (
      subst (λ (p : ℕ × ℕ). is_gt (place_cmp p (call, index)) ≡ false) (sym from) (forward call index),
      subst (λ (p : ℕ × ℕ). is_gt (place_cmp (call, index) p) ≡ false) (sym to) (backward call index high le),
    ))
