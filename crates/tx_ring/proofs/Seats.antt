-- Which seat is whose: one view changes, is cut in two, or takes in another.
use Rattle.std.proofs.Common.{◌≡◌, ◌≢◌, ℕ, zero, suc, ◌+◌, ◌*◌, ◌%◌, ◌<◌, ◌⊎◌, List, [], ◌∷◌, ◌++◌, map, length, set}
use Rattle.std.proofs.Common.{get_or, replicate, true, false, sym, refl, ap, ◌∙◌, subst, inl, inr, ⊎_elim, arith}
use Rattle.std.proofs.Common.{Option, None}
use mathlib.Core.Option.{some, none, some-injective, some-ne-none}
use mathlib.Core.Option as maybe
use lib.ListN.{get_elem?}
use Rattle.std.proofs.lemmas.List.{length-replicate, get_or-replicate, length-map}
use Rattle.std.proofs.Math.Nat.{mod-eq_of_lt}
use Rattle.atomic_table.proofs.Lists.{at_set}
use Rattle.flake_base.specs.declared.segment.Seg.{Seg}
use Rattle.tx_ring.specs.Rule.{Stands, IsRing, blank_driver, blank_device, opener, nobody}
use Rattle.tx_ring.specs.Plays.{with_driver, with_device, driver_part, device_part, both_parts, InOrder}
use Rattle.tx_ring.specs.declared.view.View.{View}
use Rattle.tx_ring.specs.declared.view.DriverView.{DriverView}
use Rattle.tx_ring.specs.declared.view.DeviceView.{DeviceView}
use Rattle.tx_ring.specs.declared.view.DriverStage.TheVariants.{Idle, Closed}
use Rattle.tx_ring.proofs.Restated.{restated}

-- in a list with one item more an item was there before, or is the new one at its end
last_or_before : {A : Type 0} (before : List A) (new found : A) (at : ℕ) → get_elem? (before ++ new ∷ []) at
    ≡ some found → (get_elem? before at ≡ some found) ⊎ ((at ≡ length before) × (new ≡ found))
last_or_before (first ∷ before) new found zero is = inl is
last_or_before (first ∷ before) new found (suc at) is = ⊎_elim inl (λ end. inr (ap suc end.0, end.1))
    (last_or_before before new found at is)
last_or_before [] new found zero is = inr (refl, some-injective new found is)
last_or_before [] new found (suc at) is = absurd (some-ne-none found (sym is))

module _ {P : Type 0} (segs : P → List Seg) (n : ℕ) (words : List ℕ) (homes : List (maybe.Option (Option P)))
    (views : List (View P)) (r : IsRing segs n words homes views) (seat : ℕ) (v : View P)
    (me : get_elem? views seat ≡ some v) where
  pub driver-stands : v.drives ≡ true → Stands segs n words homes v.driver r.device
  driver-stands drives = subst (λ d. Stands segs n words homes d r.device) (sym (r.drives seat v me drives).1) r.stands

  pub device-stands : v.gathers ≡ true → Stands segs n words homes r.driver v.device
  device-stands gathers = subst (λ e. Stands segs n words homes r.driver e) (sym (r.gathers seat v me gathers).1)
      r.stands

  pub drives-on : v.drives ≡ true → (new_words : List ℕ) (new_homes : List (maybe.Option (Option P))) (d : DriverView P)
      → Stands segs n new_words new_homes d r.device
      → IsRing segs n new_words new_homes (set views seat (with_driver d v))
  drives-on drives new_words new_homes d stands = let mine = r.drives seat v me drives in record {
    driver = d;
    device = r.device;
    driver_seat = r.driver_seat;
    device_seat = r.device_seat;
    drives = λ j u at t. ⊎_elim
        (λ (p : (j ≡ seat) × (with_driver d v ≡ u)). (p.0 ∙ mine.0, ap (λ (z : View P). z.driver) (sym p.1)))
        (λ (p : (j ≢ seat) × (get_elem? views j ≡ some u)). absurd (p.0 ((r.drives j u p.1 t).0 ∙ sym mine.0)))
        (at_set views seat j (with_driver d v) u at);
    gathers = λ j u at t. ⊎_elim
        (λ (p : (j ≡ seat) × (with_driver d v ≡ u)). let q =
        r.gathers seat v me (subst (λ (z : View P). z.gathers ≡ true) (sym p.1) t) in
        (p.0 ∙ q.0, ap (λ (z : View P). z.device) (sym p.1) ∙ q.1))
        (λ (p : (j ≢ seat) × (get_elem? views j ≡ some u)). r.gathers j u p.1 t)
        (at_set views seat j (with_driver d v) u at);
    stands = stands;
  }

  pub drives-on-has : (drives : v.drives ≡ true) (new_words : List ℕ) (new_homes : List (maybe.Option (Option P)))
      (d : DriverView P) (stands : Stands segs n new_words new_homes d r.device)
      → ((drives-on drives new_words new_homes d stands).driver ≡ d)
      × ((drives-on drives new_words new_homes d stands).device ≡ r.device)
  unfolding drives-on
  drives-on-has drives new_words new_homes d stands = (refl, refl)

  pub gathers-on : v.gathers ≡ true → (new_words : List ℕ) (new_homes : List (maybe.Option (Option P)))
      (e : DeviceView P) → Stands segs n new_words new_homes r.driver e
      → IsRing segs n new_words new_homes (set views seat (with_device e v))
  gathers-on gathers new_words new_homes e stands = let mine = r.gathers seat v me gathers in record {
    driver = r.driver;
    device = e;
    driver_seat = r.driver_seat;
    device_seat = r.device_seat;
    drives = λ j u at t. ⊎_elim
        (λ (p : (j ≡ seat) × (with_device e v ≡ u)). let q =
        r.drives seat v me (subst (λ (z : View P). z.drives ≡ true) (sym p.1) t) in
        (p.0 ∙ q.0, ap (λ (z : View P). z.driver) (sym p.1) ∙ q.1))
        (λ (p : (j ≢ seat) × (get_elem? views j ≡ some u)). r.drives j u p.1 t)
        (at_set views seat j (with_device e v) u at);
    gathers = λ j u at t. ⊎_elim
        (λ (p : (j ≡ seat) × (with_device e v ≡ u)). (p.0 ∙ mine.0, ap (λ (z : View P). z.device) (sym p.1)))
        (λ (p : (j ≢ seat) × (get_elem? views j ≡ some u)). absurd (p.0 ((r.gathers j u p.1 t).0 ∙ sym mine.0)))
        (at_set views seat j (with_device e v) u at);
    stands = stands;
  }

  pub gathers-on-has : (gathers : v.gathers ≡ true) (new_words : List ℕ) (new_homes : List (maybe.Option (Option P)))
      (e : DeviceView P) (stands : Stands segs n new_words new_homes r.driver e)
      → ((gathers-on gathers new_words new_homes e stands).driver ≡ r.driver)
      × ((gathers-on gathers new_words new_homes e stands).device ≡ e)
  unfolding gathers-on
  gathers-on-has gathers new_words new_homes e stands = (refl, refl)

  -- a seat that is both tells how the lists stand to each other
  pub ordered : v.drives ≡ true → v.gathers ≡ true → InOrder v.driver v.device
      × (v.device.ended ≡ true → v.driver.stage ≡ Closed)
  ordered drives gathers = let s = subst (λ e. Stands segs n words homes v.driver e)
      (sym (r.gathers seat v me gathers).1) (driver-stands drives) in
      (((s.finished, s.completed_is), (s.waiting, s.posted_is)), λ t. (s.closed (s.ended t)).0)

  -- both parts at one seat become the parts of two, and each is told how far the other is
  pub parts : v.drives ≡ true → v.gathers ≡ true
      → IsRing segs n words homes (set views seat (driver_part v) ++ device_part v ∷ [])
  parts drives gathers =
      let a = r.drives seat v me drives in
      let b = r.gathers seat v me gathers in
      let last : ℕ = length (set views seat (driver_part v)) in
      let s = subst (λ e. Stands segs n words homes v.driver e) (sym b.1) (driver-stands drives) in
      record {
        driver = (driver_part v).driver;
        device = (device_part v).device;
        driver_seat = seat;
        device_seat = last;
        drives = λ j u at t. ⊎_elim
            (λ (was : get_elem? (set views seat (driver_part v)) j ≡ some u). ⊎_elim
            (λ (p : (j ≡ seat) × (driver_part v ≡ u)). (p.0, ap (λ (z : View P). z.driver) (sym p.1)))
            (λ (p : (j ≢ seat) × (get_elem? views j ≡ some u)). absurd (p.0 ((r.drives j u p.1 t).0 ∙ sym a.0)))
            (at_set views seat j (driver_part v) u was))
            (λ (new : (j ≡ last) × (device_part v ≡ u)). absurd
            (let z = ap (λ (x : View P). x.drives) new.1 in let y : false ≡ true = z ∙ t in cc))
            (last_or_before (set views seat (driver_part v)) (device_part v) u j at);
        gathers = λ j u at t. ⊎_elim
            (λ (was : get_elem? (set views seat (driver_part v)) j ≡ some u). ⊎_elim
            (λ (p : (j ≡ seat) × (driver_part v ≡ u)). absurd
            (let z = ap (λ (x : View P). x.gathers) p.1 in let y : false ≡ true = z ∙ t in cc))
            (λ (p : (j ≢ seat) × (get_elem? views j ≡ some u)). absurd (p.0 ((r.gathers j u p.1 t).0 ∙ sym b.0)))
            (at_set views seat j (driver_part v) u was))
            (λ (new : (j ≡ last) × (device_part v ≡ u)). (new.0, ap (λ (z : View P). z.device) (sym new.1)))
            (last_or_before (set views seat (driver_part v)) (device_part v) u j at);
        stands = restated s v.driver.misses (driver_part v).driver.told v.device.blanks v.device.ended
            (device_part v).device.told v.device.stage (λ done at had. had) refl s.fetches s.ended (omega arith)
            (omega arith);
      }

  pub parts-has : (drives : v.drives ≡ true) (gathers : v.gathers ≡ true)
      → ((parts drives gathers).driver ≡ (driver_part v).driver)
      × ((parts drives gathers).device ≡ (device_part v).device)
  unfolding parts
  parts-has drives gathers = (refl, refl)

  -- the parts of two seats come to one, and the other is spent
  pub joins : v.drives ≡ true → (other : ℕ) (w : View P) → ¬ (other ≡ seat)
      → get_elem? (set views seat (both_parts v w)) other ≡ some w → w.gathers ≡ true
      → IsRing segs n words homes (set (set views seat (both_parts v w)) other nobody)
  joins drives other w elsewhere there gathers =
      let a = r.drives seat v me drives in
      let there_before : get_elem? views other ≡ some w =
      ⊎_elim (λ (p : (other ≡ seat) × (both_parts v w ≡ w)). absurd (elsewhere p.0))
      (λ (p : (other ≢ seat) × (get_elem? views other ≡ some w)). p.1)
      (at_set views seat other (both_parts v w) w there) in
      let b = r.gathers other w there_before gathers in
      record {
        driver = r.driver;
        device = r.device;
        driver_seat = seat;
        device_seat = seat;
        drives = λ j u at t. ⊎_elim
            (λ (p : (j ≡ other) × (nobody ≡ u)). absurd
            (let z = ap (λ (x : View P). x.drives) p.1 in let y : false ≡ true = z ∙ t in cc))
            (λ (p : (j ≢ other) × (get_elem? (set views seat (both_parts v w)) j ≡ some u)). ⊎_elim
            (λ (q : (j ≡ seat) × (both_parts v w ≡ u)). (q.0, ap (λ (z : View P). z.driver) (sym q.1) ∙ a.1))
            (λ (q : (j ≢ seat) × (get_elem? views j ≡ some u)). absurd (q.0 ((r.drives j u q.1 t).0 ∙ sym a.0)))
            (at_set views seat j (both_parts v w) u p.1))
            (at_set (set views seat (both_parts v w)) other j nobody u at);
        gathers = λ j u at t. ⊎_elim
            (λ (p : (j ≡ other) × (nobody ≡ u)). absurd
            (let z = ap (λ (x : View P). x.gathers) p.1 in let y : false ≡ true = z ∙ t in cc))
            (λ (p : (j ≢ other) × (get_elem? (set views seat (both_parts v w)) j ≡ some u)). ⊎_elim
            (λ (q : (j ≡ seat) × (both_parts v w ≡ u)). (q.0, ap (λ (z : View P). z.device) (sym q.1) ∙ b.1))
            (λ (q : (j ≢ seat) × (get_elem? views j ≡ some u)). absurd (p.0 ((r.gathers j u q.1 t).0 ∙ sym b.0)))
            (at_set views seat j (both_parts v w) u p.1))
            (at_set (set views seat (both_parts v w)) other j nobody u at);
        stands = r.stands;
      }

  pub joins-has : (drives : v.drives ≡ true) (other : ℕ) (w : View P) (elsewhere : ¬ (other ≡ seat))
      (there : get_elem? (set views seat (both_parts v w)) other ≡ some w) (gathers : w.gathers ≡ true)
      → ((joins drives other w elsewhere there gathers).driver ≡ r.driver)
      × ((joins drives other w elsewhere there gathers).device ≡ r.device)
  unfolding joins
  joins-has drives other w elsewhere there gathers = (refl, refl)

-- a seat more, which has nothing
pub enters : {P : Type 0} (segs : P → List Seg) (n : ℕ) (words : List ℕ) (homes : List (maybe.Option (Option P)))
    (views : List (View P)) → IsRing segs n words homes views → IsRing segs n words homes (views ++ nobody ∷ [])
enters segs n words homes views r = record {
  driver = r.driver;
  device = r.device;
  driver_seat = r.driver_seat;
  device_seat = r.device_seat;
  drives = λ j u at t. ⊎_elim (λ (was : get_elem? views j ≡ some u). r.drives j u was t)
      (λ (new : (j ≡ length views) × (nobody ≡ u)). absurd (let z = ap (λ x. x.drives) new.1 in let y : false ≡ true = z
      ∙ t in cc)) (last_or_before views nobody u j at);
  gathers = λ j u at t. ⊎_elim (λ (was : get_elem? views j ≡ some u). r.gathers j u was t)
      (λ (new : (j ≡ length views) × (nobody ≡ u)). absurd
      (let z = ap (λ x. x.gathers) new.1 in let y : false ≡ true = z ∙ t in cc)) (last_or_before views nobody u j at);
  stands = r.stands;
}

pub enters-has : {P : Type 0} (segs : P → List Seg) (n : ℕ) (words : List ℕ) (homes : List (maybe.Option (Option P)))
    (views : List (View P)) (r : IsRing segs n words homes views)
    → ((enters segs n words homes views r).driver ≡ r.driver) × ((enters segs n words homes views r).device ≡ r.device)
unfolding enters
enters-has segs n words homes views r = (refl, refl)

abbrev nothing : (P : Type 0) → Option P
nothing P = None

abbrev vacant : (P : Type 0) → ℕ → List (maybe.Option (Option P))
vacant P k = map {A = Option P} some (replicate k None)

-- a new ring
module _ {P : Type 0} (segs : P → List Seg) (n : ℕ) where
  pub empty-slot : (k i : ℕ) → i < k → get_elem? (vacant P k) i ≡ some (some None)
  empty-slot zero i h = absurd (omega arith)
  empty-slot (suc k) zero h = refl
  empty-slot (suc k) (suc i) h = empty-slot k i (omega arith)

  only : (j : ℕ) (u : View P) → get_elem? (opener ∷ []) j ≡ some u → (j ≡ 0) × (opener ≡ u)
  only zero u at = (refl, some-injective opener u at)
  only (suc j) u at = absurd (some-ne-none u (sym at))

  zero_word : (words : List ℕ) → words ≡ replicate (3 + 2 * n) 0 → (i : ℕ) → i < 3 → get_or words i 0 ≡ 0
  zero_word words fresh i h = ap (λ t. get_or t i 0) fresh ∙ get_or-replicate (3 + 2 * n) i 0 0 (omega arith)

  no_place : 0 < n → 0 ≡ 0 % n
  no_place some_place = omega arith

  pub opens : (words : List ℕ) → 0 < n → words ≡ replicate (3 + 2 * n) 0
      → IsRing segs n words (vacant P n) (opener ∷ [])
  opens words some_place fresh = record {
    driver = blank_driver;
    device = blank_device;
    driver_seat = 0;
    device_seat = 0;
    drives = λ j u at t. let o = only j u at in (o.0, ap (λ (z : View P). z.driver) (sym o.1));
    gathers = λ j u at t. let o = only j u at in (o.0, ap (λ (z : View P). z.device) (sym o.1));
    stands = record {
      word_count = ap length fresh ∙ length-replicate (3 + 2 * n) 0;
      slot_count = length-map (replicate n (nothing P)) some ∙ length-replicate n (nothing P);
      finished = [];
      waiting = [];
      completed_is = refl;
      posted_is = refl;
      frames = tt;
      fits = omega arith;
      written = λ j h. absurd (omega arith);
      tail = zero_word words fresh 0 (omega arith) ∙ no_place some_place;
      head = zero_word words fresh 1 (omega arith) ∙ no_place some_place;
      slots = λ j h a b. ap (get_elem? (vacant P n))
          (let z : 0 + j ≡ j = omega arith in ap (λ t. t % n) z ∙ mod-eq_of_lt h) ∙ empty-slot n j h;
      fetches = tt;
      closed = λ ne. absurd (ne (zero_word words fresh 2 (omega arith)));
      ended = λ t. absurd (let y : false ≡ true = t in cc);
      shut = λ t. absurd (let z : Idle ≡ Closed = t in cc);
      driver_told = omega arith;
      device_told = omega arith;
    };
  }

  pub opens-has : (words : List ℕ) (some_place : 0 < n) (fresh : words ≡ replicate (3 + 2 * n) 0)
      → ((opens words some_place fresh).driver ≡ blank_driver) × ((opens words some_place fresh).device ≡ blank_device)
  unfolding opens
  opens-has words some_place fresh = (refl, refl)
