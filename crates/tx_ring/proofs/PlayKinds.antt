-- Each play is of its kind.
use Rattle.std.proofs.Common.{◌≡◌, ℕ, zero, suc, ◌+◌, ◌-◌, ◌%◌, ◌≤◌, ◌⊎◌, List, [], ◌∷◌, ◌++◌, length, set, get_or}
use Rattle.std.proofs.Common.{Bool, true, false, sym, refl, ap, ◌∙◌, subst, inl, inr, Option, Some}
use mathlib.Core.Option.{some, none, some-ne-none}
use mathlib.Core.Option as maybe
use lib.ListN.{get_elem?}
use Rattle.atomic_table.specs.Table.{State, Me, step}
use Rattle.atomic_table.proofs.Lists.{set_again, set_else}
use Rattle.flake_base.specs.declared.segment.Seg.{Seg}
use Rattle.tx_ring.specs.Words.{length_word, last_len, size, extent}
use Rattle.tx_ring.specs.Moves.{missed, reaping, fetching}
use Rattle.tx_ring.specs.Plays.{Keeps, Fetches, fetched, with_driver, with_device}
use Rattle.tx_ring.specs.StepKinds.{table, last_place, status_word, IsOldest, MakesMiss, MakesReap}
use Rattle.tx_ring.specs.Rule.{DeviceAt}
use Rattle.tx_ring.specs.PlayKinds.{HasDriver, loaded, PlayKinds, PlaysAreKinds}
use Rattle.tx_ring.specs.declared.view.View.{View}
use Rattle.tx_ring.specs.declared.view.DriverView.{DriverView}
use Rattle.tx_ring.specs.declared.view.DeviceStage.TheVariants.{Fetching}
use Rattle.tx_ring.proofs.Seats.{device-stands}

set-there : {A : Type 0} (l : List A) (i : ℕ) (a b : A) → get_elem? l i ≡ some a → get_elem? (set l i b) i ≡ some b
set-there [] i a b e = absurd (some-ne-none a (sym e))
set-there (x ∷ xs) zero a b e = refl
set-there (x ∷ xs) (suc i) a b e = set-there xs i a b e

module _ {P : Type 0} (segs : P → List Seg) (n : ℕ) (t : State (Option P) (View P)) (seat : ℕ)
    (m m' : Me (Option P) (View P)) (sits : get_elem? t.views seat ≡ some m.0) where
  -- the table whose words, slots and views are these, at a view that is known by an equation
  with-view : (words : List ℕ) (homes : List (maybe.Option (Option P))) (w : View P) (c : List (ℕ × Option P))
      → m' ≡ (w, c) → table words homes (set t.views seat m'.0) ≡ table words homes (set t.views seat w)
  with-view words homes w c e = ap (λ (z : Me (Option P) (View P)). table words homes (set t.views seat z.0)) e

  same-table : m' ≡ m → table t.words t.homes (set t.views seat m'.0) ≡ t
  same-table e = with-view t.words t.homes m.0 m.1 e ∙ ap (λ vs. table t.words t.homes vs)
      (set_again t.views seat m.0 sits)

  fetch-tells : (f : P) (j k x : ℕ) → m.0.device.stage ≡ Fetching f j → fetched segs (step n k 0 0 none) m x m'
      → Fetches segs n m x m' (Fetching f j)
  fetch-tells f j k x stage told = subst (Fetches segs n m x m') stage told

  by-status : (f : P) (o : IsOldest segs n t seat m.0 f) (done : Bool)
      → get_or t.words (status_word segs n t seat m.0 (extent segs m.0.driver.reaped) f) 0
      ≡ length_word (last_len (segs f)) true done
      → (done ≡ true → m' ≡ (
        with_driver (reaping f m.0.driver) m.0,
        ((extent segs m.0.driver.reaped + (size segs f - 1)) % n, Some f) ∷ m.1,
      ))
      → (done ≡ false → (m' ≡ (with_driver (missed m.0.driver) m.0, m.1))
      × (m.0.driver.told ≤ length m.0.driver.reaped))
      → MakesMiss segs n t seat m.0 f (loaded segs n t seat m m' t.homes) ⊎ MakesReap segs n t seat m.0 f
      (loaded segs n t seat m m' (set t.homes (last_place segs n t seat m.0 (extent segs m.0.driver.reaped) f) none))
  by-status f o true found hit miss =
      inr (record {
        oldest = o;
        with_dd = found;
        made = with-view t.words (set t.homes (last_place segs n t seat m.0 (extent segs m.0.driver.reaped) f) none) _ _
            (hit refl);
      })
  by-status f o false found hit miss =
      inl (record { oldest = o; without = found; made = with-view t.words t.homes _ _ (miss refl).0 })

  -- the frame is the next one, by the rule after the step
  next-is : (f : P) → m.0.gathers ≡ true → m' ≡ (with_device (fetching f 0 m.0.device) m.0, m.1)
      → HasDriver segs n t seat m m' → Keeps segs n (loaded segs n t seat m m' t.homes)
      → (r : Keeps segs n t) → (more : List P) × (r.driver.posted ≡ m.0.device.completed ++ f ∷ more)
  next-is f gathers e has keeps r =
      let there = set_else t.views seat has.0 m'.0 has.2 ∙ has.3 in
      let same = sym (r.drives has.0 has.1 has.3 has.4).1 ∙ (keeps.drives has.0 has.1 there has.4).1 in
      let s = device-stands segs n t.words t.homes (set t.views seat m'.0) keeps seat m'.0
      (set-there t.views seat m.0 m'.0 sits) (ap (λ (x : Me (Option P) (View P)). x.0.gathers) e ∙ gathers) in
      let at : DeviceAt segs s.waiting m'.0.device.completed (Fetching f 0) =
      subst (DeviceAt segs s.waiting m'.0.device.completed)
      (ap (λ (x : Me (Option P) (View P)). x.0.device.stage) e) s.fetches in
      (at.0.0, ap (λ (x : DriverView P). x.posted) same ∙ s.posted_is ∙ (λ i. (e i).0.device.completed ++ at.0.1 i))

  pub play-kinds : PlayKinds segs n t seat m m'
  play-kinds = record {
    write = λ x drives idle room told. record {
      drives = drives;
      is_idle = idle;
      room = room;
      made = with-view _ t.homes _ _ told;
    };
    write_last = λ x drives idle odd room told. record {
      drives = drives;
      is_idle = idle;
      odd = odd;
      room = room;
      made = with-view _ _ _ _ told;
    };
    post = λ f drives putting drafted frame carried told. record {
      drives = drives;
      putting = putting;
      drafted = drafted;
      frame = frame;
      made = with-view _ _ _ _ (told _ f carried);
    };
    blank = λ gathers rests meets told. record {
      gathers = gathers;
      rests = rests;
      at_head = meets;
      made = with-view t.words t.homes _ _ (told.0 meets).0;
    };
    find = λ gathers rests differs told. let z = told.1 differs in (
      (
        ap (λ (x : Me (Option P) (View P)). x.0.driver.misses) z.1,
        ap
            (λ (x : Me (Option P) (View P)). x.0.device.blanks) z.1,
        ap (λ (x : Me (Option P) (View P)). x.0.device.ended)
            z.1,
      ),
      (
        z.0,
        λ has keeps. record {
          gathers = gathers;
          rests = rests;
          elsewhere = differs;
          next = next-is z.0 gathers z.1 has keeps;
          made = with-view t.words t.homes _ _ z.1;
        },
      ),
    );
    fetch = λ f j gathers stage more k x told. record {
      gathers = gathers;
      began = stage;
      more = more;
      made = with-view t.words t.homes _ _ ((fetch-tells f j k x stage told).1 more);
    };
    fetch_last = λ f j gathers stage whole k x told. record {
      gathers = gathers;
      began = stage;
      whole = whole;
      made = with-view t.words _ _ _ ((fetch-tells f j k x stage told).2 whole);
    };
    complete = λ f gathers holds carried told. record {
      gathers = gathers;
      holds = holds;
      made = with-view _ _ _ _ (told _ f carried);
    };
    head = λ f gathers behind told. record { gathers = gathers; behind = behind; made = with-view _ t.homes _ _ told };
    status = λ f o told. let z = told f o.more o.pending in by-status f o z.0 z.1 z.3 z.4;
    give_back = λ drives stage k x told. record {
      drives = drives;
      reaping_stage = stage;
      made = with-view t.words _ _ _ told;
    };
    close = λ drives idle all told. record {
      drives = drives;
      is_idle = idle;
      all = all;
      made = with-view _ t.homes _ _ told;
    };
    end = λ gathers rests ne told. record {
      gathers = gathers;
      rests = rests;
      is_set = ne;
      made = with-view t.words t.homes _ _ (told.1 ne);
    };
    still_open = λ z told. same-table (told.0 z);
    compare = λ x told. same-table told.0;
  }

pub plays-are-kinds : {P : Type 0} (segs : P → List Seg) → PlaysAreKinds segs
plays-are-kinds segs n t seat m m' sits = play-kinds segs n t seat m m' sits
