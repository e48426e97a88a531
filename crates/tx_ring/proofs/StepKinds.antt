-- Each kind of step keeps the rule, and tells what it is.
use Rattle.std.proofs.Common.{◌≡◌, ℕ, ◌+◌, ◌-◌, ◌*◌, ◌/◌, ◌%◌, ◌^◌, List, [], ◌∷◌, ◌++◌, length, set, replicate, true}
use Rattle.std.proofs.Common.{false, sym, refl, ap, ◌∙◌, subst, ⊎_elim, arith, Option}
use mathlib.Core.Option.{some, none}
use mathlib.Core.Option as maybe
use lib.ListN.{get_elem?}
use Rattle.atomic_table.specs.Table.{State}
use Rattle.atomic_table.proofs.Lists.{set_else}
use Rattle.flake_base.specs.declared.segment.Seg.{Seg}
use Rattle.tx_ring.specs.Words.{length_word, last_len, size, extent}
use Rattle.tx_ring.specs.Rule.{Stands, blank_driver, blank_device}
use Rattle.tx_ring.specs.Moves.{drafting, drafted, posting, missed, reaping, idle, closing, blanked, fetching, holding}
use Rattle.tx_ring.specs.Moves.{completing, resting, ending}
use Rattle.tx_ring.specs.Plays.{Keeps, with_driver, with_device, driver_part, device_part, both_parts}
use Rattle.tx_ring.specs.StepKinds as step
use Rattle.tx_ring.specs.StepKinds.{RingStep, Makes, table, StepsKeepRings}
use Rattle.tx_ring.specs.Runs.{Tally, nothing_told, tell, tells, DriverTells, DeviceTells, opened, Runs}
use Rattle.tx_ring.specs.Runs.{RingViewsCountRuns}
use Rattle.tx_ring.specs.declared.view.View.{View}
use Rattle.tx_ring.specs.declared.view.DriverView.{DriverView}
use Rattle.tx_ring.specs.declared.view.DeviceView.{DeviceView}
use Rattle.tx_ring.proofs.Posts.{writes, writes-last, moves-tail}
use Rattle.tx_ring.proofs.Gathers.{finds-none, finds-next, finds-closed, fetches-one, fetches-last, writes-back}
use Rattle.tx_ring.proofs.Gathers.{moves-head}
use Rattle.tx_ring.proofs.Reaps.{ahead, misses, reaps, gives-back, closes}
use Rattle.tx_ring.proofs.Seats.{driver-stands, device-stands, drives-on, drives-on-has, gathers-on, gathers-on-has}
use Rattle.tx_ring.proofs.Seats.{parts, parts-has, joins, joins-has, enters, enters-has, opens, opens-has}
use Rattle.tx_ring.proofs.Steps.{first_of, no_or_some}

-- the rule holds, and both ends' lists are those that were told
pub record After {P : Type 0} (segs : P → List Seg) (n : ℕ) (y : Tally P) (t : State (Option P) (View P)) : Type 0 where
  pub keeps : Keeps segs n t
  pub driver : DriverTells y keeps.driver
  pub device : DeviceTells y keeps.device

after : {P : Type 0} {segs : P → List Seg} {n : ℕ} (y : Tally P) {t : State (Option P) (View P)}
    (keeps : Keeps segs n t) (d : DriverView P) (e : DeviceView P) → (keeps.driver ≡ d) × (keeps.device ≡ e)
    → DriverTells y d → DeviceTells y e → After segs n y t
after y keeps d e has told other = record {
  keeps = keeps;
  driver = subst (DriverTells y) (sym has.0) told;
  device = subst (DeviceTells y) (sym has.1) other;
}

-- what follows a list is known by the whole
behind : {P : Type 0} (before xs ys : List P) → before ++ xs ≡ before ++ ys → xs ≡ ys
behind [] xs ys e = e
behind {P} (b ∷ before) xs ys e = behind before xs ys (ap tail_of e)
  where
    tail_of : List P → List P
    tail_of [] = []
    tail_of (z ∷ zs) = zs

-- a status has DD or not
one_status : (l : ℕ) → length_word l true false ≡ length_word l true true → ⊥
one_status l e = let z : l + 9 * 2 ^ 24 + 0 ≡ l + 9 * 2 ^ 24 + 2 ^ 32 = e in omega arith

module _ {P : Type 0} (segs : P → List Seg) (n : ℕ) (y : Tally P) (t : State (Option P) (View P)) (a : After segs n y t)
    (seat : ℕ) (v : View P) (me : get_elem? t.views seat ≡ some v) where
  abbrev r : Keeps segs n t
  r = a.keeps

  along : (y' : Tally P) (new made : State (Option P) (View P)) → new ≡ made → After segs n y' made
      → After segs n y' new
  along y' new made e = subst (After segs n y') (sym e)

  module _ (drives : v.drives ≡ true) where
    stands : Stands segs n t.words t.homes v.driver r.device
    stands = driver-stands segs n t.words t.homes t.views r seat v me drives

    mine : DriverTells y v.driver
    mine = subst (DriverTells y) (sym (r.drives seat v me drives).1) a.driver

    driven : (y' : Tally P) (words : List ℕ) (homes : List (maybe.Option (Option P))) (d : DriverView P)
        → Stands segs n words homes d r.device → DriverTells y' d → DeviceTells y' r.device
        → After segs n y' (table words homes (set t.views seat (with_driver d v)))
    driven y' words homes d s told other =
        after y' (drives-on segs n t.words t.homes t.views r seat v me drives words homes d s) d r.device
        (drives-on-has segs n t.words t.homes t.views r seat v me drives words homes d s) told other

    -- the lists stay
    still : (words : List ℕ) (homes : List (maybe.Option (Option P))) (d : DriverView P)
        → Stands segs n words homes d r.device → d.posted ≡ v.driver.posted → d.reaped ≡ v.driver.reaped
        → d.misses ≡ v.driver.misses
        → After segs n y (table words homes (set t.views seat (with_driver d v)))
    still words homes d s p q m = driven y words homes d s
        (record { posted = p ∙ mine.posted; reaped = q ∙ mine.reaped; misses = m ∙ mine.misses }) a.device

  module _ (gathers : v.gathers ≡ true) where
    device-has : Stands segs n t.words t.homes r.driver v.device
    device-has = device-stands segs n t.words t.homes t.views r seat v me gathers

    its : DeviceTells y v.device
    its = subst (DeviceTells y) (sym (r.gathers seat v me gathers).1) a.device

    gathered : (y' : Tally P) (words : List ℕ) (homes : List (maybe.Option (Option P))) (e : DeviceView P)
        → Stands segs n words homes r.driver e → DriverTells y' r.driver → DeviceTells y' e
        → After segs n y' (table words homes (set t.views seat (with_device e v)))
    gathered y' words homes e s other told =
        after y' (gathers-on segs n t.words t.homes t.views r seat v me gathers words homes e s) r.driver e
        (gathers-on-has segs n t.words t.homes t.views r seat v me gathers words homes e s) other told

    as-before : (words : List ℕ) (homes : List (maybe.Option (Option P))) (e : DeviceView P)
        → Stands segs n words homes r.driver e → e.completed ≡ v.device.completed → e.blanks ≡ v.device.blanks
        → e.ended ≡ v.device.ended
        → After segs n y (table words homes (set t.views seat (with_device e v)))
    as-before words homes e s c b z = gathered y words homes e s a.driver
        (record { completed = c ∙ its.completed; blanks = b ∙ its.blanks; ended = z ∙ its.ended })

  abbrev To : RingStep P → State (Option P) (View P) → Type 0
  To kind new = After segs n (tell kind y) new

  -- the oldest frame's status says whether it was completed
  missed-is : (f : P) (new : State (Option P) (View P)) → step.MakesMiss segs n t seat v f new → To (step.misses f) new
  missed-is f new m =
      let o = m.oldest in
      let s = stands o.drives in
      let d = v.driver in
      let told = mine o.drives in
      along (tell (step.misses f) y) new _ m.made (driven o.drives (tell (step.misses f) y) t.words t.homes (missed d)
      (⊎_elim
      (λ (none_done : s.finished ≡ []).
      (misses segs n t.words t.homes d r.device s f o.more o.is_idle o.no_draft o.pending none_done).1)
      (λ (some_done : (g : P) × (rest : List P) × (s.finished ≡ g ∷ rest)).
      let same : some_done.0 ≡ f =
      ap (first_of f) (ap (λ x. x ++ s.waiting) (sym some_done.2)
      ∙ ahead segs n t.words t.homes d r.device s f o.more o.is_idle o.no_draft o.pending) in
      let w = reaps segs n t.words t.homes d r.device s f o.more o.is_idle o.no_draft o.pending some_done.1
      (some_done.2 ∙ ap (λ x. x ∷ some_done.1) same) in
      absurd (one_status (last_len (segs f)) (sym m.without ∙ w.0)))
      (no_or_some s.finished))
      (record {
        posted = told.posted;
        reaped = told.reaped;
        misses = λ i. told.misses i ++ length (told.reaped i)
            ∷ [];
      })
      (record { completed = a.device.completed; blanks = a.device.blanks; ended = a.device.ended }))

  reaped-is : (f : P) (new : State (Option P) (View P)) → step.MakesReap segs n t seat v f new → To (step.reaps f) new
  reaped-is f new m =
      let o = m.oldest in
      let s = stands o.drives in
      let d = v.driver in
      let told = mine o.drives in
      along (tell (step.reaps f) y) new _ m.made
      (driven o.drives (tell (step.reaps f) y) t.words
      (set t.homes ((extent segs d.reaped + (size segs f - 1)) % n) none) (reaping f d)
      (⊎_elim
      (λ (none_done : s.finished ≡ []). absurd
      (one_status (last_len (segs f))
      (sym (misses segs n t.words t.homes d r.device s f o.more o.is_idle o.no_draft o.pending none_done).0
      ∙ m.with_dd)))
      (λ (some_done : (g : P) × (rest : List P) × (s.finished ≡ g ∷ rest)).
      let same : some_done.0 ≡ f =
      ap (first_of f) (ap (λ x. x ++ s.waiting) (sym some_done.2)
      ∙ ahead segs n t.words t.homes d r.device s f o.more o.is_idle o.no_draft o.pending) in
      (reaps segs n t.words t.homes d r.device s f o.more o.is_idle o.no_draft o.pending some_done.1
      (some_done.2 ∙ ap (λ x. x ∷ some_done.1) same)).1)
      (no_or_some s.finished))
      (record { posted = told.posted; reaped = ap (λ xs. xs ++ f ∷ []) told.reaped; misses = told.misses })
      (record { completed = a.device.completed; blanks = a.device.blanks; ended = a.device.ended }))

  pub makes-is : (kind : RingStep P) (new : State (Option P) (View P)) → Makes segs n t seat v kind new → To kind new
  makes-is (step.writes x) new m =
      along y new _ m.made (still m.drives _ t.homes (drafting x v.driver)
      (writes segs n t.words t.homes v.driver r.device (stands m.drives) x m.is_idle m.room) refl refl refl)
  makes-is (step.writes_last x) new m =
      along y new _ m.made (still m.drives _ _ (drafted x v.driver)
      (writes-last segs n t.words t.homes v.driver r.device (stands m.drives) x (length v.driver.draft / 2) m.is_idle
      m.odd m.room).0 refl refl refl)
  makes-is (step.posts f) new m = let told = mine m.drives in
      along (tell (step.posts f) y) new _ m.made
      (driven m.drives (tell (step.posts f) y) _ _ (posting f v.driver)
      (moves-tail segs n t.words t.homes v.driver r.device (stands m.drives) f m.putting m.drafted m.frame)
      (record { posted = ap (λ xs. xs ++ f ∷ []) told.posted; reaped = told.reaped; misses = told.misses })
      (record { completed = a.device.completed; blanks = a.device.blanks; ended = a.device.ended }))
  makes-is step.blanks new m = let told = its m.gathers in
      along (tell step.blanks y) new _ m.made
      (gathered m.gathers (tell step.blanks y) _ _ (blanked v.device)
      (finds-none segs n t.words t.homes r.driver v.device (device-has m.gathers) m.rests m.at_head).0
      (record { posted = a.driver.posted; reaped = a.driver.reaped; misses = a.driver.misses })
      (record {
        completed = told.completed;
        blanks = λ i. told.blanks i ++ length (told.completed i) ∷ [];
        ended = told.ended;
      }))
  makes-is (step.finds f) new m =
      let s = device-has m.gathers in
      let next = m.next r in
      along y new _ m.made (as-before m.gathers _ _ (fetching f 0 v.device)
      (finds-next segs n t.words t.homes r.driver v.device s m.rests f next.0
      (behind v.device.completed s.waiting (f ∷ next.0) (sym s.posted_is ∙ next.1))).0 refl refl refl)
  makes-is (step.fetches f j) new m =
      along y new _ m.made (as-before m.gathers _ _ (fetching f (j + 1) v.device)
      (fetches-one segs n t.words t.homes r.driver v.device (device-has m.gathers) f j m.began m.more) refl refl refl)
  makes-is (step.fetches_last f j) new m =
      along y new _ m.made (as-before m.gathers _ _ (holding f v.device)
      (fetches-last segs n t.words t.homes r.driver v.device (device-has m.gathers) f j m.began m.whole).0 refl refl
      refl)
  makes-is (step.completes f) new m = let told = its m.gathers in
      along (tell (step.completes f) y) new _ m.made
      (gathered m.gathers (tell (step.completes f) y) _ _ (completing f v.device)
      (writes-back segs n t.words t.homes r.driver v.device (device-has m.gathers) f m.holds)
      (record { posted = a.driver.posted; reaped = a.driver.reaped; misses = a.driver.misses })
      (record { completed = ap (λ xs. xs ++ f ∷ []) told.completed; blanks = told.blanks; ended = told.ended }))
  makes-is (step.moves_head f) new m =
      along y new _ m.made (as-before m.gathers _ _ (resting v.device)
      (moves-head segs n t.words t.homes r.driver v.device (device-has m.gathers) f m.behind) refl refl refl)
  makes-is (step.misses f) new m = missed-is f new m
  makes-is (step.reaps f) new m = reaped-is f new m
  makes-is step.gives_back new m =
      along y new _ m.made (still m.drives _ _ (idle v.driver)
      (gives-back segs n t.words t.homes v.driver r.device (stands m.drives) m.reaping_stage) refl refl refl)
  makes-is step.closes new m =
      along y new _ m.made (still m.drives _ _ (closing v.driver)
      (closes segs n t.words t.homes v.driver r.device (stands m.drives) m.is_idle m.all) refl refl refl)
  makes-is step.ends new m = let told = its m.gathers in
      along (tell step.ends y) new _ m.made
      (gathered m.gathers (tell step.ends y) _ _ (ending v.device)
      (finds-closed segs n t.words t.homes r.driver v.device (device-has m.gathers) m.rests m.is_set)
      (record { posted = a.driver.posted; reaped = a.driver.reaped; misses = a.driver.misses })
      (record { completed = told.completed; blanks = told.blanks; ended = refl }))
  makes-is step.peeks new m = along y new t m a
  makes-is step.splits new m = let told = mine m.drives in let its_lists = its m.gathers in
      along y new _ m.made (after y (parts segs n t.words t.homes t.views r seat v me m.drives m.gathers)
      (driver_part v).driver (device_part v).device
      (parts-has segs n t.words t.homes t.views r seat v me m.drives m.gathers)
      (record { posted = told.posted; reaped = told.reaped; misses = told.misses })
      (record { completed = its_lists.completed; blanks = its_lists.blanks; ended = its_lists.ended }))
  makes-is (step.joins other w) new m = let there = set_else t.views seat other (both_parts v w) m.apart ∙ m.sits in
      along y new _ m.made (after y
      (joins segs n t.words t.homes t.views r seat v me m.drives other w m.apart there m.gathers) r.driver r.device
      (joins-has segs n t.words t.homes t.views r seat v me m.drives other w m.apart there m.gathers) a.driver
      a.device)
  makes-is step.enters new m =
      along y new _ m (after y (enters segs n t.words t.homes t.views r) r.driver r.device
      (enters-has segs n t.words t.homes t.views r) a.driver a.device)

pub steps-keep-rings : {P : Type 0} (segs : P → List Seg) → StepsKeepRings segs
steps-keep-rings {P} segs n t new seat v kind r me m =
    let y : Tally P = record {
      posted = r.driver.posted;
      reaped = r.driver.reaped;
      misses = r.driver.misses;
      completed = r.device.completed;
      blanks = r.device.blanks;
      ended = r.device.ended;
    } in
    (makes-is segs n y t (record {
      keeps = r;
      driver = record { posted = refl; reaped = refl; misses = refl };
      device = record { completed = refl; blanks = refl; ended = refl };
    }) seat v me kind new m).keeps

run : {P : Type 0} (segs : P → List Seg) (n : ℕ) (kinds : List (RingStep P)) (old end : State (Option P) (View P))
    (y : Tally P) → After segs n y old → Runs segs n old kinds end → After segs n (tells kinds y) end
run segs n [] old end y a same = subst (After segs n y) (sym same) a
run segs n (kind ∷ kinds) old end y a steps =
    let mid = steps.0 in
    let one = steps.1 in
    run segs n kinds mid end (tell kind y) (makes-is segs n y old a one.seat one.view one.sits kind mid one.makes)
    steps.2

pub runs-are-told : {P : Type 0} (segs : P → List Seg) → RingViewsCountRuns segs
runs-are-told {P} segs n kinds end some_place steps =
    let words : List ℕ = replicate (3 + 2 * n) 0 in
    let first : After segs n nothing_told (opened n) = after nothing_told (opens segs n words some_place refl)
    blank_driver blank_device (opens-has segs n words some_place refl)
    (record { posted = refl; reaped = refl; misses = refl }) (record { completed = refl; blanks = refl; ended = refl })
    in
    let a = run segs n kinds (opened n) end nothing_told first steps in
    record {
      keeps = a.keeps;
      drivers = λ seat v at t. subst (DriverTells (tells kinds nothing_told)) (sym (a.keeps.drives seat v at t).1)
          a.driver;
      devices = λ seat v at t. subst (DeviceTells (tells kinds nothing_told)) (sym (a.keeps.gathers seat v at t).1)
          a.device;
    }
