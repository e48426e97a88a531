-- Each kind of step on the table is allowed.
use Rattle.std.proofs.Common.{◌≡◌, ℕ, ◌+◌, ◌-◌, ◌*◌, ◌/◌, ◌%◌, ◌≤◌, ◌⊎◌, List, [], ◌∷◌, ◌++◌, length, set, get_or, true}
use Rattle.std.proofs.Common.{false, sym, refl, ap, ◌∙◌, subst, inl, inr, ⊎_elim, arith, Option, Some, None}
use mathlib.Core.Logic.{dite}
use mathlib.Core.Option.{some, none}
use mathlib.Core.Option as maybe
use native.Mathlib.Decide.{ℕ_discrete}
use lib.ListN.{get_elem?}
use lib.Seq.{set-get_or}
use Rattle.atomic_table.specs.Table.{State, Me, step, keeps, takes, gives, put_back, Allows, Splits, Joins, rest}
use Rattle.atomic_table.proofs.Lists.{set_again}
use Rattle.flake_base.specs.declared.segment.Seg.{Seg}
use Rattle.tx_ring.specs.Words.{length_word, last_len, frame_words, IsFrame, size, extent}
use Rattle.tx_ring.specs.Rule.{Stands, IsRing, nobody}
use Rattle.tx_ring.specs.Moves.{drafting, drafted, posting, missed, reaping, idle, closing, blanked, fetching, holding}
use Rattle.tx_ring.specs.Moves.{completing, resting, ending}
use Rattle.tx_ring.specs.Plays.{with_driver, with_device, driver_part, device_part, both_parts, Keeps, wrote}
use Rattle.tx_ring.specs.Plays.{wrote_last, moved_tail, looked, fetched, wrote_back, moved_head, saw_status, gave_back}
use Rattle.tx_ring.specs.Plays.{shut, saw_closed, compared, Fetches}
use Rattle.tx_ring.specs.declared.view.View.{View}
use Rattle.tx_ring.specs.declared.view.DriverView.{DriverView}
use Rattle.tx_ring.specs.declared.view.DeviceView.{DeviceView}
use Rattle.tx_ring.specs.declared.view.DriverStage.TheVariants.{Idle, Putting, Reaping}
use Rattle.tx_ring.specs.declared.view.DeviceStage.TheVariants.{Resting, Fetching, Holding, Behind}
use Rattle.tx_ring.proofs.Posts.{writes, writes-last, moves-tail}
use Rattle.tx_ring.proofs.Gathers.{finds-none, finds-frame, finds-closed, next, loads, fetches-one, fetches-last}
use Rattle.tx_ring.proofs.Gathers.{writes-back, moves-head}
use Rattle.tx_ring.proofs.Reaps.{ahead, frame, misses, reaps, gives-back, closes}
use Rattle.tx_ring.proofs.Words.{last-short}
use Rattle.tx_ring.proofs.Seats.{driver-stands, device-stands, drives-on, gathers-on, ordered, parts, joins}

-- the frame in the slot that was taken last
abbrev pub held_frame : {P : Type 0} → P → List (ℕ × Option P) → P
held_frame f [] = f
held_frame f ((k, Some g) ∷ xs) = g
held_frame f ((k, None) ∷ xs) = f

abbrev pub first_of : {P : Type 0} → P → List P → P
first_of f [] = f
first_of f (g ∷ gs) = g

pub no_or_some : {P : Type 0} (xs : List P) → (xs ≡ []) ⊎ ((x : P) × (rest : List P) × (xs ≡ x ∷ rest))
no_or_some [] = inl refl
no_or_some (x ∷ xs) = inr (x, xs, refl)

pub one_frame : {P : Type 0} (xs : List P) (f g : P) (more gs : List P) → xs ++ f ∷ more ≡ xs ++ g ∷ gs → f ≡ g
one_frame [] f g more gs e = cc
one_frame (x ∷ xs) f g more gs e = one_frame xs f g more gs (cc)

module _ {P : Type 0} (segs : P → List Seg) (n seat : ℕ) (m : Me (Option P) (View P)) where
  module _ (drives : m.0.drives ≡ true) where
    abbrev d : DriverView P
    d = m.0.driver

    stands : (t : State (Option P) (View P)) (r : Keeps segs n t) → get_elem? t.views seat ≡ some m.0
        → Stands segs n t.words t.homes d r.device
    stands t r me = driver-stands segs n t.words t.homes t.views r seat m.0 me drives

    on : (t : State (Option P) (View P)) (r : Keeps segs n t) → get_elem? t.views seat ≡ some m.0
        → (words : List ℕ) (homes : List (maybe.Option (Option P))) (w : DriverView P)
        → Stands segs n words homes w r.device → IsRing segs n words homes (set t.views seat (with_driver w m.0))
    on t r me = drives-on segs n t.words t.homes t.views r seat m.0 me drives

    pub writes-word : (x : ℕ) → d.stage ≡ Idle → 2 * extent segs d.posted + length d.draft
        + 3 ≤ 2 * extent segs d.reaped + 2 * n
        → let k : ℕ = 3 + (2 * extent segs d.posted + length d.draft) % (2 * n) in Allows (Keeps segs n) n seat m k
        (λ _. x) (λ _. wrote segs (step n k x 0 none) m x)
    writes-word x is_idle room t r long me low = let k : ℕ = 3 + (2 * extent segs d.posted + length d.draft) %
        (2 * n) in (
          with_driver (drafting x d) m.0,
          keeps,
          tt,
          on t r me (set t.words k x) t.homes (drafting x d)
              (writes segs n t.words t.homes d r.device (stands t r me) x is_idle room),
          refl,
        )

    pub writes-last-word : (x : ℕ) → d.stage ≡ Idle → 2 * (length d.draft / 2) + 1 ≡ length d.draft
        → 2 * extent segs d.posted + length d.draft + 3 ≤ 2 * extent segs d.reaped + 2 * n
        → let k : ℕ = 3 + (2 * extent segs d.posted + length d.draft) % (2 * n) in Allows (Keeps segs n) n seat m k
        (λ _. x) (λ _. wrote_last segs (step n k x 0 none) m x)
    writes-last-word x is_idle odd room t r long me low =
        let k : ℕ = 3 + (2 * extent segs d.posted + length d.draft) % (2 * n) in
        let place : ℕ = (extent segs d.posted + length d.draft / 2) % n in
        let w = writes-last segs n t.words t.homes d r.device (stands t r me) x (length d.draft / 2) is_idle odd
        room in (
          with_driver (drafted x d) m.0,
          takes place None,
          w.1,
          on t r me (set t.words k x) (set t.homes place none)
              (drafted x d) w.0,
          refl,
        )

    pub moves-the-tail : (f : P) → d.stage ≡ Putting → d.draft ≡ frame_words false (segs f) → IsFrame (segs f)
        → m.1 ≡ ((extent segs d.posted + (size segs f - 1)) % n, Some f) ∷ []
        → let v : ℕ = (extent segs d.posted + size segs f) % n in Allows (Keeps segs n) n seat m 0 (λ _. v)
        (λ _. moved_tail segs (step n 0 v 0 none) m v)
    moves-the-tail f putting is frame carried t r long me low =
        let v : ℕ = (extent segs d.posted + size segs f) % n in
        let place : ℕ = (extent segs d.posted + (size segs f - 1)) % n in
        let after : List (ℕ × Option P) → Type 0 = λ c. IsRing segs n (set t.words 0 v) (put_back t.homes c)
        (set t.views seat (with_driver (posting f d) m.0)) in (
          with_driver (posting f d) m.0,
          gives,
          tt,
          subst after (sym carried)
              (on t r me (set t.words 0 v) (set t.homes place (some (Some f))) (posting f d)
              (moves-tail segs n t.words t.homes d r.device (stands t r me) f putting is frame)),
          λ k g e. let same : f ≡ g = ap (held_frame f) (sym carried ∙ e) in
              (λ j. (with_driver (posting (same j) d) m.0, ap rest carried j)),
        )

    -- the oldest frame's status, with two cases
    pub looks-at-status : (f : P) (more : List P) → d.stage ≡ Idle → d.draft ≡ [] → d.posted ≡ d.reaped ++ f ∷ more
        → let k : ℕ = 3 + (2 * extent segs d.reaped + (2 * size segs f - 1)) % (2 * n) in
        Allows (Keeps segs n) n seat m k (λ x. x) (saw_status segs (step n k 0 0 none) m)
    looks-at-status f more is_idle no_draft pending t r long me low =
        let k : ℕ = 3 + (2 * extent segs d.reaped + (2 * size segs f - 1)) % (2 * n) in
        let s = stands t r me in
        let place : ℕ = (extent segs d.reaped + (size segs f - 1)) % n in
        let small = last-short (segs f) (frame segs n t.words t.homes d r.device s f more is_idle no_draft pending).1 in
        let ahead_is = ahead segs n t.words t.homes d r.device s f more is_idle no_draft pending in
        let load = λ (homes : List (maybe.Option (Option P))) (w : DriverView P)
        (z : Stands segs n t.words homes w r.device).
        subst (λ ws. IsRing segs n ws homes (set t.views seat (with_driver w m.0))) (sym (set-get_or t.words k 0))
        (on t r me t.words homes w z) in
        ⊎_elim
        (λ (none_done : s.finished ≡ []).
        let w = misses segs n t.words t.homes d r.device s f more is_idle no_draft pending none_done in (
          with_driver (missed d) m.0,
          keeps,
          tt,
          load t.homes (missed d) w.1,
          λ g gs e. let one = one_frame d.reaped f g more gs (sym pending ∙ e) in (
            false,
            w.0 ∙ ap (λ x. length_word (last_len (segs x)) true false) one,
            subst (λ x. last_len (segs x) ≤ 4096) one small,
            (λ b. absurd (cc)),
            λ _. (refl, w.2),
          ),
        ))
        (λ (some_done : (g : P) × (rest : List P) × (s.finished ≡ g ∷ rest)).
        let same : some_done.0 ≡ f = ap (first_of f) (ap (λ x. x ++ s.waiting) (sym some_done.2) ∙ ahead_is) in
        let w = reaps segs n t.words t.homes d r.device s f more is_idle no_draft pending some_done.1
        (some_done.2 ∙ ap (λ x. x ∷ some_done.1) same) in (
          with_driver (reaping f d) m.0,
          takes place (Some f),
          w.2,
          load (set t.homes place none) (reaping f d) w.1,
          λ g gs e. let one = one_frame d.reaped f g more gs (sym pending ∙ e) in (
            true,
            w.0 ∙ ap (λ x. length_word (last_len (segs x)) true true) one,
            subst (λ x. last_len (segs x) ≤ 4096) one small,
            (λ _. (λ j. (
              with_driver (reaping (one j) d) m.0,
              ((extent segs d.reaped + (size segs (one j) - 1)) % n, Some (one j)) ∷ m.1,
            ))),
            λ b. absurd (cc),
          ),
        ))
        (no_or_some s.finished)

    pub gives-slot-back : d.stage ≡ Reaping → m.1 ≡ ((extent segs d.reaped + (n - 1)) % n, None) ∷ [] → (k : ℕ)
        → Allows (Keeps segs n) n seat m k (λ x. x) (gave_back segs (step n k 0 0 none) m)
    gives-slot-back reaping_stage carried k t r long me low =
        let after : List (ℕ × Option P) → Type 0 = λ c. IsRing segs n (set t.words k (get_or t.words k 0))
        (put_back t.homes c) (set t.views seat (with_driver (idle d) m.0)) in (
          with_driver (idle d) m.0,
          gives,
          tt,
          subst after (sym carried)
              (subst (λ ws. IsRing segs n ws (set t.homes ((extent segs d.reaped + (n - 1)) % n) (some None))
              (set t.views seat (with_driver (idle d) m.0))) (sym (set-get_or t.words k 0))
              (on t r me t.words (set t.homes ((extent segs d.reaped + (n - 1)) % n) (some None)) (idle d)
              (gives-back segs n t.words t.homes d r.device (stands t r me) reaping_stage))),
          refl,
        )

    pub closes-ring : d.stage ≡ Idle → d.posted ≡ d.reaped → Allows (Keeps segs n) n seat m 2 (λ _. 1)
        (λ _. shut segs (step n 2 1 0 none) m 1)
    closes-ring is_idle all t r long me low = (
      with_driver (closing d) m.0,
      keeps,
      tt,
      on t r me (set t.words 2 1) t.homes (closing d)
          (closes segs n t.words t.homes d r.device (stands t r me) is_idle all),
      refl,
    )

  module _ (gathers : m.0.gathers ≡ true) where
    abbrev e : DeviceView P
    e = m.0.device

    device-has : (t : State (Option P) (View P)) (r : Keeps segs n t) → get_elem? t.views seat ≡ some m.0
        → Stands segs n t.words t.homes r.driver e
    device-has t r me = device-stands segs n t.words t.homes t.views r seat m.0 me gathers

    device-on : (t : State (Option P) (View P)) (r : Keeps segs n t) → get_elem? t.views seat ≡ some m.0
        → (words : List ℕ) (homes : List (maybe.Option (Option P))) (w : DeviceView P)
        → Stands segs n words homes r.driver w → IsRing segs n words homes (set t.views seat (with_device w m.0))
    device-on t r me = gathers-on segs n t.words t.homes t.views r seat m.0 me gathers

    -- a load leaves the words
    loaded : (t : State (Option P) (View P)) (r : Keeps segs n t) → get_elem? t.views seat ≡ some m.0
        → (k : ℕ) (homes : List (maybe.Option (Option P))) (w : DeviceView P)
        → Stands segs n t.words homes r.driver w → IsRing segs n (set t.words k (get_or t.words k 0)) homes
        (set t.views seat (with_device w m.0))
    loaded t r me k homes w s = subst (λ ws. IsRing segs n ws homes (set t.views seat (with_device w m.0)))
        (sym (set-get_or t.words k 0)) (device-on t r me t.words homes w s)

    pub looks-at-tail : e.stage ≡ Resting → Allows (Keeps segs n) n seat m 0 (λ x. x)
        (looked segs (step n 0 0 0 none) m)
    looks-at-tail rests t r long me low = let s = device-has t r me in
        dite (ℕ_discrete (get_or t.words 0 0) (extent segs e.completed % n))
        (λ meets. let w = finds-none segs n t.words t.homes r.driver e s rests meets in (
          with_device (blanked e) m.0,
          keeps,
          tt,
          loaded t r me 0 t.homes (blanked e) w.0,
          ((λ _. (refl, omega (arith, s.device_told, ap length w.1))), λ ne. absurd (ne meets)),
        ))
        (λ differs. let w = finds-frame segs n t.words t.homes r.driver e s rests differs in (
          with_device (fetching w.0 0 e) m.0,
          keeps,
          tt,
          loaded t r me 0 t.homes (fetching w.0 0 e) w.1,
          ((λ meets. absurd (differs meets)), λ _. (w.0, refl, w.2, w.3)),
        ))

    pub fetches-word : (f : P) (j : ℕ) → e.stage ≡ Fetching f j
        → let k : ℕ = 3 + (2 * extent segs e.completed + j) % (2 * n) in Allows (Keeps segs n) n seat m k (λ x. x)
        (fetched segs (step n k 0 0 none) m)
    fetches-word f j stage t r long me low =
        let k : ℕ = 3 + (2 * extent segs e.completed + j) % (2 * n) in
        let s = device-has t r me in
        let told = loads segs n t.words t.homes r.driver e s f j stage in
        let short = (next segs n t.words t.homes r.driver e s f j stage).1 in
        let place : ℕ = (extent segs e.completed + (size segs f - 1)) % n in
        dite (ℕ_discrete (j + 1) (2 * size segs f))
        (λ whole. let w = fetches-last segs n t.words t.homes r.driver e s f j stage whole in (
          with_device (holding f e) m.0,
          takes place (Some f),
          w.1,
          loaded t r me k (set t.homes place none) (holding f e) w.0,
          subst (Fetches segs n m (get_or t.words k 0) (with_device (holding f e) m.0, (place, Some f) ∷ m.1))
              (sym stage) (told, (λ short. absurd (omega arith)), λ _. refl),
        ))
        (λ part. let w = fetches-one segs n t.words t.homes r.driver e s f j stage (omega arith) in (
          with_device (fetching f (j + 1) e) m.0,
          keeps,
          tt,
          loaded t r me k t.homes (fetching f (j + 1) e) w,
          subst (Fetches segs n m (get_or t.words k 0) (with_device (fetching f (j + 1) e) m.0, m.1)) (sym stage)
              (told, (λ _. refl), λ whole. absurd (part whole)),
        ))

    pub writes-status : (f : P) → e.stage ≡ Holding f
        → m.1 ≡ ((extent segs e.completed + (size segs f - 1)) % n, Some f) ∷ []
        → let k : ℕ = 3 + (2 * extent segs e.completed + (2 * size segs f - 1)) % (2 * n) in let x : ℕ =
        length_word (last_len (segs f)) true true in
        Allows (Keeps segs n) n seat m k (λ _. x) (λ _. wrote_back segs (step n k x 0 none) m x)
    writes-status f holds carried t r long me low =
        let k : ℕ = 3 + (2 * extent segs e.completed + (2 * size segs f - 1)) % (2 * n) in
        let x : ℕ = length_word (last_len (segs f)) true true in
        let place : ℕ = (extent segs e.completed + (size segs f - 1)) % n in
        let after : List (ℕ × Option P) → Type 0 = λ c. IsRing segs n (set t.words k x) (put_back t.homes c)
        (set t.views seat (with_device (completing f e) m.0)) in (
          with_device (completing f e) m.0,
          gives,
          tt,
          subst after (sym carried)
              (device-on t r me (set t.words k x) (set t.homes place (some (Some f))) (completing f e)
              (writes-back segs n t.words t.homes r.driver e (device-has t r me) f holds)),
          λ i g z. let same : f ≡ g = ap (held_frame f) (sym carried ∙ z) in
              (λ j. (with_device (completing (same j) e) m.0, ap rest carried j)),
        )

    pub moves-the-head : (f : P) → e.stage ≡ Behind f → let v : ℕ = extent segs e.completed % n in
        Allows (Keeps segs n) n seat m 1 (λ _. v) (λ _. moved_head segs (step n 1 v 0 none) m v)
    moves-the-head f behind t r long me low = let v : ℕ = extent segs e.completed % n in (
      with_device (resting e) m.0,
      keeps,
      tt,
      device-on t r me (set t.words 1 v) t.homes (resting e)
          (moves-head segs n t.words t.homes r.driver e (device-has t r me) f behind),
      refl,
    )

    pub looks-at-closed : e.stage ≡ Resting → Allows (Keeps segs n) n seat m 2 (λ x. x)
        (saw_closed segs (step n 2 0 0 none) m)
    looks-at-closed rests t r long me low = let s = device-has t r me in dite (ℕ_discrete (get_or t.words 2 0) 0)
        (λ open_word. (
          m.0,
          keeps,
          tt,
          subst (λ (p : List ℕ × List (View P)). IsRing segs n p.0 t.homes p.1)
              (λ j. (sym (set-get_or t.words 2 0) j, sym (set_again t.views seat m.0 me) j)) r,
          ((λ _. refl), λ ne. absurd (ne open_word)),
        ))
        (λ set_word. (
          with_device (ending e) m.0,
          keeps,
          tt,
          loaded t r me 2 t.homes (ending e)
              (finds-closed segs n t.words t.homes r.driver e s rests set_word),
          ((λ z. absurd (set_word z)), λ _. refl),
        ))

  -- both ends at one seat
  pub compares : m.0.drives ≡ true → m.0.gathers ≡ true → Allows (Keeps segs n) n seat m 0 (λ x. x)
      (compared segs (step n 0 0 0 none) m)
  compares drives gathers t r long me low = let o = ordered segs n t.words t.homes t.views r seat m.0 me drives gathers
      in (
        m.0,
        keeps,
        tt,
        subst (λ (p : List ℕ × List (View P)). IsRing segs n p.0 t.homes p.1)
            (λ j. (sym (set-get_or t.words 0 0) j, sym (set_again t.views seat m.0 me) j)) r,
        (refl, o.0, o.1),
      )

  pub splits : m.0.drives ≡ true → m.0.gathers ≡ true → Splits (Keeps segs n) seat m.0 (driver_part m.0)
      (device_part m.0)
  splits drives gathers t r me = parts segs n t.words t.homes t.views r seat m.0 me drives gathers

  pub joins-seats : (other : ℕ) (w : View P) → m.0.drives ≡ true → w.gathers ≡ true
      → Joins (Keeps segs n) seat m.0 other w (both_parts m.0 w) nobody
  joins-seats other w drives gathers t r me apart there = joins segs n t.words t.homes t.views r seat m.0 me drives
      other w apart there gathers
