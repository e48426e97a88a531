-- The device's steps keep the rule.
use Rattle.std.proofs.Common.{◌≡◌, ◌≢◌, ℕ, ◌+◌, ◌-◌, ◌*◌, ◌%◌, ◌<◌, List, [], ◌∷◌, ◌++◌, length, set, get_or, Bool}
use Rattle.std.proofs.Common.{true, false, sym, refl, ap, ◌∙◌, subst, length-set, get_or-set_other, get_or-set_same}
use Rattle.std.proofs.Common.{length-append, append_assoc, append-nil, arith, Option, Some, None}
use Rattle.std.proofs.lemmas.List.{get_or_append_left, get_or-append-add}
use mathlib.Core.Logic.{dite}
use mathlib.Core.Option.{some, none}
use mathlib.Core.Option as maybe
use native.Mathlib.Decide.{ℕ_discrete}
use lib.ListN.{get_elem?}
use Rattle.atomic_table.proofs.Lists.{one_turn}
use Rattle.flake_base.specs.declared.segment.Seg.{Seg}
use Rattle.tx_ring.specs.Words.{length_word, front, last_len, frame_words, EachElement, IsFrame, size, extent, lay}
use Rattle.tx_ring.specs.Words.{stops}
use Rattle.tx_ring.specs.Rule.{Round, Stands, DeviceHas, DeviceAt, lag}
use Rattle.tx_ring.specs.Moves.{blanked, fetching, holding, completing, resting, ending}
use Rattle.tx_ring.specs.declared.view.DriverView.{DriverView}
use Rattle.tx_ring.specs.declared.view.DeviceView.{DeviceView}
use Rattle.tx_ring.specs.declared.view.DeviceStage.{DeviceStage}
use Rattle.tx_ring.specs.declared.view.DeviceStage.TheVariants.{Resting, Fetching, Holding, Behind}
use Rattle.tx_ring.proofs.Rounds.{change, slot_here, slot_else, else_where}
use Rattle.tx_ring.proofs.Words.{each-left, each-right, front-length, frame-length, Frame, extent-append, lay-append}
use Rattle.tx_ring.proofs.Words.{lay-length, stop-at, extent-zero}
use Rattle.tx_ring.proofs.Posts.{sums, driver-above}
use Rattle.tx_ring.proofs.Restated.{restated}

module _ {P : Type 0} (segs : P → List Seg) (n : ℕ) (words : List ℕ) (homes : List (maybe.Option (Option P)))
    (d : DriverView P) (e : DeviceView P) (s : Stands segs n words homes d e) where
  -- the stage alone changes, and neither has the slot of a descriptor out
  restaged : (stage : DeviceStage P) → ((done at : ℕ) → DeviceHas segs done e.stage at → ⊥) → lag segs e.stage ≡ 0
      → lag segs stage ≡ 0 → DeviceAt segs s.waiting e.completed stage
      → (blanks : List ℕ) (ended : Bool) → (ended ≡ true → get_or words 2 0 ≢ 0)
      → Stands segs n words homes d
      (record { completed = e.completed; blanks = blanks; ended = ended; told = e.told; stage = stage })
  restaged stage free old new fetches blanks ended shut =
      restated s d.misses d.told blanks ended e.told stage (λ done at had. absurd (free done at had))
      (old ∙ sym new) fetches shut s.driver_told s.device_told

  module _ (rests : e.stage ≡ Resting) where
    free : (done at : ℕ) → DeviceHas segs done e.stage at → ⊥
    free done at h = subst (λ st. DeviceHas segs done st at) rests h

    -- the tail is at the head
    pub finds-none : get_or words 0 0 ≡ extent segs e.completed % n → Stands segs n words homes d (blanked e)
        × (d.posted ≡ e.completed)
    finds-none meets =
        let u = sums segs n words homes d e s in
        let fits = s.fits in
        let same : extent segs e.completed ≡ extent segs d.posted = one_turn (extent segs e.completed)
        (extent segs d.posted) n (omega (arith, u.high)) (omega (arith, u.high, u.here)) (sym meets ∙ s.tail) in
        let none : s.waiting ≡ [] = extent-zero segs s.waiting (each-right (Frame segs) s.finished s.waiting s.frames)
        (omega (arith, u.high)) in (
          restaged e.stage free (ap (lag segs) rests) (ap (lag segs) rests) s.fetches
              (e.blanks ++ length e.completed ∷ []) e.ended s.ended,
          s.posted_is ∙ ap (λ t. e.completed ++ t) none
              ∙ append-nil e.completed,
        )

    -- the next frame's words may be loaded
    pub finds-next : (f : P) (fs : List P) → s.waiting ≡ f ∷ fs → Stands segs n words homes d (fetching f 0 e)
        × IsFrame (segs f) × (size segs f < n)
    finds-next f fs w =
        let u = sums segs n words homes d e s in
        let fits = s.fits in
        let more = ap (extent segs) w in
        let a = subst (EachElement (Frame segs)) w (each-right (Frame segs) s.finished s.waiting s.frames) in
        let some_seg = a.0.0 in (
          restaged (Fetching f 0) free (ap (lag segs) rests) refl ((fs, w), omega arith) e.blanks e.ended s.ended,
          a.0,
          omega (arith, u.here),
        )

    -- the tail is elsewhere, so there is a frame
    pub finds-frame : get_or words 0 0 ≢ extent segs e.completed % n → (f : P)
        × Stands segs n words homes d (fetching f 0 e) × IsFrame (segs f) × (size segs f < n)
    finds-frame differs = some_frame s.waiting refl
      where
        some_frame : (waiting : List P) → s.waiting ≡ waiting → (f : P) × Stands segs n words homes d (fetching f 0 e)
            × IsFrame (segs f) × (size segs f < n)
        some_frame [] w = absurd
            (differs (s.tail ∙ ap (λ t. extent segs t % n)
            (s.posted_is ∙ ap (λ t. e.completed ++ t) w ∙ append-nil e.completed)))
        some_frame (f ∷ fs) w = let next = finds-next f fs w in (f, next.0, next.1, next.2)

    pub finds-closed : get_or words 2 0 ≢ 0 → Stands segs n words homes d (ending e)
    finds-closed ne = restaged e.stage free (ap (lag segs) rests) (ap (lag segs) rests) s.fetches e.blanks true
        (λ _. ne)

  module _ (f : P) (k : ℕ) (fetched : e.stage ≡ Fetching f k) where
    pub next : DeviceAt segs s.waiting e.completed (Fetching f k)
    next = subst (DeviceAt segs s.waiting e.completed) fetched s.fetches

    -- the word k of the next frame
    pub loads : get_or words (3 + (2 * extent segs e.completed + k) % (2 * n)) 0
        ≡ get_or (frame_words false (segs f)) k 0
    loads =
        let u = sums segs n words homes d e s in
        let a = next in
        let rest = a.0.0 in
        let w : s.waiting ≡ f ∷ rest = a.0.1 in
        let each = subst (EachElement (Frame segs)) w (each-right (Frame segs) s.finished s.waiting s.frames) in
        let A : List ℕ = lay segs true s.finished in
        let F : List ℕ = frame_words false (segs f) in
        let B : List ℕ = lay segs false rest ++ d.draft in
        let long : length F ≡ 2 * size segs f = frame-length false (segs f) each.0.0 in
        let last = a.1 in
        let start : length A ≡ 2 * extent segs s.finished = lay-length segs true s.finished
        (each-left (Frame segs) s.finished s.waiting s.frames) in
        let log : A ++ (lay segs false s.waiting ++ d.draft) ≡ A ++ (F ++ B) =
        ap (λ t. A ++ (lay segs false t ++ d.draft)) w
        ∙ ap (λ t. A ++ t) (append_assoc F (lay segs false rest) d.draft) in
        let r = subst (Round words 3 (2 * n) (2 * extent segs d.reaped)) log s.written in
        ap (λ t. get_or words (3 + t % (2 * n)) 0)
        (let p : 2 * extent segs e.completed + k ≡ 2 * extent segs d.reaped + (length A + k) =
        omega (arith, u.done) in p)
        ∙ r (length A + k) (omega (arith, length-append A (F ++ B), length-append F B))
        ∙ get_or-append-add A (F ++ B) k 0 ∙ get_or_append_left F B 0 k (omega arith)

    pub fetches-one : k + 1 < 2 * size segs f → Stands segs n words homes d (fetching f (k + 1) e)
    fetches-one short = restaged (Fetching f (k + 1)) (λ done at h. subst (λ st. DeviceHas segs done st at) fetched h)
        (ap (lag segs) fetched) refl (next.0, short) e.blanks e.ended s.ended

    pub fetches-last : k + 1 ≡ 2 * size segs f
        → Stands segs n words (set homes ((extent segs e.completed + (size segs f - 1)) % n) none) d (holding f e)
        × (get_elem? homes ((extent segs e.completed + (size segs f - 1)) % n) ≡ some (some (Some f)))
    fetches-last whole =
        let u = sums segs n words homes d e s in
        let a = next in
        let rest = a.0.0 in
        let w : s.waiting ≡ f ∷ rest = a.0.1 in
        let more = ap (extent segs) w in
        let fits = s.fits in
        let low : ℕ = extent segs d.reaped in
        let i : ℕ = extent segs s.finished + (size segs f - 1) in
        let place : low + i ≡ extent segs e.completed + (size segs f - 1) = omega (arith, u.done) in
        let near : i < n = omega (arith, u.here) in
        let free = λ (done at : ℕ) (h : DeviceHas segs done e.stage at). subst (λ st. DeviceHas segs done st at) fetched
        h in (
          record {
            word_count = s.word_count;
            slot_count = length-set homes ((extent segs e.completed + (size segs f - 1)) % n) none ∙ s.slot_count;
            finished = s.finished;
            waiting = s.waiting;
            completed_is = s.completed_is;
            posted_is = s.posted_is;
            frames = s.frames;
            fits = s.fits;
            written = s.written;
            tail = s.tail;
            head = s.head ∙ ap (λ t. (extent segs e.completed - t) % n) (ap (lag segs) fetched);
            slots = λ j h x y. let far : j ≢ i = λ z. y (omega arith) in
                ap (λ t. get_elem? (set homes (t % n) none) ((low + j) % n)) (sym place)
                ∙ slot_else homes n low i j none near h far
                ∙ s.slots j h x (free (extent segs e.completed) (low + j));
            fetches = (rest, w);
            closed = s.closed;
            ended = s.ended;
            shut = s.shut;
            driver_told = s.driver_told;
            device_told = s.device_told;
          },
          ap (λ t. get_elem? homes (t % n)) (sym place)
              ∙ s.slots i near (driver-above segs n low (extent segs d.posted) (low + i) d.draft d.stage
              (omega (arith, u.done, u.high)) (omega (arith, u.here))) (free (extent segs e.completed) (low + i))
              ∙ ap (λ t. some (some t))
              (ap (λ t. get_or (stops segs (s.finished ++ t)) i None) w ∙ stop-at segs s.finished rest f
              (each-left (Frame segs) s.finished s.waiting s.frames) (omega arith)),
        )

  module _ (f : P) (holds : e.stage ≡ Holding f) where
    held : DeviceAt segs s.waiting e.completed (Holding f)
    held = subst (DeviceAt segs s.waiting e.completed) holds s.fetches

    pub writes-back : Stands segs n
        (set words (3 + (2 * extent segs e.completed + (2 * size segs f - 1)) % (2 * n))
        (length_word (last_len (segs f)) true true))
        (set homes ((extent segs e.completed + (size segs f - 1)) % n) (some (Some f))) d (completing f e)
    writes-back =
        let u = sums segs n words homes d e s in
        let rest = held.0 in
        let w : s.waiting ≡ f ∷ rest = held.1 in
        let more = ap (extent segs) w in
        let fits = s.fits in
        let low : ℕ = extent segs d.reaped in
        let each = subst (λ t. EachElement (Frame segs) (s.finished ++ t)) w s.frames in
        let first = each-left (Frame segs) s.finished (f ∷ rest) each in
        let frame = (each-right (Frame segs) s.finished (f ∷ rest) each).0 in
        let some_seg = frame.0 in
        let x : ℕ = length_word (last_len (segs f)) true false in
        let y : ℕ = length_word (last_len (segs f)) true true in
        let k : ℕ = 3 + (2 * extent segs e.completed + (2 * size segs f - 1)) % (2 * n) in
        let i : ℕ = extent segs s.finished + (size segs f - 1) in
        let place : low + i ≡ extent segs e.completed + (size segs f - 1) = omega (arith, u.done) in
        let near : i < n = omega (arith, u.here) in
        let A : List ℕ = lay segs true s.finished in
        let F : List ℕ = front (segs f) in
        let R : List ℕ = lay segs false rest in
        let pieces = λ (z : ℕ). append_assoc A F (z ∷ (R ++ d.draft)) in
        let was : A ++ (lay segs false s.waiting ++ d.draft) ≡ (A ++ F) ++ x ∷ (R ++ d.draft) =
        ap (λ t. A ++ (lay segs false t ++ d.draft)) w
        ∙ ap (λ t. A ++ t) (append_assoc (F ++ x ∷ []) R d.draft ∙ append_assoc F (x ∷ []) (R ++ d.draft))
        ∙ sym (pieces x) in
        let now : (A ++ F) ++ y ∷ (R ++ d.draft) ≡ lay segs true (s.finished ++ f ∷ []) ++ (R ++ d.draft) =
        pieces y ∙ ap (λ t. A ++ t) (sym (append_assoc F (y ∷ []) (R ++ d.draft)))
        ∙ sym (append_assoc A (F ++ y ∷ []) (R ++ d.draft))
        ∙ ap (λ t. t ++ (R ++ d.draft))
        (ap (λ t. A ++ t) (sym (append-nil (F ++ y ∷ []))) ∙ sym (lay-append segs true s.finished (f ∷ []))) in
        let at : 2 * extent segs e.completed + (2 * size segs f - 1) ≡ 2 * low + length (A ++ F) =
        omega (arith, u.done, length-append A F, lay-length segs true s.finished first, front-length (segs f) frame.0)
        in
        let all : s.finished ++ s.waiting ≡ (s.finished ++ f ∷ []) ++ rest = ap (λ t. s.finished ++ t) w
        ∙ sym (append_assoc s.finished (f ∷ []) rest) in
        let grown : extent segs (e.completed ++ f ∷ []) ≡ extent segs e.completed + size segs f =
        omega (arith, extent-append segs e.completed (f ∷ [])) in
        let else = λ (i : ℕ) (low : i < 3). get_or-set_other words k i y 0 (λ b. absurd (omega arith)) in
        let closed_word = else 2 (omega arith) in
        record {
          word_count = length-set words k y ∙ s.word_count;
          slot_count = length-set homes ((extent segs e.completed + (size segs f - 1)) % n) (some (Some f))
              ∙ s.slot_count;
          finished = s.finished ++ f ∷ [];
          waiting = rest;
          completed_is = ap (λ t. t ++ f ∷ []) s.completed_is ∙ append_assoc d.reaped s.finished (f ∷ []);
          posted_is = s.posted_is ∙ ap (λ t. e.completed ++ t) w ∙ sym (append_assoc e.completed (f ∷ []) rest);
          frames = subst (EachElement (Frame segs)) all s.frames;
          fits = omega (arith, ap (extent segs) all);
          written = subst (λ (p : ℕ × List ℕ). Round (set words (3 + p.0 % (2 * n)) y) 3 (2 * n) (2 * low) p.1)
              (λ j. (sym at j, now j))
              (change words 3 (2 * n) (2 * low) (A ++ F) (R ++ d.draft) x y (omega (arith, s.word_count))
              (omega (arith, u.log, u.here, ap length was))
              (subst (Round words 3 (2 * n) (2 * low)) was s.written));
          tail = else 0 (omega arith) ∙ s.tail;
          head = else 1 (omega arith) ∙ s.head ∙ ap (λ t. t % n) (let z = ap (lag segs) holds in omega (arith, grown));
          slots = λ j h a b. dite (ℕ_discrete j i)
              (λ z. subst (λ t. get_elem?
              (set homes ((extent segs e.completed + (size segs f - 1)) % n) (some (Some f))) ((low + t) % n)
              ≡ some (some (get_or (stops segs ((s.finished ++ f ∷ []) ++ rest)) t None))) (sym z)
              (ap (λ t. get_elem? (set homes (t % n) (some (Some f))) ((low + i) % n)) (sym place)
              ∙ slot_here homes n low i (some (Some f)) s.slot_count near
              ∙ ap (λ t. some (some t))
              (sym (stop-at segs s.finished rest f first some_seg) ∙ ap (λ t. get_or (stops segs t) i None)
              (sym (append_assoc s.finished (f ∷ []) rest)))))
              (λ ne. ap (λ t. get_elem? (set homes (t % n) (some (Some f))) ((low + j) % n)) (sym place)
              ∙ slot_else homes n low i j (some (Some f)) near h ne
              ∙ s.slots j h a (λ had. let g = subst (λ st. DeviceHas segs (extent segs e.completed) st (low + j)) holds
              had in ne (omega (arith, u.done)))
              ∙ ap (λ t. some (some (get_or (stops segs t) j None))) all);
          fetches = (e.completed, refl);
          closed = λ ne. let c = s.closed (subst (λ t. t ≢ 0) closed_word ne) in c;
          ended = λ t. subst (λ t. t ≢ 0) (sym closed_word) (s.ended t);
          shut = λ t. subst (λ t. t ≢ 0) (sym closed_word) (s.shut t);
          driver_told = omega (arith, s.driver_told, length-append e.completed (f ∷ []));
          device_told = s.device_told;
        }

  pub moves-head : (f : P) → e.stage ≡ Behind f → Stands segs n (set words 1 (extent segs e.completed % n)) homes d
      (resting e)
  moves-head f behind =
      let v : ℕ = extent segs e.completed % n in
      let else = λ (i : ℕ) (ne : i ≢ 1). get_or-set_other words 1 i v 0 ne in
      let closed_word = else 2 (λ b. omega arith) in
      record {
        word_count = length-set words 1 v ∙ s.word_count;
        slot_count = s.slot_count;
        finished = s.finished;
        waiting = s.waiting;
        completed_is = s.completed_is;
        posted_is = s.posted_is;
        frames = s.frames;
        fits = s.fits;
        written = else_where words 3 (2 * n) (2 * extent segs d.reaped)
            (lay segs true s.finished ++ (lay segs false s.waiting ++ d.draft)) 1 v (omega arith) s.written;
        tail = else 0 (λ b. omega arith) ∙ s.tail;
        head = get_or-set_same words 1 v 0 (omega (arith, s.word_count))
            ∙ (let z : extent segs e.completed ≡ extent segs e.completed - 0 = omega arith in ap (λ t. t % n) z);
        slots = λ j h a b. s.slots j h a
            (λ had. subst (λ st. DeviceHas segs (extent segs e.completed) st (extent segs d.reaped + j)) behind had);
        fetches = tt;
        closed = λ ne. s.closed (subst (λ t. t ≢ 0) closed_word ne);
        ended = λ t. subst (λ t. t ≢ 0) (sym closed_word) (s.ended t);
        shut = λ t. subst (λ t. t ≢ 0) (sym closed_word) (s.shut t);
        driver_told = s.driver_told;
        device_told = s.device_told;
      }
