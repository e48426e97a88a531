-- The driver's steps of a post keep the rule.
use Rattle.std.proofs.Common.{◌≡◌, ◌≢◌, ℕ, suc, ◌+◌, ◌-◌, ◌*◌, ◌%◌, ◌<◌, ◌≤◌, List, [], ◌∷◌, ◌++◌, length, set, get_or}
use Rattle.std.proofs.Common.{true, false, sym, ap, ◌∙◌, subst, length-set, get_or-set_other, get_or-set_same}
use Rattle.std.proofs.Common.{length-append, append_assoc, append-nil, arith, Option, Some, None}
use Rattle.std.proofs.lemmas.List.{get_or_past}
use mathlib.Core.Logic.{dite}
use mathlib.Core.Option.{some, none}
use mathlib.Core.Option as maybe
use native.Mathlib.Decide.{ℕ_discrete}
use lib.ListN.{get_elem?}
use Rattle.flake_base.specs.declared.segment.Seg.{Seg}
use Rattle.tx_ring.specs.Words.{frame_words, EachElement, IsFrame, size, extent, lay, stops}
use Rattle.tx_ring.specs.Rule.{Round, Stands, DriverHas, DeviceHas, DeviceAt}
use Rattle.tx_ring.specs.Moves.{drafting, drafted, posting}
use Rattle.tx_ring.specs.declared.view.DriverView.{DriverView}
use Rattle.tx_ring.specs.declared.view.DeviceView.{DeviceView}
use Rattle.tx_ring.specs.declared.view.DriverStage.{DriverStage}
use Rattle.tx_ring.specs.declared.view.DriverStage.TheVariants.{Idle, Putting, Reaping, Closed}
use Rattle.tx_ring.specs.declared.view.DeviceStage.{DeviceStage}
use Rattle.tx_ring.specs.declared.view.DeviceStage.TheVariants.{Resting, Fetching, Holding, Behind}
use Rattle.tx_ring.proofs.Rounds.{more, slot_here, slot_else, else_where}
use Rattle.tx_ring.proofs.Words.{each-append, each-left, each-right, frame-length, Frame, extent-append, lay-append}
use Rattle.tx_ring.proofs.Words.{lay-length, stops-length, stop-at, stop-else}

module _ {P : Type 0} (segs : P → List Seg) where
  -- how many descriptors each list has, from where they stand
  pub record Sums (n : ℕ) (words : List ℕ) (homes : List (maybe.Option (Option P))) (d : DriverView P)
      (e : DeviceView P) (s : Stands segs n words homes d e) : Type 0 where
    pub done : extent segs e.completed ≡ extent segs d.reaped + extent segs s.finished
    pub high : extent segs d.posted ≡ extent segs e.completed + extent segs s.waiting
    pub here : extent segs (s.finished ++ s.waiting) ≡ extent segs s.finished + extent segs s.waiting
    pub log : length (lay segs true s.finished ++ (lay segs false s.waiting ++ d.draft)) ≡ 2 * extent segs s.finished
        + (2 * extent segs s.waiting + length d.draft)

  pub sums : (n : ℕ) (words : List ℕ) (homes : List (maybe.Option (Option P))) (d : DriverView P) (e : DeviceView P)
      (s : Stands segs n words homes d e) → Sums n words homes d e s
  sums n words homes d e s = record {
    done = ap (extent segs) s.completed_is ∙ extent-append segs d.reaped s.finished;
    high = ap (extent segs) s.posted_is ∙ extent-append segs e.completed s.waiting;
    here = extent-append segs s.finished s.waiting;
    log = omega (
      arith,
      length-append (lay segs true s.finished) (lay segs false s.waiting ++ d.draft),
      length-append (lay segs false s.waiting) d.draft,
      lay-length segs true s.finished (each-left (Frame segs) s.finished s.waiting s.frames),
      lay-length segs false s.waiting (each-right (Frame segs) s.finished s.waiting s.frames),
    );
  }

  -- a slot that the device has out lies below the tail
  pub device-below : (waiting completed : List P) (stage : DeviceStage P) (done at : ℕ)
      → DeviceAt segs waiting completed stage → DeviceHas segs done stage at → at < done + extent segs waiting
  device-below waiting completed Resting done at a h = absurd h
  device-below waiting completed (Fetching f k) done at a h = absurd h
  device-below waiting completed (Holding f) done at a h = let e = ap (extent segs) a.1 in omega arith
  device-below waiting completed (Behind f) done at a h = absurd h

  -- and not below the frames that were completed
  pub device-from : (waiting completed : List P) (stage : DeviceStage P) (done at : ℕ)
      → EachElement (Frame segs) waiting → DeviceAt segs waiting completed stage → DeviceHas segs done stage at
      → done ≤ at
  device-from waiting completed Resting done at frames a h = absurd h
  device-from waiting completed (Fetching f k) done at frames a h = absurd h
  device-from waiting completed (Holding f) done at frames a h = let k =
      (subst (EachElement (Frame segs)) a.1 frames).0.0 in omega arith
  device-from waiting completed (Behind f) done at frames a h = absurd h

  -- one that the driver has out does not
  pub driver-above : (n low high at : ℕ) (draft : List ℕ) (stage : DriverStage) → at < high → suc at < low + n
      → ¬ (DriverHas segs n low high draft stage at)
  driver-above n low high at draft Idle below short h = h
  driver-above n low high at draft Putting below short h = omega arith
  driver-above n low high at draft Reaping below short h = omega arith
  driver-above n low high at draft Closed below short h = h

  pub device-more : (waiting completed : List P) (stage : DeviceStage P) (g : P) → DeviceAt segs waiting completed stage
      → DeviceAt segs (waiting ++ g ∷ []) completed stage
  device-more waiting completed Resting g a = tt
  device-more waiting completed (Fetching f k) g a = ((a.0.0 ++ g ∷ [], ap (λ t. t ++ g ∷ []) a.0.1), a.1)
  device-more waiting completed (Holding f) g a = (a.0 ++ g ∷ [], ap (λ t. t ++ g ∷ []) a.1)
  device-more waiting completed (Behind f) g a = a

  module _ (n : ℕ) (words : List ℕ) (homes : List (maybe.Option (Option P))) (d : DriverView P) (e : DeviceView P)
      (s : Stands segs n words homes d e) where
    -- a word more behind the tail
    draft-more : (x : ℕ) → 2 * extent segs d.posted + length d.draft + 3 ≤ 2 * extent segs d.reaped + 2 * n
        → Round (set words (3 + (2 * extent segs d.posted + length d.draft) % (2 * n)) x) 3 (2 * n)
        (2 * extent segs d.reaped) (lay segs true s.finished ++ (lay segs false s.waiting ++ (d.draft ++ x ∷ [])))
    draft-more x room =
        let q = sums n words homes d e s in
        let A : List ℕ = lay segs true s.finished in
        let B : List ℕ = lay segs false s.waiting in
        let at : 2 * extent segs d.posted + length d.draft ≡ 2 * extent segs d.reaped + length (A ++ (B ++ d.draft)) =
        omega (arith, q.done, q.high, q.log) in
        let same : (A ++ (B ++ d.draft)) ++ x ∷ [] ≡ A ++ (B ++ (d.draft ++ x ∷ [])) = append_assoc A (B ++ d.draft)
        (x ∷ []) ∙ ap (λ t. A ++ t) (append_assoc B d.draft (x ∷ [])) in
        subst (λ (p : ℕ × List ℕ). Round (set words (3 + p.0 % (2 * n)) x) 3 (2 * n) (2 * extent segs d.reaped) p.1)
        (λ k. (sym at k, same k))
        (more words 3 (2 * n) (2 * extent segs d.reaped) (A ++ (B ++ d.draft)) x (omega (arith, s.word_count))
        (omega (arith, q.done, q.high, q.log)) s.written)

    pub writes : (x : ℕ) → d.stage ≡ Idle → 2 * extent segs d.posted + length d.draft + 3 ≤ 2 * extent segs d.reaped
        + 2 * n
        → Stands segs n (set words (3 + (2 * extent segs d.posted + length d.draft) % (2 * n)) x) homes (drafting x d) e
    writes x idle room =
        let q = sums n words homes d e s in
        let k : ℕ = 3 + (2 * extent segs d.posted + length d.draft) % (2 * n) in
        let else = λ (i : ℕ) (low : i < 3). get_or-set_other words k i x 0 (λ b. absurd (omega arith)) in
        let closed_word = else 2 (omega arith) in
        record {
          word_count = length-set words k x ∙ s.word_count;
          slot_count = s.slot_count;
          finished = s.finished;
          waiting = s.waiting;
          completed_is = s.completed_is;
          posted_is = s.posted_is;
          frames = s.frames;
          fits = omega (arith, q.done, q.high, q.here, length-append d.draft (x ∷ []));
          written = draft-more x room;
          tail = else 0 (omega arith) ∙ s.tail;
          head = else 1 (omega arith) ∙ s.head;
          slots = λ j h a b. s.slots j h
              (λ had. subst (λ st. DriverHas segs n (extent segs d.reaped) (extent segs d.posted) d.draft st
              (extent segs d.reaped + j)) idle had) b;
          fetches = s.fetches;
          closed = λ ne. s.closed (subst (λ t. t ≢ 0) closed_word ne);
          ended = λ t. subst (λ t. t ≢ 0) (sym closed_word) (s.ended t);
          shut = λ t. subst (λ t. t ≢ 0) (sym closed_word) (s.shut t);
          driver_told = s.driver_told;
          device_told = s.device_told;
        }

    -- the last word of a frame, and the slot of its descriptor is taken
    pub writes-last : (x q : ℕ) → d.stage ≡ Idle → 2 * q + 1 ≡ length d.draft → 2 * extent segs d.posted
        + length d.draft + 3 ≤ 2 * extent segs d.reaped + 2 * n
        → Stands segs n (set words (3 + (2 * extent segs d.posted + length d.draft) % (2 * n)) x)
        (set homes ((extent segs d.posted + q) % n) none) (drafted x d) e
        × (get_elem? homes ((extent segs d.posted + q) % n) ≡ some (some None))
    writes-last x q idle odd room =
        let u = sums n words homes d e s in
        let k : ℕ = 3 + (2 * extent segs d.posted + length d.draft) % (2 * n) in
        let low : ℕ = extent segs d.reaped in
        let i : ℕ = extent segs (s.finished ++ s.waiting) + q in
        let place : low + i ≡ extent segs d.posted + q = omega (arith, u.done, u.high, u.here) in
        let near : i < n = omega (arith, u.done, u.high, u.here) in
        let free = λ (j : ℕ) (had : DriverHas segs n low (extent segs d.posted) d.draft d.stage (low + j)). subst
        (λ st. DriverHas segs n low (extent segs d.posted) d.draft st (low + j)) idle had in
        let else = λ (i : ℕ) (low : i < 3). get_or-set_other words k i x 0 (λ b. absurd (omega arith)) in
        let closed_word = else 2 (omega arith) in (
          record {
            word_count = length-set words k x ∙ s.word_count;
            slot_count = length-set homes ((extent segs d.posted + q) % n) none ∙ s.slot_count;
            finished = s.finished;
            waiting = s.waiting;
            completed_is = s.completed_is;
            posted_is = s.posted_is;
            frames = s.frames;
            fits = omega (arith, u.done, u.high, u.here, length-append d.draft (x ∷ []));
            written = draft-more x room;
            tail = else 0 (omega arith) ∙ s.tail;
            head = else 1 (omega arith) ∙ s.head;
            slots = λ j h a b. let far : j ≢ i =
                λ e. a (omega (arith, place), omega (arith, length-append d.draft (x ∷ []))) in
                ap (λ t. get_elem? (set homes (t % n) none) ((low + j) % n)) (sym place)
                ∙ slot_else homes n low i j none near h far ∙ s.slots j h (free j) b;
            fetches = s.fetches;
            closed = λ ne. let c = s.closed (subst (λ t. t ≢ 0) closed_word ne) in
                absurd (let f = sym idle ∙ c.0 in cc);
            ended = λ t. subst (λ t. t ≢ 0) (sym closed_word) (s.ended t);
            shut = λ t. absurd (let z : Putting ≡ Closed = t in cc);
            driver_told = s.driver_told;
            device_told = s.device_told;
          },
          ap (λ t. get_elem? homes (t % n)) (sym place)
              ∙ s.slots i near (free i)
              (λ has. let b = device-below s.waiting e.completed e.stage (extent segs e.completed)
              (low + i) s.fetches has in absurd (omega (arith, u.done, u.high, u.here)))
              ∙ ap (λ t. some (some t))
              (get_or_past (stops segs (s.finished ++ s.waiting)) i None
              (omega (arith, stops-length segs (s.finished ++ s.waiting) s.frames))),
        )

    pub moves-tail : (f : P) → d.stage ≡ Putting → d.draft ≡ frame_words false (segs f) → IsFrame (segs f)
        → Stands segs n (set words 0 ((extent segs d.posted + size segs f) % n))
        (set homes ((extent segs d.posted + (size segs f - 1)) % n) (some (Some f))) (posting f d) e
    moves-tail f putting is frame =
        let u = sums n words homes d e s in
        let some_seg = frame.0 in
        let long : length d.draft ≡ 2 * size segs f = ap length is ∙ frame-length false (segs f) frame.0 in
        let low : ℕ = extent segs d.reaped in
        let v : ℕ = (extent segs d.posted + size segs f) % n in
        let i : ℕ = extent segs (s.finished ++ s.waiting) + (size segs f - 1) in
        let place : low + i ≡ extent segs d.posted + (size segs f - 1) = omega (arith, u.done, u.high, u.here) in
        let fits = s.fits in
        let near : i < n = omega (arith, u.done, u.high, u.here) in
        let grown : extent segs (d.posted ++ f ∷ []) ≡ extent segs d.posted + size segs f =
        omega (arith, extent-append segs d.posted (f ∷ [])) in
        let all : (s.finished ++ s.waiting) ++ f ∷ [] ≡ s.finished ++ (s.waiting ++ f ∷ []) =
        append_assoc s.finished s.waiting (f ∷ []) in
        let A : List ℕ = lay segs true s.finished in
        let B : List ℕ = lay segs false s.waiting in
        let log : A ++ (B ++ d.draft) ≡ A ++ (lay segs false (s.waiting ++ f ∷ []) ++ []) =
        ap (λ t. A ++ t) (ap (λ t. B ++ t) (is ∙ sym (append-nil (frame_words false (segs f))))
        ∙ sym (lay-append segs false s.waiting (f ∷ [])) ∙ sym (append-nil (lay segs false (s.waiting ++ f ∷ []))))
        in
        let else = λ (i : ℕ) (high : 0 < i). get_or-set_other words 0 i v 0 (λ b. absurd (omega arith)) in
        let closed_word = else 2 (omega arith) in
        record {
          word_count = length-set words 0 v ∙ s.word_count;
          slot_count = length-set homes ((extent segs d.posted + (size segs f - 1)) % n) (some (Some f)) ∙ s.slot_count;
          finished = s.finished;
          waiting = s.waiting ++ f ∷ [];
          completed_is = s.completed_is;
          posted_is = ap (λ t. t ++ f ∷ []) s.posted_is ∙ append_assoc e.completed s.waiting (f ∷ []);
          frames = subst (EachElement (Frame segs)) all
              (each-append (Frame segs) (s.finished ++ s.waiting) (f ∷ []) s.frames (frame, tt));
          fits = omega (arith, ap (extent segs) all, extent-append segs (s.finished ++ s.waiting) (f ∷ []));
          written = subst (Round (set words 0 v) 3 (2 * n) (2 * low)) log
              (else_where words 3 (2 * n) (2 * low) (A ++ (B ++ d.draft)) 0 v (omega arith) s.written);
          tail = get_or-set_same words 0 v 0 (omega (arith, s.word_count)) ∙ ap (λ t. t % n) (sym grown);
          head = else 1 (omega arith) ∙ s.head;
          slots = λ j h a b. dite (ℕ_discrete j i)
              (λ e. subst (λ t. get_elem? (set homes ((extent segs d.posted + (size segs f - 1)) % n) (some (Some f)))
              ((low + t) % n) ≡ some (some (get_or (stops segs (s.finished ++ (s.waiting ++ f ∷ []))) t None)))
              (sym e)
              (ap (λ t. get_elem? (set homes (t % n) (some (Some f))) ((low + i) % n)) (sym place)
              ∙ slot_here homes n low i (some (Some f)) s.slot_count near
              ∙ ap (λ t. some (some t)) (sym (stop-at segs (s.finished ++ s.waiting) [] f s.frames some_seg)
              ∙ ap (λ t. get_or (stops segs t) i None) all)))
              (λ ne. ap (λ t. get_elem? (set homes (t % n) (some (Some f))) ((low + j) % n)) (sym place)
              ∙ slot_else homes n low i j (some (Some f)) near h ne
              ∙ s.slots j h (λ had. let g =
              subst (λ st. DriverHas segs n low (extent segs d.posted) d.draft st (low + j)) putting had in
              ne (omega arith)) b
              ∙ ap (λ t. some (some t)) (sym (stop-else segs (s.finished ++ s.waiting) f j s.frames ne)
              ∙ ap (λ t. get_or (stops segs t) j None) all));
          fetches = device-more s.waiting e.completed e.stage f s.fetches;
          closed = λ ne. let c = s.closed (subst (λ t. t ≢ 0) closed_word ne) in
              absurd (let g = sym putting ∙ c.0 in cc);
          ended = λ t. subst (λ t. t ≢ 0) (sym closed_word) (s.ended t);
          shut = λ t. absurd (let z : Idle ≡ Closed = t in cc);
          driver_told = s.driver_told;
          device_told = omega (arith, s.device_told, length-append d.posted (f ∷ []));
        }
