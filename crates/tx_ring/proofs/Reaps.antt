-- The driver's steps of a reap, and its closing, keep the rule.
use Rattle.std.proofs.Common.{◌≡◌, ◌≢◌, ℕ, suc, ◌+◌, ◌-◌, ◌*◌, ◌%◌, ◌<◌, ◌≤◌, List, [], ◌∷◌, ◌++◌, length, replicate}
use Rattle.std.proofs.Common.{set, get_or, Bool, true, false, sym, refl, ap, ◌∙◌, subst, length-set, get_or-set_other}
use Rattle.std.proofs.Common.{get_or-set_same, length-append, append_assoc, append-nil, arith, Option, Some, None}
use Rattle.std.proofs.lemmas.List.{get_or_past, get_or_append_left, get_or-append-add, get_or-replicate}
use Rattle.std.proofs.lemmas.List.{length-replicate}
use Rattle.std.proofs.Math.Nat.{add-mod_right}
use Rattle.std.proofs.Math.Seq.{get_or-append_seam}
use mathlib.Core.Logic.{dite}
use mathlib.Core.Option.{some, none}
use mathlib.Core.Option as maybe
use native.Mathlib.Decide.{ℕ_discrete, dec_le}
use lib.ListN.{get_elem?}
use Rattle.flake_base.specs.declared.segment.Seg.{Seg}
use Rattle.tx_ring.specs.Words.{length_word, front, last_len, frame_words, EachElement, IsFrame, size, extent, lay}
use Rattle.tx_ring.specs.Words.{stops}
use Rattle.tx_ring.specs.Rule.{Round, Stands, DriverHas, DeviceHas}
use Rattle.tx_ring.specs.Moves.{missed, reaping, idle, closing}
use Rattle.tx_ring.specs.declared.view.DriverView.{DriverView}
use Rattle.tx_ring.specs.declared.view.DeviceView.{DeviceView}
use Rattle.tx_ring.specs.declared.view.DriverStage.TheVariants.{Idle, Reaping, Closed}
use Rattle.tx_ring.proofs.Rounds.{later, slot_here, slot_else, else_where}
use Rattle.tx_ring.proofs.Words.{each-right, front-length, frame-length, Frame, extent-append, stops-length}
use Rattle.tx_ring.proofs.Posts.{sums, device-from}
use Rattle.tx_ring.proofs.Restated.{restated}

module _ {P : Type 0} (segs : P → List Seg) where
  -- the words of a frame end in that of its status
  last_word : (b : Bool) (ss : List Seg) (B : List ℕ) (k : ℕ) → 0 < length ss → k ≡ 2 * length ss - 1
      → get_or (frame_words b ss ++ B) k 0 ≡ length_word (last_len ss) true b
  last_word b ss B k some_seg e = let l : k ≡ length (front ss) = omega (arith, front-length ss some_seg) in
      get_or_append_left (frame_words b ss) B 0 k (omega (arith, frame-length b ss some_seg))
      ∙ ap (λ t. get_or (frame_words b ss) t 0) l ∙ get_or-append_seam (front ss) (length_word (last_len ss) true b)
      [] 0

  -- the oldest frame is the first of the completed ones, or else of those that wait
  pub oldest : (reaped finished waiting more : List P) (f : P) → (reaped ++ finished) ++ waiting ≡ reaped ++ f ∷ more
      → finished ++ waiting ≡ f ∷ more
  oldest [] finished waiting more f e = e
  oldest (g ∷ reaped) finished waiting more f e = oldest reaped finished waiting more f (ap (λ t. tail_of t) e)
    where
      tail_of : List P → List P
      tail_of [] = []
      tail_of (x ∷ xs) = xs

  module _ (n : ℕ) (words : List ℕ) (homes : List (maybe.Option (Option P))) (d : DriverView P) (e : DeviceView P)
      (s : Stands segs n words homes d e) where
    module _ (f : P) (more : List P) (is_idle : d.stage ≡ Idle) (no_draft : d.draft ≡ [])
        (pending : d.posted ≡ d.reaped ++ f ∷ more) where
      pub ahead : s.finished ++ s.waiting ≡ f ∷ more
      ahead = oldest d.reaped s.finished s.waiting more f
          (ap (λ t. t ++ s.waiting) (sym s.completed_is) ∙ sym s.posted_is ∙ pending)

      pub frame : IsFrame (segs f)
      frame = (subst (EachElement (Frame segs)) ahead s.frames).0

      -- the status of the oldest frame
      status : (b : Bool) (B : List ℕ) → lay segs true s.finished ++ (lay segs false s.waiting ++ d.draft)
          ≡ frame_words b (segs f) ++ B
          → get_or words (3 + (2 * extent segs d.reaped + (2 * size segs f - 1)) % (2 * n)) 0
          ≡ length_word (last_len (segs f)) true b
      status b B log = let some_seg = frame.0 in
          subst (Round words 3 (2 * n) (2 * extent segs d.reaped)) log s.written (2 * size segs f - 1)
          (omega (arith, length-append (frame_words b (segs f)) B, frame-length b (segs f) some_seg))
          ∙ last_word b (segs f) B (2 * size segs f - 1) some_seg refl

      -- the frame was not completed
      pub misses : s.finished ≡ []
          → (get_or words (3 + (2 * extent segs d.reaped + (2 * size segs f - 1)) % (2 * n)) 0
          ≡ length_word (last_len (segs f)) true false)
          × Stands segs n words homes (missed d) e × (d.told ≤ length d.reaped)
      misses none_done =
          let w : s.waiting ≡ f ∷ more = ap (λ t. t ++ s.waiting) (sym none_done) ∙ ahead in (
            status false (lay segs false more ++ d.draft)
                (ap (λ t. lay segs true t ++ (lay segs false s.waiting ++ d.draft)) none_done
                ∙ ap (λ t. lay segs false t ++ d.draft) w ∙ append_assoc (frame_words false (segs f))
                (lay segs false more) d.draft),
            restated s (missed d).misses d.told e.blanks e.ended e.told e.stage (λ done at had. had) refl s.fetches
                s.ended s.driver_told s.device_told,
            omega (
              arith,
              s.driver_told,
              ap length
                  (s.completed_is ∙ ap (λ t. d.reaped ++ t) none_done ∙ append-nil d.reaped),
            ),
          )

      -- the frame was completed, and its slot is taken
      pub reaps : (rest : List P) → s.finished ≡ f ∷ rest
          → (get_or words (3 + (2 * extent segs d.reaped + (2 * size segs f - 1)) % (2 * n)) 0
          ≡ length_word (last_len (segs f)) true true)
          × Stands segs n words (set homes ((extent segs d.reaped + (size segs f - 1)) % n) none) (reaping f d) e
          × (get_elem? homes ((extent segs d.reaped + (size segs f - 1)) % n) ≡ some (some (Some f)))
      reaps rest some_done =
          let u = sums segs n words homes d e s in
          let some_seg = frame.0 in
          let fits = s.fits in
          let low : ℕ = extent segs d.reaped in
          let i : ℕ = size segs f - 1 in
          let k : ℕ = size segs f in
          let place : ℕ = (low + i) % n in
          let after : List P = rest ++ s.waiting in
          let parts : s.finished ++ s.waiting ≡ f ∷ after = ap (λ t. t ++ s.waiting) some_done in
          let count : extent segs (s.finished ++ s.waiting) ≡ k + extent segs after = ap (extent segs) parts in
          let near : i < n = omega (arith, count) in
          let each = subst (EachElement (Frame segs)) parts s.frames in
          let grown : extent segs (d.reaped ++ f ∷ []) ≡ low + k = omega (arith, extent-append segs d.reaped (f ∷ []))
          in
          let F : List ℕ = frame_words true (segs f) in
          let B : List ℕ = lay segs true rest ++ (lay segs false s.waiting ++ d.draft) in
          let log : lay segs true s.finished ++ (lay segs false s.waiting ++ d.draft) ≡ F ++ B =
          ap (λ t. lay segs true t ++ (lay segs false s.waiting ++ d.draft)) some_done
          ∙ append_assoc F (lay segs true rest) (lay segs false s.waiting ++ d.draft) in
          let r = subst (Round words 3 (2 * n) (2 * low)) log s.written in
          let free = λ (at : ℕ) (had : DriverHas segs n low (extent segs d.posted) d.draft d.stage at). subst
          (λ st. DriverHas segs n low (extent segs d.posted) d.draft st at) is_idle had in
          let not_below = λ (at : ℕ) (had : DeviceHas segs (extent segs e.completed) e.stage at). device-from segs
          s.waiting e.completed e.stage (extent segs e.completed) at
          (each-right (Frame segs) s.finished s.waiting s.frames) s.fetches had in
          let new : List (maybe.Option (Option P)) = set homes place none in
          let W : List (Option P) = replicate i None in
          let long : length W ≡ i = length-replicate i None in
          let one_slot : stops segs (s.finished ++ s.waiting) ≡ W ++ Some f ∷ stops segs after =
          ap (stops segs) parts in
          let count_after = stops-length segs after each.1 in
          -- the place j of the frames that are left was j + k, and the last k places are those of the frame
          let within = λ (j : ℕ) (h : j + k < n) (b : ¬ (DeviceHas segs (extent segs e.completed) e.stage
          (low + (j + k)))).
          slot_else homes n low i (j + k) none near h (λ z. omega arith) ∙ s.slots (j + k) h (free (low + (j + k))) b
          ∙ ap (λ t. some (some t))
          (ap (λ t. get_or t (j + k) None) (one_slot ∙ sym (append_assoc W (Some f ∷ []) (stops segs after)))
          ∙ ap (λ t. get_or ((W ++ Some f ∷ []) ++ stops segs after) t None)
          (let z : j + k ≡ length (W ++ Some f ∷ []) + j = omega (arith, length-append W (Some f ∷ [])) in z)
          ∙ get_or-append-add (W ++ Some f ∷ []) (stops segs after) j None) in
          let beyond = λ (j m : ℕ) (q : j + k ≡ m + n) (h : m < i) (b : ¬ (DeviceHas segs (extent segs e.completed)
          e.stage (low + m))).
          slot_else homes n low i m none near (omega arith) (λ z. omega arith)
          ∙ s.slots m (omega arith) (free (low + m)) b
          ∙ ap (λ t. some (some t))
          (ap (λ t. get_or t m None) one_slot ∙ get_or_append_left W (Some f ∷ stops segs after) None m (omega arith)
          ∙ get_or-replicate i m None None h
          ∙ sym (get_or_past (stops segs after) j None (omega (arith, count)))) in (
            status true B log,
            record {
              word_count = s.word_count;
              slot_count = length-set homes place none ∙ s.slot_count;
              finished = rest;
              waiting = s.waiting;
              completed_is = s.completed_is ∙ ap (λ t. d.reaped ++ t) some_done
                  ∙ sym (append_assoc d.reaped (f ∷ []) rest);
              posted_is = s.posted_is;
              frames = each.1;
              fits = omega (arith, count);
              written = subst (λ t. Round words 3 (2 * n) t B) (omega (arith, grown))
                  (later words 3 (2 * n) (2 * low) F B (2 * k) (sym (frame-length true (segs f) some_seg)) r);
              tail = s.tail;
              head = s.head;
              slots = λ j h a b. dite (dec_le n (j + k))
                  (λ over. let m : ℕ = j + k - n in let q : j + k ≡ m + n = omega arith in let back : extent segs
                  (d.reaped ++ f ∷ []) + j ≡ low + m + n = omega (arith, grown) in
                  ap (λ t. get_elem? new (t % n)) back ∙ ap (get_elem? new) (add-mod_right (low + m) n)
                  ∙ beyond j m q (let far : suc (extent segs (d.reaped ++ f ∷ []) + j) ≢ extent segs
                  (d.reaped ++ f ∷ []) + n = a in omega arith)
                  (λ had. let z = not_below (low + m) had in omega (arith, u.done, ap (extent segs) some_done)))
                  (λ under. let q : extent segs (d.reaped ++ f ∷ []) + j ≡ low + (j + k) = omega (arith, grown) in
                  ap (λ t. get_elem? new (t % n)) q
                  ∙ within j (omega arith)
                  (λ had. b (subst (DeviceHas segs (extent segs e.completed) e.stage) (sym q) had)));
              fetches = s.fetches;
              closed = λ ne. let c = s.closed ne in absurd (let z = sym is_idle ∙ c.0 in cc);
              ended = s.ended;
              shut = λ t. absurd (let z : Reaping ≡ Closed = t in cc);
              driver_told = s.driver_told;
              device_told = s.device_told;
            },
            s.slots i near (free (low + i))
                (λ had. let z = not_below (low + i) had in omega (arith, u.done, ap (extent segs) some_done))
                ∙ ap (λ t. some (some t))
                (ap (λ t. get_or t i None) one_slot ∙ ap (λ t. get_or (W ++ Some f ∷ stops segs after) t None)
                (sym long) ∙ get_or-append_seam W (Some f) (stops segs after) None),
          )

    -- the empty slot of the last frame comes home
    pub gives-back : d.stage ≡ Reaping
        → Stands segs n words (set homes ((extent segs d.reaped + (n - 1)) % n) (some None)) (idle d) e
    gives-back reaping_stage =
        let u = sums segs n words homes d e s in
        let fits = s.fits in
        let low : ℕ = extent segs d.reaped in
        let near : n - 1 < n = omega arith in
        record {
          word_count = s.word_count;
          slot_count = length-set homes ((low + (n - 1)) % n) (some None) ∙ s.slot_count;
          finished = s.finished;
          waiting = s.waiting;
          completed_is = s.completed_is;
          posted_is = s.posted_is;
          frames = s.frames;
          fits = s.fits;
          written = s.written;
          tail = s.tail;
          head = s.head;
          slots = λ j h a b. dite (ℕ_discrete j (n - 1))
              (λ z. subst (λ t. get_elem? (set homes ((low + (n - 1)) % n) (some None)) ((low + t) % n)
              ≡ some (some (get_or (stops segs (s.finished ++ s.waiting)) t None))) (sym z)
              (slot_here homes n low (n - 1) (some None) s.slot_count near
              ∙ ap (λ t. some (some t))
              (sym (get_or_past (stops segs (s.finished ++ s.waiting)) (n - 1) None
              (omega (arith, stops-length segs (s.finished ++ s.waiting) s.frames))))))
              (λ ne. slot_else homes n low (n - 1) j (some None) near h ne
              ∙ s.slots j h (λ had. let g =
              subst (λ st. DriverHas segs n low (extent segs d.posted) d.draft st (low + j)) reaping_stage had in
              ne (omega arith)) b);
          fetches = s.fetches;
          closed = λ ne. let c = s.closed ne in absurd (let z = sym reaping_stage ∙ c.0 in cc);
          ended = s.ended;
          shut = λ t. absurd (let z : Idle ≡ Closed = t in cc);
          driver_told = s.driver_told;
          device_told = s.device_told;
        }

    pub closes : d.stage ≡ Idle → d.posted ≡ d.reaped → Stands segs n (set words 2 1) homes (closing d) e
    closes is_idle all =
        let else = λ (i : ℕ) (ne : i ≢ 2). get_or-set_other words 2 i 1 0 ne in
        let closed_word : get_or (set words 2 1) 2 0 ≡ 1 = get_or-set_same words 2 1 0 (omega (arith, s.word_count)) in
        record {
          word_count = length-set words 2 1 ∙ s.word_count;
          slot_count = s.slot_count;
          finished = s.finished;
          waiting = s.waiting;
          completed_is = s.completed_is;
          posted_is = s.posted_is;
          frames = s.frames;
          fits = s.fits;
          written = else_where words 3 (2 * n) (2 * extent segs d.reaped)
              (lay segs true s.finished ++ (lay segs false s.waiting ++ d.draft)) 2 1 (omega arith) s.written;
          tail = else 0 (λ b. omega arith) ∙ s.tail;
          head = else 1 (λ b. omega arith) ∙ s.head;
          slots = λ j h a b. s.slots j h
              (λ had. subst (λ st. DriverHas segs n (extent segs d.reaped) (extent segs d.posted) d.draft st
              (extent segs d.reaped + j)) is_idle had) b;
          fetches = s.fetches;
          closed = λ _. (refl, all);
          ended = λ _. (λ z. absurd (omega (arith, closed_word)));
          shut = λ _. (λ z. absurd (omega (arith, closed_word)));
          driver_told = s.driver_told;
          device_told = s.device_told;
        }
