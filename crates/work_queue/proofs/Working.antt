-- What all workers have done together.
use Rattle.std.proofs.Common.{
  ◌≡◌,
  ℕ,
  ◌+◌,
  ◌<◌,
  List,
  [],
  ◌∷◌,
  ◌++◌,
  All,
  Option,
  None,
  length,
  map,
  replicate,
  sym,
  refl,
  ap,
  subst,
  ◌∙◌,
  arith,
  append_assoc,
}
use Rattle.std.specs.List.{AllZip}
use Rattle.std.proofs.lemmas.List.{map-append}
use Rattle.std.proofs.lemmas.List.Elements.{All-nil, All-cons, All-head, All-tail, All-weaker}
use Rattle.crossbeam_queue.specs.declared.array_queue.Doing.{Doing}
use Rattle.crossbeam_queue.specs.declared.array_queue.Slotted.{Slotted}
use Rattle.crossbeam_queue.specs.Passes.{view}
use Rattle.work_queue.specs.declared.hand.Numbered.{Numbered}
use Rattle.work_queue.specs.declared.hand.Done.{Done}
use Rattle.work_queue.specs.declared.hand.Hand.{Hand}
use Rattle.work_queue.specs.declared.worker_slot.WorkerSlot.{WorkerSlot}
use Rattle.work_queue.specs.Dealt.{once_below, Given}
use Rattle.work_queue.specs.Slots.{filled_slots, Filled, AllFilled}
use Rattle.work_queue.specs.Work.{IsNew, IsReady, IsLeft, Worked, Gathered, HasWorkBelow, all_done, parts_of, taken_of}
use Rattle.work_queue.proofs.Deals.{given-both}
use Rattle.work_queue.proofs.Placing.{filled-none, filled-all, all-filled}

module _ {T X : Type 0} where
  pub parts-append : (ds es : List (WorkerSlot T X)) → parts_of (ds ++ es) ≡ parts_of ds + parts_of es
  parts-append [] es = omega arith
  parts-append (d ∷ ds) es = omega (arith, parts-append ds es)

  pub taken-append : (ds es : List (WorkerSlot T X)) → taken_of (ds ++ es) ≡ taken_of ds ++ taken_of es
  taken-append [] es = refl
  taken-append (d ∷ ds) es =
      ap (λ t. (view d.pass).taken ++ t) (taken-append ds es)
      ∙ sym (append_assoc (view d.pass).taken (taken_of ds) (taken_of es))

  pub done-append : (ds es : List (WorkerSlot T X)) → all_done (ds ++ es) ≡ all_done ds ++ all_done es
  done-append [] es = refl
  done-append (d ∷ ds) es =
      ap (λ t. d.done.items ++ t) (done-append ds es) ∙ sym (append_assoc d.done.items (all_done ds) (all_done es))

module _ {T X : Type 0} (gives : T → X → Type 0) where
  pub given-below : (all : List T) (ds : List (Done X)) → Given gives all ds
      → All (λ (d : Done X). d.number < length all) ds
  given-below all [] given = All-nil (λ (d : Done X). d.number < length all)
  given-below all (d ∷ ds) given =
      All-cons (λ (d : Done X). d.number < length all) d ds given.0.1.0 (given-below all ds given.1)

  module _ {Q A : Type 0} (q : Slotted (Option (Numbered T)) (Doing (Numbered T) (Hand T)) Q A) (jobs : List T) where
    new-ready : (may : T → Type 0) → All may jobs → (d : WorkerSlot T X) → IsNew q jobs d → IsReady q may d
    new-ready may calls d h = record {
      pass = h.pass;
      parts = omega (arith, ap (λ (v : Hand T). v.parts) h.is);
      done = (h.done.0, omega (arith, h.done.1, ap (λ (v : Hand T). length v.all) h.is));
      calls = subst (λ (v : Hand T). All may v.all) (sym h.is) calls;
    }

    pub all-ready : (may : T → Type 0) → All may jobs → (ds : List (WorkerSlot T X)) → All (IsNew q jobs) ds
        → All (IsReady q may) ds
    all-ready may calls ds all = All-weaker (IsNew q jobs) (IsReady q may) (new-ready may calls) ds all

    -- a worker slot that was new, and what was done there
    this-given : (old new : WorkerSlot T X) → IsNew q jobs old → IsLeft q gives old new
        → Given gives jobs new.done.items
    this-given old new first left = subst (λ (v : Hand T). Given gives v.all new.done.items) first.is left.work.given

    this-taken : (old new : WorkerSlot T X) → IsNew q jobs old → IsLeft q gives old new
        → (view new.pass).taken ≡ map (λ (d : Done X). d.number) new.done.items
    this-taken old new first left =
        left.work.taken ∙ ap (λ (v : Hand T). v.taken ++ map (λ (d : Done X). d.number) new.done.items) first.is

    pub gathered : (olds news : List (WorkerSlot T X)) → All (IsNew q jobs) olds → AllZip (IsLeft q gives) olds news
        → Gathered q gives jobs (length olds) news
    gathered [] [] new left =
        record { below = All-nil (HasWorkBelow q (length jobs)); parts_are = refl; taken = refl; given = tt }
    gathered [] (n ∷ ns) new left = absurd left
    gathered (o ∷ os) [] new left = absurd left
    gathered (o ∷ os) (n ∷ ns) new left =
        let rest = gathered os ns (All-tail (IsNew q jobs) o os new) left.1 in
        let first = All-head (IsNew q jobs) o os new in
        let given = this-given o n first left.0 in
        let here : HasWorkBelow q (length jobs) n = (left.0.pass, given-below jobs n.done.items given) in
        record {
          below = All-cons (HasWorkBelow q (length jobs)) n ns here rest.below;
          parts_are = omega (arith, rest.parts_are, left.0.work.parts, ap (λ (v : Hand T). v.parts) first.is);
          taken = ap (λ t. t ++ taken_of ns) (this-taken o n first left.0)
              ∙ ap (λ t. map (λ (d : Done X). d.number) n.done.items ++ t) rest.taken
              ∙ sym (map-append (λ (d : Done X). d.number) n.done.items (all_done ns));
          given = given-both gives jobs n.done.items (all_done ns) given rest.given;
        }

    -- what they did stands in the slots, which were empty
    pub filled-by : (worker_slots : List (WorkerSlot T X)) (parts : ℕ) (taken : List ℕ) (before now : List (Option X))
        → Gathered q gives jobs parts worker_slots → taken ≡ taken_of worker_slots
        → before ≡ replicate (length jobs) None
        → now ≡ filled_slots before (all_done worker_slots) → Filled gives jobs taken now
    filled-by worker_slots parts taken before now h taken_is before_is now_is =
        let numbers = map (λ (d : Done X). d.number) (all_done worker_slots) in
        let there : Filled gives jobs numbers (filled_slots before (all_done worker_slots)) =
        filled-all gives jobs [] before (all_done worker_slots) (filled-none gives jobs before before_is) h.given in
        subst (Filled gives jobs taken) (sym now_is)
        (subst (λ t. Filled gives jobs t (filled_slots before (all_done worker_slots))) (sym (taken_is ∙ h.taken))
        there)

  none-left : (items : List (Numbered T)) → length items ≡ 0 → items ≡ []
  none-left [] h = refl
  none-left (x ∷ xs) h = absurd (omega (arith, h))

  -- who has all parts, and works until nothing is left, has filled each slot
  pub finished : (v w : Hand T) (done : List (Done X)) (slots : List (Option X)) → v.parts ≡ 1024
      → Filled gives v.all v.taken slots → Worked gives v w done → AllFilled gives v.all (filled_slots slots done)
  finished v w done slots whole filled work =
      let numbers = map (λ (d : Done X). d.number) done in
      let now : Filled gives v.all w.taken (filled_slots slots done) =
      subst (λ t. Filled gives v.all t (filled_slots slots done)) (sym work.taken)
      (filled-all gives v.all v.taken slots done filled work.given) in
      let once = work.last.2 (work.parts ∙ whole) (none-left work.last.0 work.last.1) in
      all-filled gives v.all w.taken (filled_slots slots done) now
      (λ j. once j ∙ ap (λ t. once_below j (length t)) work.all)
