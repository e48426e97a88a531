-- What workers have done, each at a worker slot and all together.
use Rattle.std.specs.Prelude.{◌≡◌, ℕ, ◌+◌, ◌<◌, List, [], ◌∷◌, ◌++◌, All, Option, length, map}
use Rattle.crossbeam_queue.specs.declared.array_queue.Doing.{Doing}
use Rattle.crossbeam_queue.specs.declared.array_queue.Slotted.{Slotted}
use Rattle.crossbeam_queue.specs.Passes.{Pass, view, IsPassOf}
use Rattle.work_queue.specs.Dealt.{hand, AllTaken, Given}
use Rattle.work_queue.specs.declared.hand.Numbered.{Numbered}
use Rattle.work_queue.specs.declared.hand.Done.{Done}
use Rattle.work_queue.specs.declared.hand.Hand.{Hand}
use Rattle.work_queue.specs.declared.worker_slot.WorkerSlot.{WorkerSlot}
use Rattle.work_queue.specs.Room.{IsRoomy}

module _ {T X : Type 0} where
  -- what a pass knows after it took some jobs, whose results these are, until nothing was left
  pub record Worked (gives : T → X → Type 0) (v w : Hand T) (done : List (Done X)) : Type 0 where
    pub parts : w.parts ≡ v.parts
    pub all : w.all ≡ v.all
    pub taken : w.taken ≡ v.taken ++ map (λ d. d.number) done
    pub given : Given gives v.all done
    pub last : (items : List (Numbered T)) × (length items ≡ 0) × AllTaken w items

  -- what worker slots have together: results, parts, and numbers that were taken
  abbrev pub all_done : List (WorkerSlot T X) → List (Done X)
  all_done [] = []
  all_done (d ∷ ds) = d.done.items ++ all_done ds

  abbrev pub parts_of : List (WorkerSlot T X) → ℕ
  parts_of [] = 0
  parts_of (d ∷ ds) = (view d.pass).parts + parts_of ds

  abbrev pub taken_of : List (WorkerSlot T X) → List ℕ
  taken_of [] = []
  taken_of (d ∷ ds) = (view d.pass).taken ++ taken_of ds

  module _ {Q A : Type 0} (q : Slotted (Option (Numbered T)) (Doing (Numbered T) (Hand T)) Q A) where
    -- a worker slot at which nothing was done, with one part of the pass
    pub record IsNew (all : List T) (d : WorkerSlot T X) : Type 0 where
      pub pass : IsPassOf q d.pass
      pub is : view d.pass ≡ hand 1 all []
      pub done : IsRoomy (length all) d.done

    -- a worker slot at which work may begin, by a call that may be made at each job
    pub record IsReady (may : T → Type 0) (d : WorkerSlot T X) : Type 0 where
      pub pass : IsPassOf q d.pass
      pub parts : 0 < (view d.pass).parts
      pub done : IsRoomy (length (view d.pass).all) d.done
      pub calls : All may (view d.pass).all

    -- a worker slot at which work was done
    pub record IsLeft (gives : T → X → Type 0) (old new : WorkerSlot T X) : Type 0 where
      pub pass : IsPassOf q new.pass
      pub work : Worked gives (view old.pass) (view new.pass) new.done.items

    -- a worker slot whose results all have numbers below n
    abbrev pub HasWorkBelow : ℕ → WorkerSlot T X → Type 0
    HasWorkBelow n d = IsPassOf q d.pass × All (λ (done : Done X). done.number < n) d.done.items

    -- worker slots at which all work was done on these jobs, with so many parts of the pass together
    pub record Gathered (gives : T → X → Type 0) (all : List T) (parts : ℕ) (worker_slots : List (WorkerSlot T X)) :
        Type 0 where
      pub below : All (HasWorkBelow (length all)) worker_slots
      pub parts_are : parts_of worker_slots ≡ parts
      pub taken : taken_of worker_slots ≡ map (λ d. d.number) (all_done worker_slots)
      pub given : Given gives all (all_done worker_slots)

    -- the pass has what the passes of all worker slots had
    pub record HasAbsorbed (worker_slots : List (WorkerSlot T X)) (old new : Pass (Numbered T) (Hand T)) : Type 0 where
      pub pass : IsPassOf q new
      pub is : view new ≡ hand ((view old).parts + parts_of worker_slots) (view old).all
          ((view old).taken ++ taken_of worker_slots)

module _ {T Q A : Type 0} (q : Slotted (Option (Numbered T)) (Doing (Numbered T) (Hand T)) Q A) where
  -- the pass has lent n parts
  pub record HasLent (n : ℕ) (old new : Pass (Numbered T) (Hand T)) : Type 0 where
    pub pass : IsPassOf q new
    pub parts : (view new).parts + n ≡ (view old).parts
    pub all : (view new).all ≡ (view old).all
    pub taken : (view new).taken ≡ (view old).taken
