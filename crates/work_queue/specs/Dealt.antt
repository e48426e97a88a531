-- Jobs are dealt in their order: the queue holds those that were not taken, and each of the others was taken by one
-- pass, once.
use Rattle.std.specs.Prelude.{◌≡◌, ℕ, zero, suc, ◌+◌, ◌-◌, ◌<◌, ◌≤◌, List, [], ◌∷◌, ◌++◌, length, drop, slice_index_or}
use Rattle.std.specs.Prelude.{⊤}
use mathlib.Core.Option.{some}
use lib.ListN.{get_elem?}
use Rattle.view_sums.specs.Total.{total, same}
use Rattle.work_queue.specs.declared.hand.Numbered.{Numbered}
use Rattle.work_queue.specs.declared.hand.Done.{Done}
use Rattle.work_queue.specs.declared.hand.Hand.{Hand}

-- how often a number stands in the list
abbrev pub times_listed : ℕ → List ℕ → ℕ
times_listed j numbers = total (same j) numbers

-- how often a number stands among those below n
abbrev pub once_below : ℕ → ℕ → ℕ
once_below j zero = 0
once_below j (suc n) = same j n + once_below j n

module _ {T : Type 0} where
  abbrev pub hand : ℕ → List T → List ℕ → Hand T
  hand parts all taken = record { parts = parts; all = all; taken = taken }

  -- the first pass has the whole right to the queue
  abbrev pub opener : Hand T
  opener = hand 1024 [] []

  abbrev pub nobody : Hand T
  nobody = hand 0 [] []

  -- a pass that lends one part, and the new pass that gets it
  abbrev pub lender : Hand T → Hand T
  lender v = hand (v.parts - 1) v.all v.taken

  abbrev pub lent : Hand T → Hand T
  lent v = hand 1 v.all []

  -- a pass that takes in another, which then is nobody's
  abbrev pub joined : Hand T → Hand T → Hand T
  joined v w = hand (v.parts + w.parts) v.all (v.taken ++ w.taken)

  -- jobs in order, the first with number n
  abbrev pub numbered : ℕ → List T → List (Numbered T)
  numbered n [] = []
  numbered n (x ∷ xs) = record { number = n; job = x } ∷ numbered (suc n) xs

  -- the job stands among all at its number
  abbrev pub IsAt : List T → ℕ → T → Type 0
  IsAt all n x = (n < length all) × ((d : T) → slice_index_or all n d ≡ x)

  -- between any two steps: the jobs below some number are taken, each by one pass and once, and the queue holds the
  -- others in their order; a pass with a part knows all jobs, and one with none took none
  pub record Dealt (items : List (Numbered T)) (views : List (Hand T)) : Type 0 where
    pub all : List T
    pub low : ℕ
    pub within : low ≤ length all
    pub left : items ≡ numbered low (drop low all)
    pub whole : total (λ v. v.parts) views ≡ 1024
    pub dealt : (j : ℕ) → total (λ v. times_listed j v.taken) views ≡ once_below j low
    pub count : total (λ v. length v.taken) views ≡ low
    pub knows : (pass : ℕ) (v : Hand T) → get_elem? views pass ≡ some v → 0 < v.parts → v.all ≡ all
    pub idle : (pass : ℕ) (v : Hand T) → get_elem? views pass ≡ some v → v.parts ≡ 0 → v.taken ≡ []

  -- a push adds the job to all
  abbrev pub puts : Hand T → Numbered T → Hand T → Type 0
  puts v x w = w ≡ hand v.parts (v.all ++ x.job ∷ []) v.taken

  -- who pops a job takes its number; it is the job of that number, and no pass takes more than there are
  abbrev pub takes : Hand T → Numbered T → Hand T → Type 0
  takes v x w =
      (w ≡ hand v.parts v.all (v.taken ++ x.number ∷ [])) × IsAt v.all x.number x.job
      × (length v.taken < length v.all)

  -- who has every part took each number once, where nothing is left
  abbrev pub AllTaken : Hand T → List (Numbered T) → Type 0
  AllTaken v items = v.parts ≡ 1024 → items ≡ [] → (j : ℕ) → times_listed j v.taken ≡ once_below j (length v.all)

  -- the queue holds no more than the jobs that were pushed
  abbrev pub Fits : Hand T → List (Numbered T) → Type 0
  Fits v items = 0 < v.parts → length items ≤ length v.all

  -- each result is one that the job at its number may give
  abbrev pub Given : {X : Type 0} → (T → X → Type 0) → List T → List (Done X) → Type 0
  Given gives all [] = ⊤
  Given gives all (d ∷ ds) = ((x : T) × IsAt all d.number x × gives x d.result) × Given gives all ds
