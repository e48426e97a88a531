-- What the device's calls give.
use Rattle.std.specs.Prelude.{◌≡◌, ℕ, ◌+◌, ◌-◌, ◌%◌, ◌≤◌, List, [], ◌∷◌, true, false, length, map, vec_capacity, Option}
use Rattle.std.specs.Prelude.{None, ⊤}
use Rattle.atomic_table.specs.Table.{Me}
use Rattle.flake_base.specs.declared.segment.Seg.{Seg}
use Rattle.tx_ring.specs.Words.{length_word, last_len, IsFrame, size, extent}
use Rattle.tx_ring.specs.Rows.{frame_bytes, row_bytes, row_segment}
use Rattle.tx_ring.specs.Ends.{IsAtRest}
use Rattle.tx_ring.specs.Moves.{holding, blanked, ending}
use Rattle.tx_ring.specs.declared.view.View.{View}
use Rattle.tx_ring.specs.declared.view.DeviceStage.TheVariants.{Holding}
use Rattle.tx_ring.specs.declared.job.Job.{Job}
use Rattle.tx_ring.specs.declared.job.Next.{Next}
use Rattle.tx_ring.specs.declared.job.Next.TheVariants.{Frame, Empty, Closed}

module _ {P : Type 0} where
  abbrev pub frame_of : Job P → P
  frame_of job = job.frame

  -- the bytes of each descriptor that was fetched
  abbrev pub descriptors : Job P → List (List ℕ)
  descriptors job = map row_bytes job.rows.items

  -- the address and the length of each, as they were fetched
  abbrev pub segments : Job P → List Seg
  segments job = map row_segment job.rows.items

  abbrev pub IfFrame : Next P → (Job P → Type 0) → Type 0
  IfFrame (Frame job) F = F job
  IfFrame (Empty tail) F = ⊤
  IfFrame Closed F = ⊤

  abbrev pub IfEmpty : Next P → (ℕ → Type 0) → Type 0
  IfEmpty (Frame job) F = ⊤
  IfEmpty (Empty tail) F = F tail
  IfEmpty Closed F = ⊤

  abbrev pub OnClosed : Next P → Type 0 → Type 0
  OnClosed (Frame job) F = ⊤
  OnClosed (Empty tail) F = ⊤
  OnClosed Closed F = F

module _ {P : Type 0} (segs : P → List Seg) where
  -- the job's frame is the one that the seat has out
  pub record HasOut (m : Me (Option P) (View P)) (n : ℕ) (job : Job P) : Type 0 where
    pub stage : m.0.device.stage ≡ Holding job.frame
    pub slot : m.1 ≡ (job.last, None) ∷ []
    pub place : job.last ≡ (extent segs m.0.device.completed + (size segs job.frame - 1)) % n
    pub status : job.status ≡ length_word (last_len (segs job.frame)) true false
    pub frame : IsFrame (segs job.frame)
    pub rows : n ≤ vec_capacity job.rows

  -- the next frame was taken, and the lists are as before
  pub record TakesOut (m m' : Me (Option P) (View P)) (n : ℕ) (job : Job P) : Type 0 where
    pub view : m'.0.device ≡ holding job.frame m.0.device
    pub held : HasOut m' n job
    pub frame : IsFrame (segs job.frame)
    pub descriptors : map row_bytes job.rows.items ≡ frame_bytes (segs job.frame)
    pub segments : map row_segment job.rows.items ≡ segs job.frame

  -- the tail was found at the head, which is a blank, and nothing is known of more frames than were completed
  pub record FindsEmpty (m m' : Me (Option P) (View P)) (n tail : ℕ) : Type 0 where
    pub view : m'.0.device ≡ blanked m.0.device
    pub rest : IsAtRest m'
    pub told : m.0.device.told ≤ length m.0.device.completed
    pub at_head : tail ≡ extent segs m.0.device.completed % n

  -- and the closed word was found set
  pub record FindsEnd (m m' : Me (Option P) (View P)) : Type 0 where
    pub view : m'.0.device ≡ ending (blanked m.0.device)
    pub rest : IsAtRest m'
    pub told : m.0.device.told ≤ length m.0.device.completed
