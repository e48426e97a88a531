-- What the device has once it took a frame.
use Rattle.std.proofs.Common.{◌≡◌, ℕ, ◌+◌, ◌-◌, ◌%◌, ◌≤◌, List, [], ◌∷◌, map, vec_capacity, true, false, sym, ap, ◌∙◌}
use Rattle.std.proofs.Common.{subst, Option, Some, None}
use Rattle.atomic_table.specs.Table.{Me, rest}
use Rattle.flake_base.specs.declared.segment.Seg.{Seg}
use Rattle.tx_ring.specs.Words.{length_word, last_len, IsFrame, size, extent}
use Rattle.tx_ring.specs.Rows.{frame_rows, frame_bytes, row_bytes, row_segment}
use Rattle.tx_ring.specs.Ends.{gathering}
use Rattle.tx_ring.specs.Moves.{fetching, holding}
use Rattle.tx_ring.specs.Jobs.{TakesOut}
use Rattle.tx_ring.specs.declared.view.View.{View}
use Rattle.tx_ring.specs.declared.view.DeviceStage.TheVariants.{Holding}
use Rattle.tx_ring.specs.declared.job.Job.{Job}
use Rattle.tx_ring.proofs.Reaping.{found}
use Rattle.tx_ring.proofs.Descriptors.{bytes-of-rows, segments-of-rows}

same_value : {P : Type 0} (f g : P) → Some g ≡ Some f → f ≡ g
same_value f g e = cc

pub takes-job : {P : Type 0} (segs : P → List Seg) (n : ℕ) (m looked fetched taken : Me (Option P) (View P)) (f : P)
    (job : Job P) → looked ≡ (gathering (fetching f 0 m.0.device), []) → IsFrame (segs f)
    → fetched ≡ (gathering (holding f looked.0.device), (job.last, Some f) ∷ []) → job.status
    ≡ length_word (last_len (segs f)) true false
    → job.last ≡ (extent segs looked.0.device.completed + (size segs f - 1)) % n
    → fetched.1 ≡ (job.last, Some job.frame) ∷ rest fetched.1 → taken ≡ (fetched.0, (job.last, None) ∷ rest fetched.1)
    → job.rows.items ≡ frame_rows (segs f) → n ≤ vec_capacity job.rows → TakesOut segs m taken n job
takes-job {P} segs n m looked fetched taken f job look framed fetch status place out take rows room =
    let same : f ≡ job.frame = same_value f job.frame
    (found job.last job.last f (Some job.frame) fetched.1 (ap (λ (z : Me (Option P) (View P)). z.1) fetch) out) in
    let now : taken ≡ (gathering (holding f m.0.device), (job.last, None) ∷ []) =
    take ∙ ap (λ (z : Me (Option P) (View P)). (z.0, (job.last, None) ∷ rest z.1)) fetch
    ∙ ap (λ (z : Me (Option P) (View P)). (gathering (holding f z.0.device), (job.last, None) ∷ [])) look in
    let done : looked.0.device.completed ≡ taken.0.device.completed =
    ap (λ (z : Me (Option P) (View P)). z.0.device.completed) look
    ∙ sym (ap (λ (z : Me (Option P) (View P)). z.0.device.completed) now) in
    let is_frame = subst (λ (x : P). IsFrame (segs x)) same framed in
    record {
      view = ap (λ (z : Me (Option P) (View P)). z.0.device) now ∙ ap (λ (x : P). holding x m.0.device) same;
      held = record {
        stage = ap (λ (z : Me (Option P) (View P)). z.0.device.stage) now ∙ ap (λ (x : P). Holding x) same;
        slot = ap (λ (z : Me (Option P) (View P)). z.1) now;
        place = place ∙ (λ k. (extent segs (done k) + (size segs (same k) - 1)) % n);
        status = status ∙ ap (λ (x : P). length_word (last_len (segs x)) true false) same;
        frame = is_frame;
        rows = room;
      };
      frame = is_frame;
      descriptors = ap (map row_bytes) rows ∙ bytes-of-rows (segs f) framed.1
          ∙ ap (λ (x : P). frame_bytes (segs x)) same;
      segments = ap (map row_segment) rows ∙ segments-of-rows (segs f) framed.1 ∙ ap segs same;
    }
