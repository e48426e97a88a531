-- Calls and gathers give no reply back that a line counts.
use Rattle.std.proofs.Common.{◌≡◌, ℕ, [], ap, ◌∙◌}
use Rattle.schedule_text.specs.declared.line.Line.TheVariants.{Call, Gather}
use Rattle.transcript_model.specs.Lines.{line_of}
use Rattle.session_pass.specs.Views.{SessionView}
use Rattle.session_pass.specs.Calls.{ReapsOne}
use Rattle.drive_script.specs.declared.happened.Happened.{Happened}
use Rattle.drive_script.specs.declared.happened.Happened.TheVariants as Happen
use Rattle.drive_script.specs.Happened.{line_event}
use Rattle.drive_script.specs.Recycled.{Recycles}

pub call_counts : (happened : Happened) (old new : SessionView)
    → line_of (record { session = 0; event = line_event happened [] [] }) ≡ Call 0 → Recycles happened old new
call_counts (Happen.Posted call freed) old new is = tt
call_counts (Happen.RingFull need room) old new is = tt
call_counts (Happen.StageFull need free) old new is = tt
call_counts Happen.AtEnd old new is = tt
call_counts (Happen.Sent call bytes) old new is = tt
call_counts (Happen.Dropped call bytes) old new is = tt
call_counts Happen.NothingPosted old new is = tt
call_counts (Happen.Reaped call recycled) old new is = absurd (cc)
call_counts Happen.NothingReaped old new is = tt

pub gather_counts : (happened : Happened) (old new : SessionView)
    → line_of (record { session = 0; event = line_event happened [] [] }) ≡ Gather 0 → Recycles happened old new
gather_counts (Happen.Posted call freed) old new is = tt
gather_counts (Happen.RingFull need room) old new is = tt
gather_counts (Happen.StageFull need free) old new is = tt
gather_counts Happen.AtEnd old new is = tt
gather_counts (Happen.Sent call bytes) old new is = tt
gather_counts (Happen.Dropped call bytes) old new is = tt
gather_counts Happen.NothingPosted old new is = tt
gather_counts (Happen.Reaped call recycled) old new is = absurd (cc)
gather_counts Happen.NothingReaped old new is = tt

-- a reap, and a look at the device
pub reap_counts : (old between new : SessionView) (call recycled told : ℕ) → ReapsOne old between call recycled
    → new ≡ record between { told = told } → Recycles (Happen.Reaped call recycled) old new
reap_counts old between new call recycled told reaps is =
    (reaps.ended, ap (λ (s : SessionView). s.pass.seat.lasts) is ∙ reaps.lasts, reaps.counts)
