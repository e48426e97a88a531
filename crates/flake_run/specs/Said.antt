-- What a run says to its host.
use Rattle.std.specs.Prelude.{◌≡◌, ◌≢◌, ℕ, ◌==◌, ◌++◌, Bool, if◌then◌else◌, true, false, List, [], codes}
use Rattle.std.specs.Fmt.{decimal}
use Rattle.flake_base.specs.Causes.{Rose}
use Rattle.flake_base.specs.Growth.{Grew}
use Rattle.flake_base.specs.Told.{HostTold}
use Rattle.flake_base.specs.declared.journal.Entry.{Entry}
use Rattle.flake_base.specs.declared.session.SessionEnd.{SessionEnd}
use Rattle.flake_model.specs.Said.{said_line}
use Rattle.journal_text.specs.Text.{journal_text_of as journal_text}
use Rattle.pin_core.specs.declared.class.Held.{Held}
use Rattle.report_text.specs.Report.{summary_of}
use Rattle.report_text.specs.declared.dump.DumpLine.{DumpLine}
use Rattle.flake_run.specs.Dumping.{dump_line_of}
use Rattle.flake_run.specs.Task.{RunTask, dump_of, shows_journal}
use Rattle.flake_run.specs.Outside.{Outside}
use Rattle.flake_run.specs.Outcome.{RunOutcome}
use Rattle.flake_run.specs.declared.outcome.Detail.{Detail}
use Rattle.flake_run.specs.declared.outcome.Detail.TheVariants.{File}

-- a text was said, or a front of it where a say failed
pub record PrintsStatus (text : List ℕ) (old new : HostTold) : Type 0 where
  pub front : Grew true text old.said new.said
  pub whole : (Rose old.say_faults new.say_faults → ⊥) → Grew false text old.said new.said

-- nothing was said
pub record SaysNothing (old new : HostTold) : Type 0 where
  pub said : new.said ≡ old.said
  pub none_failed : new.say_faults ≡ old.say_faults

-- what is said of files that were served: the journal's text alone, or the summary
abbrev pub served_text : Bool → List (List Entry) → List SessionEnd → DumpLine → Held → List ℕ
served_text shows journal ends dump held = if shows then journal_text journal else summary_of ends dump held

-- which file did not open
abbrev pub unopened_text : Detail → List ℕ
unopened_text (File file) = said_line (codes "cannot open " ++ decimal file)
unopened_text detail = []

-- what is said with a status: why nothing was served, or what is said of what was
abbrev pub status_text : ℕ → Detail → List ℕ → List ℕ
status_text status detail served =
    if status == 1 then said_line (codes "bad words") else
    if status == 2 then unopened_text detail else served

-- what is said of what was served
abbrev pub text_served : RunTask → RunOutcome → List ℕ
text_served task done =
    served_text (shows_journal task) done.journal done.ends (dump_line_of (dump_of task) done.dump) done.held

pub record Said {W : Type 0} (task : RunTask) (before after : Outside W) (done : RunOutcome) : Type 0 where
  -- the text of the status, unless memory was wanting
  pub text : done.status ≢ 6
      → PrintsStatus (status_text done.status done.detail (text_served task done)) before.host after.host
  -- and where it was wanting before anything was served, that
  pub no_memory : done.status ≡ 6 → done.ends ≡ [] → PrintsStatus (said_line (codes "out of memory")) before.host
      after.host
  -- where something was served the same is said of it, also where memory was wanting
  pub served : done.ends ≢ []
      → PrintsStatus (text_served task done) before.host after.host
