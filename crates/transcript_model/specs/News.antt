-- What becomes known of a session while its lines are said, and what that leaves.
use Rattle.std.specs.Prelude.{◌≡◌, ℕ, ◌<◌, ◌≤◌, true, List, length, slice_get, Some}
use Rattle.flake_base.specs.declared.journal.Entry.{Entry}
use Rattle.flake_base.specs.declared.session.SessionEnd.{SessionEnd}
use Rattle.flake_model.specs.Command.{Command}
use Rattle.flake_model.specs.Deed.{Deed}
use Rattle.transcript_model.specs.Deeds.{find_deed}
use Rattle.transcript_model.specs.Terms.{Terms}
use Rattle.transcript_model.specs.Standing.{Standing}

-- the same session, of which this is known now
abbrev pub with_news : Terms → List Command → SessionEnd → ℕ → List Deed → Terms
with_news terms commands end whole deeds =
    record terms { commands = commands; end = end; whole = whole; deeds = deeds }

-- Nothing that was known where the session stands now is otherwise: of commands that were asked for, of the deeds of
-- calls that were posted, of frames that were gathered, and of an end that was said.
pub record LeavesSaid (terms : Terms) (now : Standing) (commands : List Command) (end : SessionEnd) (whole : ℕ)
    (deeds : List Deed) : Type 0 where
  pub asked : (call : ℕ) (command : Command)
      → slice_get terms.commands call ≡ Some command → slice_get commands call ≡ Some command
  pub deeds_stay : (entry : Entry) → entry.session ≡ terms.number → entry.call < length now.frames
      → find_deed entry deeds ≡ find_deed entry terms.deeds
  pub sent_stay : (call : ℕ) → call < now.gathered → call < terms.whole → call < whole
  pub dropped_stay : (call : ℕ) → call < now.gathered → terms.whole ≤ call → whole ≤ call
  pub end_stays : now.ended ≡ true → (end.end ≡ terms.end.end) × (end.replies ≡ terms.end.replies)
