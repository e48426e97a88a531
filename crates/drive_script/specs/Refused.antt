-- What becomes of a command whose call posts nothing.
use Rattle.std.specs.Prelude.{Option, None, Some}
use Rattle.flake_base.specs.declared.session.End.{End}
use Rattle.flake_base.specs.declared.session.End.TheVariants as ends
use Rattle.flake_model.specs.Command.{Command}
use Rattle.session_pass.specs.declared.error.CallError.{CallError}
use Rattle.session_pass.specs.declared.error.CallError.TheVariants.{RingFull, StageFull, Memory}
use Rattle.drive_script.specs.declared.happened.Happened.{Happened}
use Rattle.drive_script.specs.declared.happened.Happened.TheVariants as happen

abbrev pub refused_so : CallError → Happened
refused_so (RingFull need room) = happen.RingFull need room
refused_so (StageFull need free) = happen.StageFull need free
refused_so Memory = happen.AtEnd

-- it is called again, unless memory was wanting
abbrev pub kept_back : Command → CallError → Option Command
kept_back command (RingFull need room) = Some command
kept_back command (StageFull need free) = Some command
kept_back command Memory = None

-- want of memory ends the session
abbrev pub ended_by : CallError → Option End → Option End
ended_by (RingFull need room) end = end
ended_by (StageFull need free) end = end
ended_by Memory end = Some ends.Memory
