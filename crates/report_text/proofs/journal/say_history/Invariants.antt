use Rattle.std.proofs.Common.{◌≡◌, ◌≤◌, ◌++◌, take, vec_capacity, vec_len}
use Rattle.journal_text.proofs.Placing.{at_shard}
use Rattle.journal_text.proofs.Written.{entries_text}
use Rattle.report_text.specs.Pieces.{KeepsFiles, SaidBut}
use Rattle.report_text.specs.Report.{report_room}
use Rattle.report_text.proofs.journal.say_history.Given as goal

-- the lines so far were said or stand ready
abbrev pub invariant-loop-entry : goal.invariant-loop-entry
invariant-loop-entry g l = record {
  lines : SaidBut l.text.items (l.fn.text.items ++ entries_text (at_shard l.shard (take l.entry-index l.history)))
      (g.H.Host.host_told l.fn.host).said (g.H.Host.host_told l.host).said;
  faults : (g.H.Host.host_told l.host).say_faults ≡ (g.H.Host.host_told l.fn.host).say_faults;
  files : KeepsFiles (g.H.Host.host_told l.fn.host) (g.H.Host.host_told l.host);
  some : 1 ≤ vec_len l.text;
  room : report_room ≤ vec_capacity l.text;
}
