use Rattle.std.proofs.Common.{◌≡◌, ◌≤◌, ◌++◌, ◌∷◌, [], length, take, vec_capacity, vec_len}
use Rattle.flake_base.specs.Histories.{histories}
use Rattle.journal_text.specs.Text.{placed_from, head_line}
use Rattle.journal_text.proofs.Written.{entries_text}
use Rattle.report_text.specs.Pieces.{KeepsFiles, SaidBut}
use Rattle.report_text.specs.Report.{report_room}
use Rattle.report_text.proofs.journal.say_journal.Given as goal

-- the head, and the lines of the shards so far, were said or stand ready
abbrev pub invariant-loop-shard : goal.invariant-loop-shard
invariant-loop-shard g l = record {
  lines : SaidBut l.text.items ((head_line (length l.journal.items) ++ 10 ∷ [])
      ++ entries_text (placed_from 0 (histories (take l.shard l.journal.items))))
      (g.H.Host.host_told l.fn.host).said (g.H.Host.host_told l.host).said;
  faults : (g.H.Host.host_told l.host).say_faults ≡ (g.H.Host.host_told l.fn.host).say_faults;
  files : KeepsFiles (g.H.Host.host_told l.fn.host) (g.H.Host.host_told l.host);
  some : 1 ≤ vec_len l.text;
  room : report_room ≤ vec_capacity l.text;
}
