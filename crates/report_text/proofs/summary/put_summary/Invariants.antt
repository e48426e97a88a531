use Rattle.std.proofs.Common.{◌≡◌, ◌≤◌, ◌*◌, take, vec_capacity, vec_len}
use Rattle.flake_model.specs.Said.{summary_from}
use Rattle.report_text.specs.Report.{report_room}
use Rattle.report_text.proofs.summary.put_summary.Given as goal

-- the lines so far
abbrev pub invariant-loop-session : goal.invariant-loop-session
invariant-loop-session l = record {
  lines : l.text.items ≡ summary_from 0 (take l.session l.ends);
  len : vec_len l.text ≤ 152 * l.session;
  room : report_room ≤ vec_capacity l.text;
}
