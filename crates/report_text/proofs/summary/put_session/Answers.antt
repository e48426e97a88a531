use Rattle.std.proofs.Common.{append_assoc}
use Rattle.report_text.proofs.summary.put_session.Goals as goal

-- the pieces are the line, however they are grouped
pub returns-clause-items : goal.returns-clause-items
returns-clause-items c = simp (
  c.put_state.ensures.items,
  c.put-4.ensures.items,
  c.put_number-2.ensures.items,
  c.put-3.ensures.items,
  c.put_number.ensures.items,
  c.put-2.ensures.items,
  c.put_end.ensures.items,
  c.put_field.ensures.items,
  c.put.ensures.items,
  c.from.ensures,
  append_assoc,
)
