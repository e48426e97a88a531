use Rattle.std.proofs.Common.{sym, subst}
use Rattle.std.specs.Prelude.{⊤}
use Rattle.join_files.specs.Joined.{IsRefusedAt}
use Rattle.join_files.proofs.Taking.{is_refused, is_taken}
use Rattle.join_files.proofs.joining.take_one.Goals as goal

pub returns-in-Ok-clause-ok : goal.returns-in-Ok-clause-ok
returns-in-Ok-clause-ok c = is_taken _ _ _ _ _ _ c.in-Ok._taken c.in-Ok.ensures.refused c.in-Ok.ensures.answer

pub returns-in-Err-clause-err : goal.returns-in-Err-clause-err
returns-in-Err-clause-err c =
    let before = c.args.joiner.now in
    subst (λ e. IsRefusedAt e c.args.number before.mtu before.calls before.frames c.args.frame.now)
    (sym c.error_of.ensures)
    (is_refused before.mtu before.calls c.args.frame.now before.frames c.take.new.self.frames ⊤
    c.in-Err.refused c.args.number c.in-Err.ensures.answer)
