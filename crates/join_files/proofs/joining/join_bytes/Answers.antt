use Rattle.std.proofs.lemmas.Result.{IfOk-weaker}
use Rattle.join_files.specs.Cutting.{file_frames}
use Rattle.join_files.proofs.Taking.{joined_of}
use Rattle.join_files.proofs.joining.join_bytes.Goals as goal

pub returns-in-Ok-clause-ok : goal.returns-in-Ok-clause-ok
returns-in-Ok-clause-ok c =
    IfOk-weaker c.whole.result _ _
    (λ answer is. joined_of c.args.mtu c.args.calls (file_frames c.args.bytes.now) c.new-joiner.result
    c.take_all.new.joiner answer c.new-joiner.ensures c.in-Ok.ensures.same.1 c.in-Ok.ensures.ok is.0 is.1)
    c.whole.ensures.ok
