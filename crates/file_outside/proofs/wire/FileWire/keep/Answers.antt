use Rattle.std.proofs.Common.{◌∙◌}
use Rattle.file_outside.proofs.Known.{front_grew}
use Rattle.file_outside.proofs.wire.FileWire.keep.Goals as goal

pub returns-clause-failed : goal.returns-clause-failed
returns-clause-failed g c =
    front_grew c.put-done.result _ _ _ _ _ _ c.in_ok-file.ensures.unwritten c.put-done.ensures.failed
