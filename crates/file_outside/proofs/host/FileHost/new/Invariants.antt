use Rattle.std.proofs.Common.{◌≡◌, length}
use Rattle.file_outside.proofs.host.FileHost.new.Given as goal

abbrev pub invariant-loop : goal.invariant-loop
invariant-loop g l = length l.rooms.items ≡ l.counter
