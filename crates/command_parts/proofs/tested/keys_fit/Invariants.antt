use Rattle.std.proofs.Common.{◌≡◌, length, nat_le, take, drop, true}
use Rattle.std.specs.List.{list_all}
use Rattle.command_parts.proofs.tested.keys_fit.Given as goal

abbrev pub invariant-loop-j : goal.invariant-loop-j
invariant-loop-j l = list_all (λ key. nat_le (length key) 512) (take l.j (drop 1 l.request)) ≡ true
