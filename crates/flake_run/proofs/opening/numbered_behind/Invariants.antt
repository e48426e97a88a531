use Rattle.std.proofs.Common.{◌≡◌, ◌≤◌, ◌++◌, ◌∷◌, suc, map, length, vec_capacity}
use Rattle.std.specs.List.{range_with_len}
use Rattle.flake_run.proofs.opening.numbered_behind.Given as goal

abbrev pub invariant-loop-source : goal.invariant-loop-source
invariant-loop-source g l = record {
  files : map (λ s. s.file) l.opened.items ≡ range_with_len 0 (suc (length l.yielded));
  sources : map (λ s. s.source) l.opened.items ≡ l.fn.first ∷ l.yielded;
  room : vec_capacity l.fn.room ≤ vec_capacity l.opened;
  all : l.yielded ++ l.source-iterator.rest.items ≡ l.fn.sources.items;
  len : l.source-iterator.rest.len ≡ length l.source-iterator.rest.items;
}
