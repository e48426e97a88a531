use Rattle.std.proofs.Common.{◌≡◌, ◌≤◌, ◌++◌, length, vec_capacity}
use Rattle.flake_run.specs.Files.{opened_from}
use Rattle.flake_run.proofs.files.opened_of.Given as goal

abbrev pub invariant-loop-file : goal.invariant-loop-file
invariant-loop-file g l = record {
  items : l.opened.items ≡ opened_from 0 l.yielded;
  place : l.place ≡ length l.yielded;
  room : vec_capacity l.fn.room ≤ vec_capacity l.opened;
  all : l.yielded ++ l.file-iterator.rest.items ≡ l.fn.files.items;
  len : l.file-iterator.rest.len ≡ length l.file-iterator.rest.items;
}
