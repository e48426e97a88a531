use Rattle.std.proofs.Common.{◌≡◌, ◌≤◌, length, map, take, vec_capacity}
use Rattle.check_files.specs.File.{file_names, file_wholes, file_givens, file_endeds, file_faults}
use Rattle.check_files.specs.Named.{named}
use Rattle.check_files.proofs.OpenedFiles.{SoFar}
use Rattle.check_files.proofs.opening.open_named.Given as goal

abbrev pub invariant-loop-name : goal.invariant-loop-name
invariant-loop-name g l = record {
  so_far : SoFar (map named (take l.name-index l.names)) (g.H.Host.host_told l.fn.host) (g.H.Host.host_told l.host)
      (file_names g.H.In.Source.name l.files.items) (file_wholes g.H.In.Source.whole l.files.items)
      (file_givens g.H.In.Source.given l.files.items) (file_endeds g.H.In.Source.ended l.files.items)
      (file_faults g.H.In.Source.read_faults l.files.items);
  count : length l.files.items ≡ l.name-index;
  room : vec_capacity l.fn.room ≤ vec_capacity l.files;
}
