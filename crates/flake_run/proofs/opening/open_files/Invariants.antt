use Rattle.std.proofs.Common.{◌≤◌, map, take, vec_capacity}
use Rattle.flake_run.specs.Opening.{AreOpened}
use Rattle.flake_run.specs.Outcome.{source_told}
use Rattle.flake_run.proofs.opening.open_files.Given as goal

abbrev pub invariant-loop-file : goal.invariant-loop-file
invariant-loop-file g l = record {
  opened : AreOpened (map (λ file. file.now) (take l.file-index l.files)) (g.H.Host.host_told l.fn.host)
      (g.H.Host.host_told l.host)
      (map (source_told g.H.In.Source.name g.H.In.Source.whole g.H.In.Source.given g.H.In.Source.ended
      g.H.In.Source.read_faults) l.sources.items);
  room : vec_capacity l.fn.room ≤ vec_capacity l.sources;
}
