use Rattle.std.proofs.Common.{◌≡◌, length, map, option_map, take}
use Rattle.command_line.specs.Check.{files_from}
use Rattle.command_line.proofs.check.files_of.Given as goal

abbrev pub invariant-loop-place : goal.invariant-loop-place
invariant-loop-place l = record {
  value : map (λ file. option_map (λ name. name.now) file) l.files.items
      ≡ files_from 0 (map (λ word. word.now) (take l.place l.words));
  len : length l.files.items ≡ l.place;
}
