use Rattle.std.proofs.Common.{◌≡◌, ◌+◌, ◌*◌, length, map, slice_get}
use Rattle.replay_check.specs.Inputs.{contents}
use Rattle.check_files.specs.File.{name_in, whole_in, given_in, ended_in, faults_in}
use Rattle.check_files.specs.Files.{texts_since}
use Rattle.check_files.proofs.Pairs.{ArePairs}
use Rattle.check_files.proofs.ReadTo.{ReadTo}
use Rattle.check_files.proofs.contents.read_all.Given as goal

-- the pairs so far were read to their ends, and the files behind them weren't read
abbrev pub invariant-loop-session : goal.invariant-loop-session
invariant-loop-session g l = record {
  first : slice_get (map (λ f. given_in g.S.Source.given f) l.files) 0
      ≡ slice_get (map (λ f. given_in g.S.Source.given f) l.initial.files) 0;
  pairs : ArePairs (texts_since (map (λ f. given_in g.S.Source.given f) l.fn.files)
      (map (λ f. given_in g.S.Source.given f) l.files)) (contents l.inputs.items) (contents l.replies.items);
  inputs : length l.inputs.items ≡ l.session;
  replies : length l.replies.items ≡ l.session;
  read : ReadTo (2 * l.session + 1) (map (λ f. given_in g.S.Source.given f) l.fn.files)
      (map (λ f. given_in g.S.Source.given f) l.files) (map (λ f. ended_in g.S.Source.ended f) l.fn.files)
      (map (λ f. ended_in g.S.Source.ended f) l.files);
  faults : map (λ f. faults_in g.S.Source.read_faults f) l.files
      ≡ map (λ f. faults_in g.S.Source.read_faults f) l.fn.files;
  names : map (λ f. name_in g.S.Source.name f) l.files ≡ map (λ f. name_in g.S.Source.name f) l.fn.files;
  wholes : map (λ f. whole_in g.S.Source.whole f) l.files ≡ map (λ f. whole_in g.S.Source.whole f) l.fn.files;
}
