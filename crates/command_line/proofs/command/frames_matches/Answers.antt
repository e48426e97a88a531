use Rattle.std.proofs.Common.{◌≡◌, IfOk, option_map, subst}
use Rattle.clap.specs.Matches.{found_of}
use Rattle.clap.specs.Simple.{App}
use Rattle.clap.specs.Walk.{rows_of}
use Rattle.command_line.specs.Command.{rows_by}
use Rattle.command_line.specs.Task.{word_texts}
use Rattle.command_line.proofs.command.frames_matches.Goals as goal

pub returns : goal.returns
returns c =
    subst (λ (a : App). IfOk c.matches_by.result
    (λ matches. option_map (λ m. rows_of (found_of m)) matches ≡ rows_by a (word_texts c.args.words.now)))
    c.in_ok-frames_command.ensures c.matches_by.ensures
