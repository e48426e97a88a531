use Rattle.std.proofs.Common.{◌≡◌, ◌∙◌, ℕ, List, [], Some, None, sym, ap, cond}
use Rattle.clap.specs.Faults.{fault_of}
use Rattle.clap.specs.Simple.{App, app_of, matches_of}
use Rattle.clap.specs.Walk.{Row, is_empty}
use Rattle.command_line.specs.Command.{rows_by}
use Rattle.command_line.specs.Task.{word_texts}
use Rattle.command_line.proofs.command.matches_by.Goals as goal

-- what a command without faults gives
rows_are : (command : App) (words : List (List ℕ)) (rows : List Row) → rows ≡ matches_of command words
    → fault_of command words ≡ []
    → Some rows ≡ rows_by command words
rows_are command words rows found none =
    ap Some found ∙ sym (ap (λ fault. cond (is_empty fault) (Some (matches_of command words)) None) none)

pub returns-in-Ok : goal.returns-in-Ok
returns-in-Ok c = rows_are (app_of c.args.command) (word_texts c.args.words.now) _
    (c.in-Ok.ensures.matches c.requires.simple).0 (c.in-Ok.ensures.kinds c.requires.free)
