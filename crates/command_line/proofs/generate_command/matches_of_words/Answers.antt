use Rattle.std.proofs.Common.{◌≡◌, ◌∙◌, ℕ, List, [], Some, None, true, sym, ap, refl, subst, cond}
use Rattle.clap.specs.Faults.{fault_of, is_simple_and_free}
use Rattle.clap.specs.Simple.{App, is_simple, matches_of}
use Rattle.clap.specs.Walk.{Row, is_empty}
use Rattle.command_line.specs.GenerateCommand.{gen_command, rows_in}
use Rattle.command_line.specs.Task.{word_texts}
use Rattle.command_line.proofs.generate_command.matches_of_words.Goals as goal

-- what a command without faults gives, where it is the one of `gen`
rows_are : (command : App) (words : List (List ℕ)) (rows : List Row) → command ≡ gen_command
    → (is_simple command ≡ true → rows ≡ matches_of command words)
    → (is_simple_and_free command ≡ true → fault_of command words ≡ []) → Some rows ≡ rows_in words
rows_are command words rows is matches faults =
    let found : rows ≡ matches_of gen_command words = subst (λ a. is_simple a ≡ true → rows ≡ matches_of a words) is
    matches refl in
    let none : fault_of gen_command words ≡ [] = subst (λ a. is_simple_and_free a ≡ true → fault_of a words ≡ []) is
    faults refl in
    ap Some found ∙ sym (ap (λ fault. cond (is_empty fault) (Some (matches_of gen_command words)) None) none)

pub returns-in-Ok : goal.returns-in-Ok
returns-in-Ok c = rows_are _ (word_texts c.args.words.now) _ c.in_ok-command.ensures
    (λ simple. (c.in-Ok.ensures.matches simple).0) c.in-Ok.ensures.kinds
