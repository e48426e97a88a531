-- What the words of the command line ask `check` for.
use Rattle.std.specs.Prelude.{ℕ, ◌+◌, ◌==◌, ◌%◌, ◌&&◌, Bool, nat_le, if◌then◌else◌}
use Rattle.std.specs.Prelude.{List, [], ◌∷◌, Option, Some, None, codes, length, map}
use Rattle.std.specs.Option.{option_and_then, option_map}
use Rattle.std.specs.Str.{bytes_eq}
use Rattle.command_line.specs.Command.{check_command, rows_by}
use Rattle.command_line.specs.Named.{begins_with}
use Rattle.command_line.specs.Task.{files_in}
use Rattle.command_line.specs.declared.check.CheckTask.{CheckTask}

-- Replies stand at the even places behind the journal's; there the word `none` is no file's name.
abbrev pub stands_for_none : ℕ → List ℕ → Bool
stands_for_none place word = nat_le 2 place && (place % 2 == 0 && bytes_eq word (codes "none"))

abbrev pub file_at : ℕ → List ℕ → Option (List ℕ)
file_at place word = if stands_for_none place word then None else Some word

-- the names of the files from a place on; none where no file stands
abbrev pub files_from : ℕ → List (List ℕ) → List (Option (List ℕ))
files_from place [] = []
files_from place (word ∷ words) = file_at place word ∷ files_from (place + 1) words

-- a journal, and 1 to 16 pairs of an input and replies
abbrev pub are_pairs : ℕ → Bool
are_pairs count = nat_le 3 count && (nat_le count 33 && count % 2 == 1)

abbrev pub check_for : List (List ℕ) → Option (List (Option (List ℕ)))
check_for words = if are_pairs (length words) then Some (files_from 0 words) else None

-- the files that the words ask to be checked, by their places; none where they are bad words, as where the first isn't
-- `check`
abbrev pub check_of : List (List ℕ) → Option (List (Option (List ℕ)))
check_of words =
    if begins_with (codes "check") words
    then option_and_then (λ rows. check_for (files_in rows)) (rows_by check_command words) else None

-- the files, as the code holds them
abbrev pub shown_check : CheckTask → List (Option (List ℕ))
shown_check task = map (λ file. option_map (λ name. name.now) file) task.files.items
