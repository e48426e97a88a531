-- What the words of the command line ask `join` for.
use Rattle.std.specs.Prelude.{ℕ, ◌≤◌, ◌<◌, ◌-◌, ◌^◌, if◌then◌else◌}
use Rattle.std.specs.Prelude.{List, [], ◌∷◌, Option, Some, None, codes}
use Rattle.std.specs.Option.{option_and_then}
use Rattle.flake_model.specs.Range.{signed_of}
use Rattle.command_line.specs.Command.{join_command, rows_by}
use Rattle.command_line.specs.Named.{begins_with}
use Rattle.command_line.specs.Sizes.{number_between}
use Rattle.command_line.specs.Task.{files_in}
use Rattle.command_line.specs.declared.join.JoinTask.{JoinTask}

-- the most bytes of a frame, how many calls the frames are of, and the name of the file that has them
pub record Join : Type 0 where
  pub mtu : ℕ
  pub calls : ℕ
  pub file : List ℕ

-- numbers that the words may have
pub record AreJoinNumbers (mtu calls : ℕ) : Type 0 where
  pub low : 64 ≤ mtu
  pub high : mtu ≤ 9216
  pub few : calls < 2 ^ 32

abbrev pub join_with : List ℕ → Option ℕ → Option ℕ → Option Join
join_with file (Some mtu) (Some calls) = Some (record { mtu = mtu; calls = calls; file = file })
join_with file _ _ = None

-- two numbers and a file
abbrev pub join_for : List (List ℕ) → Option Join
join_for (mtu ∷ calls ∷ file ∷ []) =
    join_with file (number_between 64 9216 (signed_of mtu)) (number_between 0 (2 ^ 32 - 1) (signed_of calls))
join_for _ = None

-- the task that the words ask for; none where they are bad words, as where the first isn't `join`
abbrev pub join_of : List (List ℕ) → Option Join
join_of words =
    if begins_with (codes "join") words
    then option_and_then (λ rows. join_for (files_in rows)) (rows_by join_command words) else None

-- the task, as the code holds it
abbrev pub shown_join : JoinTask → Join
shown_join task = record { mtu = task.mtu; calls = task.calls; file = task.file.now }
