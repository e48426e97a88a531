-- The commands of generated sessions.
use Rattle.std.specs.Prelude.{ℕ, List, map}
use Rattle.std.specs.List.{range_with_len}
use Rattle.flake_base.specs.declared.session.End.TheVariants.{Clean}
use Rattle.flake_model.specs.Command.{Command}
use Rattle.flake_model.specs.Input.{commands_in}
use Rattle.request_gen.specs.Words.{all_words}

-- those of one session's first requests
abbrev pub generated_commands_of : ℕ → ℕ → ℕ → List Command
generated_commands_of number session count = commands_in (all_words number session count) Clean

-- those of each session, from session 0 on
abbrev pub sessions_of : ℕ → ℕ → ℕ → List (List Command)
sessions_of number sessions count = map (λ session. generated_commands_of number session count)
    (range_with_len 0 sessions)
