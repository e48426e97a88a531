-- The command that the first word names.
use Rattle.std.specs.Prelude.{ℕ, Bool, false, List, [], ◌∷◌, codes, if◌then◌else◌}
use Rattle.std.specs.Str.{bytes_eq}
use Rattle.command_line.specs.declared.named.CommandName.{CommandName}
use Rattle.command_line.specs.declared.named.CommandName.TheVariants.{Serve, Check, Gen, Drive, Join, Frames}

-- the first word is this one
abbrev pub begins_with : List ℕ → List (List ℕ) → Bool
begins_with name [] = false
begins_with name (command ∷ words) = bytes_eq command name

-- words that name no command are bad words of `serve`
abbrev pub name_of : List (List ℕ) → CommandName
name_of [] = Serve
name_of (command ∷ words) =
    if bytes_eq command (codes "check") then Check else
    if bytes_eq command (codes "gen") then Gen else
    if bytes_eq command (codes "drive") then Drive else
    if bytes_eq command (codes "join") then Join else
    if bytes_eq command (codes "frames") then Frames else Serve
