-- The numbers among the words: plain decimals within limits.
use Rattle.std.specs.Prelude.{ℕ, ℤ, List, Option, Some, None, if◌then◌else◌, pos, ◌&&◌, nat_le}
use Rattle.std.specs.Option.{option_and_then, option_map_or}
use Rattle.flake_model.specs.Range.{signed_of}
use Rattle.clap.specs.Walk.{Row, first_of}

abbrev pub number_between : ℕ → ℕ → Option ℤ → Option ℕ
number_between least most (Some (pos n)) = if nat_le least n && nat_le n most then Some n else None
number_between least most _ = None

-- a number from 0, which must be there
abbrev pub number_in : List ℕ → ℕ → List Row → Option ℕ
number_in name most rows = option_and_then (λ text. number_between 0 most (signed_of text)) (first_of name rows)

-- a number from 1, or the usual one where the option isn't there
abbrev pub number_or : List ℕ → ℕ → ℕ → List Row → Option ℕ
number_or name most usual rows =
    option_map_or (λ text. number_between 1 most (signed_of text)) (first_of name rows) (Some usual)
