-- The options of a SET, one word after another.
use Rattle.std.proofs.Common.{◌≡◌, ap, ℕ, ◌+◌, ◌<◌, length, drop, get_or, []}
use Rattle.std.specs.Option.{option_and_then}
use Rattle.std.proofs.lemmas.List.{drop_more}
use Rattle.flake_model.specs.Resp.{Words}
use Rattle.flake_model.specs.Command.{Options, with_option, with_options}

-- the next word first, and then the others
pub next_option : (words : Words) (i : ℕ) (options : Options) → i < length words
    → with_options (drop i words) options ≡ option_and_then (with_options (drop (i + 1) words))
    (with_option (get_or words i []) options)
next_option words i options within = ap (λ rest. with_options rest options) (drop_more words i [] within)
