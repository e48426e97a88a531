-- What contracts see of the histories of shards.
use Rattle.std.specs.Prelude.{List, map}
use Rattle.flake_base.specs.Roomy.{Roomy}
use Rattle.flake_base.specs.declared.journal.Entry.{Entry}

-- each shard's history, without its room
abbrev pub histories : List (Roomy Entry) → List (List Entry)
histories journal = map (λ (history : Roomy Entry). history.items) journal
