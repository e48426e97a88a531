-- Deeds by their entries.
use Rattle.std.specs.Prelude.{if◌then◌else◌, List, [], ◌∷◌, Option, Some, None}
use Rattle.flake_base.specs.declared.journal.Entry.{Entry}
use Rattle.flake_model.specs.Journal.{is_entry}
use Rattle.flake_model.specs.Deed.{Deed}

-- the first deed at an entry, where there is one
abbrev pub find_deed : Entry → List Deed → Option Deed
find_deed entry [] = None
find_deed entry (deed ∷ deeds) = if is_entry entry deed.entry then Some deed else find_deed entry deeds
