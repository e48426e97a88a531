-- What a session that took a dump hands up at its end.
use Rattle.std.specs.Prelude.{◌≡◌, ℕ, ◌<◌, ◌≤◌, List, ◌++◌}
use Rattle.view_sums.specs.Total.{Each}
use Rattle.flake_model.specs.Deed.{Deed}
use Rattle.order_book.specs.Pages.{SessionList}
use Rattle.dump_model.specs.Seen.{HasSeen}
use Rattle.pin_dump.specs.Dumps.{TookDump}

-- its deeds before the dump are of calls before this one, and those behind it of this call and others behind
abbrev pub TakenIsSeen : Type 0
TakenIsSeen = (shards before : ℕ) (old new last : SessionList) (points text : List ℕ) (later : List (ℕ × Deed))
    → TookDump shards old new points text
    → last.number ≡ new.number → last.looks ≡ new.looks → last.told ≡ new.told ++ later
    → Each (λ (own : ℕ × Deed). own.1.entry.call < before) new.told
    → Each (λ (own : ℕ × Deed). before ≤ own.1.entry.call) later
    → HasSeen shards before last points text
