-- The store that a table stands for.
use Rattle.std.specs.Prelude.{◌≡◌, ℕ, List}
use Rattle.std.specs.FinMap as finite
use Rattle.flake_model.specs.Store.{Store, Answer, value, missing, done, length_is, did, too_long}
use Rattle.byte_store.specs.Table.{TableEntries, table_bytes}
use Rattle.byte_store.specs.declared.store.ByteAnswer.{ByteAnswer}
use Rattle.byte_store.specs.declared.store.ByteAnswer.TheVariants.{Bulk, Null, Done, Length, Did, TooLong}

-- the table has at each key what the store has
abbrev pub HoldsStore : TableEntries → Store → Type 0
HoldsStore entries store = (key : List ℕ) → table_bytes key entries ≡ finite.get store key

-- what a part's answer stands for
abbrev pub answer_meant : ByteAnswer → Answer
answer_meant (Bulk bytes) = value bytes.items
answer_meant Null = missing
answer_meant Done = done
answer_meant (Length n) = length_is n
answer_meant (Did happened) = did happened
answer_meant TooLong = too_long
