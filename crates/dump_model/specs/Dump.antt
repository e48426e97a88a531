-- A dump: what the shards had, each at one point of its history, as requests that set each key to its value.
use Rattle.std.specs.Prelude.{◌≡◌, ℕ, List, [], ◌∷◌, ◌++◌, codes, length, map, take, slice_get, slice_index, Some}
use Rattle.std.specs.List.{AllByRecursion, flat_map}
use Rattle.std.specs.FinMap as finite
use Rattle.flake_base.specs.declared.journal.Entry.{Entry}
use Rattle.flake_base.specs.declared.session.End.{End}
use Rattle.flake_base.specs.declared.session.End.TheVariants.{Clean}
use Rattle.flake_model.specs.Resp.{Words, array, element_text, Parses}
use Rattle.flake_model.specs.Store.{Store, Operation, key_of}
use Rattle.flake_model.specs.Command.{Command, command_of}
use Rattle.flake_model.specs.Input.{commands_in}
use Rattle.flake_model.specs.Journal.{shard_of, operation_at, step_of, store_after, session_steps}
use Rattle.flake_model.specs.OneThread.{IsSharded}

-- a key and its value
abbrev pub Pair : Type 0
Pair = List ℕ × List ℕ

-- the request that sets a key to its value
abbrev pub set_words : Pair → Words
set_words pair = codes "SET" ∷ pair.0 ∷ pair.1 ∷ []

abbrev pub set_text : Pair → List ℕ
set_text pair = element_text (array (set_words pair))

-- a request for each of these, in order
abbrev pub pairs_text : List Pair → List ℕ
pairs_text pairs = flat_map set_text pairs

-- the keys of a store with their values, in ascending byte order of the keys
abbrev pub pairs_in : Store → List Pair
pairs_in store = finite.entries store

-- what a shard's history leaves, from the empty store on
abbrev pub folded : List (List Command) → List Entry → Store
folded commands history = store_after finite.empty (flat_map (step_of commands) history)

-- what the first entries leave
abbrev pub at_point : List (List Command) → List Entry → ℕ → Store
at_point commands history point = folded commands (take point history)

-- what each shard had at its point, shard by shard
abbrev pub pairs_dumped : List (List Command) → List (List Entry) → List ℕ → List Pair
pairs_dumped commands [] points = []
pairs_dumped commands (history ∷ journal) [] = []
pairs_dumped commands (history ∷ journal) (point ∷ points) =
    pairs_in (at_point commands history point) ++ pairs_dumped commands journal points

-- the dump of a journal at these points
abbrev pub dumped : List (List Command) → List (List Entry) → List ℕ → List ℕ
dumped commands journal points = pairs_text (pairs_dumped commands journal points)

-- the entry names a part whose key belongs to this one of so many shards
abbrev pub IsHome : List (List Command) → ℕ → ℕ → Entry → Type 0
IsHome commands shards shard entry =
    (operation : Operation) × (operation_at commands entry ≡ Some operation)
    × (shard_of shards (key_of operation) ≡ shard)

-- each entry of a journal does so, in the shard in whose history it stands
abbrev pub AreHome : List (List Command) → List (List Entry) → Type 0
AreHome commands journal = (shard : ℕ) (history : List Entry) → slice_get journal shard ≡ Some history
    → AllByRecursion (IsHome commands (length journal) shard) history

-- an input's requests, and its end
abbrev pub ParsedInput : Type 0
ParsedInput = List Words × End

abbrev pub commands_parsed : List ParsedInput → List (List Command)
commands_parsed inputs = map (λ (input : ParsedInput). commands_in input.0 input.1) inputs

-- The dump is a whole input of these requests. Where one session is sent them, each of as many shards comes to what the
-- dumped one had at its point.
pub record IsServedAgain (commands : List (List Command)) (journal : List (List Entry)) (points : List ℕ) : Type 0 where
  pub requests : List Words
  pub parses : Parses (dumped commands journal points) requests Clean
  pub same : (again : List (List Entry)) → length again ≡ length journal
      → IsSharded (session_steps 0 0 (map command_of requests)) again
      → (shard : ℕ) (old new : List Entry) → slice_get journal shard ≡ Some old → slice_get again shard ≡ Some new
      → folded (map command_of requests ∷ []) new ≡ at_point commands old (slice_index points shard)
