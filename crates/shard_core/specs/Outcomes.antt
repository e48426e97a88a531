-- What became of a call's parts: their answers, the deeds that a session is told, and the reply.
use Rattle.std.specs.Prelude.{◌≡◌, ℕ, ◌+◌, ◌<◌, List, [], ◌∷◌, Option, Some, None, is_none, if◌then◌else◌, map, ⊤}
use Rattle.std.specs.Option.{option_map}
use Rattle.view_sums.specs.Total.{total}
use Rattle.flake_base.specs.declared.journal.Entry.{Entry}
use Rattle.pin_core.specs.declared.class.Class.TheVariants.{Small, Large}
use Rattle.flake_model.specs.Store.{Operation, Answer, key_of, answer_on, change_on, bytes_put, IsWrite}
use Rattle.flake_model.specs.Deed.{Deed, deed_at}
use Rattle.flake_model.specs.Journal.{shard_of}
use Rattle.shard_core.specs.Demand.{part_row}

-- What became of one part that was entered: its answer, where the value lies that it answered from, the place in it of
-- the first byte that was answered, and where the value lies that it stored.
pub record PartOutcome : Type 0 where
  pub answer : Answer
  pub found : List ℕ
  pub first : ℕ
  pub stored : List ℕ

-- one outcome for each of a call's first parts; a part that found no buffer has none
abbrev pub Outcomes : Type 0
Outcomes = List (Option PartOutcome)

-- what a session is told: deeds, each with the shard in which it stands
abbrev pub SessionDeeds : Type 0
SessionDeeds = List (ℕ × Deed)

abbrev pub entry_at : ℕ → ℕ → ℕ → Entry
entry_at session call part = record { session = session; call = call; part = part }

abbrev pub deed_of : Entry → Operation → PartOutcome → Deed
deed_of entry operation done = deed_at entry operation done.answer done.found done.first done.stored

-- what a part adds to the session's list
abbrev pub part_told : ℕ → Entry → Operation → Option PartOutcome → SessionDeeds
part_told shards entry operation None = []
part_told shards entry operation (Some done) =
    (shard_of shards (key_of operation), deed_of entry operation done) ∷ []

-- a write that may need a buffer, of the one class or the other
abbrev pub MayMiss : Operation → Type 0
MayMiss operation = IsWrite operation × (0 < part_row Small operation + part_row Large operation)

-- only such a write may find no buffer
abbrev pub IsOutcome : Operation → Option PartOutcome → Type 0
IsOutcome operation None = MayMiss operation
IsOutcome operation (Some done) = ⊤

-- there are no more outcomes than parts
abbrev pub AreOutcomes : List Operation → Outcomes → Type 0
AreOutcomes operations [] = ⊤
AreOutcomes [] (outcome ∷ outcomes) = ⊥
AreOutcomes (operation ∷ operations) (None ∷ outcomes) = MayMiss operation × AreOutcomes operations outcomes
AreOutcomes (operation ∷ operations) (Some done ∷ outcomes) = AreOutcomes operations outcomes

-- with this answer the operation puts nothing, whatever its key had
abbrev pub PutsNothing : Operation → Answer → Type 0
PutsNothing operation answer = (had : Option (List ℕ)) → answer ≡ answer_on had operation
    → bytes_put (change_on had operation) ≡ None

-- the part was answered, and put nothing
abbrev pub HasPutNothing : Operation → Option PartOutcome → Type 0
HasPutNothing operation None = ⊥
HasPutNothing operation (Some done) = PutsNothing operation done.answer

-- each of a call's first parts was answered, and put nothing
abbrev pub HavePutNothing : List Operation → Outcomes → Type 0
HavePutNothing operations [] = ⊤
HavePutNothing [] (outcome ∷ outcomes) = ⊤
HavePutNothing (operation ∷ operations) (outcome ∷ outcomes) =
    HasPutNothing operation outcome × HavePutNothing operations outcomes

-- a part that found no buffer puts bytes on what its key had
abbrev pub WouldPut : Operation → Option PartOutcome → Type 0
WouldPut operation None =
    (had : Option (List ℕ)) × (bytes : List ℕ) × (bytes_put (change_on had operation) ≡ Some bytes)
WouldPut operation (Some done) = ⊤

-- what a call's parts add, from a number on
abbrev pub call_told : ℕ → ℕ → ℕ → ℕ → List Operation → Outcomes → SessionDeeds
call_told shards session call part operations [] = []
call_told shards session call part [] (outcome ∷ outcomes) = []
call_told shards session call part (operation ∷ operations) (None ∷ outcomes) =
    call_told shards session call (part + 1) operations outcomes
call_told shards session call part (operation ∷ operations) (Some done ∷ outcomes) =
    (shard_of shards (key_of operation), deed_of (entry_at session call part) operation done)
    ∷ call_told shards session call (part + 1) operations outcomes

-- the deed of each part, from a number on; a part that found no buffer did none
abbrev pub call_deeds : ℕ → ℕ → ℕ → List Operation → Outcomes → List (Option Deed)
call_deeds session call part operations [] = []
call_deeds session call part [] (outcome ∷ outcomes) = []
call_deeds session call part (operation ∷ operations) (None ∷ outcomes) =
    None ∷ call_deeds session call (part + 1) operations outcomes
call_deeds session call part (operation ∷ operations) (Some done ∷ outcomes) =
    Some (deed_of (entry_at session call part) operation done)
    ∷ call_deeds session call (part + 1) operations outcomes

abbrev pub answer_told : Option PartOutcome → Option Answer
answer_told outcome = option_map (λ (done : PartOutcome). done.answer) outcome

abbrev pub answers_told : Outcomes → List (Option Answer)
answers_told outcomes = map answer_told outcomes

-- how many parts found no buffer
abbrev pub missed_in : Outcomes → ℕ
missed_in outcomes = total (λ (outcome : Option PartOutcome). if is_none outcome then 1 else 0) outcomes
