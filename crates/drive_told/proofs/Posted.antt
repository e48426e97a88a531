-- The writes that a session is told of are those of calls that were posted.
use Rattle.std.proofs.Common.{◌≡◌, ℕ, ◌+◌, ◌<◌, ◌≤◌, ◌⊎◌, inl, inr, List, [], ◌∷◌, ◌++◌, Option, Some, None, length}
use Rattle.std.proofs.Common.{map, sym, subst, append-nil, arith}
use Rattle.std.specs.List.{AllByRecursion, flat_map}
use Rattle.std.specs.Option.{option_to_list}
use Rattle.flake_base.specs.declared.journal.Entry.{Entry}
use Rattle.flake_base.specs.declared.session.End.{End}
use Rattle.flake_base.specs.declared.session.End.TheVariants.{Clean, Protocol, Truncated, TooLong, ReadFault, Memory}
use Rattle.flake_base.specs.declared.session.End.TheVariants.{Left}
use Rattle.flake_model.specs.Store as part
use Rattle.flake_model.specs.Store.{Operation, IsWrite}
use Rattle.flake_model.specs.Command as asked
use Rattle.flake_model.specs.Command.{Command, parts}
use Rattle.flake_model.specs.Deed.{Deed, entries_of}
use Rattle.flake_model.specs.Journal.{next_parts}
use Rattle.flake_model.specs.Session.{IsBegun}
use Rattle.shard_core.specs.Outcomes.{Outcomes, call_told}
use Rattle.serve_model.specs.Runs.{Run, IsRun, calls_told, run_told}
use Rattle.serve_model.proofs.Calls.{own, own_append, at_calls}

-- the deed is no write, or its call was posted
abbrev pub IsPosted : ℕ → Deed → Type 0
IsPosted posted deed = IsWrite deed.operation → deed.entry.call < posted

abbrev IsNoWrite : Operation → Type 0
IsNoWrite operation = IsWrite operation → ⊥

none_of : (f : List ℕ → Operation) → ((key : List ℕ) → IsNoWrite (f key)) → (keys : List (List ℕ))
    → AllByRecursion IsNoWrite (map f keys)
none_of f never [] = tt
none_of f never (key ∷ keys) = (never key, none_of f never keys)

-- a write is the only part of its command
many_read : (command : Command) → 2 ≤ length (parts command) → AllByRecursion IsNoWrite (parts command)
many_read asked.ping many = tt
many_read (asked.ping_with bytes) many = tt
many_read (asked.mget keys) many = none_of part.get (λ key never. never) keys
many_read (asked.del keys) many = none_of part.del (λ key never. never) keys
many_read (asked.exists keys) many = none_of part.exists (λ key never. never) keys
many_read (asked.fault kind) many = tt
many_read command many = absurd (let no : ⊥ = omega (arith, many) in no)

many_next : (found : Option Command) → 2 ≤ length (flat_map parts (option_to_list found))
    → AllByRecursion IsNoWrite (flat_map parts (option_to_list found))
many_next None many = tt
many_next (Some command) many =
    let only : parts command ++ [] ≡ parts command = append-nil (parts command) in
    subst (AllByRecursion IsNoWrite) (sym only)
    (many_read command (subst (λ (l : List Operation). 2 ≤ length l) only many))

-- what holds of each part holds of each deed of a call
by_part : (P : Operation → Type 0) (shards session call number : ℕ) (operations : List Operation)
    (outcomes : Outcomes) → AllByRecursion P operations
    → AllByRecursion (λ (deed : Deed). P deed.operation)
    (own (call_told shards session call number operations outcomes))
by_part P shards session call number operations [] all = tt
by_part P shards session call number [] (outcome ∷ outcomes) all = tt
by_part P shards session call number (operation ∷ operations) (None ∷ outcomes) all =
    by_part P shards session call (number + 1) operations outcomes all.1
by_part P shards session call number (operation ∷ operations) (Some done ∷ outcomes) all =
    (all.0, by_part P shards session call (number + 1) operations outcomes all.1)

none_posted : (posted : ℕ) (deeds : List Deed) → AllByRecursion (λ (deed : Deed). IsNoWrite deed.operation) deeds
    → AllByRecursion (IsPosted posted) deeds
none_posted posted [] all = tt
none_posted posted (deed ∷ deeds) all = ((λ write. absurd (all.0 write)), none_posted posted deeds all.1)

by_entry : (posted : ℕ) (deeds : List Deed) → AllByRecursion (λ (entry : Entry). entry.call < posted) (entries_of deeds)
    → AllByRecursion (IsPosted posted) deeds
by_entry posted [] all = tt
by_entry posted (deed ∷ deeds) all = ((λ write. all.0), by_entry posted deeds all.1)

both : (P : Deed → Type 0) (some more : List Deed) → AllByRecursion P some → AllByRecursion P more
    → AllByRecursion P (some ++ more)
both P [] more first rest = rest
both P (deed ∷ some) more first rest = (first.0, both P some more first.1 rest)

-- some parts ran of a call that wasn't posted, and then not the last
begun_some : (end : End) (begun all : ℕ) → IsBegun end begun all → (begun ≡ 0) ⊎ (begun < all)
begun_some Memory begun all is = is
begun_some Clean begun all is = inl is
begun_some (Protocol kind place) begun all is = inl is
begun_some (Truncated place) begun all is = inl is
begun_some TooLong begun all is = inl is
begun_some ReadFault begun all is = inl is
begun_some Left begun all is = inl is

behind_posted : (posted shards session call : ℕ) (operations : List Operation) (outcomes : Outcomes)
    → (2 ≤ length operations → AllByRecursion IsNoWrite operations)
    → (length outcomes ≡ 0) ⊎ (length outcomes < length operations)
    → AllByRecursion (IsPosted posted) (own (call_told shards session call 0 operations outcomes))
behind_posted posted shards session call operations [] none begun = tt
behind_posted posted shards session call operations (outcome ∷ outcomes) none (inl zero) =
    absurd (let no : ⊥ = omega (arith, zero) in no)
behind_posted posted shards session call operations (outcome ∷ outcomes) none (inr fewer) =
    none_posted posted (own (call_told shards session call 0 operations (outcome ∷ outcomes)))
    (by_part IsNoWrite shards session call 0 operations (outcome ∷ outcomes) (none (omega (arith, fewer))))

pub run_posted : (shards session : ℕ) (run : Run) → IsRun run
    → AllByRecursion (IsPosted (length run.calls)) (own (run_told shards session run))
run_posted shards session run is =
    let n = length run.calls in
    subst (AllByRecursion (IsPosted n))
    (sym (own_append (calls_told shards session 0 run.commands run.calls)
    (call_told shards session n 0 (next_parts n run.commands) run.behind)))
    (both (IsPosted n) (own (calls_told shards session 0 run.commands run.calls))
    (own (call_told shards session n 0 (next_parts n run.commands) run.behind))
    (by_entry n (own (calls_told shards session 0 run.commands run.calls))
    (at_calls (λ entry. entry.call < n) shards session 0 run.commands run.calls (λ m k from to. omega (arith, to))))
    (behind_posted n shards session n (next_parts n run.commands) run.behind (many_next _)
    (begun_some run.end.end (length run.behind) (length (next_parts n run.commands)) is.begun_is)))
