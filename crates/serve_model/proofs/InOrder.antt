-- A session's deeds in a shard are the parts that belong there, in order; only a write that found no buffer is missing.
use Rattle.std.proofs.Common.{◌≡◌, ◌==◌, ℕ, ◌+◌, Bool, true, false, cond, List, [], ◌∷◌, ◌++◌, Some, None, length, take}
use Rattle.std.proofs.Common.{refl, ap, sym, ◌∙◌, subst}
use Rattle.std.specs.List.{filter}
use Rattle.std.proofs.lemmas.List.Elements.{filter-append}
use Rattle.std.proofs.Math.Seq.{take-length}
use Rattle.flake_base.specs.declared.journal.Entry.{Entry}
use Rattle.flake_model.specs.Store.{Operation, key_of, IsWrite}
use Rattle.flake_model.specs.Command.{Command, parts}
use Rattle.flake_model.specs.Deed.{Deed}
use Rattle.flake_model.specs.Journal.{Step, shard_of, call_steps, session_steps, next_parts, ran_steps, in_shard}
use Rattle.flake_model.specs.Journal.{IsServed, none, next, left_out}
use Rattle.shard_core.specs.Outcomes.{Outcomes, deed_of, AreOutcomes, call_told, entry_at}
use Rattle.serve_model.specs.Runs.{calls_told, AreCalls, Run, IsRun, run_told}
use Rattle.serve_model.proofs.Calls.{told_entries, entries_append}

served_both : {some more : List Step} {entries others : List Entry} → IsServed some entries → IsServed more others
    → IsServed (some ++ more) (entries ++ others)
served_both none rest = rest
served_both {more = more} {others = others} (next step steps entries served) rest =
    next step (steps ++ more) (entries ++ others) (served_both served rest)
served_both {more = more} {others = others} (left_out step steps entries write served) rest =
    left_out step (steps ++ more) (entries ++ others) write (served_both served rest)

-- the deeds in a shard
abbrev pub told_in : ℕ → List (ℕ × Deed) → List (ℕ × Deed)
told_in shard told = filter (λ (t : ℕ × Deed). t.0 == shard) told

told_in-append : (shard : ℕ) (some more : List (ℕ × Deed))
    → told_entries (told_in shard (some ++ more)) ≡ told_entries (told_in shard some) ++ told_entries
    (told_in shard more)
told_in-append shard some more = ap told_entries (filter-append (λ (t : ℕ × Deed). t.0 == shard) some more)
    ∙ entries_append (told_in shard some) (told_in shard more)

-- a part, with its deed or without one, in this shard or in another
with_part : (here : Bool) (step : Step) (steps : List Step) (told : ℕ × Deed) (more : List (ℕ × Deed))
    → told.1.entry ≡ step.0 → IsServed steps (told_entries more)
    → IsServed (cond here (step ∷ steps) steps) (told_entries (cond here (told ∷ more) more))
with_part true step steps told more is served = subst (λ (entry : Entry). IsServed (step ∷ steps)
    (entry ∷ told_entries more)) (sym is) (next step steps (told_entries more) served)
with_part false step steps told more is served = served

without_part : (here : Bool) (step : Step) (steps : List Step) (entries : List Entry) → IsWrite step.1
    → IsServed steps entries → IsServed (cond here (step ∷ steps) steps) entries
without_part true step steps entries write served = left_out step steps entries write served
without_part false step steps entries write served = served

module _ (shards shard session : ℕ) where
  call_served : (call part : ℕ) (operations : List Operation) (outcomes : Outcomes) → AreOutcomes operations outcomes
      → IsServed (in_shard shards shard (call_steps session call part (take (length outcomes) operations)))
      (told_entries (told_in shard (call_told shards session call part operations outcomes)))
  call_served call part [] [] are = none
  call_served call part (operation ∷ operations) [] are = none
  call_served call part [] (outcome ∷ outcomes) are = absurd are
  call_served call part (operation ∷ operations) (None ∷ outcomes) are =
      without_part (shard_of shards (key_of operation) == shard) (entry_at session call part, operation)
      (in_shard shards shard (call_steps session call (part + 1) (take (length outcomes) operations)))
      (told_entries (told_in shard (call_told shards session call (part + 1) operations outcomes))) are.0.0
      (call_served call (part + 1) operations outcomes are.1)
  call_served call part (operation ∷ operations) (Some done ∷ outcomes) are =
      with_part (shard_of shards (key_of operation) == shard) (entry_at session call part, operation)
      (in_shard shards shard (call_steps session call (part + 1) (take (length outcomes) operations)))
      (shard_of shards (key_of operation), deed_of (entry_at session call part) operation done)
      (told_in shard (call_told shards session call (part + 1) operations outcomes)) refl
      (call_served call (part + 1) operations outcomes are)

  both_served : (some more : List Step) (told others : List (ℕ × Deed))
      → IsServed (in_shard shards shard some) (told_entries (told_in shard told))
      → IsServed (in_shard shards shard more) (told_entries (told_in shard others))
      → IsServed (in_shard shards shard (some ++ more)) (told_entries (told_in shard (told ++ others)))
  both_served some more told others first rest =
      subst (λ (y : List Step × List Entry). IsServed y.0 y.1)
      (λ i. (
        sym (filter-append (λ (step : Step). shard_of shards (key_of step.1) == shard) some more) i,
        sym (told_in-append shard told others) i,
      )) (served_both first rest)

  calls_served : (call : ℕ) (commands : List Command) (calls : List Outcomes) → AreCalls commands calls
      → IsServed (in_shard shards shard (session_steps session call (take (length calls) commands)))
      (told_entries (told_in shard (calls_told shards session call commands calls)))
  calls_served call [] [] are = none
  calls_served call (command ∷ commands) [] are = none
  calls_served call [] (outcomes ∷ calls) are = absurd are
  calls_served call (command ∷ commands) (outcomes ∷ calls) are =
      let whole : take (length outcomes) (parts command) ≡ parts command = ap (λ n. take n (parts command)) are.1
      ∙ take-length (parts command) in
      both_served (call_steps session call 0 (parts command))
      (session_steps session (call + 1) (take (length calls) commands))
      (call_told shards session call 0 (parts command) outcomes) (calls_told shards session (call + 1) commands calls)
      (subst (λ operations. IsServed (in_shard shards shard (call_steps session call 0 operations))
      (told_entries (told_in shard (call_told shards session call 0 (parts command) outcomes)))) whole
      (call_served call 0 (parts command) outcomes are.0))
      (calls_served (call + 1) commands calls are.2)

  pub run_served : (run : Run) → IsRun run
      → IsServed (in_shard shards shard (ran_steps session run.commands (length run.calls) (length run.behind)))
      (told_entries (told_in shard (run_told shards session run)))
  run_served run is =
      let n = length run.calls in
      both_served (session_steps session 0 (take n run.commands))
      (call_steps session n 0 (take (length run.behind) (next_parts n run.commands)))
      (calls_told shards session 0 run.commands run.calls)
      (call_told shards session n 0 (next_parts n run.commands) run.behind)
      (calls_served 0 run.commands run.calls is.calls_are)
      (call_served n 0 (next_parts n run.commands) run.behind is.behind_are)
