-- Generated requests that were served.
use Rattle.std.specs.Prelude.{◌≡◌, ◌≢◌, ℕ, ◌<◌, ◌⊎◌, max, Bool, List, [], ◌∷◌, Some, None, map}
use Rattle.std.specs.Borrow.{Bor}
use Rattle.std.specs.List.{AllByRecursion, range_with_len}
use Rattle.flake_base.specs.Reads.{IsGivenFront}
use Rattle.flake_base.specs.declared.journal.Entry.{Entry}
use Rattle.flake_base.specs.declared.session.End.TheVariants.{Clean, Memory}
use Rattle.flake_base.specs.declared.session.SessionEnd.{SessionEnd}
use Rattle.flake_model.specs.Command.{Command}
use Rattle.flake_model.specs.Run.{all_commands, missing_writes}
use Rattle.pin_core.specs.declared.class.Class.TheVariants.{Small, Large}
use Rattle.pinned_pool.specs.Ends.{End}
use Rattle.serve_model.specs.Demand.{demand_of}
use Rattle.request_gen.specs.Words.{all_words, requests_text}
use Rattle.serve_generated.specs.Sessions.{sessions_of}
use Rattle.command_line.specs.declared.generate_task.GenTask.{GenTask}
use Rattle.run_resources.specs.Opened.{pool_sizes}
use Rattle.serve_inputs.specs.Dumped.{no_dump}
use Rattle.serve_inputs.specs.Ran.{RanAll}
use Rattle.run_resources.specs.declared.sizes.RunSizes.{RunSizes}

-- the input of each session
abbrev pub inputs_of : GenTask → List (List ℕ)
inputs_of task =
    map (λ session. requests_text (all_words task.number session task.requests)) (range_with_len 0 task.sessions)

-- and its commands
abbrev pub commands_in_all : GenTask → List (List Command)
commands_in_all task = sessions_of task.number task.sessions task.requests

-- the pool has as many buffers of each class as the commands may claim, and at least one large one
abbrev pub generated_sizes : GenTask → RunSizes
generated_sizes task = record {
  shards = 8;
  small = demand_of Small (commands_in_all task);
  large = max (demand_of Large (commands_in_all task)) 1;
  ring = 1160;
  threshold = 512;
  dump = None;
  mtu = None;
}

-- of each input a front was given, and all of it where none was given at last
abbrev pub AreFronts : List (List ℕ) → List (List ℕ) → List Bool → Type 0
AreFronts [] givens endeds = (givens ≡ []) × (endeds ≡ [])
AreFronts (input ∷ inputs) [] endeds = ⊥
AreFronts (input ∷ inputs) (given ∷ givens) [] = ⊥
AreFronts (input ∷ inputs) (given ∷ givens) (ended ∷ endeds) =
    IsGivenFront (Some input) given ended × AreFronts inputs givens endeds

-- no pool can have as many
abbrev pub IsTooMuch : GenTask → Type 0
IsTooMuch task = (65_536 < demand_of Small (commands_in_all task)) ⊎ (16_384 < demand_of Large (commands_in_all task))

-- memory was wanting in no session
abbrev pub HadMemory : List SessionEnd → Type 0
HadMemory ends = AllByRecursion (λ end. end.end ≢ Memory) ends

module _ {W : Type 0} (put_may : W → Bor (List ℕ) → (W × Bool) → Type 0) (flush_may : W → (W × Bool) → Type 0) where
  -- What the sources gave of the generated inputs was served, and so many bytes of each one's replies were put in whole
  -- replies.
  pub record RanGenerated (task : GenTask) (givens : List (List ℕ)) (endeds : List Bool) (ends : List SessionEnd)
      (counts : List ℕ) (journal : List (List Entry)) (pool : End) (olds news : List W) : Type 0 where
    pub gave : AreFronts (inputs_of task) givens endeds
    pub ran : RanAll None put_may flush_may (pool_sizes task.sessions (generated_sizes task))
        (generated_sizes task).threshold givens endeds ends counts journal pool None no_dump olds news
    -- each session ended clean, but for want of memory
    pub ways : AllByRecursion (λ end. (end.end ≡ Clean) ⊎ (end.end ≡ Memory)) ends
    -- without that their commands are those that were generated
    pub commands : HadMemory ends → all_commands ran.ran.served.sessions ≡ commands_in_all task
    -- and each write found its buffers
    pub none_missing : HadMemory ends → missing_writes ran.ran.served.sessions journal ≡ 0
