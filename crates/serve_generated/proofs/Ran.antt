-- Generated inputs that were served.
use Rattle.std.proofs.Common.{◌≡◌, ◌≢◌, ◌∙◌, ℕ, ◌≤◌, Bool, true, false, List, [], ◌∷◌, Option, None, Some, length}
use Rattle.std.proofs.Common.{map, arith, refl, ap, ap₂, sym, subst}
use Rattle.std.specs.Borrow.{Bor}
use Rattle.std.specs.List.{AllByRecursion, range_with_len}
use Rattle.std.proofs.lemmas.Simd.{map-map}
use Rattle.std.proofs.lemmas.List.FromFn.{length-map-range_with_len}
use Rattle.flake_base.specs.declared.journal.Entry.{Entry}
use Rattle.flake_base.specs.declared.session.End.TheVariants.{Left}
use Rattle.flake_base.specs.declared.session.SessionEnd.{SessionEnd}
use Rattle.flake_model.specs.Command.{Command}
use Rattle.flake_model.specs.Run.{all_commands}
use Rattle.pin_core.specs.declared.class.Class.{Class}
use Rattle.pin_core.specs.declared.class.Class.TheVariants.{Small, Large}
use Rattle.pin_core.specs.declared.sizes.Sizes as pool_size
use Rattle.pinned_pool.specs.Claims.{count_of}
use Rattle.pinned_pool.specs.Ends.{End}
use Rattle.serve_model.specs.Demand.{demand_of}
use Rattle.serve_model.proofs.Complete.{complete}
use Rattle.request_gen.specs.Words.{all_words, requests_text}
use Rattle.command_line.specs.declared.generate_task.GenTask.{GenTask}
use Rattle.run_resources.specs.Opened.{pool_sizes}
use Rattle.session_serve.specs.Ran.{AreReads}
use Rattle.serve_inputs.specs.Dumped.{DumpTold, IsDumpTold, no_dump}
use Rattle.serve_inputs.specs.Ran.{RanAll}
use Rattle.run_resources.specs.declared.sizes.RunSizes.{RunSizes}
use Rattle.serve_generated.specs.Generated.{RanGenerated, AreFronts, commands_in_all, inputs_of, generated_sizes}
use Rattle.serve_generated.specs.Input.{InputState, new_input, bytes_held, to_come, none_to_come}
use Rattle.serve_generated.proofs.Inputs.{inputs_below}
use Rattle.serve_generated.proofs.Ways.{all_ways, no_faults}

-- what sources gave of the texts that they hold
fronts_of : (texts : List (List ℕ)) (lasts : List InputState)
    → map (λ (s : InputState). Some (bytes_held s)) lasts ≡ map Some texts
    → AreFronts texts (map (λ (s : InputState). s.given) lasts) (map (λ (s : InputState). s.ended) lasts)
fronts_of [] [] same = (refl, refl)
fronts_of [] (s ∷ lasts) same = absurd (let no : ⊥ = cc same in no)
fronts_of (text ∷ texts) [] same = absurd (let no : ⊥ = cc same in no)
fronts_of (text ∷ texts) (s ∷ lasts) same =
    let held : text ≡ bytes_held s = cc same in
    ((to_come s.ended s.left, held, none_to_come s.ended s.left), fronts_of texts lasts (cc same))

-- the pool has what the commands may claim
enough : (task : GenTask) (commands : List (List Command)) (class : Class) → commands ≡ commands_in_all task
    → demand_of class commands ≤ count_of (pool_sizes task.sessions (generated_sizes task)) class
enough task commands Small is = omega (arith, ap (demand_of Small) is)
enough task commands Large is = omega (arith, ap (demand_of Large) is)

-- a dump that nobody asked for was not taken
untaken : (commands : List (List Command)) (journal : List (List Entry)) (dump : DumpTold) (taken : Bool)
    → dump.taken ≡ taken → IsDumpTold None commands journal dump → dump ≡ no_dump
untaken commands journal dump true is told =
    absurd (let asked : None ≡ Some (told.taken is).0 = (told.taken is).1 in let no : ⊥ = cc asked in no)
untaken commands journal dump false is told = told.untaken is

none_told : (commands : List (List Command)) (journal : List (List Entry)) (dump : DumpTold)
    → IsDumpTold None commands journal dump → dump ≡ no_dump
none_told commands journal dump told = untaken commands journal dump dump.taken refl told

module _ {W : Type 0} (put_may : W → Bor (List ℕ) → (W × Bool) → Type 0) (flush_may : W → (W × Bool) → Type 0) where
  pub ran_generated : (task : GenTask) (sizes : RunSizes) (sources lasts : List InputState) (ends : List SessionEnd)
      (counts : List ℕ) (journal : List (List Entry)) (pool : End) (dump : DumpTold) (olds news : List W)
      → task.sessions ≤ 16 → task.requests ≤ 4000 → sizes ≡ generated_sizes task
      → sources ≡ inputs_below task.number task.requests task.sessions
      → RanAll sizes.mtu put_may flush_may (pool_sizes (length sources) sizes) sizes.threshold
      (map (λ (s : InputState). s.given) lasts)
      (map (λ (s : InputState). s.ended) lasts) ends counts journal pool sizes.dump dump olds news
      → map (λ (s : InputState). Some (bytes_held s)) lasts ≡ map (λ (s : InputState). Some (bytes_held s)) sources
      → AreReads ends (no_faults sources) (no_faults lasts) → AllByRecursion (λ end. end.end ≢ Left) ends
      → RanGenerated put_may flush_may task (map (λ (s : InputState). s.given) lasts)
      (map (λ (s : InputState). s.ended) lasts) ends counts journal pool olds news
  ran_generated task sizes sources lasts ends counts journal pool dump olds news few short sizes_are sources_are was
      wholes reads stays =
      let givens = map (λ (s : InputState). s.given) lasts in
      let endeds = map (λ (s : InputState). s.ended) lasts in
      let text : ℕ → List ℕ = λ session. requests_text (all_words task.number session task.requests) in
      let as_many : length sources ≡ task.sessions = ap length sources_are
      ∙ length-map-range_with_len (λ session. new_input (text session)) 0 task.sessions in
      let held : map (λ (s : InputState). Some (bytes_held s)) lasts ≡ map Some (inputs_of task) =
      wholes ∙ ap (map (λ (s : InputState). Some (bytes_held s))) sources_are
      ∙ map-map (λ (s : InputState). Some (bytes_held s)) (λ session. new_input (text session))
      (range_with_len 0 task.sessions) ∙ sym (map-map Some text (range_with_len 0 task.sessions)) in
      let gave = fronts_of (inputs_of task) lasts held in
      let commands = all_commands was.ran.served.sessions in
      let none = none_told commands journal dump
      (subst (λ (asked : Option ℕ). IsDumpTold asked commands journal dump) (ap (λ (s : RunSizes). s.dump) sizes_are)
      was.dumped) in
      let ran : RanAll None put_may flush_may (pool_sizes task.sessions (generated_sizes task))
      (generated_sizes task).threshold givens endeds ends counts journal pool None no_dump olds news =
      subst (λ (q : pool_size.Sizes × Option ℕ × DumpTold × Option ℕ × ℕ).
      RanAll q.3 put_may flush_may q.0 q.4 givens endeds ends counts journal pool q.1 q.2 olds news)
      (λ i. (
        ap₂ pool_sizes as_many sizes_are i,
        (sizes_are i).dump,
        none i,
        (sizes_are i).mtu,
        (sizes_are i).threshold,
      )) was in
      let served = ran.ran.served in
      let both = all_ways task.number task.requests 0 task.sessions served.sessions givens endeds ends sources lasts
      (omega arith) short served.each_is served.given_is served.ended_is served.ends_are gave reads stays in
      record {
        gave = gave;
        ran = ran;
        ways = both.0;
        commands = both.1;
        none_missing = λ memory. complete (pool_sizes task.sessions (generated_sizes task))
            (generated_sizes task).threshold served.sessions journal pool ran.ran.counted
            (λ class. enough task (all_commands served.sessions) class (both.1 memory));
      }
