-- What served sources have done.
use Rattle.std.specs.Prelude.{◌≡◌, ◌++◌, Bool, List, Option, ℕ, length, map, drop}
use Rattle.flake_base.specs.Told.{WireTold}
use Rattle.flake_base.specs.declared.journal.Entry.{Entry}
use Rattle.flake_base.specs.declared.session.SessionEnd.{SessionEnd}
use Rattle.flake_model.specs.Run.{WasServed, all_commands, wire_texts}
use Rattle.flake_model.specs.Wire.{FaultsAre, KeptAre, WiresGrew, faults_told}
use Rattle.pin_core.specs.declared.sizes.Sizes.{Sizes}
use Rattle.pinned_pool.specs.Ends.{End}
use Rattle.serve_model.specs.Shown.{IsCounted}
use Rattle.serve_inputs.specs.Dumped.{DumpTold, IsDumpTold, dump_texts}
use Rattle.serve_inputs.specs.Wires.{sent_on_wires}
use Rattle.flake_run.specs.Dumping.{puts_failed}

-- Sources were served, which gave these bytes: their sessions' parts make the journal, the closed pool is that of their
-- commands, and each wire was sent its session's replies.
pub record IsServedRun {W : Type 0} (z : Sizes) (threshold : ℕ) (givens : List (List ℕ)) (endeds : List Bool)
    (ends : List SessionEnd) (journal : List (List Entry)) (pool : End) (olds news : List W)
    (told : W → WireTold) : Type 0 where
  pub run : WasServed givens endeds ends journal
  pub wires : WiresGrew (wire_texts run.sessions journal) (map (λ wire. (told wire).put) olds)
      (map (λ wire. (told wire).put) news)
  pub counted : IsCounted z threshold run.sessions journal pool
  pub faults : FaultsAre (map (λ end. end.failed) ends)
      (map (λ wire. faults_told (told wire)) olds) (map (λ wire. faults_told (told wire)) news)
  pub flushed : KeptAre (map (λ end. end.failed) ends)
      (map (λ wire. (told wire).kept) olds) (map (λ wire. (told wire).kept) news)
  pub others : drop (length ends) news ≡ drop (length ends) olds

-- The same where replies may go as frames and a dump may be asked for, before this call of the first session: what it
-- was sent went to the wire behind the sessions' wires.
pub record IsDumpingRun {W : Type 0} (z : Sizes) (threshold : ℕ) (givens : List (List ℕ)) (endeds : List Bool)
    (ends : List SessionEnd) (journal : List (List Entry)) (pool : End) (asked mtu : Option ℕ) (dump : DumpTold)
    (olds news : List W) (told : W → WireTold) : Type 0 where
  pub run : WasServed givens endeds ends journal
  pub dumped : IsDumpTold asked (all_commands run.sessions) journal dump
  pub wires : WiresGrew (sent_on_wires mtu run.sessions journal ++ dump_texts (all_commands run.sessions) journal dump)
      (map (λ wire. (told wire).put) olds) (map (λ wire. (told wire).put) news)
  pub counted : IsCounted z threshold run.sessions journal pool
  pub faults : FaultsAre (puts_failed ends dump)
      (map (λ wire. faults_told (told wire)) olds) (map (λ wire. faults_told (told wire)) news)
  pub flushed : KeptAre (puts_failed ends dump)
      (map (λ wire. (told wire).kept) olds) (map (λ wire. (told wire).kept) news)
  pub others : drop (length (puts_failed ends dump)) news ≡ drop (length (puts_failed ends dump)) olds
