-- A call, as one part more of it is run.
use Rattle.std.proofs.Common.{◌≡◌, ℕ, ◌<◌, List, [], ◌∷◌, ◌++◌, Option, Some, length, slice_get, refl, ap, sym, ◌∙◌}
use Rattle.std.proofs.Common.{subst, append_assoc, append-nil}
use Rattle.view_sums.specs.Total.{Each}
use Rattle.view_sums.proofs.Eachs.{each-append}
use Rattle.pin_core.specs.declared.sizes.Sizes.{Sizes}
use Rattle.flake_base.specs.declared.journal.Entry.{Entry}
use Rattle.flake_base.specs.declared.segment.Seg.{Seg}
use Rattle.flake_model.specs.Store.{Operation}
use Rattle.flake_model.specs.Command.{Command, parts}
use Rattle.shard_core.specs.declared.answer.PartAnswer.{PartAnswer}
use Rattle.reply_planner.specs.Planned.{Planned}
use Rattle.shard_core.specs.Outcomes.{PartOutcome, Outcomes, entry_at}
use Rattle.shard_core.specs.Calls.{IsPartRun}
use Rattle.shard_core.specs.Parts.{IsInBuffer, segs_told, call_segs}
use Rattle.shard_core.proofs.Growing.{more_segs}
use Rattle.shard_core.proofs.Running.{running_starts, part_step, cuts_behind}
use Rattle.command_exec.specs.Kinds.{part_at}
use Rattle.command_exec.specs.Passes.{PassView}
use Rattle.command_exec.specs.Running.{KeepsPass, HasRun, LacksMemory}
use Rattle.command_exec.specs.Parted.{RunsPart, MissesPart, HasOutcome}
use Rattle.command_exec.proofs.Asked.{part_there}

pub keeps_same : (p : PassView) → KeepsPass p p
keeps_same p = record {
  number = refl;
  looks = refl;
  seat = record { holds = refl; credits = refl; returns = refl };
  free = refl;
  stage = refl;
  threshold = refl;
}

pub keeps_then : (p q r : PassView) → KeepsPass p q → KeepsPass q r → KeepsPass p r
keeps_then p q r one two = record {
  number = two.number ∙ one.number;
  looks = two.looks ∙ one.looks;
  seat = record {
    holds = two.seat.holds ∙ one.seat.holds;
    credits = two.seat.credits ∙ one.seat.credits;
    returns = two.seat.returns ∙ one.seat.returns;
  };
  free = two.free ∙ one.free;
  stage = two.stage ∙ one.stage;
  threshold = two.threshold ∙ one.threshold;
}

-- no part was run yet
pub run_none : (z : Sizes) (shards call : ℕ) (operations : List Operation) (p : PassView) (segs : List Seg)
    → HasRun z shards call operations [] p p segs segs
run_none z shards call operations p segs = record {
  running = running_starts z shards p.list.number call operations p.list.told p.seat p.seat refl refl;
  keeps = keeps_same p;
  stored = sym (append-nil segs);
  in_buffers = tt;
}

-- the outcome of a part that was run
pub outcome_of : (z : Sizes) (shards : ℕ) (entry : Entry) (operation : Operation) (said : PartAnswer)
    (old new : PassView) (segs_before segs : List Seg) (before after : Planned)
    → (ran : RunsPart z shards entry operation said old new segs_before segs before after)
    → HasOutcome z shards entry operation ran.told.outcome old new segs_before segs
outcome_of z shards entry operation said old new segs_before segs before after ran = record {
  run = ran.told.run;
  keeps = ran.keeps;
  segs_are = ran.told.segs_are;
  in_buffers = ran.told.in_buffers;
}

-- one part more
pub run_more : (z : Sizes) (shards call : ℕ) (operations : List Operation) (outcomes : Outcomes) (entry : Entry)
    (operation : Operation) (outcome : Option PartOutcome) (old mid new : PassView) (first second third : List Seg)
    → slice_get operations (length outcomes) ≡ Some operation → entry ≡ entry_at old.list.number call (length outcomes)
    → HasRun z shards call operations outcomes old mid first second
    → HasOutcome z shards entry operation outcome mid new second third
    → HasRun z shards call operations (outcomes ++ outcome ∷ []) old new first third
run_more z shards call operations outcomes entry operation outcome old mid new first second third is at ran one =
    let more = more_segs operations outcomes operation outcome is in
    let here = call_segs operations outcomes in
    let next = segs_told operation outcome in
    let now = subst (λ (e : Entry). IsPartRun z shards e operation outcome mid.list.told new.list.told mid.seat
    new.seat) at one.run in
    record {
      running = part_step z shards old.list.number call operations outcomes operation outcome old.list.told
          mid.list.told new.list.told old.seat mid.seat new.seat is ran.running now;
      keeps = keeps_then old mid new ran.keeps one.keeps;
      stored = one.segs_are ∙ ap (λ (segs : List Seg). segs ++ next) ran.stored ∙ append_assoc first here next
          ∙ ap (λ (segs : List Seg). first ++ segs) (sym more);
      in_buffers = subst (Each (IsInBuffer z)) (sym more)
          (each-append (IsInBuffer z) here next ran.in_buffers one.in_buffers);
    }

-- memory was wanting in the next part
pub run_missed : (z : Sizes) (shards call : ℕ) (command : Command) (outcomes : Outcomes) (operation : Operation)
    (old mid new : PassView) (first second : List Seg)
    → slice_get (parts command) (length outcomes) ≡ Some operation
    → HasRun z shards call (parts command) outcomes old mid first second → MissesPart z operation mid new
    → LacksMemory z shards call command old new
run_missed z shards call command outcomes operation old mid new first second is ran missed =
    let cut = cuts_behind z shards old.list.number call command outcomes operation old.list.told mid.list.told old.seat
    mid.seat new.seat is ran.running missed.sought in
    record {
      outcomes = outcomes;
      cut = record { are = cut.are; short = cut.short; told = missed.told ∙ cut.told; sought = cut.sought };
      keeps = keeps_then old mid new ran.keeps missed.keeps;
    }

-- memory was wanting in the part of a number
pub next_missed : (z : Sizes) (shards : ℕ) (command : Command) (j : ℕ) (outcomes : Outcomes) (at next : Entry)
    (old mid new : PassView) (first second : List Seg) → length outcomes ≡ j → j < length (parts command)
    → next ≡ entry_at at.session at.call j
    → HasRun z shards at.call (parts command) outcomes old mid first second
    → MissesPart z (part_at command next.part) mid new → LacksMemory z shards at.call command old new
next_missed z shards command j outcomes at next old mid new first second count near is ran missed =
    run_missed z shards at.call command outcomes (part_at command j) old mid new first second
    (subst (λ k. slice_get (parts command) k ≡ Some (part_at command j)) (sym count) (part_there command j near)) ran
    (subst (λ (e : Entry). MissesPart z (part_at command e.part) mid new) is missed)
