-- One part of a call, by what the store says of it.
use Rattle.std.proofs.Common.{◌≡◌, ℕ, ◌+◌, ◌≤◌, List, None, false, length, refl, ap}
use Rattle.std.specs.Prelude.{Result, Ok, Err, IfOk, OnErr}
use Rattle.pin_core.specs.declared.sizes.Sizes.{Sizes}
use Rattle.pinned_pool.specs.declared.view.View.{View}
use Rattle.flake_base.specs.declared.fault.Memory.{Memory}
use Rattle.flake_base.specs.declared.journal.Entry.{Entry}
use Rattle.flake_base.specs.declared.segment.Seg.{Seg}
use Rattle.flake_model.specs.Store.{Operation}
use Rattle.order_book.specs.Pages.{SessionList}
use Rattle.shard_core.specs.Done.{is_ranged}
use Rattle.shard_core.specs.declared.answer.PartAnswer.{PartAnswer}
use Rattle.reply_planner.specs.Planned.{Planned, planned, room_of}
use Rattle.shard_core.specs.Parts.{PartState, PartEnds, PartShows, IsUntold, KeepsSeat}
use Rattle.command_exec.specs.Passes.{pass_of}
use Rattle.command_exec.specs.Running.{KeepsPass}
use Rattle.command_exec.specs.Parted.{RunsPart, MissesPart}

-- the session's list and the seat change, and what else a pass has stays
keeps : (list now : SessionList) (seat after : View) (stage free : List ℕ) (threshold : ℕ) → now.number ≡ list.number
    → now.looks ≡ list.looks → KeepsSeat seat after
    → KeepsPass (pass_of list seat stage free threshold) (pass_of now after stage free threshold)
keeps list now seat after stage free threshold number looks kept = record {
  number = number;
  looks = looks;
  seat = kept;
  free = refl;
  stage = refl;
  threshold = refl;
}

plan_kept : (before after : Planned) → after.base ≡ before.base → after.begun ≡ None
    → after ≡ planned before.base after.taken None
plan_kept before after base none = λ i. planned (base i) after.taken (none i)

pub ran_part : {E : Type 0} (z : Sizes) (shards : ℕ) (entry : Entry) (operation : Operation)
    (result : Result PartAnswer E) (list now : SessionList) (seat after_seat : View) (stage free : List ℕ)
    (threshold : ℕ) (segs_before segs : List Seg) (before after : Planned)
    → IfOk result (λ said. PartShows z shards entry operation said
    (record { list = list; seat = seat; stored = segs_before; taken = before.taken })
    (record { list = now; seat = after_seat; stored = segs; taken = after.taken }))
    → KeepsSeat seat after_seat → after.base ≡ before.base → after.begun ≡ None
    → (is_ranged operation ≡ false → room_of before + length before.taken ≤ room_of after + length after.taken)
    → IfOk result (λ said. RunsPart z shards entry operation said (pass_of list seat stage free threshold)
    (pass_of now after_seat stage free threshold) segs_before segs before after)
ran_part z shards entry operation (Ok said) list now seat after_seat stage free threshold segs_before segs before after
    told kept base none room = record {
      told = told;
      keeps = keeps list now seat after_seat stage free threshold told.number told.looks kept;
      plan = plan_kept before after base none;
      room = room;
    }
ran_part z shards entry operation (Err e) list now seat after_seat stage free threshold segs_before segs before after
    told kept base none room = tt

pub missed_part : {E : Type 0} (z : Sizes) (operation : Operation) (result : Result PartAnswer E)
    (list now : SessionList) (seat after_seat : View) (stage free : List ℕ) (threshold : ℕ)
    (segs_before segs : List Seg) (before after : Planned)
    → OnErr result (IsUntold z operation
    (record { list = list; seat = seat; stored = segs_before; taken = before.taken })
    (record { list = now; seat = after_seat; stored = segs; taken = after.taken }))
    → KeepsSeat seat after_seat
    → OnErr result (MissesPart z operation (pass_of list seat stage free threshold)
    (pass_of now after_seat stage free threshold))
missed_part z operation (Ok said) list now seat after_seat stage free threshold segs_before segs before after untold
    kept = tt
missed_part z operation (Err e) list now seat after_seat stage free threshold segs_before segs before after untold kept
    = record {
      told = ap (λ (l : SessionList). l.told) untold.list;
      sought = untold.sought;
      keeps = keeps list now seat after_seat stage free threshold (ap (λ (l : SessionList). l.number) untold.list)
          (ap (λ (l : SessionList). l.looks) untold.list) kept;
    }

-- after want of memory no segment is stored
pub untold_segs : {z : Sizes} {shards : ℕ} {entry : Entry} {operation : Operation} {result : Result PartAnswer Memory}
    {old new : PartState} → PartEnds z shards entry operation result old new → OnErr result (new.stored ≡ old.stored)
untold_segs {result = Ok said} ends = tt
untold_segs {result = Err e} ends = ends.untold.segs_are
