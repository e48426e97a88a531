use Rattle.std.proofs.Common.{◌≡◌, ◌∙◌, ℕ, List, Some, refl, ap, sym, subst, length, take, slice_get, arith}
use Rattle.std.proofs.lemmas.List.{length-map}
use Rattle.std.proofs.lemmas.Result.{err_from_is_err_and}
use Rattle.std.proofs.lemmas.Option.{slice_get-map, slice_get_within}
use Rattle.std.specs.Option.{option_map}
use Rattle.std.specs.List.{flat_map}
use Rattle.std.specs.FinMap as finite
use Rattle.flake_base.specs.Roomy.{Roomy}
use Rattle.flake_base.specs.declared.journal.Entry.{Entry}
use Rattle.flake_model.specs.Journal.{answers_of, answers_from, step_of}
use Rattle.flake_base.specs.Histories.{histories}
use Rattle.replay_check.specs.InOrder.{AreInOrder}
use Rattle.replay_check.specs.Noted.{AreNoted}
use Rattle.replay_check.specs.Places.{told, ArePlaced}
use Rattle.replay_check.proofs.Cursors.{below_next}
use Rattle.replay_check.proofs.Replayed.{answers_of_more, fault_of}
use Rattle.replay_check.proofs.replay.replay.Goals as goal

pub returns-in_err-replay_shard-clause-fault : goal.returns-in_err-replay_shard-clause-fault
returns-in_err-replay_shard-clause-fault c =
    let sessions = c.args.sessions.now in
    let lists = c.args.journal.now.items in
    let journal = histories lists in
    let shard = c.loop-shard.shard in
    let many : length lists ≡ length journal = sym (length-map lists (λ (h : Roomy Entry). h.items)) in
    let placed = subst (λ n. ArePlaced n sessions) many c.requires.placed in
    let there : slice_get journal shard ≡ Some c.as_slice-history.result.now =
    slice_get-map (λ (h : Roomy Entry). h.items) lists shard
    ∙ ap (option_map (λ (h : Roomy Entry). h.items)) c.get.ensures.item
    ∙ ap Some (sym c.as_slice-history.ensures) in
    let fault = fault_of (told sessions) journal shard c.as_slice-history.result.now c.in_err-replay_shard.field-0.0
    there (λ other before less found. c.loop-shard.invariant.in_order other before less found)
    (c.in_err-replay_shard.ensures.fault (length journal) placed) in
    let p = err_from_is_err_and c.from_residual.result c.from_residual.ensures.1 in
    rw (p.1, p.2) fault

pub loop-shard-preserved : goal.loop-shard-preserved
loop-shard-preserved c =
    let sessions = c.args.sessions.now in
    let lists = c.args.journal.now.items in
    let journal = histories lists in
    let shard = c.loop-shard.shard in
    let many : length lists ≡ length journal = sym (length-map lists (λ (h : Roomy Entry). h.items)) in
    let placed = subst (λ n. ArePlaced n sessions) many c.requires.placed in
    let there : slice_get journal shard ≡ Some c.as_slice-history.result.now =
    slice_get-map (λ (h : Roomy Entry). h.items) lists shard
    ∙ ap (option_map (λ (h : Roomy Entry). h.items)) c.get.ensures.item
    ∙ ap Some (sym c.as_slice-history.ensures) in
    record {
      noted = subst (λ answers. AreNoted (told sessions) answers c.replay_shard.new.slots.items)
          (answers_of_more (told sessions) journal shard c.as_slice-history.result.now there)
          (c.in_ok-replay_shard.ensures.noted (answers_of (told sessions) (take shard journal))
          c.loop-shard.invariant.noted);
      in_order = λ other history below is.
          below_next (λ k. (h : List Entry) → slice_get journal k ≡ Some h
          → AreInOrder (told sessions) (length journal) k h) shard
          (λ k less h found. c.loop-shard.invariant.in_order k h less found)
          (λ h found.
          let same : c.as_slice-history.result.now ≡ h = cc (there, found) in
          subst (AreInOrder (told sessions) (length journal) shard) same
          (c.in_ok-replay_shard.ensures.in_order (length journal) placed))
          other below history is;
    }

pub returns-clause-in_order : goal.returns-clause-in_order
returns-clause-in_order c = λ shard history is.
    let lists = c.args.journal.now.items in
    c.loop-shard.invariant.in_order shard history
    (omega (
      arith,
      slice_get_within (histories lists) shard history is,
      length-map lists
          (λ (h : Roomy Entry). h.items),
      c.loop-shard-test.false,
      c.len-shard-end.ensures,
    )) is
