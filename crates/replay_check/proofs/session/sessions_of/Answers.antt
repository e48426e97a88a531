use Rattle.std.proofs.Common.{◌≡◌, ◌<◌, ◌++◌, ◌∷◌, [], ◌∙◌, ℕ, Some, ap, sym, subst, length, map, slice_get, arith}
use Rattle.std.proofs.Common.{length-append}
use Rattle.std.proofs.lemmas.List.{length-map}
use Rattle.std.proofs.lemmas.Option.{slice_get-map, slice_get_within}
use Rattle.std.specs.Option.{option_map}
use Rattle.flake_base.specs.Roomy.{Roomy}
use Rattle.flake_model.specs.Journal.{session_steps}
use Rattle.replay_check.specs.Inputs.{contents}
use Rattle.replay_check.specs.Places.{step_place, told, ArePlaced}
use Rattle.replay_check.specs.declared.session.Session.{Session}
use Rattle.replay_check.proofs.Grown.{HasSession, one_session, one_placed}
use Rattle.replay_check.proofs.session.sessions_of.Goals as goal

pub loop-number-preserved : goal.loop-number-preserved
loop-number-preserved c =
    let inputs = c.args.inputs.now.items in
    let sessions = c.loop-number.sessions.items in
    let session = c.in_ok-session_of.field-0 in
    let count : c.loop-number.number ≡ length sessions = sym c.loop-number.invariant.count in
    let there : slice_get (contents inputs) (length sessions) ≡ Some c.get.result.now.items =
    ap (slice_get (contents inputs)) (sym count) ∙ slice_get-map (λ (t : Roomy ℕ). t.items) inputs c.loop-number.number
    ∙ ap (option_map (λ (t : Roomy ℕ). t.items)) c.get.ensures.item in
    record {
      count = omega (
        arith,
        ap length c.in_ok-push.ensures.items,
        length-append sessions
            (session ∷ []),
        c.loop-number.invariant.count,
      );
      inputs = λ k bytes below is.
          subst (λ s. HasSession (told s) (contents inputs) k) (sym c.in_ok-push.ensures.items)
          (one_session (contents inputs) sessions session c.get.result.now.items there
          c.in_ok-session_of.ensures.commands
          (λ n less bytes found. c.loop-number.invariant.inputs n bytes (omega (arith, less, count)) found) k
          (omega (arith, below, count))) bytes is;
      placed = subst (ArePlaced c.args.shards) (sym c.in_ok-push.ensures.items)
          (one_placed c.args.shards sessions session
          (subst (λ n. session.places.items ≡ map (step_place c.args.shards)
          (session_steps n 0 session.commands.items)) count c.in_ok-session_of.ensures.places)
          c.loop-number.invariant.placed);
    }

pub returns-clause-inputs : goal.returns-clause-inputs
returns-clause-inputs c =
    let inputs = c.args.inputs.now.items in
    let many : c.loop-number.number ≡ length inputs =
    omega (arith, c.loop-number-test.false, c.loop-number.auto.number-end, c.len-number-end.ensures) in
    record {
      count = omega (
        arith,
        c.loop-number.invariant.count,
        many,
        length-map inputs (λ (t : Roomy ℕ). t.items),
        length-map c.loop-number.sessions.items (λ (s : Session). s.commands.items),
      );
      each = λ session bytes is.
          c.loop-number.invariant.inputs session bytes
          (omega (
            arith,
            slice_get_within (contents inputs) session bytes is,
            length-map inputs
                (λ (t : Roomy ℕ). t.items),
            many,
          )) is;
    }
