use Rattle.std.proofs.Common.{◌≡◌, ℕ, Some, ◌∙◌, refl, ap, sym, length, slice_get, ⊎_elim, arith}
use Rattle.std.proofs.lemmas.List.{length-map}
use Rattle.std.proofs.lemmas.Option.{slice_get-map, slice_get_past}
use Rattle.std.specs.Option.{option_map}
use Rattle.flake_base.specs.Roomy.{Roomy}
use Rattle.replay_check.specs.Inputs.{contents}
use Rattle.replay_check.proofs.Lists.{same_lists}
use Rattle.replay_check.proofs.Cursors.{below_next, below_or_not}
use Rattle.replay_check.proofs.verdict.compared.Goals as goal

pub loop-session-preserved : goal.loop-session-preserved
loop-session-preserved c =
    let expected = c.args.expected.now.items in
    let replies = c.args.replies.now.items in
    let session = c.loop-session.session in
    let text = slice_get-map (λ (t : Roomy ℕ). t.items) expected session
    ∙ ap (option_map (λ (t : Roomy ℕ). t.items)) c.get.ensures.item in
    let reply = slice_get-map (λ (t : Roomy ℕ). t.items) replies session
    ∙ ap (option_map (λ (t : Roomy ℕ). t.items)) c.get-in-loop-session.ensures.item in
    below_next (λ k. slice_get (contents expected) k ≡ slice_get (contents replies) k) session c.loop-session.invariant
    (text ∙ ap Some (sym c.as_slice-text.ensures ∙ c.in_default.ensures.none ∙ c.as_slice-reply.ensures) ∙ sym reply)

pub returns : goal.returns
returns c =
    let expected = c.args.expected.now.items in
    let replies = c.args.replies.now.items in
    same_lists (contents expected) (contents replies)
    (λ k. ⊎_elim (λ below. c.loop-session.invariant k (omega (arith, below, c.loop-session-test.false)))
    (λ past.
    slice_get_past (contents expected) k
    (omega (arith, past, c.requires.as_many, length-map expected (λ (t : Roomy ℕ). t.items)))
    ∙ sym (slice_get_past (contents replies) k (omega (arith, past, length-map replies (λ (t : Roomy ℕ). t.items)))))
    (below_or_not k (length replies)))
