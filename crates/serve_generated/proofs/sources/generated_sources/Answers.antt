use Rattle.std.proofs.Common.{◌∙◌, [], ◌∷◌, length, ap, arith}
use Rattle.std.proofs.lemmas.List.{length-append}
use Rattle.serve_generated.specs.Input.{new_input}
use Rattle.serve_generated.proofs.Inputs.{one_input_more}
use Rattle.serve_generated.proofs.sources.generated_sources.Goals as goal

pub loop-session-preserved : goal.loop-session-preserved
loop-session-preserved c =
    record {
      inputs = one_input_more c.args.number c.args.count c.loop-session.session c.loop-session.sources.items
          c.push.new.self.items c.new.result
          c.in_ok-push.ensures.items c.loop-session.invariant.inputs
          (c.new.ensures ∙ ap new_input c.in_ok-text.ensures);
      many = omega (
        arith,
        ap length c.in_ok-push.ensures.items,
        length-append c.loop-session.sources.items
            (c.new.result ∷ []),
        c.loop-session.invariant.many,
      );
    }
