use Rattle.std.proofs.Common.{arith}
use Rattle.pin_core.specs.declared.class.Class.{Class}
use Rattle.pin_core.specs.declared.class.Class.TheVariants.{Small, Large}
use Rattle.serve_generated.proofs.Summed.{first_session}
use Rattle.serve_generated.proofs.demand.generated_demand.Goals as goal

pub loop-session-preserved : goal.loop-session-preserved
loop-session-preserved c =
    let first = λ (class : Class). first_session class c.args.number c.args.count c.loop-session.session c.args.sessions
    c.loop-session-test.true in
    record {
      small_is = omega (
        arith,
        c.loop-session.invariant.small_is,
        c.plus-demand.ensures.small,
        c.session_demand.ensures.small,
        first Small,
      );
      large_is = omega (
        arith,
        c.loop-session.invariant.large_is,
        c.plus-demand.ensures.large,
        c.session_demand.ensures.large,
        first Large,
      );
      stages = omega arith;
      few_small = omega arith;
      few_large = omega arith;
    }
