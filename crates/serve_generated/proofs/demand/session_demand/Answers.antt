use Rattle.std.proofs.Common.{◌≡◌, ◌+◌, ◌-◌, ap, arith}
use Rattle.pin_core.specs.declared.class.Class.{Class}
use Rattle.pin_core.specs.declared.class.Class.TheVariants.{Small, Large}
use Rattle.serve_generated.specs.Rows.{request_row}
use Rattle.serve_generated.proofs.Summed.{row_from, first_row, session_rows}
use Rattle.serve_generated.proofs.demand.session_demand.Goals as goal

pub loop-r-preserved : goal.loop-r-preserved
loop-r-preserved c =
    let r = c.loop-r.r in
    let made = c.next_request.ensures in
    let first = λ (class : Class). first_row class c.args.count r c.loop-r.draws c.loop-r-test.true in
    let request = λ (class : Class). ap (request_row class) made.request in
    let rest = λ (class : Class). ap (row_from class (c.args.count - (r + 1)) (r + 1)) made.state in
    record {
      small_is = omega (
        arith,
        c.loop-r.invariant.small_is,
        c.plus-demand.ensures.small,
        c.request_demand.ensures.small,
        first Small,
        request Small,
        rest Small,
      );
      large_is = omega (
        arith,
        c.loop-r.invariant.large_is,
        c.plus-demand.ensures.large,
        c.request_demand.ensures.large,
        first Large,
        request Large,
        rest Large,
      );
      stage = omega arith;
      few_small = omega arith;
      few_large = omega arith;
    }

pub returns-clause-small : goal.returns-clause-small
returns-clause-small c =
    let none : c.args.count - c.loop-r.r ≡ 0 = omega arith in
    omega (
      arith,
      c.loop-r.invariant.small_is,
      ap (λ k. row_from Small k c.loop-r.r c.loop-r.draws) none,
      session_rows
          Small c.args.number c.args.session c.args.count c.requires.session,
    )

pub returns-clause-large : goal.returns-clause-large
returns-clause-large c =
    let none : c.args.count - c.loop-r.r ≡ 0 = omega arith in
    omega (
      arith,
      c.loop-r.invariant.large_is,
      ap (λ k. row_from Large k c.loop-r.r c.loop-r.draws) none,
      session_rows
          Large c.args.number c.args.session c.args.count c.requires.session,
    )
