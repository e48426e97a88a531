use Rattle.std.proofs.Common.{◌≡◌, sym, subst}
use Rattle.std.specs.Option.{MatchOption}
use Rattle.frag_value.specs.Taken.{taken_bytes}
use Rattle.frag_value.proofs.Ranges.{range-size, range-bytes}
use Rattle.frag_value.proofs.handing.hand_range.Goals as goal

pub finish-requires : goal.finish-requires
finish-requires g c = record {
  done = subst (λ o. MatchOption o ⊥ (λ b. taken_bytes b ≡ b.size)) (sym c.hand_runs.ensures.begun)
      (range-size g.N.PoolName.sizes c.args.owner.now.holds c.args.value.now c.args.from c.args.len
      c.requires.value.filled c.requires.within);
}

pub returns-clause-bytes : goal.returns-clause-bytes
returns-clause-bytes g c = range-bytes g.N.PoolName.sizes c.args.owner.now.holds c.args.value.now c.args.from c.args.len
    c.requires.value.filled
