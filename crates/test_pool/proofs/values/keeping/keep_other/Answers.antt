use Rattle.std.proofs.Common.{◌∷◌}
use Rattle.frag_value.proofs.Exact.{exactly_first, exactly_swap, exactly_released}
use Rattle.test_pool.proofs.values.keeping.keep_other.Goals as goal

pub release-requires : goal.release-requires
release-requires g c =
    let rest = c.requires.exactly.0 in
    exactly_first _ _ c.args.old (c.in-Ok.value ∷ rest)
    (exactly_swap _ _ c.in-Ok.value c.args.old rest
    (c.in-Ok.ensures.one_more (c.args.old ∷ rest) c.requires.exactly.1))

pub returns-clause-other : goal.returns-clause-other
returns-clause-other g c = λ values x.
    exactly_released _ c.args.old (c.in-Ok.value ∷ values) _ _ _ c.is_seat.ensures
    (exactly_swap _ _ c.in-Ok.value c.args.old values (c.in-Ok.ensures.one_more (c.args.old ∷ values) x))
    c.release.ensures
