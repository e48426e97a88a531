use Rattle.frag_value.proofs.Exact.{exactly_gained}
use Rattle.frag_value.proofs.Released.{value_keys}
use Rattle.test_pool.proofs.values.keeping.keep_one.Goals as goal

pub lend-requires-clause-held : goal.lend-requires-clause-held
lend-requires-clause-held g c = search (value_keys, c.in_ok-value.ensures.written.has)

pub returns-clause-one_more : goal.returns-clause-one_more
returns-clause-one_more g c = λ values x. exactly_gained _ _ values _ _ _ c.is_seat.ensures c.is_seat-2.ensures
    c.is_value.ensures c.in_ok-value.ensures.written.has x c.lend.ensures.into
