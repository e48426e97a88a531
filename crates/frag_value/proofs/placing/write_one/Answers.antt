use Rattle.std.proofs.Common.{ℕ, ◌∷◌, map, ap, ◌∙◌}
use Rattle.frag_value.specs.declared.frag.Frag.{Frag}
use Rattle.frag_value.specs.Fragments.{class_for, stored_fragments}
use Rattle.frag_value.proofs.Ones.{claims_filled, written_one, claims_missed, none_one}
use Rattle.frag_value.proofs.Seeking.{sought_placed, sought_refused}
use Rattle.frag_value.proofs.placing.write_one.Goals as goal

pub returns-in-Err-clause-cause : goal.returns-in-Err-clause-cause
returns-in-Err-clause-cause g c =
    none_one g.N.PoolName.sizes c.class_for.result c.args.text.now c.requires.0 c.requires.1
    (c.class_for.ensures ∙ ap class_for c.len-size.ensures.size) c.in-Err.none c.args.seat.now c.claim_from.new.seat
    c.in-Err.ensures.none

pub returns-in-Err-clause-claims : goal.returns-in-Err-clause-claims
returns-in-Err-clause-claims g c =
    claims_missed g.N.PoolName.sizes c.class_for.result c.args.text.now c.requires.0 c.requires.1
    (c.class_for.ensures ∙ ap class_for c.len-size.ensures.size) c.in-Err.none c.args.seat.now c.claim_from.new.seat
    c.in-Err.ensures.none

pub returns-in-Err-clause-sought : goal.returns-in-Err-clause-sought
returns-in-Err-clause-sought g c =
    sought_refused g.N.PoolName.sizes (stored_fragments c.args.text.now) c.in-Err.none c.args.seat.now
    c.claim_from.new.seat (returns-in-Err-clause-claims g c) (returns-in-Err-clause-cause g c)

pub returns-clause-written : goal.returns-clause-written
returns-clause-written g c =
    let pair : Frag g.row.N.Denot → ℕ × ℕ = λ f. (f.hold.buffer, f.len) in
    let hold = c.in-Ok.hold in
    written_one g.N.PoolName.sizes c.class_for.result c.args.text.now c.requires.0 c.requires.1
    (c.class_for.ensures ∙ ap class_for c.len-size.ensures.size) hold c.args.seat.now c.claim_from.new.seat
    c.in-Ok.ensures.claims c.fill_buffer.new.seat c.fill_buffer.ensures _
    (λ i. (hold.buffer, c.len-size.ensures.size i) ∷ map pair (c.new.ensures.items i))

pub returns-clause-claims : goal.returns-clause-claims
returns-clause-claims g c =
    claims_filled g.N.PoolName.sizes c.class_for.result c.args.text.now c.requires.0 c.requires.1
    (c.class_for.ensures ∙ ap class_for c.len-size.ensures.size) c.in-Ok.hold c.args.seat.now c.claim_from.new.seat
    c.in-Ok.ensures.claims c.fill_buffer.new.seat c.fill_buffer.ensures

pub returns-clause-sought : goal.returns-clause-sought
returns-clause-sought g c = sought_placed g.N.PoolName.sizes (stored_fragments c.args.text.now) c.args.seat.now
    c.fill_buffer.new.seat (returns-clause-claims g c)
