use Rattle.std.proofs.Common.{◌≡◌, ℕ, ◌+◌, List, [], ◌∷◌, ◌++◌, length, take, sym, ap, ◌∙◌, append_assoc, arith}
use Rattle.std.proofs.lemmas.List.{length-append}
use Rattle.pinned_pool.specs.Addresses.{address_of}
use Rattle.flake_base.specs.declared.segment.Seg.{Seg}
use Rattle.frag_value.proofs.Lists.{take-more, map-more}
use Rattle.frag_value.proofs.Ends.{length-value}
use Rattle.shard_core.specs.Kept.{segs_of}
use Rattle.shard_core.proofs.showing.show.Goals as goal

pub unreachable-requires : goal.unreachable-requires
unreachable-requires g c =
    let i = c.loop-i.invariant in
    omega (
      arith,
      i.room,
      c.in_default.ensures.full,
      c.loop-i-test.true,
      c.count-i-end.ensures,
      length-value
          g.P.PoolName.sizes c.args.value.now c.is_value.ensures,
    )

pub loop-i-preserved : goal.loop-i-preserved
loop-i-preserved g c =
    let i = c.loop-i.invariant in
    let z = g.P.PoolName.sizes in
    let v = c.args.value.now in
    let p : ℕ × ℕ = (c.frag-frag.result.now.hold.buffer, c.frag-frag.result.now.len) in
    let seg : ℕ × ℕ → Seg = λ q. record { address = address_of z q.0; len = q.1 } in
    let place : c.address.result ≡ address_of z p.0 = c.address.ensures ∙ ap (address_of z) c.buffer.ensures.buffer in
    let old : List Seg = c.args.stored.now.items in
    let here : segs_of z (take (c.loop-i.i + 1) v) ≡ segs_of z (take c.loop-i.i v) ++ seg p ∷ [] =
    ap (segs_of z) (take-more v c.loop-i.i p c.frag-frag.ensures.part) ∙ map-more seg (take c.loop-i.i v) p in
    let seg-here : Seg = record { address = c.address.result; len = p.1 } in
    record {
      items = c.in-Ok.ensures.ok ∙ (λ j. i.items j ++ record { address = place j; len = p.1 } ∷ [])
          ∙ append_assoc old (segs_of z (take c.loop-i.i v)) (seg p ∷ []) ∙ ap (λ l. old ++ l) (sym here);
      room = omega (arith, i.room, c.in-Ok.ensures.spare);
      spare = omega (
        arith,
        i.spare,
        c.in-Ok.ensures.spare,
        ap length c.in-Ok.ensures.ok,
        length-append
            c.loop-i.stored.items (seg-here ∷ []),
      );
    }
