use Rattle.std.proofs.Common.{◌≡◌, ◌+◌, ◌-◌, ◌/◌, ◌%◌, List, ◌++◌, ◌∷◌, [], length, sym, ap, ◌∙◌, length-append}
use Rattle.std.proofs.Common.{append_assoc, arith}
use Rattle.pinned_pool.specs.Addresses.{address_of}
use Rattle.flake_base.specs.declared.segment.Seg.{Seg}
use Rattle.reply_layout.specs.Layout.{segment, cut, copied_address}
use Rattle.reply_planner.specs.Owned.{key_buffers}
use Rattle.reply_planner.specs.Places.{buffer_addresses}
use Rattle.reply_planner.proofs.LaidOut.{cut-first, index-address}
use Rattle.reply_planner.proofs.laying.lay_run.Goals as goal

pub loop-at-preserved : goal.loop-at-preserved
loop-at-preserved g c =
    let i = c.loop-at.invariant in
    let stage = buffer_addresses g.N.PoolName.sizes (key_buffers c.args.staged.now) in
    let at = c.loop-at.at in
    let size = c.min-size.result in
    let n = c.args.to - at in
    let here : copied_address stage at ≡ c.address.result + at % 512 =
    ap (λ a. a + at % 512)
    (index-address g.N.PoolName.sizes c.args.staged.now (at / 512) c.index-staged-at.result
    (omega (arith, c.loop-at-test.true, c.requires.staged)) c.index-staged-at.is
    ∙ sym (ap (λ b. address_of g.N.PoolName.sizes b) c.buffer.ensures.buffer) ∙ sym c.address.ensures) in
    let rest : n - size ≡ c.args.to - (at + size) = omega arith in
    let first = cut-first stage at n size (omega (arith, c.loop-at-test.true)) c.min-size.ensures in
    let items : c.push_reserved.new.self.items ++ cut stage (c.args.to - (at + size)) (at + size)
    (c.args.to - (at + size)) ≡ c.loop-at.segments.items ++ cut stage n at n =
    ap (λ l. l ++ cut stage (c.args.to - (at + size)) (at + size) (c.args.to - (at + size)))
    c.push_reserved.ensures.items
    ∙ append_assoc c.loop-at.segments.items (segment (c.address.result + at % 512) size ∷ [])
    (cut stage (c.args.to - (at + size)) (at + size) (c.args.to - (at + size)))
    ∙ (λ j. c.loop-at.segments.items ++ segment (sym here j) size ∷ cut stage (sym rest j) (at + size) (sym rest j))
    ∙ ap (λ l. c.loop-at.segments.items ++ l) (sym first) in
    let long = ap (λ (l : List Seg). length l) c.push_reserved.ensures.items ∙ length-append c.loop-at.segments.items
    (segment (c.address.result + at % 512) size ∷ []) in
    let before = i.more c.loop-at-test.true in
    record {
      order = omega (arith, c.min-size.ensures, c.loop-at-test.true);
      items = items ∙ i.items;
      count = omega (arith, long, before, c.min-size.ensures, c.loop-at-test.true);
      more = λ less. omega (arith, long, before, c.min-size.ensures, c.loop-at-test.true, less);
      capacity = c.push_reserved.ensures.capacity ∙ i.capacity;
    }
