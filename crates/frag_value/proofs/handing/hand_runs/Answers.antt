use Rattle.std.proofs.Common.{◌≡◌, ◌-◌, ◌+◌, ◌++◌, ◌∷◌, List, [], false, min, drop, take, Some, refl, sym, ap, ◌∙◌}
use Rattle.std.proofs.Common.{subst, arith}
use Rattle.std.specs.Option.{MatchOption}
use Rattle.pinned_pool.specs.Bytes.{bytes_of_words}
use Rattle.pin_core.specs.Holding.{Holding}
use Rattle.frag_value.specs.Values.{unmarked_view}
use Rattle.frag_value.specs.Taken.{PlacedRun, Begun, ranged, more, placed_part, placed_run, RangeSoFar}
use Rattle.frag_value.proofs.Unmarked.{unmarked-may, same_front}
use Rattle.frag_value.proofs.Hands.{held_now, filled_now}
use Rattle.frag_value.proofs.Ranges.{drop-at, some-run, none_yet, range_more, no_more}
use Rattle.frag_value.proofs.handing.hand_runs.Goals.{then-here-gt0, else-here-gt0}
use Rattle.frag_value.proofs.handing.hand_runs.Goals as goal

pub loop-i-init : goal.loop-i-init
loop-i-init g c = record {
  far = none_yet g.N.PoolName.sizes c.args.owner.now.holds c.args.value.now c.args.from c.args.len
      (λ (b : Begun). Some b) (g.T.Taker.begun c.args.taker.now) c.requires.begun c.is_value.ensures.cut
      c.is_value.ensures.limit c.requires.value.filled c.requires.within;
  taken = refl;
  base = refl;
  room = omega arith;
  owner = refl;
}

pub take_part-requires-clause-held : goal.take_part-requires-clause-held
take_part-requires-clause-held g c = held_now c.args.owner.now c.loop-i.owner _ _ _ c.loop-i.invariant.owner
    c.requires.value c.frag-frag.ensures.part _ c.frag-frag.ensures.hold

pub take_part-requires-clause-filled : goal.take_part-requires-clause-filled
take_part-requires-clause-filled g c = (
  omega (arith, c.if-here-gt0.true),
  omega (arith, c.if-here-gt0.true, c.min-here.ensures, c.saturating_sub.ensures, c.from-size.ensures),
  filled_now c.args.owner.now c.loop-i.owner _ _ _ c.loop-i.invariant.owner c.requires.value c.frag-frag.ensures.part,
)

pub loop-i-preserved : goal.loop-i-preserved
loop-i-preserved g c =
    let i = c.loop-i.invariant in
    let z = g.N.PoolName.sizes in
    let hs : List Holding = c.args.owner.now.holds in
    let v = c.args.value.now in
    let b = c.frag-frag.result.now.hold.buffer in
    let n = c.frag-frag.result.now.len in
    let skip = c.loop-i.skip in
    let here = c.min-here.result in
    let left = c.loop-i.left in
    let rest = drop (c.loop-i.i + 1) v in
    let begun = g.T.Taker.begun c.loop-i.taker in
    let here_is : here ≡ min left (n - skip) =
    omega (arith, c.min-here.ensures, c.saturating_sub.ensures, c.from-size.ensures) in
    let skip_is : c.saturating_sub-skip.result ≡ skip - n =
    omega (arith, c.saturating_sub-skip.ensures, c.from-size.ensures) in
    let far = subst (λ l. RangeSoFar z hs v l c.args.from c.args.len skip left begun (λ (x : Begun). Some x))
    (drop-at v c.loop-i.i (b, n) c.frag-frag.ensures.part) i.far in
    let after = g.T.Taker.begun c.if-here-gt0.taker in
    let then_far = λ (now : after ≡ Some (record {
      extent = ranged;
      size = c.args.len;
      frags = far.runs ++ placed_run z hs b skip here;
    })).
    subst (λ k. RangeSoFar z hs v rest c.args.from c.args.len k (left - here) after (λ (x : Begun). Some x))
    (sym skip_is)
    (range_more z hs v c.args.from c.args.len (λ (x : Begun). Some x) (b, n) rest skip left here begun after far here_is
    now) in
    elim c.if-here-gt0.branch [
      | then-here-gt0 w ↦
          let e = w.take_part.ensures in
          let step = subst (λ o. MatchOption o ⊥
          (λ x. g.T.Taker.begun w.take_part.new.self
          ≡ Some (more (placed_part z c.loop-i.owner.holds b skip here) x))) far.begun_is e.begun in
          let same : placed_part z c.loop-i.owner.holds b skip here ≡ placed_part z hs b skip here =
          ap (λ f. let r : PlacedRun = record {
            address = (placed_part z hs b skip here).address;
            offset = skip;
            bytes = take here (drop skip (bytes_of_words f));
            over = false;
          } in r)
          (same_front b c.args.owner.now c.loop-i.owner i.owner) in
          record {
            far = then_far (ap g.T.Taker.begun w.taker-is ∙ step
                ∙ ap (λ fs. Some (record { extent = ranged; size = c.args.len; frags = far.runs ++ fs }))
                (ap (λ f. f ∷ []) same ∙ sym (some-run z hs b skip here (omega (arith, w.if-here-gt0.true)))));
            taken = ap g.T.Taker.taken w.taker-is ∙ e.taken ∙ i.taken;
            base = ap g.T.Taker.base w.taker-is ∙ e.base ∙ i.base;
            room = omega (arith, ap g.T.Taker.range_room w.taker-is, e.range_room, i.room);
            owner = ap unmarked_view w.owner-is ∙ unmarked-may _ c.loop-i.owner _ e.owner ∙ i.owner;
          }
      | else-here-gt0 w ↦
          record {
            far = then_far (ap g.T.Taker.begun w.taker-is ∙ far.begun_is
                ∙ ap (λ fs. Some (record { extent = ranged; size = c.args.len; frags = fs }))
                (no_more z hs v c.args.from c.args.len (λ (x : Begun). Some x) (b, n) skip here far.runs
                (omega (arith, w.if-here-gt0.false))));
            taken = ap g.T.Taker.taken w.taker-is ∙ i.taken;
            base = ap g.T.Taker.base w.taker-is ∙ i.base;
            room = omega (arith, ap g.T.Taker.range_room w.taker-is, i.room);
            owner = ap unmarked_view w.owner-is ∙ i.owner;
          }
    ]
