use Rattle.std.proofs.Common.{rules, ◌≡◌, ℕ, ◌+◌, List, [], ◌∷◌, ◌++◌, take, sym, ◌∙◌, subst, arith}
use Rattle.frag_value.proofs.Lists.{take-more}
use Rattle.shard_core.specs.Kept.{Entries}
use Rattle.shard_core.specs.Rooms.{FitRooms}
use Rattle.shard_core.proofs.PinnedAll.{Entry, fit_more}
use Rattle.shard_core.proofs.pinning.rooms_for.Goals as goal

pub loop-i-preserved : goal.loop-i-preserved
loop-i-preserved g c =
    let i = c.loop-i.invariant in
    let es = c.args.values.now.entries in
    let k = c.loop-i.i in
    let e : Entry = (c.entry_at.result.0.now, c.entry_at.result.1.now) in
    let rs = c.loop-i.rooms.items in
    let r = c.in_ok-room.room in
    let key : c.as_slice.result.now ≡ e.0.items = search rules in
    let made = fit_more rs (take k es) r e i.fit (c.in_ok-room.ensures.0 ∙ key)
    (omega (arith, c.in_ok-room.ensures.1, c.count.ensures)) in
    let entries : FitRooms (rs ++ r ∷ []) (take (k + 1) es) =
    subst (λ (l : Entries). FitRooms (rs ++ r ∷ []) l) (sym (take-more es k e c.entry_at.ensures)) made in
    record {
      fit = subst (λ (l : List (List ℕ × ℕ)). FitRooms l (take (k + 1) es)) (sym c.push_back_reserved.ensures.items)
          entries;
      count = omega (arith, c.push_back_reserved.ensures.len, i.count);
      room = omega (arith, c.push_back_reserved.ensures.capacity, i.room);
    }
