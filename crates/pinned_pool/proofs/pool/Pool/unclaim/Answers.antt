use Rattle.std.proofs.Common.{◌≡◌, ◌++◌, [], ◌∷◌, subst}
use Rattle.view_sums.specs.Total.{Each}
use Rattle.pin_core.specs.Holding.{Key}
use Rattle.pinned_pool.specs.Moves.{loose_key}
use Rattle.pinned_pool.proofs.ManyClaims.{last_loose, can_unpin, one_back, gives_more}
use Rattle.pinned_pool.proofs.pool.Pool.unclaim.Goals as goal

pub unpin-requires : goal.unpin-requires
unpin-requires g c =
    let i = c.loop-hold.invariant in
    let one : c.loop-hold.holds.items ≡ c.pop.new.self.items ++ c.in-Some.hold ∷ [] = c.in-Some.ensures.items in
    let loose = last_loose c.pop.new.self.items c.in-Some.hold
    (subst (Each (λ (k : Key). k ≡ loose_key k.buffer)) one i.loose) in
    can_unpin c.loop-hold.holds.items c.pop.new.self.items c.in-Some.hold i.some.0 c.loop-hold.seat one loose.1 i.some.1

pub loop-hold-preserved : goal.loop-hold-preserved
loop-hold-preserved g c =
    let i = c.loop-hold.invariant in
    let one : c.loop-hold.holds.items ≡ c.pop.new.self.items ++ c.in-Some.hold ∷ [] = c.in-Some.ensures.items in
    let loose = last_loose c.pop.new.self.items c.in-Some.hold
    (subst (Each (λ (k : Key). k ≡ loose_key k.buffer)) one i.loose) in
    record {
      loose = loose.0;
      some = (
        i.some.0,
        one_back c.loop-hold.holds.items c.pop.new.self.items c.in-Some.hold i.some.0 c.loop-hold.seat
            one loose.1 i.some.1 _ c.unpin.new.seat c.unpin.ensures.seat,
      );
      all = λ hs e. one_back c.loop-hold.holds.items c.pop.new.self.items c.in-Some.hold hs c.loop-hold.seat one loose.1
          (i.all hs e) _ c.unpin.new.seat c.unpin.ensures.seat;
      same = gives_more c.args.seat.now c.loop-hold.seat c.unpin.new.seat _ c.in-Some.hold loose.1 i.same
          c.unpin.ensures.seat;
    }
