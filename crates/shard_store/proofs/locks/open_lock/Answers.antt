use Rattle.std.proofs.Common.{◌≡◌, ◌+◌, min, sym, ◌∙◌, ap, arith}
use Rattle.order_book.specs.Pages.{new_shards}
use Rattle.shard_store.proofs.Gathering.{last_new, last_bare}
use Rattle.shard_store.proofs.locks.open_lock.Goals as goal

pub new-requires : goal.new-requires
new-requires g c =
    let e : min (g.row.I + 1) c.args.shards ≡ g.row.I + 1 = omega (arith, c.if-shards.false) in (
      omega arith,
      (
        (last_bare c.args.seats.now.items c.pop.new.self.items c.in-Some.own g.row.I c.in-Some.ensures.some
            (c.requires.seats.0 ∙ e) c.requires.seats.1).0,
        (last_new c.pop-2.new.self.items c.in-Some-pop.seat g.row.I
            (sym c.in-Some-pop.ensures.some ∙ c.requires.books ∙ ap new_shards e)).1,
      ),
    )

pub returns-clause-books : goal.returns-clause-books
returns-clause-books g c =
    let e : min (g.row.I + 1) c.args.shards ≡ g.row.I + 1 = omega (arith, c.if-shards.false) in
    let here : min g.row.I c.args.shards ≡ g.row.I = omega (arith, c.if-shards.false) in
    (last_new c.pop-2.new.self.items c.in-Some-pop.seat g.row.I
    (sym c.in-Some-pop.ensures.some ∙ c.requires.books ∙ ap new_shards e)).0 ∙ ap new_shards (sym here)

pub returns-clause-seats : goal.returns-clause-seats
returns-clause-seats g c =
    let e : min (g.row.I + 1) c.args.shards ≡ g.row.I + 1 = omega (arith, c.if-shards.false) in
    let here : min g.row.I c.args.shards ≡ g.row.I = omega (arith, c.if-shards.false) in
    let last = last_bare c.args.seats.now.items c.pop.new.self.items c.in-Some.own g.row.I c.in-Some.ensures.some
    (c.requires.seats.0 ∙ e) c.requires.seats.1 in
    (last.1 ∙ sym here, last.2)
