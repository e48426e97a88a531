use Rattle.std.proofs.Common.{◌≡◌, min, length, sym, ◌∙◌, ap, arith}
use Rattle.order_book.specs.Pages.{new_shards}
use Rattle.shard_store.proofs.Gathering.{length-new}
use Rattle.shard_store.proofs.store.Store.open.Goals as goal

pub overflow_cast-shards : goal.overflow_cast-shards
overflow_cast-shards g c =
    let e : c.len-shards.result ≡ g.N.BookName.sizes.shards = c.len-shards.ensures ∙ ap length c.requires.books
    ∙ length-new g.N.BookName.sizes.shards in
    omega (arith, e, c.requires.shards)

pub invariant_of-room : goal.invariant_of-room
invariant_of-room g c =
    let e : c.len-shards.result ≡ g.N.BookName.sizes.shards = c.len-shards.ensures ∙ ap length c.requires.books
    ∙ length-new g.N.BookName.sizes.shards in
    record {
      empty = (c.in-Ok.ensures.empty, c.in-Ok-with_room.ensures.empty);
      enough = (omega (arith, e, c.in-Ok.ensures.room), omega (arith, e, c.in-Ok-with_room.ensures.room));
    }

pub open_in-requires-clause-shards : goal.open_in-requires-clause-shards
open_in-requires-clause-shards g c =
    let e : c.len-shards.result ≡ g.N.BookName.sizes.shards = c.len-shards.ensures ∙ ap length c.requires.books
    ∙ length-new g.N.BookName.sizes.shards in
    (e, omega (arith, e, c.requires.shards), omega (arith, e, c.requires.shards))

pub open_in-requires-clause-books : goal.open_in-requires-clause-books
open_in-requires-clause-books g c =
    let all : min 16 g.N.BookName.sizes.shards ≡ g.N.BookName.sizes.shards = omega (arith, c.requires.shards) in
    let e : c.len-shards.result ≡ g.N.BookName.sizes.shards = c.len-shards.ensures ∙ ap length c.requires.books
    ∙ length-new g.N.BookName.sizes.shards in
    c.requires.books ∙ ap new_shards (sym (ap (min 16) e ∙ all))

pub open_in-requires-clause-seats : goal.open_in-requires-clause-seats
open_in-requires-clause-seats g c =
    let all : min 16 g.N.BookName.sizes.shards ≡ g.N.BookName.sizes.shards = omega (arith, c.requires.shards) in
    let e : c.len-shards.result ≡ g.N.BookName.sizes.shards = c.len-shards.ensures ∙ ap length c.requires.books
    ∙ length-new g.N.BookName.sizes.shards in
    (c.requires.seats.0 ∙ sym (ap (min 16) e ∙ all), c.requires.seats.1)
