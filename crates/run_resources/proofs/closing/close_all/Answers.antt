use Rattle.std.proofs.Common.{ap, ◌∙◌}
use Rattle.pinned_pool.specs.declared.view.View.{View}
use Rattle.run_resources.proofs.Ends.{closed, shown, histories_are}
use Rattle.run_resources.proofs.closing.close_all.Goals as goal

pub close-end-requires : goal.close-end-requires
close-end-requires g c = ap (λ (v : View). v.credits) c.join.ensures.joined ∙ c.requires.credits

pub returns-clause-closed : goal.returns-clause-closed
returns-clause-closed g c =
    closed g.N.BookName.sizes g.P.PoolName.sizes c.args.parts.books.items c.args.lists.items _ c.args.main
    c.args.parts.seat c.join.new.into c.close-end.result c.close.ensures c.requires.parts c.join.ensures.joined
    c.close-end.ensures.loose c.close-end.ensures.looks c.close-end.ensures.claimed c.close-end.ensures.end

pub returns-clause-shown : goal.returns-clause-shown
returns-clause-shown g c =
    shown g.N.BookName.sizes g.P.PoolName.sizes c.args.parts.books.items c.args.lists.items _ c.args.main
    c.args.parts.seat c.join.new.into c.close-end.result c.all_served.ensures c.ran.ensures c.dump_of_seen.ensures
    c.close.ensures c.requires.lists c.requires.parts c.join.ensures.joined c.close-end.ensures.loose
    c.close-end.ensures.looks c.close-end.ensures.claimed c.close-end.ensures.end

pub returns-clause-shards : goal.returns-clause-shards
returns-clause-shards g c = histories_are g.P.PoolName.sizes g.N.BookName.sizes.shards _ _ _ c.requires.parts
