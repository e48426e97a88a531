use Rattle.std.proofs.Common.{◌≡◌, to_z, of_z, w64, rules}
use Rattle.shard_part.specs.declared.part.PartOp.TheVariants as part
use Rattle.shard_core.specs.KeptViews.{kept_view}
use Rattle.shard_core.proofs.Doing.{may_take, keeps_taker, asked, asked_of, got_part, ranged_part, gone_part}
use Rattle.shard_core.proofs.Doing.{there_part, sized_part, untouched}
use Rattle.shard_core.proofs.shard_map.ShardMap.apply.Goals as goal

pub get-requires-clause-taker : goal.get-requires-clause-taker
get-requires-clause-taker g c = may_take c.args.part.now part.Get c.in-Get.is _ c.requires.taker

pub get_range-answer-requires-clause-taker : goal.get_range-answer-requires-clause-taker
get_range-answer-requires-clause-taker g c =
    may_take c.args.part.now (part.GetRange c.in-GetRange.start c.in-GetRange.end) c.in-GetRange.is _ c.requires.taker

pub set-requires-clause-taker : goal.set-requires-clause-taker
set-requires-clause-taker g c = may_take c.args.part.now part.Set c.in-Set.is _ c.requires.taker

pub set-requires-in-SetNx-clause-taker : goal.set-requires-in-SetNx-clause-taker
set-requires-in-SetNx-clause-taker g c = may_take c.args.part.now part.SetNx c.in-SetNx.is _ c.requires.taker

pub set-requires-in-SetXx-clause-taker : goal.set-requires-in-SetXx-clause-taker
set-requires-in-SetXx-clause-taker g c = may_take c.args.part.now part.SetXx c.in-SetXx.is _ c.requires.taker

pub set-requires-in-SetGet-clause-taker : goal.set-requires-in-SetGet-clause-taker
set-requires-in-SetGet-clause-taker g c = may_take c.args.part.now part.SetGet c.in-SetGet.is _ c.requires.taker

pub set-requires-in-SetNxGet-clause-taker : goal.set-requires-in-SetNxGet-clause-taker
set-requires-in-SetNxGet-clause-taker g c = may_take c.args.part.now part.SetNxGet c.in-SetNxGet.is _ c.requires.taker

pub set-requires-in-SetXxGet-clause-taker : goal.set-requires-in-SetXxGet-clause-taker
set-requires-in-SetXxGet-clause-taker g c = may_take c.args.part.now part.SetXxGet c.in-SetXxGet.is _ c.requires.taker

pub returns-in-Get-clause-part : goal.returns-in-Get-clause-part
returns-in-Get-clause-part g c =
    let z = g.P.PoolName.sizes in
    let key = c.args.part.now.key.now in
    let inside = kept_view c.self.inside.kept in
    let payer = c.args.payer.now in
    let segs = c.args.stored.now.items in
    let t = g.T.Taker.taken c.args.taker.now in
    asked z c.args.part.now part.Get _ inside c.args.self.now payer segs t _
    c.in-Get.is c.self.view_is
    (got_part z inside (kept_view c.get.new.kept) payer segs t (g.T.Taker.taken c.get.new.taker) key c.get.result
    c.get.ensures.says c.get.ensures.agrees c.get.ensures.taken)

pub returns-in-Set-clause-part : goal.returns-in-Set-clause-part
returns-in-Set-clause-part g c =
    let z = g.P.PoolName.sizes in
    let inside = kept_view c.self.inside.kept in
    let payer = c.args.payer.now in
    let segs = c.args.stored.now.items in
    let t = g.T.Taker.taken c.args.taker.now in
    asked z c.args.part.now part.Set c.set.result inside c.args.self.now payer segs t _
    c.in-Set.is c.self.view_is
    (c.set.ensures.part)

pub returns-in-SetNx-clause-part : goal.returns-in-SetNx-clause-part
returns-in-SetNx-clause-part g c =
    let z = g.P.PoolName.sizes in
    let inside = kept_view c.self.inside.kept in
    let payer = c.args.payer.now in
    let segs = c.args.stored.now.items in
    let t = g.T.Taker.taken c.args.taker.now in
    asked z c.args.part.now part.SetNx c.set-in-SetNx.result inside c.args.self.now payer segs t _
    c.in-SetNx.is c.self.view_is
    (c.set-in-SetNx.ensures.part)

pub returns-in-SetXx-clause-part : goal.returns-in-SetXx-clause-part
returns-in-SetXx-clause-part g c =
    let z = g.P.PoolName.sizes in
    let inside = kept_view c.self.inside.kept in
    let payer = c.args.payer.now in
    let segs = c.args.stored.now.items in
    let t = g.T.Taker.taken c.args.taker.now in
    asked z c.args.part.now part.SetXx c.set-in-SetXx.result inside c.args.self.now payer segs t _
    c.in-SetXx.is c.self.view_is
    (c.set-in-SetXx.ensures.part)

pub returns-in-SetGet-clause-part : goal.returns-in-SetGet-clause-part
returns-in-SetGet-clause-part g c =
    let z = g.P.PoolName.sizes in
    let inside = kept_view c.self.inside.kept in
    let payer = c.args.payer.now in
    let segs = c.args.stored.now.items in
    let t = g.T.Taker.taken c.args.taker.now in
    asked z c.args.part.now part.SetGet c.set-in-SetGet.result inside c.args.self.now payer segs t _
    c.in-SetGet.is c.self.view_is
    (c.set-in-SetGet.ensures.part)

pub returns-in-SetNxGet-clause-part : goal.returns-in-SetNxGet-clause-part
returns-in-SetNxGet-clause-part g c =
    let z = g.P.PoolName.sizes in
    let inside = kept_view c.self.inside.kept in
    let payer = c.args.payer.now in
    let segs = c.args.stored.now.items in
    let t = g.T.Taker.taken c.args.taker.now in
    asked z c.args.part.now part.SetNxGet c.set-in-SetNxGet.result inside c.args.self.now payer segs t _
    c.in-SetNxGet.is c.self.view_is
    (c.set-in-SetNxGet.ensures.part)

pub returns-in-SetXxGet-clause-part : goal.returns-in-SetXxGet-clause-part
returns-in-SetXxGet-clause-part g c =
    let z = g.P.PoolName.sizes in
    let inside = kept_view c.self.inside.kept in
    let payer = c.args.payer.now in
    let segs = c.args.stored.now.items in
    let t = g.T.Taker.taken c.args.taker.now in
    asked z c.args.part.now part.SetXxGet c.set-in-SetXxGet.result inside c.args.self.now payer segs t _
    c.in-SetXxGet.is c.self.view_is
    (c.set-in-SetXxGet.ensures.part)

pub returns-in-Append-clause-part : goal.returns-in-Append-clause-part
returns-in-Append-clause-part g c =
    let z = g.P.PoolName.sizes in
    let inside = kept_view c.self.inside.kept in
    let payer = c.args.payer.now in
    let segs = c.args.stored.now.items in
    let t = g.T.Taker.taken c.args.taker.now in
    asked z c.args.part.now part.Append c.add.result inside c.args.self.now payer segs t _
    c.in-Append.is c.self.view_is
    (c.add.ensures.part t)

pub returns-in-Del-clause-part : goal.returns-in-Del-clause-part
returns-in-Del-clause-part g c =
    let z = g.P.PoolName.sizes in
    let key = c.args.part.now.key.now in
    let inside = kept_view c.self.inside.kept in
    let payer = c.args.payer.now in
    let segs = c.args.stored.now.items in
    let t = g.T.Taker.taken c.args.taker.now in
    asked z c.args.part.now part.Del _ inside c.args.self.now payer segs t _
    c.in-Del.is c.self.view_is
    (gone_part z inside (kept_view c.del.new.kept) payer segs t key c.del.result c.del.ensures.agrees
    c.del.ensures.says)

pub returns-in-Exists-clause-part : goal.returns-in-Exists-clause-part
returns-in-Exists-clause-part g c =
    let z = g.P.PoolName.sizes in
    let key = c.args.part.now.key.now in
    let inside = kept_view c.self.inside.kept in
    let payer = c.args.payer.now in
    let segs = c.args.stored.now.items in
    let t = g.T.Taker.taken c.args.taker.now in
    asked_of z c.args.part.now part.Exists _ inside c.args.self.now payer segs t
    c.in-Exists.is c.self.view_is
    (there_part z inside payer segs t key c.exists.result c.exists.ensures)

pub returns-in-StrLen-clause-part : goal.returns-in-StrLen-clause-part
returns-in-StrLen-clause-part g c =
    let z = g.P.PoolName.sizes in
    let key = c.args.part.now.key.now in
    let inside = kept_view c.self.inside.kept in
    let payer = c.args.payer.now in
    let segs = c.args.stored.now.items in
    let t = g.T.Taker.taken c.args.taker.now in
    asked_of z c.args.part.now part.StrLen _ inside c.args.self.now payer segs t
    c.in-StrLen.is c.self.view_is
    (sized_part z inside payer segs t key c.size.result c.size.ensures)

pub returns-in-GetRange-clause-part : goal.returns-in-GetRange-clause-part
returns-in-GetRange-clause-part g c =
    let z = g.P.PoolName.sizes in
    let key = c.args.part.now.key.now in
    let inside = kept_view c.self.inside.kept in
    let payer = c.args.payer.now in
    let segs = c.args.stored.now.items in
    let t = g.T.Taker.taken c.args.taker.now in
    let start = c.in-GetRange.start in
    let end = c.in-GetRange.end in
    let begins : to_z w64 (of_z w64 start) ≡ start = search rules in
    let ends : to_z w64 (of_z w64 end) ≡ end = search rules in
    asked z c.args.part.now (part.GetRange start end) _ inside c.args.self.now payer segs t _ c.in-GetRange.is
    c.self.view_is
    (ranged_part z inside (kept_view c.get_range-answer.new.kept) payer segs t
    (g.T.Taker.taken c.get_range-answer.new.taker) key start end (to_z w64 (of_z w64 start)) (to_z w64 (of_z w64 end))
    c.get_range-answer.result c.get_range-answer.ensures.says c.get_range-answer.ensures.agrees
    c.get_range-answer.ensures.taken begins ends)

pub returns-in-Get-clause-taker : goal.returns-in-Get-clause-taker
returns-in-Get-clause-taker g c =
    keeps_taker c.args.part.now part.Get c.in-Get.is _ _ c.get.ensures.taker

pub returns-in-Set-clause-taker : goal.returns-in-Set-clause-taker
returns-in-Set-clause-taker g c =
    keeps_taker c.args.part.now part.Set c.in-Set.is _ _ c.set.ensures.taker

pub returns-in-SetNx-clause-taker : goal.returns-in-SetNx-clause-taker
returns-in-SetNx-clause-taker g c =
    keeps_taker c.args.part.now part.SetNx c.in-SetNx.is _ _ c.set-in-SetNx.ensures.taker

pub returns-in-SetXx-clause-taker : goal.returns-in-SetXx-clause-taker
returns-in-SetXx-clause-taker g c =
    keeps_taker c.args.part.now part.SetXx c.in-SetXx.is _ _ c.set-in-SetXx.ensures.taker

pub returns-in-SetGet-clause-taker : goal.returns-in-SetGet-clause-taker
returns-in-SetGet-clause-taker g c =
    keeps_taker c.args.part.now part.SetGet c.in-SetGet.is _ _ c.set-in-SetGet.ensures.taker

pub returns-in-SetNxGet-clause-taker : goal.returns-in-SetNxGet-clause-taker
returns-in-SetNxGet-clause-taker g c =
    keeps_taker c.args.part.now part.SetNxGet c.in-SetNxGet.is _ _ c.set-in-SetNxGet.ensures.taker

pub returns-in-SetXxGet-clause-taker : goal.returns-in-SetXxGet-clause-taker
returns-in-SetXxGet-clause-taker g c =
    keeps_taker c.args.part.now part.SetXxGet c.in-SetXxGet.is _ _ c.set-in-SetXxGet.ensures.taker

pub returns-in-Append-clause-taker : goal.returns-in-Append-clause-taker
returns-in-Append-clause-taker g c = untouched _ _ c.requires.taker.none

pub returns-in-Del-clause-taker : goal.returns-in-Del-clause-taker
returns-in-Del-clause-taker g c = untouched _ _ c.requires.taker.none

pub returns-in-Exists-clause-taker : goal.returns-in-Exists-clause-taker
returns-in-Exists-clause-taker g c = untouched _ _ c.requires.taker.none

pub returns-in-StrLen-clause-taker : goal.returns-in-StrLen-clause-taker
returns-in-StrLen-clause-taker g c = untouched _ _ c.requires.taker.none

pub returns-in-GetRange-clause-taker : goal.returns-in-GetRange-clause-taker
returns-in-GetRange-clause-taker g c =
    keeps_taker c.args.part.now (part.GetRange c.in-GetRange.start c.in-GetRange.end)
    c.in-GetRange.is _ _ c.get_range-answer.ensures.taker
