use Rattle.std.proofs.Common.{◌≡◌, sym, ◌∙◌, subst}
use Rattle.command_exec.specs.Executed.{FallsShort}
use Rattle.command_exec.specs.Passes.{PassView, pass_of, IsPass}
use Rattle.command_exec.proofs.Nothing.{not_begun}
use Rattle.command_exec.proofs.Finishing.{begin_is, starts_of, starts_own, starts_executes, starts_falls}
use Rattle.command_exec.proofs.executing.execute_needing.Goals as goal

pub returns-in_default-clause-memory : goal.returns-in_default-clause-memory
returns-in_default-clause-memory g c =
    let p = c.pass.inside in
    let stays = c.in_default.ensures.memory in
    let now : c.args.pass.now ≡ pass_of p.mine c.start.new.seat p.opened.value c.start.new.stage p.threshold =
    sym c.pass.view_is ∙ (λ i. pass_of p.mine (sym stays.0 i) p.opened.value (sym stays.1 i) p.threshold) in
    subst (FallsShort g.P.PoolName.sizes g.N.BookName.sizes.shards c.args.command.now c.args.call c.args.pass.now) now
    (not_begun g.P.PoolName.sizes g.N.BookName.sizes.shards c.args.call c.args.command.now c.args.pass.now)

pub invariant_of-pass-2 : goal.invariant_of-pass-2
invariant_of-pass-2 g c =
    let p = c.pass.inside in
    let old : PassView = pass_of p.mine p.seat p.opened.value p.stage p.threshold in
    let started = c.in-Ok.ensures in
    subst (IsPass g.P.PoolName.sizes)
    (λ i. pass_of p.mine (sym started.seat i) p.opened.value (sym started.stage i) p.threshold)
    (begin_is g.P.PoolName.sizes c.args.need old c.pass.invariant)

pub seal-requires-clause-own : goal.seal-requires-clause-own
seal-requires-clause-own g c =
    let p = c.pass.inside in
    let r = c.pass-2.inside in
    let old : PassView = pass_of p.mine p.seat p.opened.value p.stage p.threshold in
    let two : PassView = pass_of r.mine r.seat r.opened.value r.stage r.threshold in
    let started = c.in-Ok.ensures in
    let begin : PassView = pass_of p.mine c.start.new.seat p.opened.value c.start.new.stage p.threshold in
    let starts = starts_of c.args.command.now c.args.pass.now old c.args.need c.start.new.seat c.start.new.stage
    c.in-Ok.plan c.pass.view_is c.requires.stage c.requires.credits c.free.ensures.ordered
    c.requires.need started.seat started.stage started.plan in
    starts_own c.args.command.now c.args.pass.now old begin c.answer.new.pass two c.in-Ok.plan c.answer.new.plan starts
    c.pass.invariant.own c.pass-2.view_is c.answer.ensures.base c.in-Ok-answer.ensures.reply.ran.keeps

pub cancel-requires-clause-own : goal.cancel-requires-clause-own
cancel-requires-clause-own g c =
    let p = c.pass.inside in
    let r = c.pass-2.inside in
    let old : PassView = pass_of p.mine p.seat p.opened.value p.stage p.threshold in
    let two : PassView = pass_of r.mine r.seat r.opened.value r.stage r.threshold in
    let started = c.in-Ok.ensures in
    let begin : PassView = pass_of p.mine c.start.new.seat p.opened.value c.start.new.stage p.threshold in
    let starts = starts_of c.args.command.now c.args.pass.now old c.args.need c.start.new.seat c.start.new.stage
    c.in-Ok.plan c.pass.view_is c.requires.stage c.requires.credits c.free.ensures.ordered
    c.requires.need started.seat started.stage started.plan in
    starts_own c.args.command.now c.args.pass.now old begin c.answer.new.pass two c.in-Ok.plan c.answer.new.plan starts
    c.pass.invariant.own c.pass-2.view_is c.answer.ensures.base c.in-Err.ensures.stopped.keeps

pub returns-in-Ok-answer-clause-reply : goal.returns-in-Ok-answer-clause-reply
returns-in-Ok-answer-clause-reply g c =
    let p = c.pass.inside in
    let r = c.pass-2.inside in
    let old : PassView = pass_of p.mine p.seat p.opened.value p.stage p.threshold in
    let two : PassView = pass_of r.mine r.seat r.opened.value r.stage r.threshold in
    let started = c.in-Ok.ensures in
    let begin : PassView = pass_of p.mine c.start.new.seat p.opened.value c.start.new.stage p.threshold in
    let starts = starts_of c.args.command.now c.args.pass.now old c.args.need c.start.new.seat c.start.new.stage
    c.in-Ok.plan c.pass.view_is c.requires.stage c.requires.credits c.free.ensures.ordered
    c.requires.need started.seat started.stage started.plan in
    starts_executes g.P.PoolName.sizes g.N.BookName.sizes.shards c.args.call c.args.command.now c.args.pass.now old
    begin c.answer.new.pass two c.args.stored.now.items c.answer.new.stored.items c.in-Ok.plan c.answer.new.plan
    starts c.pass-2.view_is c.answer.ensures.base
    c.seal.result c.seal.new.seat c.seal.new.stage c.in-Ok-answer.ensures.reply c.seal.ensures.parcel
    c.seal.ensures.seat c.seal.ensures.stage

pub returns-in-Err-clause-memory : goal.returns-in-Err-clause-memory
returns-in-Err-clause-memory g c =
    let p = c.pass.inside in
    let r = c.pass-2.inside in
    let old : PassView = pass_of p.mine p.seat p.opened.value p.stage p.threshold in
    let two : PassView = pass_of r.mine r.seat r.opened.value r.stage r.threshold in
    let started = c.in-Ok.ensures in
    let begin : PassView = pass_of p.mine c.start.new.seat p.opened.value c.start.new.stage p.threshold in
    let starts = starts_of c.args.command.now c.args.pass.now old c.args.need c.start.new.seat c.start.new.stage
    c.in-Ok.plan c.pass.view_is c.requires.stage c.requires.credits c.free.ensures.ordered
    c.requires.need started.seat started.stage started.plan in
    starts_falls g.P.PoolName.sizes g.N.BookName.sizes.shards c.args.call c.args.command.now c.args.pass.now old begin
    c.answer.new.pass two c.args.stored.now.items c.answer.new.stored.items c.in-Ok.plan c.answer.new.plan starts
    c.pass-2.view_is c.answer.ensures.base
    c.cancel.new.seat c.cancel.new.stage c.in-Err.ensures.stopped c.cancel.ensures.seat c.cancel.ensures.stage
