use Rattle.std.proofs.Common.{◌+◌, ◌-◌, sym, length, subst, arith, List}
use Rattle.resp_reader.specs.declared.word_room.Span.{Span}
use Rattle.resp_reader.proofs.Founds.{SoFar, none_yet, one_found, word_within}
use Rattle.resp_reader.proofs.word_room.find_words.Goals as goal

pub loop-rest-init : goal.loop-rest-init
loop-rest-init c = none_yet c.args.count c.args.behind c.args.spans.now.items c.args.bytes.now

pub loop-rest-preserved : goal.loop-rest-preserved
loop-rest-preserved c =
    let end = length c.args.bytes.now - length c.in-Some.more.now - 2 in
    let within = word_within c.args.count c.args.behind c.args.spans.now.items c.loop-rest.spans.items
    c.args.bytes.now c.loop-rest.rest.now c.in-Some.word.now c.in-Some.more.now c.loop-rest.end c.loop-rest.invariant
    c.in-Some.ensures.text in
    let span : Span = record { start = c.args.behind + end - length c.in-Some.word.now; end = c.args.behind + end } in
    subst (λ (spans : List Span). SoFar c.args.count c.args.behind c.args.spans.now.items spans c.args.bytes.now
    c.in-Some.more.now end) (sym c.in_ok-push.ensures.items)
    (one_found c.args.count c.args.behind c.args.spans.now.items c.loop-rest.spans.items c.args.bytes.now
    c.loop-rest.rest.now c.in-Some.word.now c.in-Some.more.now c.loop-rest.end span c.loop-rest.invariant
    c.in-Some.ensures.word c.in-Some.ensures.text (omega arith) (omega arith)
    (omega (arith, within)))
