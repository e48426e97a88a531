use Rattle.std.proofs.Common.{refl}
use Rattle.std.specs.Fmt.{decimal}
use Rattle.journal_text.proofs.EntryLines.{behind_session, after_shard, after_session, after_call}
use Rattle.journal_text.proofs.fields.entry_of.Goals as goal

pub returns-in_err-session-clause-none : goal.returns-in_err-session-clause-none
returns-in_err-session-clause-none c = λ none placed range is.
    let behind = after_shard c.args.line.now c.in_ok-shard.line.now c.in_ok-shard.shard placed range
    c.in_ok-shard.ensures.some is in
    c.in_err-session.ensures.none refl placed.1.session (behind_session placed.1) range.1.session behind

pub returns-in_err-call-clause-none : goal.returns-in_err-call-clause-none
returns-in_err-call-clause-none c = λ none placed range is.
    let entry = placed.1 in
    let behind = after_shard c.args.line.now c.in_ok-shard.line.now c.in_ok-shard.shard placed range
    c.in_ok-shard.ensures.some is in
    let rest = after_session c.in_ok-shard.line.now c.in_ok-session.line.now c.in_ok-session.session entry range.1
    c.in_ok-session.ensures.some behind in
    c.in_err-call.ensures.none refl entry.call (decimal entry.part) range.1.call rest

pub returns-in_err-part-clause-none : goal.returns-in_err-part-clause-none
returns-in_err-part-clause-none c = λ none placed range is.
    let entry = placed.1 in
    let behind = after_shard c.args.line.now c.in_ok-shard.line.now c.in_ok-shard.shard placed range
    c.in_ok-shard.ensures.some is in
    let rest = after_session c.in_ok-shard.line.now c.in_ok-session.line.now c.in_ok-session.session entry range.1
    c.in_ok-session.ensures.some behind in
    let last = after_call c.in_ok-session.line.now c.in_ok-call.line.now c.in_ok-call.call entry range.1
    c.in_ok-call.ensures.some rest in
    c.in_err-part.ensures.none refl entry.part range.1.part last
