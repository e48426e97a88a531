use Rattle.std.proofs.Common.{◌+◌, ◌-◌, ◌++◌, ◌∙◌, ap, ap₂, map, Some}
use Rattle.resp_text.specs.Meaning.{item_meaning}
use Rattle.request_gen.specs.Words.{all_words, requests_text, generated_words}
use Rattle.request_gen.proofs.Put.{one_more, text_from}
use Rattle.request_gen.proofs.input.session_input.Goals as goal

pub loop-r-preserved : goal.loop-r-preserved
loop-r-preserved c =
    let session = c.args.session in
    let count = c.args.count in
    let r = c.loop-r.r in
    let made = c.next_request-request.ensures in
    ap₂ (λ text state. text ++ text_from session (count - (r + 1)) (r + 1) state) c.in_ok-put_text.ensures.text
    made.state
    ∙ one_more session count r c.loop-r.draws c.loop-r.text.items (map item_meaning c.in_ok-words.words.items)
    (requests_text (all_words c.args.number session count)) c.loop-r-test.true
    (c.in_ok-words.ensures ∙ ap (λ request. map Some (generated_words session request)) made.request) c.loop-r.invariant
