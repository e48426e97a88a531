use Rattle.std.proofs.Common.{◌≡◌, ◌-◌, ◌++◌}
use Rattle.request_gen.specs.Words.{all_words, requests_text}
use Rattle.request_gen.proofs.Put.{text_from}
use Rattle.request_gen.proofs.input.session_input.Given as goal

-- the text so far and that of the requests to come are the whole one
abbrev pub invariant-loop-r : goal.invariant-loop-r
invariant-loop-r l = l.text.items ++ text_from l.session (l.count - l.r) l.r l.draws
    ≡ requests_text (all_words l.number l.session l.count)
