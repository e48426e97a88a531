use Rattle.std.proofs.Common.{◌≡◌, map, take}
use Rattle.flake_model.specs.Reply.{item_of}
use Rattle.resp_text.specs.Meaning.{item_meaning}
use Rattle.replay_check.specs.Noted.{slots_meant}
use Rattle.replay_check.proofs.replies.items.Given as goal

abbrev pub invariant-loop-answer : goal.invariant-loop-answer
invariant-loop-answer l = map item_meaning l.items.items ≡ map item_of (slots_meant (take l.answer-index l.answers))
