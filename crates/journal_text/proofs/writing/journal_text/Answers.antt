use Rattle.std.proofs.Common.{◌++◌, ◌∷◌, [], ◌∙◌, sym, ap, append_assoc, length, take, List}
use Rattle.flake_base.specs.declared.journal.Entry.{Entry}
use Rattle.flake_base.specs.Histories.{histories}
use Rattle.journal_text.specs.Text.{placed_from, head_line}
use Rattle.journal_text.proofs.Placing.{at_shard}
use Rattle.journal_text.proofs.Written.{entries_text, one_shard_more}
use Rattle.journal_text.proofs.writing.journal_text.Goals as goal

pub loop-shard-preserved : goal.loop-shard-preserved
loop-shard-preserved c =
    let lists = c.args.journal.now.items in
    let shard = c.loop-shard.shard in
    let head = head_line (length lists) ++ 10 ∷ [] in
    let before = entries_text (placed_from 0 (histories (take shard lists))) in
    c.in_ok-put_history.ensures
    ∙ ap (λ (history : List Entry). c.loop-shard.text.items ++ entries_text (at_shard shard history)) c.as_slice.ensures
    ∙ ap (λ text. text ++ entries_text (at_shard shard c.get.result.now.items)) c.loop-shard.invariant
    ∙ append_assoc head before (entries_text (at_shard shard c.get.result.now.items))
    ∙ ap (λ text. head ++ text) (sym (one_shard_more shard lists c.get.result.now c.get.ensures.item))
