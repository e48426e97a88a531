use Rattle.std.proofs.Common.{ℕ, List, ◌+◌, ◌++◌, ap, ◌∙◌, drop, length, replicate, arith, rules}
use Rattle.std.specs.Int.{w64, from_le_bytes}
use Rattle.std.proofs.lemmas.List.{length-drop, get_or-drop}
use Rattle.pinned_pool.proofs.WordRuns.{word_bytes, bytes-zero}
use Rattle.pinned_pool.proofs.bytes.short_word.Goals as goal

pub returns : goal.returns
returns c =
    let xs = c.args.bytes.now in
    let zeros : List ℕ = replicate 8 0 in
    let n = length xs in
    word_bytes xs (drop n zeros) c.from_le_bytes.result (omega (arith, length-drop n zeros, c.requires))
    (λ i. let fits = c.type_inv.bytes i in search rules)
    (λ i. omega (arith, get_or-drop n zeros i 0, bytes-zero 8 (n + i)))
    (c.from_le_bytes.ensures ∙ ap (λ l. from_le_bytes w64 (l ++ drop n zeros)) c.copy_from_slice.ensures.after)
