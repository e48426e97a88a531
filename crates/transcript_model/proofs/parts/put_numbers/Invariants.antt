use Rattle.std.proofs.Common.{◌≡◌, ◌+◌, ◌*◌, ◌≤◌, ◌++◌, take, vec_len, vec_capacity}
use Rattle.transcript_model.specs.Lines.{numbers_text}
use Rattle.transcript_model.proofs.parts.put_numbers.Given as goal

-- the numbers so far
abbrev pub invariant-loop-n : goal.invariant-loop-n
invariant-loop-n l = record {
  items : l.text.items ≡ l.fn.text.items ++ numbers_text (take l.n-index l.numbers);
  len : vec_len l.text ≤ vec_len l.fn.text + 21 * l.n-index;
  capacity : vec_capacity l.fn.text ≤ vec_capacity l.text;
}
