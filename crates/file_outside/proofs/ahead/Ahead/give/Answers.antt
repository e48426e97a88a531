use Rattle.std.proofs.Common.{rules, ◌≡◌, ◌++◌, ◌+◌, ◌≤◌, List, ℕ, length, take, drop, slice_range, ap, ◌∙◌, sym, arith}
use Rattle.std.proofs.lemmas.List.{take_at, length-take, length-drop}
use Rattle.file_outside.proofs.Known.{given_front}
use Rattle.file_outside.proofs.ahead.Ahead.give.Goals as goal

-- what was given is the front of what was read ahead
pub returns-clause-bytes : goal.returns-clause-bytes
returns-clause-bytes c =
    let ahead = c.self.inside in
    let n = c.min-count.result in
    let window = slice_range ahead.room.items ahead.start ahead.end in
    let inside : ahead.start + n ≤ ahead.end =
    omega (arith, c.min.ensures, c.min-count.ensures, length-take {A = ℕ}, length-drop {A = ℕ}) in
    let copied : c.copy_from_slice.new.self ≡ take n window =
    rw (← c.deref.ensures.value) c.copy_from_slice.ensures.after in
    let count : length c.copy_from_slice.new.self ≡ n = search rules in
    let front : take n (c.copy_from_slice.new.self ++ drop n c.args.room.now) ≡ take n window = take_at _ _ n count
    ∙ copied in
    sym c.self.view_is ∙ given_front ahead.room.items ahead.start ahead.end n inside
    ∙ ap (λ (t : List ℕ). t ++ slice_range ahead.room.items (ahead.start + n) ahead.end) (sym front)
