use Rattle.std.proofs.Common.{◌≡◌, ◌+◌, ◌-◌, ◌*◌, ◌/◌, ◌++◌, take, drop, length, ap, ◌∙◌, arith}
use Rattle.std.proofs.lemmas.List.{length-take, length-drop, take_all, take-append-drop}
use Rattle.pinned_pool.proofs.WordRuns.{puts-sole, puts-front, puts_then, puts_same}
use Rattle.pinned_pool.proofs.pool.Pool.put_whole.Goals as goal

pub put_words-requires-clause-exclusive : goal.put_words-requires-clause-exclusive
put_words-requires-clause-exclusive g c = puts-sole c.args.hold.now.buffer c.args.index _ c.args.seat.now
    c.put_lines.new.seat c.put_lines.ensures c.requires.exclusive

pub put_words-requires-clause-index : goal.put_words-requires-clause-index
put_words-requires-clause-index g c =
    let bytes = c.args.bytes.now in
    let n = length bytes in
    let whole = 64 * (n / 64) in
    let done = take whole bytes in
    let long = puts-front c.args.hold.now.buffer c.args.index done c.args.seat.now c.put_lines.new.seat
    c.put_lines.ensures c.requires.exclusive c.requires.index.0 in (
      omega (arith, long, length-take whole bytes),
      omega (
        arith,
        c.requires.index.1,
        length-take (n - whole) (drop whole bytes),
        length-drop whole bytes,
      ),
    )

pub returns-then-lines-bytes : goal.returns-then-lines-bytes
returns-then-lines-bytes g c =
    let b = c.args.hold.now.buffer in
    let bytes = c.args.bytes.now in
    let n = length bytes in
    let whole = 64 * (n / 64) in
    let done = take whole bytes in
    let rest = take (n - whole) (drop whole bytes) in
    let all : rest ≡ drop whole bytes = take_all (n - whole) (drop whole bytes) (omega (arith, length-drop whole bytes))
    in
    puts_same b c.args.index (done ++ rest) bytes c.args.seat.now c.put_words.new.seat
    (ap (λ l. done ++ l) all ∙ take-append-drop whole bytes)
    (puts_then b c.args.index (c.args.index + 8 * (n / 64)) done rest c.args.seat.now c.put_lines.new.seat
    c.put_words.new.seat (omega (arith, length-take whole bytes)) (omega (arith, length-take whole bytes))
    c.put_lines.ensures c.put_words.ensures)
