use Rattle.std.proofs.Common.{◌≡◌, ◌+◌, ◌-◌, ◌*◌, ◌/◌, ◌++◌, take, drop, length, ap, ◌∙◌, arith}
use Rattle.std.proofs.lemmas.List.{length-take, length-drop, take_all, take-append-drop}
use Rattle.pinned_pool.proofs.WordRuns.{puts-sole, puts-front, puts_word, puts_then, puts_same}
use Rattle.pinned_pool.proofs.pool.Pool.put_bytes.Goals as goal

pub put_word-requires-clause-exclusive : goal.put_word-requires-clause-exclusive
put_word-requires-clause-exclusive g c = puts-sole c.args.hold.now.buffer c.args.index _ c.args.seat.now
    c.put_whole.new.seat c.put_whole.ensures c.requires.exclusive

pub put_word-requires-clause-index : goal.put_word-requires-clause-index
put_word-requires-clause-index g c =
    let whole = 8 * (length c.args.bytes.now / 8) in
    let done = take whole c.args.bytes.now in
    let long = puts-front c.args.hold.now.buffer c.args.index done c.args.seat.now c.put_whole.new.seat
    c.put_whole.ensures c.requires.exclusive c.requires.index.0 in
    (omega (arith, long, length-take whole c.args.bytes.now), omega (arith, c.requires.index.1))

pub returns-then-whole-bytes : goal.returns-then-whole-bytes
returns-then-whole-bytes g c =
    let b = c.args.hold.now.buffer in
    let bytes = c.args.bytes.now in
    let n = length bytes in
    let whole = 8 * (n / 8) in
    let done = take whole bytes in
    let rest = take (n - whole) (drop whole bytes) in
    let all : rest ≡ drop whole bytes = take_all (n - whole) (drop whole bytes) (omega (arith, length-drop whole bytes))
    in
    let few : length rest ≡ n - whole = omega (arith, ap length all, length-drop whole bytes) in
    puts_same b c.args.index (done ++ rest) bytes c.args.seat.now c.put_word.new.seat
    (ap (λ l. done ++ l) all ∙ take-append-drop whole bytes)
    (puts_then b c.args.index (c.args.index + n / 8) done rest c.args.seat.now c.put_whole.new.seat c.put_word.new.seat
    (omega (arith, length-take whole bytes)) (omega (arith, length-take whole bytes)) c.put_whole.ensures
    (puts_word b (c.args.index + n / 8) c.short_word-rest.result rest c.put_whole.new.seat c.put_word.new.seat
    (omega (arith, few)) (omega (arith, few)) c.short_word-rest.ensures c.put_word.ensures))
