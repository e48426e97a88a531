use Rattle.std.proofs.Common.{◌≡◌, ℕ, ◌+◌, ◌-◌, ◌++◌, List, take, drop, length, ap, ◌∙◌, append_assoc, length-append}
use Rattle.std.proofs.Common.{arith}
use Rattle.std.specs.Int.{w64, to_le_bytes}
use Rattle.std.proofs.lemmas.List.{length-take, length-drop, take_all, take-append-drop}
use Rattle.pinned_pool.proofs.Still.{put-sole, put-length}
use Rattle.pinned_pool.proofs.WordRuns.{puts_word, puts_then, puts_same}
use Rattle.frag_value.proofs.filling.put_pieces.Goals as goal

pub put_bytes-requires-clause-exclusive : goal.put_bytes-requires-clause-exclusive
put_bytes-requires-clause-exclusive g c = put-sole c.args.hold.now.buffer c.args.index c.word_across-word.result
    c.args.seat.now c.put_word.new.seat c.put_word.ensures c.args.hold.now.buffer c.requires.exclusive

pub put_bytes-requires-clause-index : goal.put_bytes-requires-clause-index
put_bytes-requires-clause-index g c =
    let shared = c.min-shared.result in
    let back = c.args.back.now in (
      omega (
        arith,
        put-length c.args.hold.now.buffer c.args.index c.word_across-word.result c.args.seat.now
            c.put_word.new.seat c.put_word.ensures c.requires.exclusive c.requires.index,
      ),
      omega (
        arith,
        length-take (length back - shared) (drop shared back),
        length-drop shared back,
        c.min-shared.ensures,
        c.requires.fits,
        c.if-shared-back.true,
      ),
    )

pub returns-then-shared-back : goal.returns-then-shared-back
returns-then-shared-back g c =
    let b = c.args.hold.now.buffer in
    let i = c.args.index in
    let front = c.args.front.now in
    let back = c.args.back.now in
    let shared = c.min-shared.result in
    let here : List ℕ = front ++ take shared back in
    let rest = take (length back - shared) (drop shared back) in
    let all : rest ≡ drop shared back = take_all (length back - shared) (drop shared back)
    (omega (arith, length-drop shared back)) in
    let eight : length here ≡ 8 =
    omega (
      arith,
      length-append front (take shared back),
      length-take shared back,
      c.min-shared.ensures,
      c.if-shared-back.true,
      c.requires.few,
    ) in
    let word : take (length here) (to_le_bytes w64 c.word_across-word.result) ≡ here =
    ap (λ n. take n (to_le_bytes w64 c.word_across-word.result)) (length-append front (take shared back))
    ∙ c.word_across-word.ensures in
    puts_same b i (here ++ rest) (front ++ back) c.args.seat.now c.put_bytes.new.seat
    (append_assoc front (take shared back) rest ∙ ap (λ l. front ++ (take shared back ++ l)) all
    ∙ ap (λ l. front ++ l) (take-append-drop shared back))
    (puts_then b i (i + 1) here rest c.args.seat.now c.put_word.new.seat c.put_bytes.new.seat (omega (arith, eight))
    (omega (arith, eight))
    (puts_word b i c.word_across-word.result here c.args.seat.now c.put_word.new.seat (omega (arith, eight))
    (omega (arith, eight)) word c.put_word.ensures) c.put_bytes.ensures)

pub returns-else-shared-back : goal.returns-else-shared-back
returns-else-shared-back g c =
    let b = c.args.hold.now.buffer in
    let i = c.args.index in
    let front = c.args.front.now in
    let back = c.args.back.now in
    let shared = c.min-shared.result in
    let here : List ℕ = front ++ take shared back in
    let few : length here ≡ length front + length (take shared back) = length-append front (take shared back) in
    let word : take (length here) (to_le_bytes w64 c.word_across-word.result) ≡ here =
    ap (λ n. take n (to_le_bytes w64 c.word_across-word.result)) (length-append front (take shared back))
    ∙ c.word_across-word.ensures in
    puts_same b i here (front ++ back) c.args.seat.now c.put_word.new.seat
    (ap (λ l. front ++ l) (take_all shared back (omega (arith, c.if-shared-back.false))))
    (puts_word b i c.word_across-word.result here c.args.seat.now c.put_word.new.seat
    (omega (arith, few, c.requires.few))
    (omega (arith, few, length-take shared back, c.min-shared.ensures, c.requires.few)) word c.put_word.ensures)
