use Rattle.std.proofs.Common.{◌≡◌, ℕ, ◌+◌, ◌-◌, ◌*◌, ◌/◌, ◌++◌, List, length, take, drop, refl, ap, ◌∙◌, length-append}
use Rattle.std.proofs.Common.{arith}
use Rattle.std.proofs.lemmas.List.{length-take, length-drop}
use Rattle.pinned_pool.specs.Bytes.{bytes_of_words}
use Rattle.pinned_pool.specs.Moves.{front_of}
use Rattle.pinned_pool.specs.declared.view.View.{View}
use Rattle.pinned_pool.proofs.Within.{front-short}
use Rattle.pinned_pool.proofs.WordRuns.{room-most, both_read}
use Rattle.pinned_pool.proofs.pool.Pool.load_whole.Goals as goal

pub overflow_cast-lines : goal.overflow_cast-lines
overflow_cast-lines g c =
    omega (
      arith,
      front-short g.N.PoolName.sizes c.args.seat.now c.is_seat.ensures c.args.buffer c.requires.held,
      room-most g.N.PoolName.sizes c.args.buffer,
      c.requires.inside,
    )

pub overflow_mul-lines-then-lines-room : goal.overflow_mul-lines-then-lines-room
overflow_mul-lines-then-lines-room g c =
    omega (
      arith,
      front-short g.N.PoolName.sizes c.args.seat.now c.is_seat.ensures c.args.buffer c.requires.held,
      room-most g.N.PoolName.sizes c.args.buffer,
      c.requires.inside,
    )

pub overflow_add-index : goal.overflow_add-index
overflow_add-index g c =
    omega (
      arith,
      front-short g.N.PoolName.sizes c.args.seat.now c.is_seat.ensures c.args.buffer c.requires.held,
      room-most g.N.PoolName.sizes c.args.buffer,
      c.requires.inside,
    )

pub returns-then-lines-room-clause-bytes : goal.returns-then-lines-room-clause-bytes
returns-then-lines-room-clause-bytes g c =
    let room = c.args.room.now in
    let n = length room in
    let whole = 64 * (n / 64) in
    let first = c.load_lines.new.room in
    let between : List ℕ = first ++ drop whole room in
    let bytes : View → List ℕ = λ v. bytes_of_words (front_of c.args.buffer v.holds) in
    let size : length first ≡ whole = omega (arith, c.load_lines.auto.room, length-take whole room) in
    let long : length between ≡ n = omega (arith, length-append first (drop whole room), size, length-drop whole room)
    in
    let taken : length (take (length between - whole) (drop whole between)) ≡ n - whole =
    omega (arith, length-take (length between - whole) (drop whole between), length-drop whole between, long) in
    let from : 8 * (c.args.index + 8 * (n / 64)) ≡ 8 * c.args.index + whole = omega arith in
    let one : length (take whole room) ≡ whole = omega (arith, length-take whole room) in
    both_read whole (n - whole) n whole (length between - whole) (8 * c.args.index) room (bytes c.args.seat.now) first
    c.load_words.new.room size refl (omega (arith, long)) (omega arith)
    (c.load_lines.ensures.bytes ∙ ap (λ k. take k (drop (8 * c.args.index) (bytes c.args.seat.now))) one)
    (c.load_words.ensures.bytes ∙ (λ i. take (taken i) (drop (from i) (bytes (c.load_lines.ensures.seat i)))))
