use Rattle.std.proofs.Common.{◌≡◌, ℕ, ◌+◌, ◌-◌, ◌*◌, ◌/◌, ◌%◌, ◌++◌, List, length, take, drop, refl, ◌∙◌, length-append}
use Rattle.std.proofs.Common.{arith}
use Rattle.std.proofs.lemmas.List.{length-take, length-drop}
use Rattle.pinned_pool.specs.Bytes.{bytes_of_words}
use Rattle.pinned_pool.specs.Moves.{front_of}
use Rattle.pinned_pool.specs.declared.view.View.{View}
use Rattle.pinned_pool.proofs.WordRuns.{both_read}
use Rattle.pinned_pool.proofs.pool.Pool.load_bytes.Goals as goal

pub returns-else-room-skipped-clause-bytes : goal.returns-else-room-skipped-clause-bytes
returns-else-room-skipped-clause-bytes g c =
    let room = c.args.room.now in
    let n = length room in
    let from = c.args.from in
    let head = 8 - from % 8 in
    let part = c.load_part-else-room-skipped in
    let first = part.new.room in
    let between : List ℕ = first ++ drop head room in
    let bytes : View → List ℕ = λ v. bytes_of_words (front_of c.args.buffer v.holds) in
    let size : length first ≡ head = omega (arith, part.auto.room, length-take head room) in
    let long : length between ≡ n = omega (arith, length-append first (drop head room), size, length-drop head room) in
    let taken : length (take (length between - head) (drop head between)) ≡ n - head =
    omega (arith, length-take (length between - head) (drop head between), length-drop head between, long) in
    let place : 8 * (from / 8) + from % 8 ≡ from = omega arith in
    let behind : 8 * (from / 8 + 1) ≡ from + head = omega arith in
    let one : length (take head room) ≡ head = omega (arith, length-take head room) in
    both_read head (n - head) n head (length between - head) from room (bytes c.args.seat.now) first
    c.load_aligned-else-room-skipped.new.room size refl (omega (arith, long)) (omega arith)
    (part.ensures.bytes ∙ (λ i. take (one i) (drop (place i) (bytes c.args.seat.now))))
    (c.load_aligned-else-room-skipped.ensures.bytes
    ∙ (λ i. take (taken i) (drop (behind i) (bytes (part.ensures.seat i)))))
