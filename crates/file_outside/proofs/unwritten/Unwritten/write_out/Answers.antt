use Rattle.std.proofs.Common.{rules, [], ◌≡◌, ◌+◌, ◌-◌, ◌≤◌, ◌++◌, List, ℕ, length, take, drop, slice_range, ap, ◌∙◌}
use Rattle.std.proofs.Common.{sym, append_assoc, arith}
use Rattle.std.proofs.lemmas.List.{append-nil, take_all, take-append-drop, drop-drop, length-drop}
use Rattle.std.proofs.KnownBytes.{append_known-moved}
use Rattle.std.specs.Io.KnownBytes.{Appends}
use Rattle.file_outside.specs.Unwritten.{put_of}
use Rattle.file_outside.proofs.Known.{written_front}
use Rattle.file_outside.proofs.unwritten.Unwritten.write_out.Goals as goal

-- what is written now doesn't wait any more
pub returns-then-self-len-clause-puts : goal.returns-then-self-len-clause-puts
returns-then-self-len-clause-puts g c =
    let room = c.self.inside.room.items in
    let start = c.self.inside.start in
    let n = c.write_front-count.result in
    let before = c.self.inside.written.bytes in
    let waited : drop start room ≡ c.args.self.now.waiting = ap (λ rest. rest.waiting) c.self.view_is in
    let window : slice_range room start (length room) ≡ drop start room =
    take_all (length room - start) (drop start room) (omega (arith, length-drop start room)) in
    let front : c.args.self.now.waiting ++ [] ≡ take n (slice_range room start (length room)) ++ drop (start + n) room =
    append-nil c.args.self.now.waiting ∙ sym waited ∙ sym (take-append-drop n (drop start room))
    ∙ ap (λ (t : List ℕ). take n (drop start room) ++ t) (drop-drop n start room)
    ∙ ap (λ (t : List ℕ). take n t ++ drop (start + n) room) (sym window) in
    let text : Appends (g.F.Write.contents c.args.writer.now) (g.F.Write.contents c.write_front-count.new.writer)
    (take n (slice_range room start (length room))) = search rules in
    let added : c.add.new.self.bytes ≡ before ++ slice_range room start (start + n) = search rules in
    record {
      text = append_known-moved _ _ _ _ _ text front;
      put = ap (λ (t : List ℕ). t ++ drop (start + n) room) added
          ∙ append_assoc before (slice_range room start (start + n)) (drop (start + n) room)
          ∙ ap (λ (t : List ℕ). before ++ t) (written_front room start n) ∙ ap put_of c.self.view_is
          ∙ sym (append-nil (put_of c.args.self.now));
      kept = omega (arith, length-drop (start + n) room, length-drop start room, ap length waited);
    }
