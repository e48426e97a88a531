-- What a plan has room for, to which nothing was given yet.
use Rattle.std.proofs.Common.{◌≡◌, ℕ, ◌+◌, ◌-◌, ◌*◌, ◌<◌, ◌≤◌, true, false, List, length, ap, arith, length-append}
use Rattle.flake_model.specs.Command.{Command, get, set, get_range, mget, del, exists, ping, ping_with, fault}
use Rattle.flake_model.specs.Reply.{bulk, reply_text}
use Rattle.reply_layout.specs.declared.need.Need.{Need}
use Rattle.reply_layout.specs.Need.{need_of, values_need}
use Rattle.reply_planner.specs.Laid.{head_text, pieces_so_far}
use Rattle.reply_planner.specs.Planned.{Planned, one_value, one_begun, bytes_aside, pins_aside, values_in, copied_in}
use Rattle.reply_planner.specs.Planned.{pinned_in, left_of, slots_of, room_of, range_room_of}
use Rattle.reply_layout.specs.Gathered.{copied_text}
use Rattle.reply_layout.specs.Layout.{placings_of, pinned_of}
use Rattle.view_sums.specs.Total.{total}
use Rattle.shard_core.specs.Done.{is_taking, is_ranged}
use Rattle.command_exec.specs.Kinds.{HasOnePart, part_at}
use Rattle.command_exec.specs.Running.{IsStarted}

pub left_started : (need : Need) (p : Planned) → IsStarted need p → left_of p ≡ 512 * need.stage
left_started need p is =
    let copied : copied_in p ≡ 0 = λ i. length (copied_text p.base.threshold (pieces_so_far (is.taken i) (is.begun i)))
    in
    let aside : bytes_aside p.base.threshold p.begun ≡ 0 = ap (bytes_aside p.base.threshold) is.begun in
    omega (arith, copied, aside, is.stage)

pub slots_started : (need : Need) (p : Planned) → IsStarted need p → slots_of p ≡ need.descriptors - need.stage
slots_started need p is =
    let values : values_in p ≡ 0 = λ i. total one_value (is.taken i) + one_begun (is.begun i) in
    let pinned : pinned_in p ≡ 0 =
    λ i. pinned_of (placings_of p.base.threshold (pieces_so_far (is.taken i) (is.begun i))) in
    let aside : pins_aside p.base.threshold p.begun ≡ 0 = ap (pins_aside p.base.threshold) is.begun in
    omega (arith, values, pinned, aside, is.stage, is.descriptors)

-- room for one value
room_for_one : (p : Planned) → left_of p ≡ 1024 → slots_of p ≡ 17 → 0 < room_of p
room_for_one p left slots = omega (arith, left, slots)

false_is : {P : Type 0} → false ≡ true → P
false_is wrong = absurd (let bad : ⊥ = cc in bad)

pub one_room : (command : Command) (p : Planned) → HasOnePart command → IsStarted (need_of command) p
    → is_taking (part_at command 0) ≡ true → 0 < room_of p
one_room (get key) p one is taking = room_for_one p (left_started (values_need 1 0) p is)
    (slots_started (values_need 1 0) p is)
one_room (set when true key bytes) p one is taking = room_for_one p (left_started (values_need 1 0) p is)
    (slots_started (values_need 1 0) p is)
one_room (set when false key bytes) p one is taking = false_is taking
one_room ping p one is taking = absurd one
one_room (ping_with bytes) p one is taking = absurd one
one_room (mget keys) p one is taking = absurd one
one_room (del keys) p one is taking = absurd one
one_room (exists keys) p one is taking = absurd one
one_room (fault kind) p one is taking = absurd one
one_room command p one is taking = false_is taking

pub one_range : (command : Command) (p : Planned) → HasOnePart command → IsStarted (need_of command) p
    → is_ranged (part_at command 0) ≡ true → 0 < range_room_of p
one_range (get_range key first last) p one is ranged =
    let left = left_started (need_of (get_range key first last)) p is in
    let slots = slots_started (need_of (get_range key first last)) p is in
    omega (arith, left, slots)
one_range ping p one is ranged = absurd one
one_range (ping_with bytes) p one is ranged = absurd one
one_range (mget keys) p one is ranged = absurd one
one_range (del keys) p one is ranged = absurd one
one_range (exists keys) p one is ranged = absurd one
one_range (fault kind) p one is ranged = absurd one
one_range command p one is ranged = false_is ranged

-- each reply has at least one staging buffer
pub stage_some : (command : Command) → 0 < (need_of command).stage
stage_some (ping_with bytes) = omega (arith, some_text bytes) where
  some_text : (bytes : List ℕ) → 0 < length (reply_text (bulk bytes))
  some_text bytes = omega arith
stage_some (set when true key bytes) = omega arith
stage_some (set when false key bytes) = omega arith
stage_some command = omega arith

pub slots_some : (command : Command) → (need_of command).stage ≤ (need_of command).descriptors
slots_some (set when true key bytes) = omega arith
slots_some (set when false key bytes) = omega arith
slots_some command = omega arith

-- a line fits any plan that was started
pub line_fits : (command : Command) (p : Planned) → IsStarted (need_of command) p → 64 ≤ left_of p
line_fits command p is = omega (arith, left_started (need_of command) p is, stage_some command)

-- an array of so many values, once its head was copied
pub values_room : (n head : ℕ) (p q : Planned) → IsStarted (values_need n head) p → 0 < head → left_of p ≡ left_of q
    + head → slots_of q ≡ slots_of p → n ≤ room_of q
values_room n head p q is some left slots =
    let had = left_started (values_need n head) p is in
    let had_slots = slots_started (values_need n head) p is in
    let bytes : 521 * n ≤ left_of q = omega (arith, had, left) in
    let places : 17 * n ≤ slots_of q = omega (arith, had_slots, slots) in
    omega (arith, bytes, places)

-- PING's argument, with its head and its line end
pub message_fits : (bytes : List ℕ) (p : Planned) → IsStarted (need_of (ping_with bytes)) p
    → length (head_text (length bytes)) + length bytes + 2 ≤ left_of p
message_fits bytes p is =
    let left = left_started (need_of (ping_with bytes)) p is in
    let text : length (reply_text (bulk bytes)) ≡ length (head_text (length bytes)) + (length bytes + 2) =
    simp (length-append) (omega arith) in
    omega (arith, left, text)
