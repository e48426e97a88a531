-- Staging buffers, by their numbers and by their addresses.
use Rattle.std.proofs.Common.{◌≡◌, ℕ, zero, suc, ◌+◌, ◌-◌, ◌*◌, ◌<◌, ◌≤◌, Bool, true, false, not, List, [], ◌∷◌, length}
use Rattle.std.proofs.Common.{map, drop, refl, ap, sym, ◌∙◌, subst, arith, nat_lt}
use Rattle.std.specs.Prelude.{◌==◌, ◌||◌, filter, cond, if◌then◌else◌}
use Rattle.std.specs.List.{list_any}
use Rattle.std.proofs.lemmas.List.{drop-drop}
use Rattle.view_sums.specs.Total.{total, Each}
use Rattle.atomic_table.specs.Seated.{TableId}
use Rattle.pin_core.specs.declared.sizes.Sizes.{Sizes}
use Rattle.pinned_pool.specs.Addresses.{address_of}
use Rattle.reply_layout.specs.declared.need.Need.{Need}
use Rattle.reply_layout.specs.Frames.{Frame}
use Rattle.reply_planner.specs.Parcels.{Sent}
use Rattle.reply_planner.specs.Places.{buffer_addresses}
use Rattle.command_exec.specs.Executed.{frame_shown}
use Rattle.tx_ring.specs.Shown.{ring_size}
use Rattle.session_pass.specs.Views.{SessionView}
use Rattle.session_pass.specs.Kept.{IsWaiting}
use Rattle.session_pass.specs.Waiting as session
use Rattle.session_pass.specs.Waiting.{descriptors_of, room_left, is_staged_by, free_of}
use Rattle.transcript_model.specs.Standing.{ring_room, has_lent, free, FitsStanding}
use Rattle.drive_script.specs.Views.{waiting_behind}
use Rattle.drive_script.specs.Shown.{session_shown, LiesInPool}

-- how many descriptors waiting replies take
taken_by_all : (z : Sizes) (waits : List Sent) → descriptors_of waits ≡ total (λ (frame : Frame). length frame.segments)
    (map (frame_shown z) waits)
taken_by_all z [] = refl
taken_by_all z (reply ∷ waits) = ap (λ n. length reply.segments + n) (taken_by_all z waits)

pub room_shown : (z : Sizes) (ring : TableId) (waits : List Sent) → room_left ring waits ≡ ring_room (ring_size ring)
    (map (frame_shown z) waits)
room_shown z ring waits = ap (λ n. ring_size ring - 1 - n) (taken_by_all z waits)

-- the address of a small buffer
pub small_address : (z : Sizes) (b : ℕ) → b < z.small → address_of z b ≡ 1048576 + 512 * b
small_address z b near =
    let is : nat_lt b z.small ≡ true = grind arith in
    ap (λ (test : Bool). 1048576 + (if test then 512 * b else 512 * z.small + 4096 * (b - z.small))) is

-- two small buffers are one where their addresses are
same_test : (z : Sizes) (a b : ℕ) → a < z.small → b < z.small → (a == b) ≡ (address_of z a == address_of z b)
same_test z a b near far =
    let first = small_address z a near in
    let second = small_address z b far in
    by_test (a == b) refl (λ i. sym first i == sym second i)
  where
    by_test : (same : Bool) → (a == b) ≡ same → (1048576 + 512 * a == 1048576 + 512 * b)
        ≡ (address_of z a == address_of z b) → (a == b) ≡ (address_of z a == address_of z b)
    by_test true is moved = let equal : a ≡ b = grind arith in let also : (1048576 + 512 * a == 1048576 + 512 * b)
        ≡ true = grind arith in is ∙ sym also ∙ moved
    by_test false is moved = let also : (1048576 + 512 * a == 1048576 + 512 * b) ≡ false = grind arith in is ∙ sym also
        ∙ moved

staged_test : (z : Sizes) (b : ℕ) (staged : List ℕ) → b < z.small → Each (λ buffer. buffer < z.small) staged
    → list_any (λ s. s == b) staged ≡ list_any (λ lent. lent == address_of z b) (buffer_addresses z staged)
staged_test z b [] near small = refl
staged_test z b (s ∷ staged) near small = λ i. same_test z s b small.0 near i || staged_test z b staged near small.1 i

used_test : (z : Sizes) (b : ℕ) (waits : List Sent) → b < z.small
    → Each (λ (reply : Sent). Each (λ buffer. buffer < z.small) reply.staged) waits
    → list_any (is_staged_by b) waits ≡ list_any (has_lent (address_of z b)) (map (frame_shown z) waits)
used_test z b [] near small = refl
used_test z b (reply ∷ waits) near small = λ i. staged_test z b reply.staged near small.0 i || used_test z b waits near
    small.1 i

pub free_shown : (z : Sizes) (stage : List ℕ) (waits : List Sent) → Each (λ buffer. buffer < z.small) stage
    → Each (λ (reply : Sent). Each (λ buffer. buffer < z.small) reply.staged) waits
    → buffer_addresses z (free_of stage waits) ≡ free (buffer_addresses z stage) (map (frame_shown z) waits)
free_shown z [] waits near small = refl
free_shown z (b ∷ stage) waits near small =
    by_test (list_any (is_staged_by b) waits) (free_shown z stage waits near.1 small)
    ∙ ap (λ (test : Bool). cond (not test)
    (address_of z b ∷ free (buffer_addresses z stage) (map (frame_shown z) waits))
    (free (buffer_addresses z stage) (map (frame_shown z) waits))) (used_test z b waits near.0 small)
  where
    by_test : (test : Bool) → buffer_addresses z (free_of stage waits) ≡ free (buffer_addresses z stage)
        (map (frame_shown z) waits)
        → buffer_addresses z (cond (not test) (b ∷ free_of stage waits) (free_of stage waits))
        ≡ cond (not test) (address_of z b ∷ free (buffer_addresses z stage) (map (frame_shown z) waits))
        (free (buffer_addresses z stage) (map (frame_shown z) waits))
    by_test true rest = rest
    by_test false rest = ap (λ list. address_of z b ∷ list) rest

-- what holds of all holds of those that a test picks, and of those behind some
each_picked : {A : Type 0} (P : A → Type 0) (test : A → Bool) (xs : List A) → Each P xs → Each P (filter test xs)
each_picked P test [] all = tt
each_picked P test (x ∷ xs) all = by_test (test x) (each_picked P test xs all.1)
  where
    by_test : (b : Bool) → Each P (filter test xs) → Each P (cond b (x ∷ filter test xs) (filter test xs))
    by_test true rest = (all.0, rest)
    by_test false rest = rest

each_behind : {A : Type 0} (P : A → Type 0) (n : ℕ) (xs : List A) → Each P xs → Each P (drop n xs)
each_behind P zero xs all = all
each_behind P (suc n) [] all = tt
each_behind P (suc n) (x ∷ xs) all = each_behind P n xs all.1

drop_both : {A : Type 0} (m n : ℕ) (xs : List A) → drop (m + n) xs ≡ drop n (drop (m + 0) xs)
drop_both m n xs = let same : m ≡ m + 0 = omega arith in sym (drop-drop n m xs) ∙ ap (λ k. drop n (drop k xs)) same

all_small : (z : Sizes) (stage : List ℕ) (waits : List Sent) → Each (λ buffer. buffer < z.small) stage
    → Each (IsWaiting stage) waits → Each (λ (reply : Sent). Each (λ buffer. buffer < z.small) reply.staged) waits
all_small z stage [] near each = tt
all_small z stage (reply ∷ waits) near each = (
  subst (λ staged. Each (λ buffer. buffer < z.small) staged) (sym each.0.staged)
      (each_picked (λ buffer. buffer < z.small) (λ buffer. is_staged_by buffer reply) stage near),
  all_small z stage waits near each.1,
)

-- the staging buffers of the replies that wait behind so many further reaps
pub waiting_small : (z : Sizes) (s : SessionView) (n : ℕ) → LiesInPool z s
    → Each (λ (reply : Sent). Each (λ buffer. buffer < z.small) reply.staged) (session.waiting s n)
waiting_small z s n over =
    subst (λ waits. Each (λ (reply : Sent). Each (λ buffer. buffer < z.small) reply.staged) waits)
    (sym (drop_both (length s.reaped) n s.posted))
    (each_behind (λ (reply : Sent). Each (λ buffer. buffer < z.small) reply.staged) n (session.waiting s 0)
    (all_small z s.pass.stage (session.waiting s 0) over.small over.is.each))

map-drop : {A B : Type 0} (f : A → B) (n : ℕ) (xs : List A) → map f (drop n xs) ≡ drop n (map f xs)
map-drop f zero xs = refl
map-drop f (suc n) [] = refl
map-drop f (suc n) (x ∷ xs) = map-drop f n xs

pub waits_shown : (z : Sizes) (s : SessionView) (n : ℕ) → map (frame_shown z) (session.waiting s n)
    ≡ waiting_behind (session_shown z s) n
waits_shown z s n = map-drop (frame_shown z) (length s.reaped + n) s.posted

pub room_is : (z : Sizes) (s : SessionView) (n : ℕ) → room_left s.ring (session.waiting s n)
    ≡ ring_room (ring_size s.ring) (waiting_behind (session_shown z s) n)
room_is z s n = room_shown z s.ring (session.waiting s n) ∙ ap (ring_room (ring_size s.ring)) (waits_shown z s n)

pub free_is : (z : Sizes) (s : SessionView) (n : ℕ) → LiesInPool z s
    → buffer_addresses z (free_of s.pass.stage (session.waiting s n)) ≡ free (buffer_addresses z s.pass.stage)
    (waiting_behind (session_shown z s) n)
free_is z s n over = free_shown z s.pass.stage (session.waiting s n) over.small (waiting_small z s n over)
    ∙ ap (free (buffer_addresses z s.pass.stage)) (waits_shown z s n)

many_addresses : (z : Sizes) (buffers : List ℕ) → length (buffer_addresses z buffers) ≡ length buffers
many_addresses z [] = refl
many_addresses z (b ∷ buffers) = ap suc (many_addresses z buffers)

pub free_count : (z : Sizes) (s : SessionView) (n : ℕ) → LiesInPool z s
    → length (free_of s.pass.stage (session.waiting s n))
    ≡ length (free (buffer_addresses z s.pass.stage) (waiting_behind (session_shown z s) n))
free_count z s n over = sym (many_addresses z (free_of s.pass.stage (session.waiting s n)))
    ∙ ap length (free_is z s n over)

pub fits_shown : (z : Sizes) (s : SessionView) (n : ℕ) (need : Need) → LiesInPool z s
    → session.FitsBeside s.ring s.pass.stage (session.waiting s n) need
    → FitsStanding (ring_size s.ring) (buffer_addresses z s.pass.stage) (waiting_behind (session_shown z s) n) need
fits_shown z s n need over fits = record {
  in_ring = subst (λ m. need.descriptors ≤ m) (room_is z s n) fits.in_ring;
  in_stage = subst (λ m. need.stage ≤ m) (free_count z s n over) fits.in_stage;
}

pub fits_back : (z : Sizes) (s : SessionView) (n : ℕ) (need : Need) → LiesInPool z s
    → FitsStanding (ring_size s.ring) (buffer_addresses z s.pass.stage) (waiting_behind (session_shown z s) n) need
    → session.FitsBeside s.ring s.pass.stage (session.waiting s n) need
fits_back z s n need over fits =
    record {
      in_ring = subst (λ m. need.descriptors ≤ m) (sym (room_is z s n)) fits.in_ring;
      in_stage = subst (λ m. need.stage ≤ m) (sym (free_count z s n over)) fits.in_stage;
    }
