-- What an event is answered: the first test that fails, or what the step did.
use Rattle.std.specs.Prelude.{ℕ, List, Bool, false, not, ◌&&◌, ◌==◌, nat_lt, nat_le, if◌then◌else◌, length, find}
use Rattle.std.specs.Prelude.{slice_index, Option, None, Some}
use Rattle.view_sums.specs.Total.{total}
use Rattle.pin_core.specs.Buffers.{buffer_words}
use Rattle.pin_core.specs.Holding.{Holding, Key}
use Rattle.pin_core.specs.Pins.{Owned, Pins, count_at}
use Rattle.pin_core.specs.PinStep.{Event, claim, put, load, pin, unpin, move, give}
use Rattle.pin_core.specs.declared.sizes.Sizes.{Sizes}
use Rattle.pin_core.specs.declared.holder.Holder.{Holder}
use Rattle.pin_core.specs.declared.holder.Holder.TheVariants.{Shard, Session, Parcel}
use Rattle.pin_core.specs.declared.event.PinEvent.{PinEvent}
use Rattle.pin_core.specs.declared.event.PinEvent.TheVariants as event
use Rattle.pin_core.specs.declared.event.Change.{Change}
use Rattle.pin_core.specs.declared.event.Change.TheVariants as change
use Rattle.pin_core.specs.declared.refused.Refused.{Refused}
use Rattle.pin_core.specs.declared.refused.Refused.TheVariants.{NotFree, NotHeld, NotOwned, NoCredit, OutOfFront}

abbrev pub same_holder : Holder → Holder → Bool
same_holder (Shard a) (Shard b) = a == b
same_holder (Session a) (Session b) = a == b
same_holder (Parcel a k) (Parcel b n) = (a == b) && (k == n)
same_holder (Shard _) _ = false
same_holder (Session _) _ = false
same_holder (Parcel _ _) _ = false

-- the event as the definitions have it
abbrev pub event_of : PinEvent → Event Holder
event_of (event.Claim b p) = claim b p
event_of (event.Put b p i x) = put b p i x
event_of (event.Load b p i) = load b p i
event_of (event.Pin b p taker) = pin b p taker
event_of (event.Unpin b p pinned) = unpin (record { buffer = b; pinned = pinned }) p
event_of (event.Move b pinned p taker) = move (record { buffer = b; pinned = pinned }) p taker
event_of (event.Give p taker n) = give p taker n

-- a hold of the buffer that the holder has
abbrev pub is_at : Holder → ℕ → Owned Holder → Bool
is_at p b o = same_holder o.holder p && (o.hold.buffer == b)

-- one that is pinned, or one that isn't
abbrev pub is_held_key : Holder → Key → Owned Holder → Bool
is_held_key p k o = is_at p k.buffer o && (if k.pinned then o.hold.pinned else not o.hold.pinned)

abbrev pub credits_of : Holder → List Holder → ℕ
credits_of p credits = total (λ (q : Holder). if same_holder q p then 1 else 0) credits

-- refused where the test fails, and else by the tests after it
abbrev pub unless : Bool → Refused → Option Refused → Option Refused
unless passed refused later = if passed then later else Some refused

-- what the tests of the first hold that is meant refuse
abbrev pub held_first : Option (Owned Holder) → (Holding → Option Refused) → Option Refused
held_first None tests = Some NotHeld
held_first (Some o) tests = tests o.hold

-- the first refusal of an event, if there is one, in the order of `Refused`
abbrev pub refusal_of : Sizes → Pins Holder → PinEvent → Option Refused
refusal_of z s (event.Claim b p) = unless (count_at b s.holds == 0) (NotFree (count_at b s.holds)) None
refusal_of z s (event.Put b p i x) = held_first (find (is_at p b) s.holds)
    (λ h. unless h.exclusive NotOwned (unless (nat_le i (length h.front) && nat_lt i (buffer_words z b))
    (OutOfFront (length h.front)) None))
refusal_of z s (event.Load b p i) = held_first (find (is_at p b) s.holds)
    (λ h. unless (nat_lt i (length h.front)) (OutOfFront (length h.front)) None)
refusal_of z s (event.Pin b p taker) = held_first (find (is_at p b) s.holds)
    (λ h. unless (nat_lt 0 (credits_of taker s.credits)) NoCredit None)
refusal_of z s (event.Unpin b p pinned) =
    held_first (find (is_held_key p (record { buffer = b; pinned = pinned })) s.holds)
    (λ h. None)
refusal_of z s (event.Move b pinned p taker) =
    held_first (find (is_held_key p (record { buffer = b; pinned = pinned })) s.holds) (λ h. None)
refusal_of z s (event.Give p taker n) = unless (nat_le n (credits_of p s.credits)) NoCredit None

-- the word at the index in the front of the first hold
abbrev pub word_in : Option (Owned Holder) → ℕ → ℕ
word_in None i = 0
word_in (Some o) i = slice_index o.hold.front i

-- what a step of the event tells
abbrev pub change_of : Pins Holder → PinEvent → Change
change_of s (event.Claim b p) = change.Claimed
change_of s (event.Put b p i x) = change.Put
change_of s (event.Load b p i) = change.Loaded (word_in (find (is_at p b) s.holds) i)
change_of s (event.Pin b p taker) = change.Pinned
change_of s (event.Unpin b p pinned) = change.Unpinned (count_at b s.holds == 1)
change_of s (event.Move b pinned p taker) = change.Moved
change_of s (event.Give p taker n) = change.Given
