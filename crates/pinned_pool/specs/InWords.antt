-- What the rule says of single holds, place by place.
use Rattle.std.specs.Prelude.{◌≡◌, ℕ, ◌<◌, ◌≤◌, List, true, false, length, slice_index}
use mathlib.Core.Option.{some}
use lib.ListN.{get_elem?}
use Rattle.pin_core.specs.Buffers.{buffers, buffer_words}
use Rattle.pin_core.specs.Holding.{Holding}
use Rattle.pin_core.specs.declared.sizes.Sizes.{Sizes}
use Rattle.pinned_pool.specs.Rule.{word_at, IsSoundTable}
use Rattle.pinned_pool.specs.declared.view.View.{View}

-- the hold stands at the place k of a seat
pub record SeatHolds (views : List View) (seat k : ℕ) (h : Holding) : Type 0 where
  pub view : View
  pub sits : get_elem? views seat ≡ some view
  pub stands : get_elem? view.holds k ≡ some h

-- a live seat won the buffer
pub record WonByLive (views : List View) (b : ℕ) : Type 0 where
  pub seat : ℕ
  pub view : View
  pub sits : get_elem? views seat ≡ some view
  pub live : 0 < view.credits
  pub place : ℕ
  pub won : get_elem? view.claims place ≡ some b

pub record InWords (z : Sizes) (words : List ℕ) (views : List View) : Type 0 where
  -- an exclusive hold is the only hold of its buffer
  pub only : (seat k other j : ℕ) (h g : Holding) → SeatHolds views seat k h → SeatHolds views other j g → h.exclusive
      ≡ true
      → g.buffer ≡ h.buffer → (other ≡ seat) × (j ≡ k)
  -- of two holds of one buffer one is pinned
  pub loose : (seat k other j : ℕ) (h g : Holding) → SeatHolds views seat k h → SeatHolds views other j g
      → g.buffer ≡ h.buffer
      → h.pinned ≡ false → g.pinned ≡ false → (other ≡ seat) × (j ≡ k)
  -- each hold is of a buffer of the pool, which its front fits
  pub near : (seat k : ℕ) (h : Holding) → SeatHolds views seat k h
      → (h.buffer < buffers z) × (length h.front ≤ buffer_words z h.buffer)
  -- each hold's front is what its buffer's data words begin with
  pub begins : (seat k i : ℕ) (h : Holding) → SeatHolds views seat k h → i < length h.front
      → slice_index words (word_at z h.buffer i) ≡ slice_index h.front i
  -- all holds of one buffer have the same front
  pub agree : (seat k other j : ℕ) (h g : Holding) → SeatHolds views seat k h → SeatHolds views other j g
      → g.buffer ≡ h.buffer
      → g.front ≡ h.front
  -- each buffer that has a hold, and each buffer in a seat's looks, was won by a live seat
  pub held : (seat k : ℕ) (h : Holding) → SeatHolds views seat k h → WonByLive views h.buffer
  pub looked : (seat k : ℕ) (v : View) (l : ℕ × ℕ) → get_elem? views seat ≡ some v → get_elem? v.looks k ≡ some l
      → WonByLive views l.0

abbrev pub SoundInWords : Type 0
SoundInWords = (z : Sizes) (words : List ℕ) (views : List View) → IsSoundTable z words views → InWords z words views
