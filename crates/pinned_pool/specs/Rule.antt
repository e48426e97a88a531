-- The rule of a pool's table: what holds of its words and of the views of all seats between any two steps.
use Rattle.std.specs.Prelude.{◌≡◌, ℕ, ◌+◌, ◌^◌, ◌<◌, ◌≤◌, List, ◌==◌, if◌then◌else◌, length, map, drop, replicate}
use Rattle.std.specs.Prelude.{slice_index}
use mathlib.Core.Option.{some}
use lib.ListN.{get_elem?}
use Rattle.view_sums.specs.Numbered.{by_number}
use Rattle.pin_core.specs.Buffers.{buffers, start, word_count}
use Rattle.pin_core.specs.Holding.{at}
use Rattle.pin_core.specs.Pins.{Owned, Pins, own}
use Rattle.pin_core.specs.Sound.{IsSound}
use Rattle.pin_core.specs.declared.sizes.Sizes.{Sizes}
use Rattle.pinned_pool.specs.Views.{nobody, all_holds, all_claims, all_looks, all_lasts}
use Rattle.pinned_pool.specs.declared.view.View.{View}

-- a count word for each buffer, then the data words
abbrev pub table_words : Sizes → ℕ
table_words z = buffers z + word_count z

abbrev pub word_at : Sizes → ℕ → ℕ → ℕ
word_at z b i = buffers z + (start z b + i)

-- what the seat with this number holds, and its credits
abbrev pub holds_by : ℕ → View → List (Owned ℕ)
holds_by seat v = map (own seat) v.holds

abbrev pub credits_by : ℕ → View → List ℕ
credits_by seat v = replicate v.credits seat

-- the plain list of holds: the holders are the seats, by their numbers
abbrev pub pins_of : Sizes → List ℕ → List View → Pins ℕ
pins_of z words views = record {
  holds = by_number holds_by 0 views;
  words = drop (buffers z) words;
  credits = by_number credits_by 0 views;
}

pub record IsSoundTable (z : Sizes) (words : List ℕ) (views : List View) : Type 0 where
  pub sized : length words ≡ table_words z
  pub few : z.credits ≤ 2 ^ 31
  -- each count word is the number of holds of its buffer
  pub counted : (b : ℕ) → b < buffers z → slice_index words b ≡ all_holds (at b) views
  -- an exclusive hold is the only one of its buffer, fronts are what the data words begin with, and no credit is lost
  pub held : IsSound z (pins_of z words views)
  -- a seat with no credit is spent, and has nothing
  pub live : (seat : ℕ) (v : View) → get_elem? views seat ≡ some v → v.credits ≡ 0 → v ≡ nobody
  -- each claim of a buffer ended with its last hold, but for one where it has a hold
  pub ended : (b : ℕ) → all_claims b views ≡ all_lasts b views + (if all_holds (at b) views == 0 then 0 else 1)
  -- a buffer that was found held was claimed by some live seat
  pub looked : (b : ℕ) → 0 < all_looks b views → 0 < all_claims b views
