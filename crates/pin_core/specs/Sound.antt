-- What holds of all holds between any two events.
use Rattle.std.specs.Prelude.{◌≡◌, ℕ, ◌+◌, ◌<◌, ◌≤◌, List, [], ◌∷◌, Bool, true, false, ◌&&◌, ◌==◌, nat_lt}
use Rattle.std.specs.Prelude.{if◌then◌else◌, length, slice_index, replicate}
use Rattle.pin_core.specs.Buffers.{buffers, buffer_words, start, word_count}
use Rattle.pin_core.specs.Holding.{Holding, at, sole_at, loose_at, pin_of}
use Rattle.pin_core.specs.Pins.{Pins, weigh}
use Rattle.pin_core.specs.declared.sizes.Sizes.{Sizes}

abbrev pub same_words : List ℕ → List ℕ → Bool
same_words [] [] = true
same_words [] (y ∷ ys) = false
same_words (x ∷ xs) [] = false
same_words (x ∷ xs) (y ∷ ys) = (x == y) && same_words xs ys

-- 1 for a hold of no buffer of the pool, or with another front than its buffer has
abbrev pub misfit : Sizes → (ℕ → List ℕ) → Holding → ℕ
misfit z fronts h = if nat_lt h.buffer (buffers z) && same_words h.front (fronts h.buffer) then 0 else 1

-- a pool's holds, of which is known how much each weight adds up to, over its data words
pub record AreSound (z : Sizes) (words : List ℕ) (weighs : (Holding → ℕ) → ℕ) : Type 0 where
  -- an exclusive hold is the only hold of its buffer
  pub sole : (b : ℕ) → 0 < weighs (sole_at b) → weighs (at b) ≡ 1
  -- at most one hold of a buffer is not pinned
  pub loose : (b : ℕ) → weighs (loose_at b) ≤ 1
  -- each buffer has one front, which all its holds have
  pub fronts : ℕ → List ℕ
  pub fitting : weighs (misfit z fronts) ≡ 0
  -- a front fits its buffer, and the buffer's data words begin with it
  pub short : (b : ℕ) → length (fronts b) ≤ buffer_words z b
  pub begun : (b i : ℕ) → b < buffers z → i < length (fronts b)
      → slice_index words (start z b + i) ≡ slice_index (fronts b) i

pub record IsSound {H : Type 0} (z : Sizes) (s : Pins H) : Type 0 where
  pub sized : length s.words ≡ word_count z
  pub held : AreSound z s.words (weigh s.holds)
  -- pinned holds and credits add up to the opening number
  pub credited : weigh s.holds pin_of + length s.credits ≡ z.credits

-- no holds, and all credits with one holder
abbrev pub opened_pins : {H : Type 0} → Sizes → H → Pins H
opened_pins z p = record { holds = []; words = replicate (word_count z) 0; credits = replicate z.credits p }
