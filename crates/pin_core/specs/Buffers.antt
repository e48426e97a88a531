-- The buffers of a pool and their data words. The small buffers come first.
use Rattle.std.specs.Prelude.{ℕ, ◌+◌, ◌-◌, ◌*◌, ◌^◌, ◌≤◌, nat_lt, if◌then◌else◌}
use Rattle.pin_core.specs.declared.sizes.Sizes.{Sizes}

abbrev pub buffers : Sizes → ℕ
buffers z = z.small + z.large

-- how many data words a buffer has
abbrev pub buffer_words : Sizes → ℕ → ℕ
buffer_words z b = if nat_lt b z.small then 64 else 512

-- the place of a buffer's first data word among the data words of all buffers
abbrev pub start : Sizes → ℕ → ℕ
start z b = if nat_lt b z.small then 64 * b else 64 * z.small + 512 * (b - z.small)

-- how many data words all buffers have
abbrev pub word_count : Sizes → ℕ
word_count z = 64 * z.small + 512 * z.large

-- the most that a pool may have. A number of holds then fits 32 bits
pub record IsWithin (z : Sizes) : Type 0 where
  pub few_small : z.small ≤ 65_536
  pub few_large : z.large ≤ 16_384
  pub few_credits : z.credits ≤ 2 ^ 31
