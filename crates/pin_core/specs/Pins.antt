-- The state of a pool as a plain list of holds, for any kind of holder.
use Rattle.std.specs.Prelude.{ℕ, List}
use Rattle.view_sums.specs.Total.{total}
use Rattle.pin_core.specs.Holding.{Holding, at}

pub record Owned (H : Type 0) : Type 0 where
  pub holder : H
  pub hold : Holding

pub record Pins (H : Type 0) : Type 0 where
  -- in any order, with repeats
  pub holds : List (Owned H)
  -- the data words of all buffers, one buffer after the other
  pub words : List ℕ
  -- a holder stands here once for each of its credits
  pub credits : List H

abbrev pub own : {H : Type 0} → H → Holding → Owned H
own p h = record { holder = p; hold = h }

-- the weight of all holds
abbrev pub weigh : {H : Type 0} → List (Owned H) → (Holding → ℕ) → ℕ
weigh {H} holds weight = total (λ (o : Owned H). weight o.hold) holds

-- how many holds the buffer has
abbrev pub count_at : {H : Type 0} → ℕ → List (Owned H) → ℕ
count_at b holds = weigh holds (at b)
