-- The numbers that decide what a session asks for: a linear congruence, of which a draw gives the upper 16 bits.
use Rattle.std.specs.Prelude.{ℕ, zero, suc, ◌+◌, ◌*◌, ◌/◌, ◌%◌, ◌^◌, List, [], ◌∷◌}

-- the state at first, and the one that a draw leaves
abbrev pub first_state : ℕ → ℕ → ℕ
first_state number session = (number + session) % 2 ^ 32

abbrev pub next_state : ℕ → ℕ
next_state state = (1_664_525 * state + 1_013_904_223) % 2 ^ 32

-- the number that a draw gives, by the state that it leaves
abbrev pub drawn : ℕ → ℕ
drawn state = state / 65_536

-- so many draws: each state behind the first, and what its draw gives
abbrev pub draws_from : ℕ → ℕ → List (ℕ × ℕ)
draws_from zero state = []
draws_from (suc more) state = (next_state state, drawn (next_state state)) ∷ draws_from more (next_state state)
