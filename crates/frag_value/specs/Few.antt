-- How many fragments there can be.
use Rattle.std.specs.Prelude.{ℕ, ◌<◌, ◌≤◌, length}
use Rattle.view_sums.specs.Total.{Each}
use Rattle.frag_value.specs.Values.{Frags, uses}

-- fragments in different buffers are at most as many as there are buffers
abbrev pub AreFew : Type 0
AreFew = (buffers : ℕ) (v : Frags) → Each (λ (p : ℕ × ℕ). p.0 < buffers) v → ((b : ℕ) → uses b v ≤ 1)
    → length v ≤ buffers
