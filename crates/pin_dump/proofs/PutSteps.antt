-- One piece more is put.
use Rattle.std.proofs.Common.{◌≡◌, ℕ, ◌+◌, ◌*◌, ◌<◌, ◌≤◌, List, ◌++◌, length, take, drop, Some, sym, arith}
use Rattle.std.proofs.Math.Seq.{take-add}
use Rattle.std.proofs.lemmas.List.{length-take, length-drop}
use Rattle.std.specs.List.{slice_get}
use Rattle.view_sums.specs.Total.{total}
use Rattle.pin_core.specs.Holding.{Holding, at}
use Rattle.pinned_pool.specs.Bytes.{bytes_of_words}
use Rattle.pinned_pool.specs.Moves.{front_of}
use Rattle.pinned_pool.proofs.Keys.{some-at}
use Rattle.frag_value.specs.Values.{Frags, IsFilled}
use Rattle.frag_value.proofs.Hands.{each-at, uses-at, length-bytes}
use Rattle.frag_value.specs.Pins.{pin_key, IsPinned}

-- so many bytes are there
pub piece-length : (hs : List Holding) (b from n : ℕ) → from + n ≤ 8 * length (front_of b hs)
    → length (take n (drop from (bytes_of_words (front_of b hs)))) ≡ n
piece-length hs b from n within = omega (
  arith,
  length-take n (drop from (bytes_of_words (front_of b hs))),
  length-drop from (bytes_of_words (front_of b hs)),
  length-bytes (front_of b hs),
  within,
)

pub piece-more : (bytes : List ℕ) (done n : ℕ) → take done bytes ++ take n (drop done bytes) ≡ take (done + n) bytes
piece-more bytes done n = sym (take-add done n bytes)

-- a fragment of a pinned value is held, and lies in its buffer's front
pub pinned-held : (hs : List Holding) (v : Frags) (i : ℕ) (p : ℕ × ℕ) → IsPinned hs v → slice_get v i ≡ Some p
    → 0 < total (at p.0) hs
pinned-held hs v i p pinned e = some-at (pin_key p.0) hs (omega (arith, pinned.held p.0, uses-at v i p e))

pub pinned-filled : (hs : List Holding) (v : Frags) (i : ℕ) (p : ℕ × ℕ) → IsPinned hs v → slice_get v i ≡ Some p
    → p.1 ≤ 8 * length (front_of p.0 hs)
pinned-filled hs v i p pinned e = each-at (IsFilled hs) v i p e pinned.filled
