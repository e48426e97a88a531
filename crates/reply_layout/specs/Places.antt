-- Which bytes of staging buffers a layout names.
use Rattle.std.specs.Prelude.{◌≢◌, ℕ, ◌+◌, ◌<◌, ◌≤◌, ◌⊎◌, List, [], ◌∷◌, ◌++◌, length, slice_index}
use Rattle.std.specs.List.{flat_map, range_with_len}
use Rattle.flake_base.specs.declared.segment.Seg.{Seg}
use Rattle.reply_layout.specs.Layout.{Placing, copied, pinned, runs, cut, staging_limit}

-- the segments of runs that were copied, without those of pieces that stay
abbrev pub copies_from : List ℕ → ℕ → List Placing → List Seg
copies_from stage k [] = []
copies_from stage k (copied n ∷ placings) = cut stage n k n ++ copies_from stage (k + n) placings
copies_from stage k (pinned seg ∷ placings) = copies_from stage k placings

abbrev pub copies_of : List ℕ → List Placing → List Seg
copies_of stage placings = copies_from stage 0 (runs 0 placings)

-- the address of each byte of segments, in order
abbrev pub byte_addresses : List Seg → List ℕ
byte_addresses segments = flat_map (λ (seg : Seg). range_with_len seg.address seg.len) segments

-- no byte is in two of these staging buffers
abbrev pub AreDisjoint : List ℕ → Type 0
AreDisjoint stage = (i j : ℕ) → i < length stage → j < length stage → i ≢ j
    → (slice_index stage i + staging_limit ≤ slice_index stage j)
    ⊎ (slice_index stage j + staging_limit ≤ slice_index stage i)
