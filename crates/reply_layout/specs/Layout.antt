-- Where the bytes of a reply lie: long pieces at their stored addresses, all other bytes in staging buffers.
use Rattle.std.specs.Prelude.{ℕ, zero, suc, ◌+◌, ◌-◌, ◌/◌, ◌%◌, min, if◌then◌else◌, nat_le}
use Rattle.std.specs.Prelude.{List, [], ◌∷◌, ◌++◌, length, map, slice_index}
use Rattle.flake_base.specs.declared.segment.Seg.{Seg}
use Rattle.reply_layout.specs.Pieces.{Piece, plain, stored}

abbrev pub segment : ℕ → ℕ → Seg
segment address len = record { address = address; len = len }

-- so many bytes that are copied, or a piece that stays where it lies
pub data Placing : Type 0 where
  copied : ℕ → Placing
  pinned : Seg → Placing

-- a stored piece of at least the threshold stays
abbrev pub placing_of : ℕ → Piece → Placing
placing_of threshold (plain bytes) = copied (length bytes)
placing_of threshold (stored address bytes) =
    if nat_le threshold (length bytes) then pinned (segment address (length bytes)) else copied (length bytes)

abbrev pub placings_of : ℕ → List Piece → List Placing
placings_of threshold pieces = map (placing_of threshold) pieces

-- how many bytes are copied
abbrev pub copied_of : List Placing → ℕ
copied_of [] = 0
copied_of (copied n ∷ placings) = n + copied_of placings
copied_of (pinned seg ∷ placings) = copied_of placings

-- how many pieces stay
abbrev pub pinned_of : List Placing → ℕ
pinned_of [] = 0
pinned_of (copied n ∷ placings) = pinned_of placings
pinned_of (pinned seg ∷ placings) = suc (pinned_of placings)

-- neighbours that are copied are one run; the first argument is the run so far
abbrev pub runs : ℕ → List Placing → List Placing
runs run [] = copied run ∷ []
runs run (copied n ∷ placings) = runs (run + n) placings
runs run (pinned seg ∷ placings) = copied run ∷ pinned seg ∷ runs 0 placings

-- the most bytes of one staging buffer
abbrev pub staging_limit : ℕ
staging_limit = 512

-- the n-th byte that is copied goes on where the one before it ended: here
abbrev pub copied_address : List ℕ → ℕ → ℕ
copied_address stage n = slice_index stage (n / staging_limit) + n % staging_limit

-- n copied bytes from the k-th on, cut where a staging buffer ends, by at most so many cuts
abbrev pub cut : List ℕ → ℕ → ℕ → ℕ → List Seg
cut stage zero k n = []
cut stage (suc more) k zero = []
cut stage (suc more) k (suc n) =
    let size = min (suc n) (staging_limit - k % staging_limit) in
    segment (copied_address stage k) size ∷ cut stage more (k + size) (suc n - size)

-- the segments of runs, where k bytes were copied before
abbrev pub segments_from : List ℕ → ℕ → List Placing → List Seg
segments_from stage k [] = []
segments_from stage k (copied n ∷ placings) = cut stage n k n ++ segments_from stage (k + n) placings
segments_from stage k (pinned seg ∷ placings) = seg ∷ segments_from stage k placings

abbrev pub layout_of : List ℕ → List Placing → List Seg
layout_of stage placings = segments_from stage 0 (runs 0 placings)

-- so many staging buffers are used by n copied bytes
abbrev pub staging_buffers_for : ℕ → ℕ
staging_buffers_for n = (n + 511) / staging_limit
