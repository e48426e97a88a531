-- The descriptors of a frame, and the two words of each.
use Rattle.std.specs.Prelude.{ℕ, ◌^◌, ◌%◌, List, [], ◌∷◌, ◌++◌, Bool, true, false, map}
use Rattle.std.specs.Int.{w64, to_le_bytes}
use Rattle.flake_base.specs.declared.segment.Seg.{Seg}
use Rattle.tx_descriptor.specs.declared.legacy.Legacy.{Legacy}
use Rattle.tx_descriptor.specs.Bytes.{descriptor_bytes}
use Rattle.tx_ring.specs.Words.{length_word}
use Rattle.tx_ring.specs.declared.job.Row.{Row}

-- the descriptor of a segment: EOP and RS stand on a frame's last one alone, and DD once the frame is completed
abbrev pub segment_descriptor : Seg → Bool → Bool → Legacy
segment_descriptor s last done = record { address = s.address; len = s.len; eop = last; rs = last; dd = done }

-- the descriptors of a frame: DD stands in the last one once the frame is completed
abbrev pub frame_descriptors : Bool → List Seg → List Legacy
frame_descriptors done [] = []
frame_descriptors done (s ∷ []) = segment_descriptor s true done ∷ []
frame_descriptors done (s ∷ t ∷ ss) = segment_descriptor s false false ∷ frame_descriptors done (t ∷ ss)

-- their bytes before the frame is completed
abbrev pub frame_bytes : List Seg → List (List ℕ)
frame_bytes ss = map descriptor_bytes (frame_descriptors false ss)

abbrev pub descriptor_row : Seg → Bool → Row
descriptor_row s last = record { address = s.address; status = length_word s.len last false }

-- the words of the same descriptors
abbrev pub frame_rows : List Seg → List Row
frame_rows [] = []
frame_rows (s ∷ []) = descriptor_row s true ∷ []
frame_rows (s ∷ t ∷ ss) = descriptor_row s false ∷ frame_rows (t ∷ ss)

abbrev pub row_bytes : Row → List ℕ
row_bytes r = to_le_bytes w64 r.address ++ to_le_bytes w64 r.status

-- the address and the length that the words give
abbrev pub row_segment : Row → Seg
row_segment r = record { address = r.address; len = r.status % 2 ^ 16 }
