-- A frame as descriptor words, two for each segment, and as the slots of its descriptors.
use Rattle.std.specs.Prelude.{ℕ, ◌+◌, ◌-◌, ◌*◌, ◌^◌, ◌<◌, ◌≤◌, List, [], ◌∷◌, ◌++◌, Bool, true, false, cond, length, ⊤}
use Rattle.std.specs.Prelude.{replicate, Option, Some, None}
use Rattle.flake_base.specs.declared.segment.Seg.{Seg}

-- the length, EOP and RS in byte 11, DD in byte 12
abbrev pub length_word : ℕ → Bool → Bool → ℕ
length_word len last done = len + cond last (9 * 2 ^ 24) 0 + cond done (2 ^ 32) 0

-- all words of a frame but the last, which is the only one that a write back changes
abbrev pub front : List Seg → List ℕ
front [] = []
front (s ∷ []) = s.address ∷ []
front (s ∷ t ∷ ss) = s.address ∷ length_word s.len false false ∷ front (t ∷ ss)

abbrev pub last_len : List Seg → ℕ
last_len [] = 0
last_len (s ∷ []) = s.len
last_len (s ∷ t ∷ ss) = last_len (t ∷ ss)

abbrev pub frame_words : Bool → List Seg → List ℕ
frame_words done ss = front ss ++ length_word (last_len ss) true done ∷ []

-- the words of segments that do not end a frame
abbrev pub pairs : List Seg → List ℕ
pairs [] = []
pairs (s ∷ ss) = s.address ∷ length_word s.len false false ∷ pairs ss

abbrev pub EachElement : {A : Type 0} → (A → Type 0) → List A → Type 0
EachElement F [] = ⊤
EachElement F (x ∷ xs) = F x × EachElement F xs

-- a segment that one descriptor may name
abbrev pub IsShortSegment : Seg → Type 0
IsShortSegment s = (0 < s.len) × (s.len ≤ 4096)

-- a frame that may be posted
abbrev pub IsFrame : List Seg → Type 0
IsFrame ss = (0 < length ss) × EachElement IsShortSegment ss

module _ {P : Type 0} (segs : P → List Seg) where
  abbrev pub size : P → ℕ
  size f = length (segs f)

  -- how many descriptors the frames have
  abbrev pub extent : List P → ℕ
  extent [] = 0
  extent (f ∷ fs) = size f + extent fs

  abbrev pub lay : Bool → List P → List ℕ
  lay done [] = []
  lay done (f ∷ fs) = frame_words done (segs f) ++ lay done fs

  -- what the slots of the frames' descriptors hold: each frame lies in that of its last one
  abbrev pub stops : List P → List (Option P)
  stops [] = []
  stops (f ∷ fs) = replicate (size f - 1) None ++ Some f ∷ stops fs
