-- Words behind one another in one room, and the front of the next.
use Rattle.std.specs.Prelude.{◌≡◌, ℕ, zero, suc, ◌≤◌, ◌⊎◌, List, [], ◌∷◌, ◌++◌, length, slice_range}
use Rattle.std.specs.List.{AllByRecursion}
use Rattle.flake_model.specs.Resp.{Words, IsWord}
use Rattle.flake_model.specs.Fronts.{array_front}
use Rattle.resp_reader.specs.declared.word_room.Span.{Span}

pub record Held : Type 0 where
  -- the whole words
  pub words : Words
  -- what came of the next
  pub word : List ℕ

abbrev pub held : Words → List ℕ → Held
held words word = record { words = words; word = word }

-- the words that lie so
abbrev pub words_at : List Span → List ℕ → Words
words_at [] bytes = []
words_at (span ∷ spans) bytes = slice_range bytes span.start span.end ∷ words_at spans bytes

-- where the next word begins
abbrev pub last_end : ℕ → List Span → ℕ
last_end start [] = start
last_end start (span ∷ spans) = last_end span.end spans

-- where the word at a place begins, or the next
abbrev pub word_start : ℕ → List Span → ℕ → ℕ
word_start start [] n = start
word_start start (span ∷ spans) zero = span.start
word_start start (span ∷ spans) (suc n) = word_start span.end spans n

-- the words lie behind one another, from here to no more than this
abbrev pub AreSpans : ℕ → List Span → ℕ → Type 0
AreSpans start [] most = start ≤ most
AreSpans start (span ∷ spans) most = (start ≤ span.start) × (span.start ≤ span.end) × AreSpans span.end spans most

-- The new words begin with the old, and what had come of the next one is still in front.
abbrev pub GrowsFrom : Words → List ℕ → Words → List ℕ → Type 0
GrowsFrom words word news new =
    ((more : List ℕ) × (news ≡ words) × (new ≡ word ++ more))
    ⊎ ((more : List ℕ) × (others : Words) × (news ≡ words ++ (word ++ more) ∷ others))

-- the words so far are allowed, and maybe all
pub record AreWordsOf (count : ℕ) (words : Words) : Type 0 where
  pub allowed : AllByRecursion IsWord words
  pub most : length words ≤ count

-- words were found at the front of the bytes, and lie behind the room where those taken are put there
pub record Finds (count : ℕ) (room : List ℕ) (old new : List Span) (bytes taken rest : List ℕ) : Type 0 where
  pub spans : AreSpans 0 new (length (room ++ taken))
  pub last : last_end 0 new ≡ length (room ++ taken)
  pub words : AreWordsOf count (words_at new (room ++ taken))
  pub front : array_front count (words_at old room) ++ bytes ≡ array_front count (words_at new (room ++ taken)) ++ rest
  pub grows : GrowsFrom (words_at old room) [] (words_at new (room ++ taken)) []
