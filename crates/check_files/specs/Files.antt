-- The files that a check reads: a journal, and then each session's input and its replies.
use Rattle.std.specs.Prelude.{◌≡◌, ℕ, ◌+◌, ◌*◌, ◌%◌, ◌<◌, ◌≤◌, ◌==◌, if◌then◌else◌, Bool, true}
use Rattle.std.specs.Prelude.{List, [], ◌∷◌, Some, length, drop, slice_get, IsSomeAnd}
use Rattle.std.specs.List.{AllByRecursion}
use Rattle.check_files.specs.Whole.{GaveMore}

-- how many bytes a file may have: inputs stand at the odd places
abbrev pub file_limit : ℕ → ℕ
file_limit place = if place % 2 == 1 then 67_108_864 else 134_217_728

-- what each file gave since it had given these bytes
abbrev pub texts_since : List (List ℕ) → List (List ℕ) → List (List ℕ)
texts_since [] news = []
texts_since (old ∷ olds) [] = []
texts_since (old ∷ olds) (new ∷ news) = drop (length old) new ∷ texts_since olds news

-- each gave more, or nothing
abbrev pub AllGaveMore : List (List ℕ) → List (List ℕ) → Type 0
AllGaveMore olds news = (k : ℕ) (old : List ℕ) → slice_get olds k ≡ Some old
    → IsSomeAnd (slice_get news k) (λ new. GaveMore old new)

-- each was read to its end
abbrev pub AllReadToEnd : List Bool → Type 0
AllReadToEnd endeds = AllByRecursion (λ ended. ended ≡ true) endeds

-- these are all bytes that the file at this place gave, and no more than it may have
pub record IsTextOf (texts : List (List ℕ)) (place : ℕ) (bytes : List ℕ) : Type 0 where
  pub text_is : slice_get texts place ≡ Some bytes
  pub within : length bytes ≤ file_limit place

-- the files in front of this place gave no more bytes than they may have
abbrev pub AreWithin : List (List ℕ) → ℕ → Type 0
AreWithin texts place = (k : ℕ) (text : List ℕ) → k < place → slice_get texts k ≡ Some text
    → length text ≤ file_limit k

-- these are the bytes of the journal's file, and of those at the places of the inputs and of the replies
pub record AreContents (texts : List (List ℕ)) (journal : List ℕ) (inputs replies : List (List ℕ)) : Type 0 where
  pub journal_is : IsTextOf texts 0 journal
  -- a session for each pair
  pub sessions : 2 * length inputs + 1 ≡ length texts
  pub as_many : length replies ≡ length inputs
  pub inputs_are : (session : ℕ) (bytes : List ℕ) → slice_get inputs session ≡ Some bytes
      → IsTextOf texts (2 * session + 1) bytes
  pub replies_are : (session : ℕ) (bytes : List ℕ) → slice_get replies session ≡ Some bytes
      → IsTextOf texts (2 * session + 2) bytes
