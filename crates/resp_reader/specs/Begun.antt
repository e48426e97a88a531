-- An element as far as it came.
use Rattle.std.specs.Prelude.{◌≡◌, ℕ, ◌+◌, ◌<◌, ◌≤◌, List, [], ◌∷◌, ◌++◌, length, ⊤}
use Rattle.std.specs.Fmt.{decimal}
use Rattle.std.specs.List.{AllByRecursion}
use Rattle.resp_reader.specs.declared.head.Head.TheVariants.{Count, Length}
use Rattle.resp_reader.specs.declared.begun.State.{State}
use Rattle.resp_reader.specs.declared.begun.State.TheVariants.{Start, InCount, CountEnd, AtWord, InLength}
use Rattle.resp_reader.specs.declared.begun.State.TheVariants.{LengthEnd, InWord, WordEnd, Null, Whole}
use Rattle.resp_reader.specs.declared.begun.Begun.{Begun}
use Rattle.resp_reader.specs.declared.begun.Stop.{Stop}
use Rattle.resp_reader.specs.declared.begun.Stop.TheVariants.{Fault, Memory}
use Rattle.flake_model.specs.Resp.{Words, IsWord, null_array, element_text, IsFaulty}
use Rattle.flake_model.specs.Fronts.{array_front, word_front}
use Rattle.resp_reader.specs.WordRoom.{GrowsFrom}
use Rattle.resp_reader.specs.Head.{digits_text, IsDigits, MayEnd}

-- the bytes that lead to a state, by the words so far and what has come of the next
abbrev pub state_front : State → Words → List ℕ → List ℕ
state_front Start words word = []
state_front (InCount digits) words word = 42 ∷ digits_text digits
state_front (CountEnd digits) words word = 42 ∷ (digits_text digits ++ 13 ∷ [])
state_front (AtWord count) words word = array_front count words
state_front (InLength count digits) words word = array_front count words ++ 36 ∷ digits_text digits
state_front (LengthEnd count len) words word = array_front count words ++ 36 ∷ (decimal len ++ 13 ∷ [])
state_front (InWord count len) words word = array_front count words ++ 36 ∷ (decimal len ++ 13 ∷ 10 ∷ word)
state_front (WordEnd count) words word = array_front count words ++ (word_front word ++ 13 ∷ [])
state_front Null words word = element_text null_array
state_front (Whole count) words word = array_front count words

-- the words so far are allowed, and not all
pub record IsArray (count : ℕ) (words : Words) : Type 0 where
  pub allowed : AllByRecursion IsWord words
  pub less : length words < count
  pub most : count ≤ 1024

abbrev pub IsState : State → Words → List ℕ → Type 0
IsState Start words word = (words ≡ []) × (word ≡ [])
IsState (InCount digits) words word = (words ≡ []) × (word ≡ []) × IsDigits Count digits
IsState (CountEnd digits) words word = (words ≡ []) × (word ≡ []) × IsDigits Count digits × MayEnd digits
IsState (AtWord count) words word = IsArray count words × (word ≡ [])
IsState (InLength count digits) words word = IsArray count words × (word ≡ []) × IsDigits Length digits
IsState (LengthEnd count len) words word = IsArray count words × (word ≡ []) × (len ≤ 1048576)
IsState (InWord count len) words word = IsArray count words × (length word ≤ len) × (len ≤ 1048576)
IsState (WordEnd count) words word = IsArray count words × IsWord word
IsState Null words word = (words ≡ []) × (word ≡ [])
IsState (Whole count) words word = AllByRecursion IsWord words × (length words ≡ count) × (count ≤ 1024) × (word ≡ [])

-- no element is whole
abbrev pub IsUnfinished : State → Type 0
IsUnfinished Start = ⊤
IsUnfinished (InCount digits) = ⊤
IsUnfinished (CountEnd digits) = ⊤
IsUnfinished (AtWord count) = ⊤
IsUnfinished (InLength count digits) = ⊤
IsUnfinished (LengthEnd count len) = ⊤
IsUnfinished (InWord count len) = ⊤
IsUnfinished (WordEnd count) = ⊤
IsUnfinished Null = ⊥
IsUnfinished (Whole count) = ⊥

-- A state leads to another by the bytes up to the rest, whatever the words are.
abbrev pub Moves : State → List ℕ → State → List ℕ → Type 0
Moves old bytes new rest = (words : Words) (word : List ℕ) → IsState old words word → IsState new words word
    × (state_front old words word ++ bytes ≡ state_front new words word ++ rest)

-- The bytes have an error at this place behind those that lead to the state.
abbrev pub Stops : State → List ℕ → Stop → Type 0
Stops state bytes (Fault kind place) = (words : Words) (word : List ℕ) → IsState state words word
    → IsFaulty (state_front state words word ++ bytes) [] kind (length (state_front state words word) + place)
Stops state bytes Memory = ⊤

abbrev pub begun_front : Begun → List ℕ
begun_front begun = state_front begun.state begun.room.words begun.room.word

abbrev pub IsBegunSound : Begun → Type 0
IsBegunSound begun = IsState begun.state begun.room.words begun.room.word

abbrev pub Grows : Begun → Begun → Type 0
Grows old new = GrowsFrom old.room.words old.room.word new.room.words new.room.word

-- The bytes have an error at this place behind the front.
abbrev pub Breaks : Begun → List ℕ → Stop → Type 0
Breaks begun bytes (Fault kind place) = IsFaulty (begun_front begun ++ bytes) [] kind
    (length (begun_front begun) + place)
Breaks begun bytes Memory = ⊤
