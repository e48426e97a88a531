-- Words that came whole, one behind the other.
use Rattle.std.proofs.Common.{◌≡◌, ◌≢◌, ℕ, ◌<◌, ◌≤◌, ◌⊎◌, inl, inr, List, [], ◌∷◌, ◌++◌, length, arith, ap, sym, ◌∙◌}
use Rattle.std.proofs.Common.{append_assoc, length-append, subst}
use Rattle.std.proofs.lemmas.Bool.{cases_lt}
use Rattle.std.proofs.lemmas.List.{flat_map_more}
use Rattle.flake_model.specs.Resp.{Words, IsWord, bulk_string, array_head}
use Rattle.flake_model.specs.Fronts.{array_front}
use Rattle.flake_model.proofs.Streams.{all_append}
use Rattle.resp_reader.specs.declared.begun.State.{State}
use Rattle.resp_reader.specs.declared.begun.State.TheVariants.{AtWord, Whole}
use Rattle.resp_reader.specs.WordRoom.{AreWordsOf}
use Rattle.resp_reader.specs.Begun.{IsState, state_front}

pub words_on : (count : ℕ) (words : Words) (word : List ℕ) → AreWordsOf count words → IsWord word
    → length words < count → AreWordsOf count (words ++ word ∷ [])
words_on count words word are allowed less = record {
  allowed = all_append IsWord words (word ∷ []) are.allowed (allowed, tt);
  most = omega (arith, length-append words (word ∷ []));
}

pub front_on : (count : ℕ) (words : Words) (word rest : List ℕ)
    → array_front count words ++ (bulk_string word ++ rest) ≡ array_front count (words ++ word ∷ []) ++ rest
front_on count words word rest =
    let more : array_front count words ++ bulk_string word ≡ array_front count (words ++ word ∷ []) =
    flat_map_more bulk_string (array_head count) words word in
    sym (append_assoc (array_front count words) (bulk_string word) rest) ∙ ap (λ (f : List ℕ). f ++ rest) more

-- the state behind the words that came
state_behind : (count came : ℕ) (state : State) (words : Words) → AreWordsOf count words → came ≡ length words
    → (came ≡ count → state ≡ Whole count) → (came ≢ count → state ≡ AtWord count)
    → ((state ≡ AtWord count) × (length words < count)) ⊎ ((state ≡ Whole count) × (length words ≡ count))
state_behind count came state words are came_is whole more = elim (cases_lt came count) [
  | inl less ↦ inl (more (λ e. absurd (omega (arith, less, e))), omega (arith, less, came_is))
  | inr large ↦ inr (whole (omega (arith, large, are.most, came_is)), omega (arith, large, are.most, came_is))
]

pub words_sound : (count came : ℕ) (state : State) (words : Words) (word : List ℕ) → AreWordsOf count words
    → word ≡ [] → count ≤ 1024 → came ≡ length words → (came ≡ count → state ≡ Whole count)
    → (came ≢ count → state ≡ AtWord count) → IsState state words word
words_sound count came state words word are none most came_is whole more =
    elim (state_behind count came state words are came_is whole more) [
      | inl at ↦ subst (λ s. IsState s words word) (sym at.0)
          (record { allowed = are.allowed; less = at.1; most = most }, none)
      | inr at ↦ subst (λ s. IsState s words word) (sym at.0) (are.allowed, at.1, most, none)
    ]

pub words_front : (count came : ℕ) (state : State) (words : Words) (word : List ℕ) → AreWordsOf count words
    → came ≡ length words → (came ≡ count → state ≡ Whole count) → (came ≢ count → state ≡ AtWord count)
    → state_front state words word ≡ array_front count words
words_front count came state words word are came_is whole more =
    elim (state_behind count came state words are came_is whole more) [
      | inl at ↦ ap (λ s. state_front s words word) at.0
      | inr at ↦ ap (λ s. state_front s words word) at.0
    ]
