-- What came of an element that isn't whole is cut short.
use Rattle.std.proofs.Common.{ℕ, List, [], ◌∷◌, ◌++◌, refl, sym, append_assoc, lit<}
use Rattle.std.specs.Fmt.{decimal}
use Rattle.flake_model.specs.Resp.{Words, element_text, null_array, IsElementFront}
use Rattle.flake_model.specs.Fronts.{word_front}
use Rattle.flake_model.proofs.Fronts.{cut_in_word, cut_at_word, cut_in_null}
use Rattle.flake_model.proofs.FirstNumber.{cut_behind_cr}
use Rattle.flake_model.proofs.FirstWord.{cut_in_length, cut_in_bytes}
use Rattle.resp_reader.specs.declared.begun.State.{State}
use Rattle.resp_reader.specs.declared.begun.State.TheVariants.{Start, InCount, CountEnd, AtWord, InLength, LengthEnd}
use Rattle.resp_reader.specs.declared.begun.State.TheVariants.{InWord, WordEnd, Null, Whole}
use Rattle.resp_reader.specs.Begun.{state_front, IsState, IsUnfinished}
use Rattle.resp_reader.proofs.Moves.{cut_count, cut_count_end, length_begins}

pub cut_short : (state : State) (words : Words) (word : List ℕ) → IsState state words word → IsUnfinished state
    → IsElementFront (state_front state words word)
cut_short Start words word sound awaits = cut_in_null [] (element_text null_array) refl (lit< tt)
cut_short (InCount digits) words word sound awaits = cut_count digits sound.2
cut_short (CountEnd digits) words word sound awaits = cut_count_end digits sound.2 sound.3
cut_short (AtWord count) words word sound awaits = cut_at_word count words sound.0.most sound.0.allowed sound.0.less
cut_short (InLength count digits) words word sound awaits =
    let found = length_begins digits sound.2 in
    cut_in_word count words found.word _ found.more sound.0.most sound.0.allowed sound.0.less found.allowed
    found.goes_on found.some
cut_short (LengthEnd count len) words word sound awaits =
    let found = cut_in_length (decimal len ++ 13 ∷ []) (cut_behind_cr 1048576 len sound.2) in
    cut_in_word count words found.word (36 ∷ (decimal len ++ 13 ∷ [])) found.more sound.0.most sound.0.allowed
    sound.0.less found.allowed found.goes_on found.some
cut_short (InWord count len) words word sound awaits =
    let found = cut_in_bytes len word sound.1 sound.2 in
    cut_in_word count words found.word (36 ∷ (decimal len ++ 13 ∷ 10 ∷ word)) found.more sound.0.most sound.0.allowed
    sound.0.less found.allowed found.goes_on found.some
cut_short (WordEnd count) words word sound awaits =
    cut_in_word count words word (word_front word ++ 13 ∷ []) (10 ∷ []) sound.0.most sound.0.allowed sound.0.less
    sound.1 (sym (append_assoc (word_front word) (13 ∷ []) (10 ∷ []))) (lit< tt)
cut_short Null words word sound awaits = absurd awaits
cut_short (Whole count) words word sound awaits = absurd awaits
