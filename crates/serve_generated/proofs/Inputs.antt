-- The inputs of sessions, one after another.
use Rattle.std.proofs.Common.{◌≡◌, ◌∙◌, ℕ, ◌+◌, List, [], ◌∷◌, ◌++◌, All, map, arith, ap₂, sym, refl, subst}
use Rattle.std.specs.List.{range_with_len}
use Rattle.std.proofs.lemmas.List.Elements.{All-nil, All-cons}
use Rattle.std.proofs.lemmas.List.FromFn.{map-range_with_len_more}
use Rattle.request_gen.specs.Words.{all_words, requests_text}
use Rattle.serve_generated.specs.Input.{InputState, new_input}

-- those of the first sessions
abbrev pub inputs_below : ℕ → ℕ → ℕ → List InputState
inputs_below number count sessions = map (λ session. new_input (requests_text (all_words number session count)))
    (range_with_len 0 sessions)

-- and of one more
pub one_input_more : (number count session : ℕ) (sources news : List InputState) (source : InputState)
    → news ≡ sources ++ source ∷ [] → sources ≡ inputs_below number count session
    → source ≡ new_input (requests_text (all_words number session count))
    → news ≡ inputs_below number count (session + 1)
one_input_more number count session sources news source put are is =
    put ∙ ap₂ (λ (some : List InputState) (one : InputState). some ++ one ∷ []) are is
    ∙ sym (map-range_with_len_more (λ s. new_input (requests_text (all_words number s count))) 0 session session
    (omega arith))

-- nothing was read of them
none_read : {A : Type 0} (text : A → List ℕ) (xs : List A)
    → All (λ (s : InputState). s.given ≡ []) (map (λ x. new_input (text x)) xs)
none_read text [] = All-nil (λ (s : InputState). s.given ≡ [])
none_read text (x ∷ xs) = All-cons (λ (s : InputState). s.given ≡ []) (new_input (text x))
    (map (λ x. new_input (text x)) xs) refl (none_read text xs)

pub unread : (number count sessions : ℕ) (sources : List InputState) → sources ≡ inputs_below number count sessions
    → All (λ (s : InputState). s.given ≡ []) sources
unread number count sessions sources are =
    subst (All (λ (s : InputState). s.given ≡ [])) (sym are)
    (none_read (λ session. requests_text (all_words number session count)) (range_with_len 0 sessions))
