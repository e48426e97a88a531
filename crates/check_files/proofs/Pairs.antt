-- Inputs and replies that are read in turn.
use Rattle.std.proofs.Common.{◌≡◌, ◌<◌, ℕ, ◌+◌, ◌*◌, zero, suc, List, [], ◌∷◌, ◌++◌, Some, length, slice_get}
use Rattle.std.proofs.Common.{arith, sym, ap, ◌∙◌, subst}
use Rattle.std.proofs.lemmas.List.{length-map, map-append}
use Rattle.std.proofs.lemmas.Option.{slice_get_within}
use Rattle.flake_base.specs.Roomy.{Roomy}
use Rattle.replay_check.specs.Inputs.{contents}
use Rattle.check_files.specs.Files.{IsTextOf}
use Rattle.check_files.proofs.ReadTo.{text_there}

-- the bytes at the places of the inputs and of the replies
pub record ArePairs (texts : List (List ℕ)) (inputs replies : List (List ℕ)) : Type 0 where
  pub inputs_are : (session : ℕ) (bytes : List ℕ) → slice_get inputs session ≡ Some bytes
      → IsTextOf texts (2 * session + 1) bytes
  pub replies_are : (session : ℕ) (bytes : List ℕ) → slice_get replies session ≡ Some bytes
      → IsTextOf texts (2 * session + 2) bytes

pub no_pairs : (texts : List (List ℕ)) → ArePairs texts [] []
no_pairs texts = record {
  inputs_are = λ session bytes is. absurd (cc is);
  replies_are = λ session bytes is. absurd (cc is);
}

-- what holds of each text holds with one more
module _ (P : ℕ → List ℕ → Type 0) where
  one_more_from : (from : ℕ) (texts : List (List ℕ)) (text : List ℕ)
      → ((k : ℕ) (bytes : List ℕ) → slice_get texts k ≡ Some bytes → P (from + k) bytes) → P (from + length texts) text
      → (k : ℕ) (bytes : List ℕ) → slice_get (texts ++ text ∷ []) k ≡ Some bytes → P (from + k) bytes
  one_more_from from [] text all here zero bytes is = let same : text ≡ bytes = cc is in subst (P (from + 0)) same here
  one_more_from from [] text all here (suc k) bytes is = absurd (cc is)
  one_more_from from (first ∷ texts) text all here zero bytes is = all zero bytes is
  one_more_from from (first ∷ texts) text all here (suc k) bytes is =
      let here_next : from + suc (length texts) ≡ from + 1 + length texts = omega arith in
      let there : from + 1 + k ≡ from + suc k = omega arith in
      subst (λ n. P n bytes) there
      (one_more_from (from + 1) texts text
      (λ j other at. let next : from + suc j ≡ from + 1 + j = omega arith in subst (λ n. P n other) next
      (all (suc j) other at))
      (subst (λ n. P n text) here_next here) k bytes is)

  pub one_more : (texts : List (List ℕ)) (text : List ℕ) (n : ℕ) → length texts ≡ n
      → ((k : ℕ) (bytes : List ℕ) → slice_get texts k ≡ Some bytes → P k bytes) → P n text
      → (k : ℕ) (bytes : List ℕ) → slice_get (texts ++ text ∷ []) k ≡ Some bytes → P k bytes
  one_more texts text n is all here k bytes at =
      let zero_plus : (m : ℕ) → m ≡ 0 + m = λ m. omega arith in
      subst (λ m. P m bytes) (sym (zero_plus k))
      (one_more_from 0 texts text (λ j other there. subst (λ m. P m other) (zero_plus j) (all j other there))
      (subst (λ m. P m text) (sym is ∙ zero_plus (length texts)) here) k bytes at)

-- a pair more
pub pair_more : (texts : List (List ℕ)) (inputs replies : List (Roomy ℕ)) (input reply : Roomy ℕ)
    (new_inputs new_replies : List (Roomy ℕ)) (n : ℕ)
    → length inputs ≡ n → length replies ≡ n → new_inputs ≡ inputs ++ input ∷ [] → new_replies ≡ replies ++ reply ∷ []
    → ArePairs texts (contents inputs) (contents replies) → IsTextOf texts (2 * n + 1) input.items
    → IsTextOf texts (2 * n + 2) reply.items
    → ArePairs texts (contents new_inputs) (contents new_replies)
pair_more texts inputs replies input reply new_inputs new_replies n few_inputs few_replies inputs_is replies_is pairs
    input_is reply_is =
    let shown_inputs : contents new_inputs ≡ contents inputs ++ input.items ∷ [] = ap contents inputs_is
    ∙ map-append (λ (text : Roomy ℕ). text.items) inputs (input ∷ []) in
    let shown_replies : contents new_replies ≡ contents replies ++ reply.items ∷ [] = ap contents replies_is
    ∙ map-append (λ (text : Roomy ℕ). text.items) replies (reply ∷ []) in
    record {
      inputs_are = λ session bytes is.
          one_more (λ k text. IsTextOf texts (2 * k + 1) text) (contents inputs) input.items n
          (length-map inputs (λ (text : Roomy ℕ). text.items) ∙ few_inputs) pairs.inputs_are input_is
          session bytes (subst (λ shown. slice_get shown session ≡ Some bytes) shown_inputs is);
      replies_are = λ session bytes is.
          one_more (λ k text. IsTextOf texts (2 * k + 2) text) (contents replies) reply.items n
          (length-map replies (λ (text : Roomy ℕ). text.items) ∙ few_replies) pairs.replies_are reply_is
          session bytes (subst (λ shown. slice_get shown session ≡ Some bytes) shown_replies is);
    }

-- pairs that stand in front of what changed
pub pairs_there : (texts nows : List (List ℕ)) (n : ℕ) (inputs replies : List (List ℕ)) → length inputs ≡ n
    → length replies ≡ n → ((k : ℕ) → k < 2 * n + 1 → slice_get nows k ≡ slice_get texts k)
    → ArePairs texts inputs replies → ArePairs nows inputs replies
pairs_there texts nows n inputs replies few_inputs few_replies same pairs = record {
  inputs_are = λ session bytes is.
      text_there texts nows (2 * session + 1) bytes
      (same (2 * session + 1) (omega (arith, slice_get_within inputs session bytes is, few_inputs)))
      (pairs.inputs_are session bytes is);
  replies_are = λ session bytes is.
      text_there texts nows (2 * session + 2) bytes
      (same (2 * session + 2) (omega (arith, slice_get_within replies session bytes is, few_replies)))
      (pairs.replies_are session bytes is);
}
