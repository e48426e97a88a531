-- Both ways to cut a value are one.
use Rattle.std.proofs.Common.{◌≡◌, ℕ, zero, suc, ◌+◌, ◌/◌, ◌≤◌, List, [], ◌∷◌, length, drop, take, refl, ap, ◌∙◌, arith}
use Rattle.std.proofs.lemmas.List.{length-drop}
use Rattle.frag_value.specs.Fragments.{pieces}
use Rattle.flake_model.specs.Fragments.{cuts}
use Rattle.serve_model.specs.Cuts.{CutsAgree}

cut_alike : (n : ℕ) (bytes : List ℕ) → length bytes ≤ n → pieces ((length bytes + 4095) / 4096) bytes ≡ cuts n bytes
cut_alike zero [] few = refl
cut_alike zero (byte ∷ bytes) few = absurd (let no : ⊥ = omega arith in no)
cut_alike (suc n) [] few = refl
cut_alike (suc n) (byte ∷ bytes) few =
    let w = byte ∷ bytes in
    let k = (length (drop 4096 w) + 4095) / 4096 in
    let count : (length w + 4095) / 4096 ≡ suc k = omega (arith, length-drop 4096 w) in
    ap (λ m. pieces m w) count
    ∙ ap (λ (rest : List (List ℕ)). take 4096 w ∷ rest)
    (cut_alike n (drop 4096 w) (omega (arith, length-drop 4096 w)))

pub cuts_agree : CutsAgree
cuts_agree bytes = cut_alike (length bytes) bytes (omega arith)
