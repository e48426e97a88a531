-- An input holds all its bytes, however far it was read.
use Rattle.std.proofs.Common.{◌≡◌, ℕ, ◌≤◌, ◌++◌, Bool, true, false, List, length, take, drop, refl, ap, sym}
use Rattle.std.proofs.Common.{◌∙◌, arith}
use Rattle.std.proofs.lemmas.List.{take-append-drop, nil_from_length, length-drop}
use Rattle.serve_generated.specs.Input.{bytes_held}

-- behind a read that gave none there is nothing
pub held_all : (bytes : List ℕ) (at : ℕ) (ended : Bool) → (ended ≡ true → length bytes ≤ at)
    → bytes_held (record { given = take at bytes; left = drop at bytes; ended = ended }) ≡ bytes
held_all bytes at false over = take-append-drop at bytes
held_all bytes at true over =
    ap (λ (left : List ℕ). take at bytes ++ left)
    (sym (nil_from_length (drop at bytes) (omega (arith, length-drop at bytes, over refl)))) ∙ take-append-drop at bytes
