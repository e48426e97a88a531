-- Pieces that are laid out alike.
use Rattle.std.proofs.Common.{◌≡◌, ℕ, suc, ◌+◌, ◌≤◌, List, [], ◌∷◌, ◌++◌, length, refl, ap, sym, ◌∙◌, arith}
use Rattle.std.proofs.Common.{append_assoc, append-nil, length-append}
use Rattle.std.proofs.lemmas.List.{map-append}
use Rattle.std.proofs.lemmas.Grind.{flat_map-append}
use Rattle.reply_layout.specs.Pieces.{Piece, plain, piece_bytes}
use Rattle.reply_layout.specs.Layout.{Placing, copied, pinned, placing_of, placings_of, copied_of, pinned_of, runs, cut}
use Rattle.reply_layout.specs.Layout.{segments_from, layout_of}
use Rattle.reply_layout.specs.Gathered.{text_of_pieces}
use Rattle.command_exec.specs.Alike.{Alike}

pub alike_same : (t : ℕ) (xs ys : List Piece) → xs ≡ ys → Alike t xs ys
alike_same t xs ys same =
    record { text = ap text_of_pieces same; runs_are = λ run rest. ap (λ ps. runs run (placings_of t ps ++ rest)) same }

pub alike_trans : (t : ℕ) (xs ys zs : List Piece) → Alike t xs ys → Alike t ys zs → Alike t xs zs
alike_trans t xs ys zs one two = record {
  text = one.text ∙ two.text;
  runs_are = λ run rest. one.runs_are run rest
      ∙ two.runs_are run rest;
}

-- what is alike stays so behind the same placings
runs_under : (ps some more : List Placing) → ((run : ℕ) → runs run some ≡ runs run more) → (run : ℕ)
    → runs run (ps ++ some) ≡ runs run (ps ++ more)
runs_under [] some more same run = same run
runs_under (copied n ∷ ps) some more same run = runs_under ps some more same (run + n)
runs_under (pinned seg ∷ ps) some more same run = ap (λ (l : List Placing). copied run ∷ pinned seg ∷ l)
    (runs_under ps some more same 0)

both_placings : (t : ℕ) (xs us : List Piece) (rest : List Placing) → placings_of t (xs ++ us) ++ rest ≡ placings_of t xs
    ++ (placings_of t us ++ rest)
both_placings t xs us rest = ap (λ (l : List Placing). l ++ rest) (map-append (placing_of t) xs us)
    ∙ append_assoc (placings_of t xs) (placings_of t us) rest

pub alike_then : (t : ℕ) (xs ys us vs : List Piece) → Alike t xs ys → Alike t us vs → Alike t (xs ++ us) (ys ++ vs)
alike_then t xs ys us vs one two = record {
  text = flat_map-append piece_bytes xs us ∙ (λ i. one.text i ++ two.text i) ∙ sym (flat_map-append piece_bytes ys vs);
  runs_are = λ run rest.
      ap (runs run) (both_placings t xs us rest)
      ∙ one.runs_are run (placings_of t us ++ rest)
      ∙ runs_under (placings_of t ys) (placings_of t us ++ rest) (placings_of t vs ++ rest) (λ n. two.runs_are n rest)
      run
      ∙ sym (ap (runs run) (both_placings t ys vs rest));
}

-- a piece without bytes is none
pub alike_empty : (t : ℕ) → Alike t [] (plain [] ∷ [])
alike_empty t = record { text = refl; runs_are = λ run rest. ap (λ n. runs n rest) (omega arith) }

-- two pieces of copied bytes are one
pub alike_joined : (t : ℕ) (xs ys : List ℕ) → Alike t (plain xs ∷ plain ys ∷ []) (plain (xs ++ ys) ∷ [])
alike_joined t xs ys = record {
  text = sym (append_assoc xs ys []);
  runs_are = λ run rest. ap (λ n. runs n rest) (omega (arith, length-append xs ys));
}

runs_same : (t : ℕ) (xs ys : List Piece) → Alike t xs ys → runs 0 (placings_of t xs) ≡ runs 0 (placings_of t ys)
runs_same t xs ys alike =
    ap (runs 0) (sym (append-nil (placings_of t xs))) ∙ alike.runs_are 0 []
    ∙ ap (runs 0) (append-nil (placings_of t ys))

pub copied-runs : (n : ℕ) (ps : List Placing) → copied_of (runs n ps) ≡ n + copied_of ps
copied-runs n [] = refl
copied-runs n (copied m ∷ ps) = omega (arith, copied-runs (n + m) ps)
copied-runs n (pinned seg ∷ ps) = omega (arith, copied-runs 0 ps)

pinned-runs : (n : ℕ) (ps : List Placing) → pinned_of (runs n ps) ≡ pinned_of ps
pinned-runs n [] = refl
pinned-runs n (copied m ∷ ps) = pinned-runs (n + m) ps
pinned-runs n (pinned seg ∷ ps) = ap (λ m. suc m) (pinned-runs 0 ps)

pub layout_alike : (t : ℕ) (xs ys : List Piece) (stage : List ℕ) → Alike t xs ys → layout_of stage (placings_of t xs)
    ≡ layout_of stage (placings_of t ys)
layout_alike t xs ys stage alike = ap (segments_from stage 0) (runs_same t xs ys alike)

pub copied_alike : (t : ℕ) (xs ys : List Piece) → Alike t xs ys → copied_of (placings_of t xs)
    ≡ copied_of (placings_of t ys)
copied_alike t xs ys alike =
    omega (
      arith,
      copied-runs 0 (placings_of t xs),
      copied-runs 0 (placings_of t ys),
      ap copied_of
          (runs_same t xs ys alike),
    )

pub pinned_alike : (t : ℕ) (xs ys : List Piece) → Alike t xs ys → pinned_of (placings_of t xs)
    ≡ pinned_of (placings_of t ys)
pinned_alike t xs ys alike = sym (pinned-runs 0 (placings_of t xs)) ∙ ap pinned_of (runs_same t xs ys alike)
    ∙ pinned-runs 0 (placings_of t ys)

-- fewer pieces stay than there are segments
pinned_few : (stage : List ℕ) (k : ℕ) (ps : List Placing) → pinned_of ps ≤ length (segments_from stage k ps)
pinned_few stage k [] = omega arith
pinned_few stage k (copied n ∷ ps) =
    omega (arith, pinned_few stage (k + n) ps, length-append (cut stage n k n) (segments_from stage (k + n) ps))
pinned_few stage k (pinned seg ∷ ps) = omega (arith, pinned_few stage k ps)

pub pinned_laid : (stage : List ℕ) (ps : List Placing) → pinned_of ps ≤ length (layout_of stage ps)
pinned_laid stage ps = omega (arith, pinned-runs 0 ps, pinned_few stage 0 (runs 0 ps))
