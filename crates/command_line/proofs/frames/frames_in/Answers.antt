use Rattle.std.proofs.Common.{◌≡◌, ◌≤◌, ◌-◌, ◌∷◌, ◌∙◌, Bor, List, [], ℕ, IfOk, ap, length, map, take, drop, get_or}
use Rattle.std.proofs.Common.{option_map, refl, subst}
use Rattle.std.proofs.lemmas.List.{take_rest}
use Rattle.clap.specs.Matches.{found_of}
use Rattle.clap.specs.Walk.{rows_of}
use Rattle.command_line.specs.Frames.{frames_for, shown_frames}
use Rattle.command_line.proofs.frames.frames_in.Goals as goal

abbrev texts : List (Bor (List ℕ)) → List (List ℕ)
texts words = map (λ (word : Bor (List ℕ)). word.now) words

-- the first word, and the others
first_is : (words : List (Bor (List ℕ))) (d : Bor (List ℕ)) → 1 ≤ length words
    → (get_or words 0 d).now ∷ texts (drop 1 words) ≡ texts words
first_is [] d none = elim none [ ]
first_is (word ∷ words) d _ = refl

pub returns-in-len1-up-clause-value : goal.returns-in-len1-up-clause-value
returns-in-len1-up-clause-value c =
    let words = c.as_slice.result.now in
    let d : Bor (List ℕ) = record { ref_ptr = (0, 0); now = [] } in
    let whole : (get_or words 0 d).now ∷ texts (take (length words - 1) (drop 1 words)) ≡ texts words =
    ap (λ (rest : List (Bor (List ℕ))). (get_or words 0 d).now ∷ texts rest) (take_rest words 1)
    ∙ first_is words d c.in-len1-up.len_at_least in
    subst (λ (words : List (List ℕ)). IfOk c.frames_with.result
    (λ task. option_map shown_frames task ≡ frames_for (rows_of (found_of c.args.matches.now)) words))
    (whole ∙ ap texts c.as_slice.ensures.value ∙ c.in_ok-words.ensures) c.frames_with.ensures.value
