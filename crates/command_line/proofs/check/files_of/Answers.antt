use Rattle.std.proofs.Common.{◌≡◌, ◌+◌, ◌<◌, ℕ, suc, List, [], ◌∷◌, ◌++◌, Bor, Option, length, map, take, get_or, arith}
use Rattle.std.proofs.Common.{sym, ap, ap₂, ◌∙◌, option_map, length-append}
use Rattle.std.proofs.lemmas.List.{length-map, length-take-le, map-append, take_more}
use Rattle.command_line.specs.Check.{file_at, files_from}
use Rattle.command_line.proofs.check.files_of.Goals as goal

-- the files of one word more
files_more : (place : ℕ) (words : List (List ℕ)) (word : List ℕ) → files_from place (words ++ word ∷ [])
    ≡ files_from place words ++ file_at (place + length words) word ∷ []
files_more place [] word = let same : place ≡ place + 0 = omega arith in ap (λ p. file_at p word ∷ []) same
files_more place (first ∷ words) word =
    let same : place + 1 + length words ≡ place + suc (length words) = omega arith in
    ap (λ rest. file_at place first ∷ rest)
    (files_more (place + 1) words word ∙ ap (λ p. files_from (place + 1) words ++ file_at p word ∷ []) same)

-- the same, as a loop over the words has it
files_step : (words : List (Bor (List ℕ))) (k : ℕ) (d : Bor (List ℕ)) → k < length words
    → files_from 0 (map (λ w. w.now) (take (k + 1) words)) ≡ files_from 0 (map (λ w. w.now) (take k words))
    ++ file_at k (get_or words k d).now ∷ []
files_step words k d within =
    let front = take k words in
    let number : 0 + length (map (λ (w : Bor (List ℕ)). w.now) front) ≡ k =
    let count = length-map front (λ (w : Bor (List ℕ)). w.now) in let most = length-take-le k words (omega arith) in
    omega (arith, count, most) in
    ap (λ ws. files_from 0 (map (λ (w : Bor (List ℕ)). w.now) ws)) (take_more words k d within)
    ∙ ap (files_from 0) (map-append (λ (w : Bor (List ℕ)). w.now) front (get_or words k d ∷ []))
    ∙ files_more 0 (map (λ (w : Bor (List ℕ)). w.now) front) (get_or words k d).now
    ∙ ap (λ p. files_from 0 (map (λ (w : Bor (List ℕ)). w.now) front) ++ file_at p (get_or words k d).now ∷ []) number

pub loop-place-preserved : goal.loop-place-preserved
loop-place-preserved c =
    let words = c.args.words.now in
    let k = c.loop-place.place in
    let before = c.loop-place.invariant in
    let pushed = c.in_ok-push.ensures.items in
    record {
      value = ap (map (λ (file : Option (Bor (List ℕ))). option_map (λ name. name.now) file)) pushed
          ∙ map-append (λ (file : Option (Bor (List ℕ))). option_map (λ name. name.now) file) c.loop-place.files.items
          (c.file_at.result ∷ [])
          ∙ ap₂ (λ (fs : List (Option (List ℕ))) (f : Option (List ℕ)). fs ++ f ∷ []) before.value c.file_at.ensures
          ∙ sym (files_step words k (record { ref_ptr = (0, 0); now = [] }) c.loop-place-test.true);
      len = omega (arith, ap length pushed, length-append c.loop-place.files.items (c.file_at.result ∷ []), before.len);
    }
