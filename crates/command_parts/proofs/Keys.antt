-- The test of the keys, one key after another.
use Rattle.std.proofs.Common.{◌≡◌, ◌∙◌, sym, ap, ℕ, ◌+◌, ◌<◌, ◌≤◌, nat_le, Bool, true, false, List, [], length, take}
use Rattle.std.proofs.Common.{drop, get_or, arith, refl}
use Rattle.std.specs.List.{list_all}
use Rattle.std.proofs.lemmas.Bool.{le-leb, lt-leb}
use Rattle.std.proofs.lemmas.List.{get_or-take}
use Rattle.std.proofs.lemmas.List.Folds.{list_all_more, list_all_at}
use Rattle.std.proofs.lemmas.Grind.{get_or_after_one, common_steps}
use Rattle.flake_model.specs.Resp.{Words}

-- a key is as short as it has to be
abbrev pub is_short : List ℕ → Bool
is_short key = nat_le (length key) 512

-- the key at a place is the word one further on
key_at : (words : Words) (j : ℕ) (key : List ℕ) → key ≡ get_or words (j + 1) [] → get_or (drop 1 words) j [] ≡ key
key_at words j key is = grind (arith, get_or_after_one words j [], is)

pub one_more : (words : Words) (j : ℕ) (key : List ℕ) → j + 1 < length words → key ≡ get_or words (j + 1) []
    → length key ≤ 512
    → list_all is_short (take j (drop 1 words)) ≡ true → list_all is_short (take (j + 1) (drop 1 words)) ≡ true
one_more words j key within is short before =
    let at = key_at words j key is in
    let last : is_short (get_or (drop 1 words) j []) ≡ true = ap is_short at ∙ le-leb (length key) 512 short in
    let more = list_all_more is_short (drop 1 words) j [] (grind (arith, common_steps)) in
    more ∙ (rw (before, last) refl)

pub one_too_long : (words : Words) (keys j : ℕ) (key : List ℕ) → j < keys → keys < length words
    → key ≡ get_or words (j + 1) [] → 512 < length key
    → false ≡ list_all is_short (take keys (drop 1 words))
one_too_long words keys j key before within is long =
    let at = get_or-take keys (drop 1 words) j [] before ∙ key_at words j key is in
    let bad : is_short (get_or (take keys (drop 1 words)) j []) ≡ false = ap is_short at
    ∙ lt-leb (length key) 512 long in
    sym (list_all_at is_short (take keys (drop 1 words)) j [] (grind (arith, common_steps)) bad)
