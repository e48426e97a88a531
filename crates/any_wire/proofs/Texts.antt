-- A wire, while texts are sent on it one after another.
use Rattle.std.proofs.Common.{◌≡◌, ℕ, zero, suc, ◌+◌, ◌≤◌, Bool, true, false, List, [], ◌∷◌, ◌++◌, length, slice_get}
use Rattle.std.proofs.Common.{Some, arith, refl, ap, sym, ◌∙◌, subst, append-nil}
use Rattle.std.specs.Prelude.{take, unwrap_or}
use Rattle.std.proofs.lemmas.Grind.{flat_map-append}
use Rattle.any_wire.specs.Texts.{joined, AreWhole, Sending, WireGrew, IsSending}

joined-append : (some more : List (List ℕ)) → joined (some ++ more) ≡ joined some ++ joined more
joined-append some more = flat_map-append (λ text. text) some more

take-suc : {A : Type 0} (xs : List A) (n : ℕ) (x : A) → slice_get xs n ≡ Some x → take (suc n) xs ≡ take n xs ++ x ∷ []
take-suc [] n x is = absurd (cc)
take-suc (y ∷ xs) zero x is = let same : y ≡ x = cc in ap (λ z. z ∷ []) same
take-suc (y ∷ xs) (suc n) x is = ap (λ rest. y ∷ rest) (take-suc xs n x is)

take-next : {A : Type 0} (xs : List A) (n : ℕ) (x : A) → slice_get xs n ≡ Some x → take (n + 1) xs ≡ take n xs ++ x ∷ []
take-next xs n x is = let next : suc n ≡ n + 1 = omega arith in subst (λ m. take m xs ≡ take n xs ++ x ∷ []) next
    (take-suc xs n x is)

take-front : {A : Type 0} (xs ys : List A) (n : ℕ) → n ≤ length xs → take n (xs ++ ys) ≡ take n xs
take-front xs ys zero below = refl
take-front [] ys (suc n) below = absurd (omega arith)
take-front (x ∷ xs) ys (suc n) below = ap (λ rest. x ∷ rest) (take-front xs ys n (omega arith))

-- the text at a place, or none
abbrev text_at : List (List ℕ) → ℕ → List ℕ
text_at texts n = unwrap_or (slice_get texts n) []

-- a text more changes nothing before it; at its place there was none
data TextAt (texts : List (List ℕ)) (more : List ℕ) (n : ℕ) : Type 0 where
  before : text_at (texts ++ more ∷ []) n ≡ text_at texts n → TextAt texts more n
  here : text_at texts n ≡ [] → text_at (texts ++ more ∷ []) n ≡ more → TextAt texts more n

one_more_text : (texts : List (List ℕ)) (more : List ℕ) (n : ℕ) → n ≤ length texts → TextAt texts more n
one_more_text [] more zero below = here refl refl
one_more_text [] more (suc n) below = absurd (omega arith)
one_more_text (text ∷ texts) more zero below = before refl
one_more_text (text ∷ texts) more (suc n) below = later (one_more_text texts more n (omega arith))
  where
    later : TextAt texts more n → TextAt (text ∷ texts) more (suc n)
    later (before is) = before is
    later (here none is) = here none is

next_text : (texts : List (List ℕ)) (n : ℕ) (text : List ℕ) → slice_get texts n ≡ Some text
    → joined (take (n + 1) texts) ≡ joined (take n texts) ++ text
next_text texts n text at = ap joined (take-next texts n text at) ∙ joined-append (take n texts) (text ∷ [])
    ∙ ap (λ last. joined (take n texts) ++ last) (append-nil text)

module _ {W : Type 0} (sends : Sending W) (is : IsSending sends) where
  pub wire_fresh : (texts : List (List ℕ)) (wire : W) → WireGrew sends false 0 texts wire wire
  wire_fresh texts wire = record { middle = wire; before = is.nothing wire; behind = is.nothing wire }

  -- all that was sent so far
  sent_so_far : (whole : ℕ) (texts : List (List ℕ)) (start wire : W) → WireGrew sends false whole texts start wire
      → sends false (joined (take whole texts)) start wire
  sent_so_far whole texts start wire grew =
      subst (λ text. sends false text start wire) (append-nil (joined (take whole texts)))
      (is.joins false (joined (take whole texts)) [] start grew.middle wire grew.before grew.behind)

  -- a reply was posted
  pub wire_longer : (failed : Bool) (whole completed : ℕ) (texts : List (List ℕ)) (more : List ℕ) (start wire : W)
      → AreWhole failed whole completed → completed ≤ length texts
      → WireGrew sends failed whole texts start wire → WireGrew sends failed whole (texts ++ more ∷ []) start wire
  wire_longer false whole completed texts more start wire so below grew = record {
    middle = grew.middle;
    before = subst (λ firsts. sends false (joined firsts) start grew.middle)
        (sym (take-front texts (more ∷ []) whole (omega arith))) grew.before;
    behind = grew.behind;
  }
  wire_longer true whole completed texts more start wire so below grew = record {
    middle = grew.middle;
    before = subst (λ firsts. sends false (joined firsts) start grew.middle)
        (sym (take-front texts (more ∷ []) whole (omega arith))) grew.before;
    behind = at_end (one_more_text texts more whole (omega arith));
  }
    where
      at_end : TextAt texts more whole → sends true (text_at (texts ++ more ∷ []) whole) grew.middle wire
      at_end (before same) = subst (λ text. sends true text grew.middle wire) (sym same) grew.behind
      at_end (here none now) = subst (λ text. sends true text grew.middle wire) (sym now)
          (is.longer [] more grew.middle wire (subst (λ text. sends true text grew.middle wire) none grew.behind))

  -- a reply was sent
  pub wire_sent : (whole : ℕ) (texts : List (List ℕ)) (text : List ℕ) (start wire now : W) → slice_get texts whole
      ≡ Some text → WireGrew sends false whole texts start wire → sends false text wire now
      → WireGrew sends false (whole + 1) texts start now
  wire_sent whole texts text start wire now at grew sent = record {
    middle = now;
    before = subst (λ all. sends false all start now) (sym (next_text texts whole text at))
        (is.joins false (joined (take whole texts)) text start wire now (sent_so_far whole texts start wire grew) sent);
    behind = is.nothing now;
  }

  -- a put failed in it
  pub wire_cut : (whole : ℕ) (texts : List (List ℕ)) (text : List ℕ) (start wire now : W) → slice_get texts whole
      ≡ Some text → WireGrew sends false whole texts start wire → sends true text wire now
      → WireGrew sends true whole texts start now
  wire_cut whole texts text start wire now at grew sent = record {
    middle = wire;
    before = sent_so_far whole texts start wire grew;
    behind = subst (λ found. sends true (unwrap_or found []) wire now) (sym at) sent;
  }

  -- nothing was there, and the wire was flushed
  pub wire_idle : (failed : Bool) (whole : ℕ) (texts : List (List ℕ)) (start wire now : W)
      → WireGrew sends false whole texts start wire → sends failed [] wire now
      → WireGrew sends failed whole texts start now
  wire_idle false whole texts start wire now grew sent =
      record { middle = wire; before = sent_so_far whole texts start wire grew; behind = sent }
  wire_idle true whole texts start wire now grew sent =
      record {
        middle = wire;
        before = sent_so_far whole texts start wire grew;
        behind = is.longer [] (text_at texts whole) wire now sent;
      }
