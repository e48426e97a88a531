-- From each session to all.
use Rattle.std.proofs.Common.{List, [], ◌∷◌}
use Rattle.std.specs.List.{AllZip}

module _ {A B : Type 0} (P Q : A → B → Type 0) where
  pub zip-weaker : (xs : List A) (ys : List B) → ((x : A) (y : B) → P x y → Q x y) → AllZip P xs ys → AllZip Q xs ys
  zip-weaker [] [] so h = tt
  zip-weaker [] (y ∷ ys) so h = absurd h
  zip-weaker (x ∷ xs) [] so h = absurd h
  zip-weaker (x ∷ xs) (y ∷ ys) so h = (so x y h.0, zip-weaker xs ys so h.1)
