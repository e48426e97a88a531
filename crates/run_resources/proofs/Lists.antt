-- Lists that get one item more.
use Rattle.std.proofs.Common.{
  ◌≡◌,
  ℕ,
  ◌+◌,
  List,
  [],
  ◌∷◌,
  ◌++◌,
  All,
  map,
  length,
  ap,
  sym,
  ◌∙◌,
  subst,
  append_assoc,
  append-nil,
  arith,
}
use Rattle.std.specs.List.{AllZip, range_with_len}
use Rattle.std.proofs.lemmas.List.{map-append, nil_from_length, length-map, length-append}
use Rattle.std.proofs.lemmas.List.Elements.{All-nil, All-push, All-head, All-tail}
use Rattle.std.proofs.lemmas.List.FromFn.{length-range_with_len}
use Rattle.std.proofs.lemmas.Slice.Zip.{all_zipped_more}

module _ {X : Type 0} where
  pub all_more : (xs more : List X) (x : X) (P : X → Type 0) → more ≡ xs ++ x ∷ [] → All P xs → P x → All P more
  all_more xs more x P is all own = subst (All P) (sym is) (All-push P xs x all own)

  pub all_first : (xs rest : List X) (x : X) (P : X → Type 0) → xs ≡ x ∷ rest → All P xs → P x
  all_first xs rest x P is all = All-head P x rest (subst (All P) is all)

  pub all_rest : (xs rest : List X) (x : X) (P : X → Type 0) → xs ≡ x ∷ rest → All P xs → All P rest
  all_rest xs rest x P is all = All-tail P x rest (subst (All P) is all)

  pub all_of_none : (xs : List X) (P : X → Type 0) → xs ≡ [] → All P xs
  all_of_none xs P none = subst (All P) (sym none) (All-nil P)

  pub all_as : (xs ys : List X) (P : X → Type 0) → xs ≡ ys → All P ys → All P xs
  all_as xs ys P is all = subst (All P) (sym is) all

  -- behind the last item
  pub all_given : (given rest xs : List X) (n : ℕ) → given ++ rest ≡ xs → n ≡ length rest → n ≡ 0 → given ≡ xs
  all_given given rest xs n is long none =
      sym (append-nil given) ∙ ap (λ (l : List X). given ++ l) (sym (nil_from_length rest (omega arith))) ∙ is

  -- one item further
  pub given_on : (given before after xs : List X) (x : X) → given ++ before ≡ xs → before ≡ x ∷ after
      → (given ++ x ∷ []) ++ after ≡ xs
  given_on given before after xs x is split =
      append_assoc given (x ∷ []) after ∙ ap (λ (l : List X). given ++ l) (sym split) ∙ is

  module _ {Y : Type 0} where
    -- an item goes from the front of one list to the end of the other
    pub moves_on : (xs more : List X) (x : X) (f : X → Y) (before after whole : List Y) → more ≡ xs ++ x ∷ []
        → before ≡ f x ∷ after → map f xs ++ before ≡ whole → map f more ++ after ≡ whole
    moves_on xs more x f before after whole is split all =
        ap (λ (l : List X). map f l ++ after) is ∙ ap (λ (l : List Y). l ++ after) (map-append f xs (x ∷ []))
        ∙ append_assoc (map f xs) (f x ∷ []) after ∙ ap (λ (l : List Y). map f xs ++ l) (sym split) ∙ all

    pub map_more : (xs more : List X) (x : X) (f : X → Y) (ys : List Y) (y : Y) → more ≡ xs ++ x ∷ []
        → map f xs ≡ ys → f x ≡ y → map f more ≡ ys ++ y ∷ []
    map_more xs more x f ys y is all same =
        ap (map f) is ∙ map-append f xs (x ∷ []) ∙ ap (λ (l : List Y). l ++ f x ∷ []) all
        ∙ ap (λ (last : Y). ys ++ last ∷ []) same

    -- a list of what the items have gets one more
    pub items_more : (xs : List X) (x : X) (f : X → Y) (ys more : List Y) (y : Y) → more ≡ ys ++ y ∷ []
        → ys ≡ map f xs → y ≡ f x → more ≡ map f (xs ++ x ∷ [])
    items_more xs x f ys more y is all same =
        is ∙ ap (λ (l : List Y). l ++ y ∷ []) all ∙ ap (λ (last : Y). map f xs ++ last ∷ []) same
        ∙ sym (map-append f xs (x ∷ []))

    pub zip_more : (xs : List X) (ys more : List Y) (x : X) (y : Y) (R : X → Y → Type 0) → more ≡ ys ++ y ∷ []
        → AllZip R xs ys → R x y → AllZip R (xs ++ x ∷ []) more
    zip_more xs ys more x y R is all own =
        subst (AllZip R (xs ++ x ∷ [])) (sym is) (all_zipped_more R xs ys x y all own)

    pub zip_as : (xs whole : List X) (ys : List Y) (R : X → Y → Type 0) → xs ≡ whole → AllZip R xs ys
        → AllZip R whole ys
    zip_as xs whole ys R is all = subst (λ (l : List X). AllZip R l ys) is all

    pub count_past : (xs : List X) (f : X → Y) (past whole : List Y) → map f xs ++ past ≡ whole
        → length xs + length past ≡ length whole
    count_past xs f past whole is =
        omega (arith, ap length is, length-append (map f xs) past, length-map xs f)

    pub count_as : (ys : List Y) (xs : List X) (f : X → Y) → ys ≡ map f xs → length ys ≡ length xs
    count_as ys xs f is = ap length is ∙ length-map xs f

    module _ {Z : Type 0} where
      -- both lists get an item more
      pub both_more : (xs more : List X) (x : X) (zs : List Z) (z : Z) (f : X → Y) (h : Z → Y) → more ≡ xs ++ x ∷ []
          → map f xs ≡ map h zs → f x ≡ h z → map f more ≡ map h (zs ++ z ∷ [])
      both_more xs more x zs z f h is all same =
          map_more xs more x f (map h zs) (h z) is all same ∙ sym (map-append h zs (z ∷ []))

      pub same_count : (xs : List X) (zs : List Z) (f : X → Y) (h : Z → Y) → map f xs ≡ map h zs
          → length xs ≡ length zs
      same_count xs zs f h same = sym (length-map xs f) ∙ ap length same ∙ length-map zs h

  pub count_of : (xs : List X) (f : X → ℕ) (n : ℕ) → map f xs ≡ range_with_len 0 n → length xs ≡ n
  count_of xs f n is = sym (length-map xs f) ∙ ap length is ∙ length-range_with_len 0 n
