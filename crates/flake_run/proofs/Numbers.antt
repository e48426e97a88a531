-- Numbers from 0, one more, and lists that were walked to their end.
use Rattle.std.proofs.Common.{◌≡◌, ℕ, ◌+◌, zero, suc, List, [], ◌∷◌, ◌++◌, length, map, arith, refl, sym, ap}
use Rattle.std.proofs.Common.{◌∙◌, append-nil}
use Rattle.std.specs.List.{range_with_len}
use Rattle.flake_run.specs.Outcome.{SourceTold, opened_told, files_of, sources_of}
use Rattle.flake_run.specs.declared.outcome.Opened.{Opened}

range_more : (a n : ℕ) → range_with_len a (suc n) ≡ range_with_len a n ++ (a + n) ∷ []
range_more a zero = let same : a ≡ a + 0 = omega arith in ap (λ k. k ∷ []) same
range_more a (suc n) = let same : a + 1 + n ≡ a + suc n = omega arith in ap (λ rest. a ∷ rest)
    (range_more (a + 1) n ∙ ap (λ k. range_with_len (a + 1) n ++ k ∷ []) same)

longer : {A : Type 0} (xs : List A) (x : A) → length (xs ++ x ∷ []) ≡ suc (length xs)
longer [] x = refl
longer (y ∷ ys) x = ap suc (longer ys x)

-- the number of one item more
pub one_number : {A : Type 0} (xs : List A) (x : A) → range_with_len 0 (length (xs ++ x ∷ []))
    ≡ range_with_len 0 (length xs) ++ length xs ∷ []
one_number xs x =
    let same : 0 + length xs ≡ length xs = omega arith in
    ap (range_with_len 0) (longer xs x) ∙ range_more 0 (length xs)
    ∙ ap (λ k. range_with_len 0 (length xs) ++ k ∷ []) same

pub all_given : {A : Type 0} (xs rest all : List A) → xs ++ rest ≡ all → rest ≡ [] → xs ≡ all
all_given xs rest all is none = sym (append-nil xs) ∙ ap (λ r. xs ++ r) (sym none) ∙ is

pub none_left : {A : Type 0} (xs : List A) (len : ℕ) → len ≡ length xs → len ≡ 0 → xs ≡ []
none_left [] len is none = refl
none_left (x ∷ xs) len is none = absurd (omega (arith, is, none))

-- what is told of sources that are numbered
module _ {S : Type 0} (tells : S → SourceTold) where
  pub told_files : (opened : List (Opened S)) → files_of (opened_told tells opened) ≡ map (λ one. one.file) opened
  told_files [] = refl
  told_files (one ∷ opened) = ap (λ rest. one.file ∷ rest) (told_files opened)

  pub told_sources : (opened : List (Opened S)) → sources_of (opened_told tells opened)
      ≡ map tells (map (λ one. one.source) opened)
  told_sources [] = refl
  told_sources (one ∷ opened) = ap (λ rest. tells one.source ∷ rest) (told_sources opened)

  pub record AreNumbered (sources : List S) (told : List (Opened SourceTold)) : Type 0 where
    pub files : files_of told ≡ range_with_len 0 (length sources)
    pub told_are : sources_of told ≡ map tells sources

  pub are_numbered : (opened : List (Opened S)) (sources : List S) → map (λ s. s.file) opened
      ≡ range_with_len 0 (length sources) → map (λ s. s.source) opened ≡ sources
      → AreNumbered sources (opened_told tells opened)
  are_numbered opened sources files are = record {
    files = told_files opened ∙ files;
    told_are = told_sources opened ∙ ap (map tells) are;
  }

  -- what sources tell, one thing of it
  pub field_of : {V : Type 0} (f : SourceTold → V) (told : List SourceTold) (sources : List S)
      → told ≡ map tells sources → map f told ≡ map (λ s. f (tells s)) sources
  field_of f told sources are = ap (map f) are ∙ maps sources
    where
      maps : (sources : List S) → map f (map tells sources) ≡ map (λ s. f (tells s)) sources
      maps [] = refl
      maps (source ∷ sources) = ap (λ rest. f (tells source) ∷ rest) (maps sources)
