-- Sources that come back as they were opened.
use Rattle.std.proofs.Common.{◌≡◌, ℕ, false, true, List, [], ◌∷◌, ◌++◌, Option, Some, None, All, map, refl}
use Rattle.std.proofs.Common.{ap, sym, ◌∙◌, subst}
use Rattle.std.specs.List.{AllByRecursion}
use Rattle.std.proofs.lemmas.List.Elements.{All-from_recursion}
use Rattle.flake_base.specs.Reads.{IsGivenFront}
use Rattle.check_files.specs.Named.{HaveTheirOwn}
use Rattle.flake_run.specs.Opening.{AreOfFiles}
use Rattle.flake_run.specs.Outcome.{SourceTold, IsUntouched, GaveFront, opened_told, sources_of, source_names}
use Rattle.flake_run.specs.Outcome.{wholes_of}
use Rattle.flake_run.specs.declared.outcome.Opened.{Opened}
use Rattle.flake_run.proofs.Numbers.{field_of}

-- sources of the same files, in whatever state
pub of_same_files : (names : List (List ℕ)) (holds : List ℕ → Option (List ℕ)) (olds news : List SourceTold)
    → AreOfFiles names holds olds → source_names news ≡ source_names olds → wholes_of news ≡ wholes_of olds
    → AllByRecursion GaveFront news → AreOfFiles names holds news
of_same_files names holds olds news of same_names same_wholes fronts = record {
  names_are = same_names ∙ of.names_are;
  wholes_are = λ distinct. same_wholes ∙ of.wholes_are distinct;
  own = subst (λ ws. HaveTheirOwn holds [] names ws) (sym same_wholes) of.own;
  fronts = fronts;
}

-- no source is that of no file
pub of_no_files : (holds : List ℕ → Option (List ℕ)) (sources : List SourceTold) → sources ≡ []
    → AreOfFiles [] holds sources
of_no_files holds [] none = record { names_are = refl; wholes_are = λ distinct. refl; own = tt; fronts = tt }
of_no_files holds (source ∷ sources) none = absurd (cc none)

pub none_untouched : (sources : List SourceTold) → sources ≡ [] → AllByRecursion IsUntouched sources
none_untouched [] none = tt
none_untouched (source ∷ sources) none = absurd (cc none)

-- what each source of some type is, each of those that were opened is
pub all_opened_tell : {S : Type 0} (P : SourceTold → Type 0) (tells : S → SourceTold) → ((s : S) → P (tells s))
    → (opened : List (Opened S)) → AllByRecursion P (sources_of (opened_told tells opened))
all_opened_tell P tells so [] = tt
all_opened_tell P tells so (one ∷ opened) = (so one.source, all_opened_tell P tells so opened)

-- what a source gave of which nothing was read is a front
pub untouched_front : (source : SourceTold) → IsUntouched source → GaveFront source
untouched_front source is = by source.whole
  where
    by : (whole : Option (List ℕ)) → IsGivenFront whole source.given source.ended
    by None = tt
    by (Some bytes) = (
      bytes,
      ap (λ given. given ++ bytes) (sym is.given),
      (λ ended. let never : false ≡ true = sym is.ended ∙ ended in absurd (cc never)),
    )

-- no byte was given yet
pub none_given : {S : Type 0} (tells : S → SourceTold) (sources : List S)
    → AllByRecursion IsUntouched (map tells sources) → All (λ s. (tells s).given ≡ []) sources
none_given {S} tells sources all = All-from_recursion (λ s. (tells s).given ≡ []) sources (by sources all)
  where
    by : (sources : List S) → AllByRecursion IsUntouched (map tells sources)
        → AllByRecursion (λ s. (tells s).given ≡ []) sources
    by [] all = tt
    by (source ∷ sources) all = (all.0.given, by sources all.1)

-- sources that come back are those of the same files
pub come_back : {S : Type 0} (tells : S → SourceTold) (names : List (List ℕ)) (holds : List ℕ → Option (List ℕ))
    (befores nows : List S) (told : List SourceTold) → AreOfFiles names holds (map tells befores)
    → told ≡ map tells nows → AllByRecursion GaveFront told
    → map (λ s. (tells s).name) nows ≡ map (λ s. (tells s).name) befores
    → map (λ s. (tells s).whole) nows ≡ map (λ s. (tells s).whole) befores → AreOfFiles names holds told
come_back tells names holds befores nows told of are fronts same_names same_wholes =
    of_same_files names holds (map tells befores) told of
    (field_of tells (λ t. t.name) told nows are ∙ same_names
    ∙ sym (field_of tells (λ t. t.name) (map tells befores) befores refl))
    (field_of tells (λ t. t.whole) told nows are ∙ same_wholes
    ∙ sym (field_of tells (λ t. t.whole) (map tells befores) befores refl))
    fronts
