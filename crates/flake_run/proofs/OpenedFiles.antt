-- Files that are opened one after another.
use Rattle.std.proofs.Common.{◌≡◌, ◌≢◌, ◌<◌, ◌≤◌, ℕ, ◌+◌, zero, suc, Bor, List, [], ◌∷◌, ◌++◌, Option, Some, length}
use Rattle.std.proofs.Common.{map, take, slice_get, get_or, arith, refl, sym, ap, ap₂, ◌∙◌, subst, ⊎_elim}
use Rattle.std.specs.List.{AllByRecursion}
use Rattle.std.specs.Cmp.Lexicographic.{bytes_decides}
use Rattle.std.proofs.lemmas.Bool.{cases_Bool}
use Rattle.std.proofs.lemmas.List.{length-map, map-append, length-take-le, take-map, take_more}
use Rattle.flake_base.specs.Calls.{counted}
use Rattle.flake_base.specs.Told.{HostTold}
use Rattle.shard_core.specs.Keys.{same_bytes}
use Rattle.check_files.specs.Named.{AreDistinct, AreOther, HaveTheirOwn, counted_times}
use Rattle.flake_run.specs.Opening.{AreOfFiles, AreOpened, FailsToOpen, HaveOpened, IsUnopened}
use Rattle.flake_run.specs.Outcome.{SourceTold, GaveFront, IsUntouched, wholes_of}

-- one name more
others_split : (name last : List ℕ) (names : List (List ℕ)) → AreOther name (names ++ last ∷ []) → AreOther name names
    × (last ≢ name)
others_split name last [] all = (tt, all.0)
others_split name last (other ∷ names) all = let rest = others_split name last names all.1 in ((all.0, rest.0), rest.1)

distinct_split : (last : List ℕ) (names : List (List ℕ)) → AreDistinct (names ++ last ∷ []) → AreDistinct names
    × AreOther last names
distinct_split last [] all = (tt, tt)
distinct_split last (name ∷ names) all =
    let here = others_split name last names all.0 in
    let rest = distinct_split last names all.1 in
    ((here.0, rest.0), ((λ same. here.1 (sym same)), rest.1))

-- the names in front of what comes behind these
onto : List (List ℕ) → List (List ℕ) → List (List ℕ)
onto [] before = before
onto (name ∷ names) before = onto names (name ∷ before)

others_onto : (name : List ℕ) (names before : List (List ℕ)) → AreOther name (onto names before) → AreOther name names
    × AreOther name before
unfolding onto
others_onto name [] before all = (tt, all)
others_onto name (other ∷ names) before all = let rest = others_onto name names (other ∷ before) all in
    ((rest.1.0, rest.0), rest.1.1)

own_more : (holds : List ℕ → Option (List ℕ)) (before names : List (List ℕ)) (name : List ℕ)
    (wholes : List (Option (List ℕ))) (whole : Option (List ℕ)) → length wholes ≡ length names
    → HaveTheirOwn holds before names wholes
    → (AreOther name (onto names before) → whole ≡ holds name) → HaveTheirOwn holds before (names ++ name ∷ [])
    (wholes ++ whole ∷ [])
unfolding onto
own_more holds before [] name [] whole same own one = (one, tt)
own_more holds before [] name (other ∷ wholes) whole same own one = absurd (cc same)
own_more holds before (first ∷ names) name [] whole same own one = absurd (cc same)
own_more holds before (first ∷ names) name (other ∷ wholes) whole same own one =
    (own.0, own_more holds (first ∷ before) names name wholes whole (omega (arith, same)) own.1 one)

longer : (names : List (List ℕ)) (name : List ℕ) → length (names ++ name ∷ []) ≡ suc (length names)
longer [] name = refl
longer (other ∷ names) name = ap suc (longer names name)

all_more : {A : Type 0} (P : A → Type 0) (xs : List A) (x : A) → AllByRecursion P xs → P x
    → AllByRecursion P (xs ++ x ∷ [])
all_more P [] x all one = (one, tt)
all_more P (y ∷ ys) x all one = (all.0, all_more P ys x all.1 one)

-- one source more
of_more : (names : List (List ℕ)) (name : List ℕ) (old mid : HostTold) (sources : List SourceTold)
    (source : SourceTold) → AreOfFiles names old.holds sources → HaveOpened names old mid → source.name ≡ name
    → source.whole ≡ mid.holds name → GaveFront source
    → AreOfFiles (names ++ name ∷ []) old.holds (sources ++ source ∷ [])
of_more names name old mid sources source of host named is front =
    let whole_more : wholes_of (sources ++ source ∷ []) ≡ wholes_of sources ++ source.whole ∷ [] =
    map-append (λ (s : SourceTold). s.whole) sources (source ∷ []) in
    let as_many : length (wholes_of sources) ≡ length names =
    length-map sources (λ (s : SourceTold). s.whole) ∙ sym (length-map sources (λ (s : SourceTold). s.name))
    ∙ ap length of.names_are in
    record {
      names_are = map-append (λ (s : SourceTold). s.name) sources (source ∷ [])
          ∙ ap₂ (λ (ns : List (List ℕ)) (n : List ℕ). ns ++ n ∷ []) of.names_are named;
      wholes_are = λ distinct.
          let split = distinct_split name names distinct in
          whole_more
          ∙ ap₂ (λ (ws : List (Option (List ℕ))) (w : Option (List ℕ)). ws ++ w ∷ []) (of.wholes_are split.0)
          (is ∙ host.holds name split.1) ∙ sym (map-append old.holds names (name ∷ []));
      own = subst (HaveTheirOwn old.holds [] (names ++ name ∷ [])) (sym whole_more)
          (own_more old.holds [] names name (wholes_of sources) source.whole as_many of.own
          (λ all. is ∙ host.holds name (others_onto name names [] all).0));
      fronts = all_more GaveFront sources source of.fronts front;
    }

pub opened_more : (names : List (List ℕ)) (name : List ℕ) (old mid new : HostTold) (sources : List SourceTold)
    (source : SourceTold) → AreOpened names old mid sources → source.name ≡ name → source.whole ≡ mid.holds name
    → GaveFront source → IsUntouched source → ((other : List ℕ) → other ≢ name → new.holds other ≡ mid.holds other)
    → new.opens ≡ counted mid.opens → ((other : List ℕ) → new.open_faults other ≡ mid.open_faults other)
    → new.said ≡ mid.said → new.say_faults ≡ mid.say_faults
    → AreOpened (names ++ name ∷ []) old new (sources ++ source ∷ [])
opened_more names name old mid new sources source o named is front untouched others opens counts said says = record {
  of_files = of_more names name old mid sources source o.of_files o.host named is front;
  unread = all_more IsUntouched sources source o.unread untouched;
  host = record {
    holds = λ other all.
        let split = others_split other name names all in
        others other (λ same. split.1 (sym same)) ∙ o.host.holds other split.0;
    opens = opens ∙ ap counted o.host.opens ∙ ap (λ n. counted_times n old.opens) (sym (longer names name));
    open_faults = λ other. counts other ∙ o.host.open_faults other;
    said = said ∙ o.host.said;
    say_faults = says ∙ o.host.say_faults;
  };
}

-- the item at a place of a list, in a map of it
pub got : {A B : Type 0} (f : A → B) (xs : List A) (k : ℕ) (d : A) → k < length xs → slice_get (map f xs) k
    ≡ Some (f (get_or xs k d))
got f [] k d within = absurd (omega (arith, within))
got f (x ∷ xs) zero d within = refl
got f (x ∷ xs) (suc k) d within = got f xs k d (omega (arith, within))

-- those in front of a place, in a map of a list
pub front : {A B : Type 0} (f : A → B) (xs : List A) (k n : ℕ) → k ≤ length xs → n ≡ length (map f (take k xs))
    → take n (map f xs) ≡ map f (take k xs)
front f xs k n within is =
    let as_many : n ≡ k = is ∙ length-map (take k xs) f ∙ length-take-le k xs within in
    ap (λ n. take n (map f xs)) as_many ∙ take-map f k xs

pub fails_to_open : (names : List (List ℕ)) (front : List (List ℕ)) (name : List ℕ) (old mid new : HostTold)
    (sources : List SourceTold) → take (length sources) names ≡ front → slice_get names (length sources) ≡ Some name
    → AreOpened front old mid sources → IsUnopened name mid new → FailsToOpen names old new sources
fails_to_open names front name old mid new sources is name_is opened unopened = record {
  between = mid;
  opened = subst (λ ns. AreOpened ns old mid sources) (sym is) opened;
  name = name;
  name_is = name_is;
  unopened = unopened;
}

-- what is so at one name and at the others is so at each
pub at_each : (name : List ℕ) (old new : List ℕ → Option (List ℕ))
    → ((other : List ℕ) → other ≢ name → new other ≡ old other) → new name ≡ old name → (other : List ℕ)
    → new other ≡ old other
at_each name old new others own other =
    ⊎_elim
    (λ is. subst (λ n. new n ≡ old n) ((bytes_decides name other).0 is) own)
    (λ differs. others other (λ same. absurd (let is = (bytes_decides name other).1 (sym same) in cc)))
    (cases_Bool (same_bytes name other))

-- the same, as a loop over the names has it
pub one_more : {S : Type 0} (tells : S → SourceTold) (files : List (Bor (List ℕ))) (k : ℕ) (d : Bor (List ℕ))
    (sources more : List S) (source : S) (old new : HostTold) → k < length files → more ≡ sources ++ source ∷ []
    → AreOpened (map (λ file. file.now) (take k files) ++ (get_or files k d).now ∷ []) old new
    (map tells sources ++ tells source ∷ [])
    → AreOpened (map (λ file. file.now) (take (k + 1) files)) old new (map tells more)
one_more tells files k d sources more source old new within is opened =
    let names : map (λ (file : Bor (List ℕ)). file.now) (take k files) ++ (get_or files k d).now ∷ []
    ≡ map (λ (file : Bor (List ℕ)). file.now) (take (k + 1) files) =
    sym (map-append (λ (file : Bor (List ℕ)). file.now) (take k files) (get_or files k d ∷ []))
    ∙ ap (map (λ (file : Bor (List ℕ)). file.now)) (sym (take_more files k d within)) in
    let told : map tells sources ++ tells source ∷ [] ≡ map tells more = sym (map-append tells sources (source ∷ []))
    ∙ ap (map tells) (sym is) in
    subst (λ ns. AreOpened ns old new (map tells more)) names
    (subst (AreOpened (map (λ (file : Bor (List ℕ)). file.now) (take k files) ++ (get_or files k d).now ∷ []) old new)
    told opened)
