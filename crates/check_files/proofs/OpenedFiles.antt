-- Files that are opened one after another.
use Rattle.std.proofs.Common.{◌≡◌, ◌<◌, ◌≤◌, ℕ, ◌+◌, Bor, Bool, List, [], ◌∷◌, ◌++◌, Option, Some, None, length}
use Rattle.std.proofs.Common.{map, take, slice_get, get_or, arith, refl, sym, ap, ap₂, ◌∙◌, subst, append-nil}
use Rattle.std.proofs.Common.{length-append}
use Rattle.std.specs.Option.{is_none}
use Rattle.std.proofs.lemmas.List.{map-append, take-map, take_more}
use Rattle.flake_base.specs.Calls.{counted}
use Rattle.flake_base.specs.Told.{HostTold}
use Rattle.check_files.specs.File.{name_in, whole_in, given_in, ended_in, faults_in}
use Rattle.check_files.specs.File.{file_names, file_wholes, file_givens, file_endeds, file_faults}
use Rattle.check_files.specs.Named.{Named, AreDistinct, AreOther, AreEmptyUnnamed, AreUnread, HaveTheirOwn, OpensOne}
use Rattle.check_files.specs.Named.{OpensName, FailsOne, FilesOpened, FileFails, NoneFailed, counted_times, named}
use Rattle.check_files.specs.Named.{names_in, at_names, held_by}
use Rattle.check_files.specs.declared.file.File.{File}
use Rattle.check_files.proofs.Names.{others_split, distinct_split, longer, others_onto, own_more}
use Rattle.check_files.proofs.Places.{shown_at}

-- the names with one file more
names_more : (words : List Named) (word : Named) → names_in (words ++ word ∷ []) ≡ names_in words
    ++ names_in (word ∷ [])
names_more [] word = refl
names_more (None ∷ words) word = names_more words word
names_more (Some name ∷ words) word = ap (λ rest. name ∷ rest) (names_more words word)

empty_more : (words : List Named) (word : Named) (wholes : List (Option (List ℕ))) (whole : Option (List ℕ))
    → length wholes ≡ length words → AreEmptyUnnamed words wholes → AreEmptyUnnamed (word ∷ []) (whole ∷ [])
    → AreEmptyUnnamed (words ++ word ∷ []) (wholes ++ whole ∷ [])
empty_more [] word [] whole same so one = one
empty_more [] word (other ∷ wholes) whole same so one = absurd (cc same)
empty_more (first ∷ words) word [] whole same so one = absurd (cc same)
empty_more (None ∷ words) word (other ∷ wholes) whole same so one =
    (so.0, empty_more words word wholes whole (omega (arith, same)) so.1 one)
empty_more (Some name ∷ words) word (other ∷ wholes) whole same so one = empty_more words word wholes whole
    (omega (arith, same)) so one

-- those at the places of names with one file more
at_more : {A : Type 0} (words : List Named) (word : Named) (items : List A) (item : A) → length items ≡ length words
    → at_names (words ++ word ∷ []) (items ++ item ∷ []) ≡ at_names words items ++ at_names (word ∷ []) (item ∷ [])
at_more [] word [] item same = refl
at_more [] word (other ∷ items) item same = absurd (cc same)
at_more (first ∷ words) word [] item same = absurd (cc same)
at_more (None ∷ words) word (other ∷ items) item same = at_more words word items item (omega (arith, same))
at_more (Some name ∷ words) word (other ∷ items) item same = ap (λ rest. other ∷ rest)
    (at_more words word items item (omega (arith, same)))

at_many : {A : Type 0} (words : List Named) (items : List A) → length items ≡ length words
    → length (at_names words items) ≡ length (names_in words)
at_many [] items same = refl
at_many (word ∷ words) [] same = absurd (cc same)
at_many (None ∷ words) (item ∷ items) same = at_many words items (omega (arith, same))
at_many (Some name ∷ words) (item ∷ items) same =
    let rest = at_many words items (omega (arith, same)) in omega (arith, rest)

-- what is so, while files are opened
pub record SoFar (words : List Named) (old new : HostTold) (names : List Named) (wholes : List (Option (List ℕ)))
    (givens : List (List ℕ)) (endeds : List Bool) (faults : List ℕ) : Type 0 where
  pub opened : FilesOpened words old new names wholes
  pub unread : AreUnread words givens endeds
  pub fresh : NoneFailed faults
  pub said : new.said ≡ old.said
  pub say_faults : new.say_faults ≡ old.say_faults

pub none_so_far : (host : HostTold) → SoFar [] host host [] [] [] [] []
none_so_far host = record {
  opened = record {
    names_are = refl;
    as_many = refl;
    wholes_are = λ distinct. refl;
    own = tt;
    unnamed = tt;
    holds = λ other all. refl;
    opens = refl;
    open_faults = λ name. refl;
  };
  unread = record { givens_are = refl; endeds_are = refl };
  fresh = tt;
  said = refl;
  say_faults = refl;
}

opened_none : (words : List Named) (old mid : HostTold) (names : List Named) (wholes : List (Option (List ℕ)))
    → FilesOpened words old mid names wholes
    → FilesOpened (words ++ None ∷ []) old mid (names ++ None ∷ []) (wholes ++ Some [] ∷ [])
opened_none words old mid names wholes o =
    let ins : names_in (words ++ None ∷ []) ≡ names_in words = names_more words None ∙ append-nil (names_in words) in
    let at : at_names (words ++ None ∷ []) (wholes ++ Some [] ∷ []) ≡ at_names words wholes =
    at_more words None wholes (Some []) o.as_many ∙ append-nil (at_names words wholes) in
    record {
      names_are = ap (λ (ws : List Named). ws ++ None ∷ []) o.names_are;
      as_many = omega (arith, o.as_many, length-append wholes (Some [] ∷ []), length-append words (None ∷ []));
      wholes_are = λ distinct. ap (λ (ls : List (Option (List ℕ))). ls ++ Some [] ∷ [])
          (o.wholes_are (subst AreDistinct ins distinct)) ∙ sym (map-append (held_by old) words (None ∷ []));
      own = subst (λ ns. HaveTheirOwn old.holds [] ns (at_names (words ++ None ∷ []) (wholes ++ Some [] ∷ [])))
          (sym ins) (subst (HaveTheirOwn old.holds [] (names_in words)) (sym at) o.own);
      unnamed = empty_more words None wholes (Some []) o.as_many o.unnamed (refl, tt);
      holds = λ other all. o.holds other (subst (AreOther other) ins all);
      opens = o.opens ∙ ap (λ ns. counted_times (length ns) old.opens) (sym ins);
      open_faults = o.open_faults;
    }

opened_some : (words : List Named) (name : List ℕ) (old mid new : HostTold) (names : List Named)
    (wholes : List (Option (List ℕ))) (whole : Option (List ℕ)) → FilesOpened words old mid names wholes
    → OpensName name mid new whole
    → FilesOpened (words ++ Some name ∷ []) old new (names ++ Some name ∷ []) (wholes ++ whole ∷ [])
opened_some words name old mid new names wholes whole o one =
    let ins : names_in (words ++ Some name ∷ []) ≡ names_in words ++ name ∷ [] = names_more words (Some name) in
    let at : at_names (words ++ Some name ∷ []) (wholes ++ whole ∷ []) ≡ at_names words wholes ++ whole ∷ [] =
    at_more words (Some name) wholes whole o.as_many in
    record {
      names_are = ap (λ (ws : List Named). ws ++ Some name ∷ []) o.names_are;
      as_many = omega (arith, o.as_many, length-append wholes (whole ∷ []), length-append words (Some name ∷ []));
      wholes_are = λ distinct.
          let split = distinct_split name (names_in words) (subst AreDistinct ins distinct) in
          ap₂ (λ (ls : List (Option (List ℕ))) (l : Option (List ℕ)). ls ++ l ∷ []) (o.wholes_are split.0)
          (one.whole_is ∙ o.holds name split.1) ∙ sym (map-append (held_by old) words (Some name ∷ []));
      own = subst (λ ns. HaveTheirOwn old.holds [] ns (at_names (words ++ Some name ∷ []) (wholes ++ whole ∷ [])))
          (sym ins)
          (subst (HaveTheirOwn old.holds [] (names_in words ++ name ∷ [])) (sym at)
          (own_more old.holds [] (names_in words) name (at_names words wholes) whole (at_many words wholes o.as_many)
          o.own (λ all. one.whole_is ∙ o.holds name (others_onto name (names_in words) [] all).0)));
      unnamed = empty_more words (Some name) wholes whole o.as_many o.unnamed tt;
      holds = λ other all.
          let split = others_split other name (names_in words) (subst (AreOther other) ins all) in
          one.others other (λ same. split.1 (sym same)) ∙ o.holds other split.0;
      opens = one.opens ∙ ap counted o.opens ∙ ap (λ n. counted_times n old.opens) (sym (longer (names_in words) name))
          ∙ ap (λ ns. counted_times (length ns) old.opens) (sym ins);
      open_faults = λ other. one.open_faults other ∙ o.open_faults other;
    }

unread_more : (words : List Named) (word : Named) (givens : List (List ℕ)) (given : List ℕ) (endeds : List Bool)
    (ended : Bool) → AreUnread words givens endeds → given ≡ [] → ended ≡ is_none word
    → AreUnread (words ++ word ∷ []) (givens ++ given ∷ []) (endeds ++ ended ∷ [])
unread_more words word givens given endeds ended so none unended = record {
  givens_are = ap₂ (λ (gs : List (List ℕ)) (g : List ℕ). gs ++ g ∷ []) so.givens_are none
      ∙ sym (map-append (λ (w : Named). []) words (word ∷ []));
  endeds_are = ap₂ (λ (es : List Bool) (e : Bool). es ++ e ∷ []) so.endeds_are unended
      ∙ sym (map-append is_none words (word ∷ []));
}

none_more : (faults : List ℕ) (fault : ℕ) → NoneFailed faults → fault ≡ 0 → NoneFailed (faults ++ fault ∷ [])
none_more [] fault all here = (here, tt)
none_more (n ∷ faults) fault all here = (all.0, none_more faults fault all.1 here)

one_more : (words : List Named) (word : Named) (old mid new : HostTold) (names : List Named) (name : Named)
    (wholes : List (Option (List ℕ))) (whole : Option (List ℕ)) (givens : List (List ℕ)) (given : List ℕ)
    (endeds : List Bool) (ended : Bool) (faults : List ℕ) (fault : ℕ)
    → SoFar words old mid names wholes givens endeds faults → OpensOne word mid new whole → name ≡ word → given ≡ []
    → ended ≡ is_none word → fault ≡ 0
    → SoFar (words ++ word ∷ []) old new (names ++ name ∷ []) (wholes ++ whole ∷ []) (givens ++ given ∷ [])
    (endeds ++ ended ∷ []) (faults ++ fault ∷ [])
one_more words None old mid new names name wholes whole givens given endeds ended faults fault s one is none unended
    calm =
    record {
      opened = subst (λ host. FilesOpened (words ++ None ∷ []) old host (names ++ name ∷ []) (wholes ++ whole ∷ []))
          (sym one.0)
          (subst (λ n. FilesOpened (words ++ None ∷ []) old mid (names ++ n ∷ []) (wholes ++ whole ∷ [])) (sym is)
          (subst (λ l. FilesOpened (words ++ None ∷ []) old mid (names ++ None ∷ []) (wholes ++ l ∷ [])) (sym one.1)
          (opened_none words old mid names wholes s.opened)));
      unread = unread_more words None givens given endeds ended s.unread none unended;
      fresh = none_more faults fault s.fresh calm;
      said = ap (λ (host : HostTold). host.said) one.0 ∙ s.said;
      say_faults = ap (λ (host : HostTold). host.say_faults) one.0 ∙ s.say_faults;
    }
one_more words (Some w) old mid new names name wholes whole givens given endeds ended faults fault s one is none unended
    calm = record {
      opened = subst (λ n. FilesOpened (words ++ Some w ∷ []) old new (names ++ n ∷ []) (wholes ++ whole ∷ []))
          (sym is) (opened_some words w old mid new names wholes whole s.opened one);
      unread = unread_more words (Some w) givens given endeds ended s.unread none unended;
      fresh = none_more faults fault s.fresh calm;
      said = one.said ∙ s.said;
      say_faults = one.say_faults ∙ s.say_faults;
    }

-- a list of files with one file more, shown
shown_more : {S B : Type 0} (show : File S → B) (files more : List (File S)) (file : File S) → more ≡ files ++ file ∷ []
    → map show files ++ show file ∷ [] ≡ map show more
shown_more show files more file is = sym (map-append show files (file ∷ [])) ∙ ap (map show) (sym is)

-- the same, as a loop over the names has it
module _ {S : Type 0} (name : S → List ℕ) (whole : S → Option (List ℕ)) (given : S → List ℕ) (ended : S → Bool)
    (faults : S → ℕ) where
  pub file_more : (names : List (Option (Bor (List ℕ)))) (k : ℕ) (d : Option (Bor (List ℕ)))
      (files more : List (File S)) (file : File S) (old mid new : HostTold) → k < length names
      → more ≡ files ++ file ∷ []
      → SoFar (map named (take k names)) old mid (file_names name files) (file_wholes whole files)
      (file_givens given files) (file_endeds ended files) (file_faults faults files)
      → OpensOne (named (get_or names k d)) mid new (whole_in whole file)
      → name_in name file ≡ named (get_or names k d) → given_in given file ≡ []
      → ended_in ended file ≡ is_none (named (get_or names k d)) → faults_in faults file ≡ 0
      → SoFar (map named (take (k + 1) names)) old new (file_names name more) (file_wholes whole more)
      (file_givens given more) (file_endeds ended more) (file_faults faults more)
  file_more names k d files more file old mid new within is before one same none unended calm =
      let words : map named (take k names) ++ named (get_or names k d) ∷ [] ≡ map named (take (k + 1) names) =
      sym (map-append named (take k names) (get_or names k d ∷ []))
      ∙ ap (map named) (sym (take_more names k d within)) in
      let now = one_more (map named (take k names)) (named (get_or names k d)) old mid new (file_names name files)
      (name_in name file) (file_wholes whole files) (whole_in whole file) (file_givens given files)
      (given_in given file) (file_endeds ended files) (ended_in ended file) (file_faults faults files)
      (faults_in faults file) before one same none unended calm in
      let word = named (get_or names k d) in
      let front = map named (take k names) in
      let first = subst (λ (ns : List Named). SoFar (front ++ word ∷ []) old new ns
      (file_wholes whole files ++ whole_in whole file ∷ []) (file_givens given files ++ given_in given file ∷ [])
      (file_endeds ended files ++ ended_in ended file ∷ []) (file_faults faults files ++ faults_in faults file ∷ []))
      (shown_more (λ f. name_in name f) files more file is) now in
      let second = subst (λ (ws : List (Option (List ℕ))). SoFar (front ++ word ∷ []) old new
      (file_names name more) ws (file_givens given files ++ given_in given file ∷ [])
      (file_endeds ended files ++ ended_in ended file ∷ []) (file_faults faults files ++ faults_in faults file ∷ []))
      (shown_more (λ f. whole_in whole f) files more file is) first in
      let third = subst (λ (gs : List (List ℕ)). SoFar (front ++ word ∷ []) old new
      (file_names name more) (file_wholes whole more) gs (file_endeds ended files ++ ended_in ended file ∷ [])
      (file_faults faults files ++ faults_in faults file ∷ []))
      (shown_more (λ f. given_in given f) files more file is) second in
      let fourth = subst (λ (es : List Bool). SoFar (front ++ word ∷ []) old new
      (file_names name more) (file_wholes whole more) (file_givens given more) es
      (file_faults faults files ++ faults_in faults file ∷ []))
      (shown_more (λ f. ended_in ended f) files more file is) third in
      let fifth = subst (λ (ns : List ℕ). SoFar (front ++ word ∷ []) old new
      (file_names name more) (file_wholes whole more) (file_givens given more) (file_endeds ended more) ns)
      (shown_more (λ f. faults_in faults f) files more file is) fourth in
      subst (λ (ws : List Named). SoFar ws old new (file_names name more) (file_wholes whole more)
      (file_givens given more) (file_endeds ended more) (file_faults faults more)) words fifth

-- the files in front of a place, and the one at it
pub front_is : (names : List (Option (Bor (List ℕ)))) (k n : ℕ) → k ≤ length names → n ≡ k → take n (map named names)
    ≡ map named (take k names)
front_is names k n within is = ap (λ m. take m (map named names)) is ∙ take-map named k names

fails_at : (words front : List Named) (place : ℕ) (word : Named) (old mid new : HostTold) (names : List Named)
    (wholes : List (Option (List ℕ)))
    → take place words ≡ front → slice_get words place ≡ Some word → FilesOpened front old mid names wholes
    → FailsOne word mid new → FileFails words place old new names wholes
fails_at words front place None old mid new names wholes is there o fails = absurd fails
fails_at words front place (Some name) old mid new names wholes is there o fails = record {
  between = mid;
  opened = subst (λ ws. FilesOpened ws old mid names wholes) (sym is) o;
  name = name;
  name_is = there;
  fails = fails;
}

-- the file that did not open
pub file_fails : (files : List (Option (Bor (List ℕ)))) (k n : ℕ) (d : Option (Bor (List ℕ))) (old mid new : HostTold)
    (names : List Named) (wholes : List (Option (List ℕ))) → k < length files → n ≡ k
    → FilesOpened (map named (take k files)) old mid names wholes → FailsOne (named (get_or files k d)) mid new
    → FileFails (map named files) n old new names wholes
file_fails files k n d old mid new names wholes within is opened fails =
    fails_at (map named files) (map named (take k files)) n (named (get_or files k d)) old mid new names wholes
    (front_is files k n (omega (arith, within)) is)
    (ap (slice_get (map named files)) is ∙ shown_at named files k d within) opened fails

-- what was said before a failed open is what was said behind it
pub fails_said : (word : Named) (mid new : HostTold) → FailsOne word mid new → (new.said ≡ mid.said)
    × (new.say_faults ≡ mid.say_faults)
fails_said None mid new fails = absurd fails
fails_said (Some name) mid new fails = (fails.said, fails.say_faults)
