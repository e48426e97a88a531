use Rattle.std.proofs.Common.{◌≡◌, ◌<◌, ◌≤◌, ◌++◌, ℕ, zero, suc, List, [], ◌∷◌, Some, IsSomeAnd}
use Rattle.std.proofs.Common.{length, map}
use Rattle.std.proofs.Common.{slice_set, get_or, arith, refl, sym, ap, ◌∙◌, subst}
use Rattle.std.proofs.Math.Seq.{map-set_same}
use Rattle.std.proofs.lemmas.List.{length-drop}
use Rattle.flake_base.specs.Causes.{Rose}
use Rattle.check_files.specs.File.{name_in, whole_in, given_in, ended_in, faults_in}
use Rattle.check_files.specs.Files.{file_limit, texts_since, AllGaveMore, IsTextOf}
use Rattle.check_files.specs.Stopped.{of_unread, FaultsBy, IsStoppedAt, RoseAt}
use Rattle.check_files.specs.Whole.{GaveMore, IsUnread}
use Rattle.check_files.specs.declared.error.Unread.{Unread}
use Rattle.check_files.specs.declared.error.Unread.TheVariants.{Fault, TooLarge, Memory}
use Rattle.check_files.proofs.Given.{gave_nothing}
use Rattle.check_files.proofs.Places.{other_places, shown_at, shown_new}
use Rattle.check_files.proofs.Since.{since_bytes, since_here}
use Rattle.check_files.proofs.contents.read_at.Goals as goal

-- counts of which the one at a place rose
rose_at : {S : Type 0} (f : S → ℕ) (xs : List S) (k : ℕ) (y d : S) → k < length xs → Rose (f (get_or xs k d)) (f y)
    → RoseAt k (map f xs) (map f (slice_set xs k y))
rose_at f xs k y d within rose = record {
  was = f (get_or xs k d);
  now = f y;
  was_is = shown_at f xs k d within;
  now_is = shown_new f xs k y within;
  rose = rose;
  others = λ j other. other_places f xs k y j other;
}

-- files of which the one at a place gave more
gave_at : {S : Type 0} (f : S → List ℕ) (xs : List S) (k : ℕ) (y d : S) → k < length xs
    → GaveMore (f (get_or xs k d)) (f y) → AllGaveMore (map f xs) (map f (slice_set xs k y))
gave_at f [] k y d within more j old is = absurd (cc is)
gave_at f (x ∷ xs) zero y d within more zero old is = let same : f x ≡ old = cc is in subst (λ o. GaveMore o (f y)) same
    more
gave_at f (x ∷ xs) zero y d within more (suc j) old is =
    subst (λ at. IsSomeAnd at (λ new. GaveMore old new)) (sym is) (gave_nothing old old refl)
gave_at f (x ∷ xs) (suc k) y d within more zero old is =
    subst (λ at. IsSomeAnd at (λ new. GaveMore old new)) (sym is) (gave_nothing old old refl)
gave_at f (x ∷ xs) (suc k) y d within more (suc j) old is = gave_at f xs k y d (omega (arith, within)) more j old is

-- files of which the one at a place gave all since
text_at : {S : Type 0} (f : S → List ℕ) (xs : List S) (k : ℕ) (y d : S) (bytes : List ℕ) → k < length xs
    → f y ≡ f (get_or xs k d) ++ bytes → length bytes ≤ file_limit k
    → IsTextOf (texts_since (map f xs) (map f (slice_set xs k y))) k bytes
text_at f xs k y d bytes within gave few = record {
  text_is = since_bytes (map f xs) (map f (slice_set xs k y)) k (f (get_or xs k d)) (f y) bytes
      (shown_at f xs k d within) (shown_new f xs k y within) gave;
  within = few;
}

module _ {S : Type 0} (f : S → List ℕ) (faults : S → ℕ) (xs : List S) (k : ℕ) (y d : S) (within : k < length xs)
    (limit : ℕ) (limit_is : limit ≡ file_limit k) where
  stopped_at : (unread : Unread) → IsUnread unread limit (f (get_or xs k d)) (f y) (faults (get_or xs k d)) (faults y)
      → IsStoppedAt (texts_since (map f xs) (map f (slice_set xs k y))) k (of_unread k unread)
  stopped_at Fault is = refl
  stopped_at TooLarge is = (
    refl,
    subst (λ at. IsSomeAnd at (λ text. file_limit k < length text))
        (sym (since_here (map f xs) (map f (slice_set xs k y)) k (f (get_or xs k d)) (f y) (shown_at f xs k d within)
        (shown_new f xs k y within)))
        (omega (arith, is.0, limit_is, length-drop (length (f (get_or xs k d))) (f y))),
  )
  stopped_at Memory is = tt

  counts_at : (unread : Unread) → IsUnread unread limit (f (get_or xs k d)) (f y) (faults (get_or xs k d)) (faults y)
      → FaultsBy (of_unread k unread) (map faults xs) (map faults (slice_set xs k y))
  counts_at Fault is = rose_at faults xs k y d within is
  counts_at TooLarge is = map-set_same faults xs k y d is.1
  counts_at Memory is = map-set_same faults xs k y d is

pub returns-in-Ok-clause-text : goal.returns-in-Ok-clause-text
returns-in-Ok-clause-text g c = text_at (λ f. given_in g.S.Source.given f) c.args.files.now c.args.place
    c.read_file.new.file c.index-files-place.result c.in-Ok.bytes.items c.requires.within c.in-Ok.ensures.ok.given
    (subst (λ n. length c.in-Ok.bytes.items ≤ n) c.limit_of.ensures c.in-Ok.ensures.ok.within)

pub returns-in-Ok-clause-ended : goal.returns-in-Ok-clause-ended
returns-in-Ok-clause-ended g c = shown_new (λ f. ended_in g.S.Source.ended f) c.args.files.now c.args.place
    c.read_file.new.file c.requires.within ∙ ap Some c.in-Ok.ensures.ok.end

pub returns-in-Ok-clause-more : goal.returns-in-Ok-clause-more
returns-in-Ok-clause-more g c = gave_at (λ f. given_in g.S.Source.given f) c.args.files.now c.args.place
    c.read_file.new.file c.index-files-place.result c.requires.within c.read_file.ensures.more

pub returns-in-Ok-clause-others : goal.returns-in-Ok-clause-others
returns-in-Ok-clause-others g c k other = other_places (λ f. given_in g.S.Source.given f) c.args.files.now c.args.place
    c.read_file.new.file k other

pub returns-in-Ok-clause-others_ended : goal.returns-in-Ok-clause-others_ended
returns-in-Ok-clause-others_ended g c k other =
    other_places (λ f. ended_in g.S.Source.ended f) c.args.files.now c.args.place
    c.read_file.new.file k other

pub returns-in-Ok-clause-faults : goal.returns-in-Ok-clause-faults
returns-in-Ok-clause-faults g c = map-set_same (λ f. faults_in g.S.Source.read_faults f) c.args.files.now c.args.place
    c.read_file.new.file c.index-files-place.result c.in-Ok.ensures.faults

pub returns-in-Ok-clause-names : goal.returns-in-Ok-clause-names
returns-in-Ok-clause-names g c = map-set_same (λ f. name_in g.S.Source.name f) c.args.files.now c.args.place
    c.read_file.new.file c.index-files-place.result c.read_file.ensures.name

pub returns-in-Ok-clause-wholes : goal.returns-in-Ok-clause-wholes
returns-in-Ok-clause-wholes g c = map-set_same (λ f. whole_in g.S.Source.whole f) c.args.files.now c.args.place
    c.read_file.new.file c.index-files-place.result c.read_file.ensures.whole

pub returns-in-Err-clause-more : goal.returns-in-Err-clause-more
returns-in-Err-clause-more g c = gave_at (λ f. given_in g.S.Source.given f) c.args.files.now c.args.place
    c.read_file.new.file c.index-files-place.result c.requires.within c.read_file.ensures.more

pub returns-in-Err-clause-others : goal.returns-in-Err-clause-others
returns-in-Err-clause-others g c k other = other_places (λ f. given_in g.S.Source.given f) c.args.files.now c.args.place
    c.read_file.new.file k other

pub returns-in-Err-clause-others_ended : goal.returns-in-Err-clause-others_ended
returns-in-Err-clause-others_ended g c k other =
    other_places (λ f. ended_in g.S.Source.ended f) c.args.files.now c.args.place
    c.read_file.new.file k other

pub returns-in-Err-clause-err : goal.returns-in-Err-clause-err
returns-in-Err-clause-err g c =
    let files = c.args.files.now in
    subst (λ e. IsStoppedAt (texts_since (map (λ f. given_in g.S.Source.given f) files)
    (map (λ f. given_in g.S.Source.given f) (slice_set files c.args.place c.read_file.new.file))) c.args.place e)
    (sym c.error_at.ensures)
    (stopped_at (λ f. given_in g.S.Source.given f) (λ f. faults_in g.S.Source.read_faults f) files c.args.place
    c.read_file.new.file c.index-files-place.result c.requires.within c.limit_of.result c.limit_of.ensures
    c.in-Err.unread c.in-Err.ensures.err)

pub returns-in-Err-clause-counts : goal.returns-in-Err-clause-counts
returns-in-Err-clause-counts g c =
    let files = c.args.files.now in
    subst (λ e. FaultsBy e (map (λ f. faults_in g.S.Source.read_faults f) files)
    (map (λ f. faults_in g.S.Source.read_faults f) (slice_set files c.args.place c.read_file.new.file)))
    (sym c.error_at.ensures)
    (counts_at (λ f. given_in g.S.Source.given f) (λ f. faults_in g.S.Source.read_faults f) files c.args.place
    c.read_file.new.file c.index-files-place.result c.requires.within c.limit_of.result c.limit_of.ensures
    c.in-Err.unread c.in-Err.ensures.err)

pub returns-in-Err-clause-names : goal.returns-in-Err-clause-names
returns-in-Err-clause-names g c = map-set_same (λ f. name_in g.S.Source.name f) c.args.files.now c.args.place
    c.read_file.new.file c.index-files-place.result c.read_file.ensures.name

pub returns-in-Err-clause-wholes : goal.returns-in-Err-clause-wholes
returns-in-Err-clause-wholes g c = map-set_same (λ f. whole_in g.S.Source.whole f) c.args.files.now c.args.place
    c.read_file.new.file c.index-files-place.result c.read_file.ensures.whole
