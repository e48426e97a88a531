-- Files that are opened by their names, some of which may be absent.
use Rattle.std.specs.Prelude.{◌≡◌, ◌≢◌, ℕ, zero, suc, Bool, List, [], ◌∷◌, Option, Some, None, length, map, ⊤}
use Rattle.std.specs.Prelude.{option_map, is_none, take, slice_get}
use Rattle.std.specs.Borrow.{Bor}
use Rattle.std.specs.List.{AllByRecursion}
use Rattle.flake_base.specs.Calls.{counted}
use Rattle.flake_base.specs.Causes.{Rose}
use Rattle.flake_base.specs.Told.{HostTold}

-- a file's name; none where no file stands
abbrev pub Named : Type 0
Named = Option (List ℕ)

-- the name, as the code holds it
abbrev pub named : Option (Bor (List ℕ)) → Named
named name = option_map (λ n. n.now) name

-- the names of those that are to be opened
abbrev pub names_in : List Named → List (List ℕ)
names_in [] = []
names_in (None ∷ words) = names_in words
names_in (Some name ∷ words) = name ∷ names_in words

-- those at the places of names
abbrev pub at_names : {A : Type 0} → List Named → List A → List A
at_names [] items = []
at_names (word ∷ words) [] = []
at_names (None ∷ words) (item ∷ items) = at_names words items
at_names (Some name ∷ words) (item ∷ items) = item ∷ at_names words items

-- what a file holds: no bytes where none stands
abbrev pub held_by : HostTold → Named → Option (List ℕ)
held_by host None = Some []
held_by host (Some name) = host.holds name

-- where no name stands there are no bytes
abbrev pub AreEmptyUnnamed : List Named → List (Option (List ℕ)) → Type 0
AreEmptyUnnamed [] wholes = ⊤
AreEmptyUnnamed (word ∷ words) [] = ⊤
AreEmptyUnnamed (None ∷ words) (whole ∷ wholes) = (whole ≡ Some []) × AreEmptyUnnamed words wholes
AreEmptyUnnamed (Some name ∷ words) (whole ∷ wholes) = AreEmptyUnnamed words wholes

-- what files gave that were not read
abbrev pub givens_unread : List Named → List (List ℕ)
givens_unread words = map (λ word. []) words

-- and which of them are at their ends: where no name stands
abbrev pub endeds_unread : List Named → List Bool
endeds_unread words = map is_none words

-- none of the names is this one
abbrev pub AreOther : List ℕ → List (List ℕ) → Type 0
AreOther name names = AllByRecursion (λ other. other ≢ name) names

-- no name stands twice
abbrev pub AreDistinct : List (List ℕ) → Type 0
AreDistinct [] = ⊤
AreDistinct (name ∷ names) = AreOther name names × AreDistinct names

-- What files hold, behind others of these names: where none has a file's name yet, what was held under it.
abbrev pub HaveTheirOwn : (List ℕ → Option (List ℕ)) → List (List ℕ) → List (List ℕ) → List (Option (List ℕ)) → Type 0
HaveTheirOwn holds before [] wholes = ⊤
HaveTheirOwn holds before (name ∷ names) [] = ⊤
HaveTheirOwn holds before (name ∷ names) (whole ∷ wholes) =
    (AreOther name before → whole ≡ holds name) × HaveTheirOwn holds (name ∷ before) names wholes

-- a count of calls once so many more were counted
abbrev pub counted_times : ℕ → ℕ → ℕ
counted_times zero count = count
counted_times (suc n) count = counted (counted_times n count)

abbrev pub NoneFailed : List ℕ → Type 0
NoneFailed faults = AllByRecursion (λ n. n ≡ 0) faults

-- the file of this name was opened, and holds this
pub record OpensName (name : List ℕ) (old new : HostTold) (whole : Option (List ℕ)) : Type 0 where
  pub whole_is : whole ≡ old.holds name
  pub others : (other : List ℕ) → other ≢ name → new.holds other ≡ old.holds other
  pub opens : new.opens ≡ counted old.opens
  pub open_faults : (other : List ℕ) → new.open_faults other ≡ old.open_faults other
  pub said : new.said ≡ old.said
  pub say_faults : new.say_faults ≡ old.say_faults

-- where no name stands no file is opened
abbrev pub OpensOne : Named → HostTold → HostTold → Option (List ℕ) → Type 0
OpensOne None old new whole = (new ≡ old) × (whole ≡ Some [])
OpensOne (Some name) old new whole = OpensName name old new whole

-- the open of this name failed, and left all but the counts as it was
pub record NotOpened (name : List ℕ) (old new : HostTold) : Type 0 where
  pub others : (other : List ℕ) → other ≢ name → new.holds other ≡ old.holds other
  pub own : new.holds name ≡ old.holds name
  pub opens : new.opens ≡ counted old.opens
  pub rose : Rose (old.open_faults name) (new.open_faults name)
  pub said : new.said ≡ old.said
  pub say_faults : new.say_faults ≡ old.say_faults

abbrev pub FailsOne : Named → HostTold → HostTold → Type 0
FailsOne None old new = ⊥
FailsOne (Some name) old new = NotOpened name old new

-- Each file was opened under its name, once. This is what the files hold.
pub record FilesOpened (words : List Named) (old new : HostTold) (names : List Named)
    (wholes : List (Option (List ℕ))) : Type 0 where
  pub names_are : names ≡ words
  pub as_many : length wholes ≡ length words
  pub wholes_are : AreDistinct (names_in words) → wholes ≡ map (held_by old) words
  pub own : HaveTheirOwn old.holds [] (names_in words) (at_names words wholes)
  pub unnamed : AreEmptyUnnamed words wholes
  pub holds : (other : List ℕ) → AreOther other (names_in words) → new.holds other ≡ old.holds other
  pub opens : new.opens ≡ counted_times (length (names_in words)) old.opens
  pub open_faults : (name : List ℕ) → new.open_faults name ≡ old.open_faults name

-- no read of the files gave anything
pub record AreUnread (words : List Named) (givens : List (List ℕ)) (endeds : List Bool) : Type 0 where
  pub givens_are : givens ≡ givens_unread words
  pub endeds_are : endeds ≡ endeds_unread words

-- The files in front of the one at this place were opened, and its open failed. This is what they hold.
pub record FileFails (words : List Named) (place : ℕ) (old new : HostTold) (names : List Named)
    (wholes : List (Option (List ℕ))) : Type 0 where
  pub between : HostTold
  pub opened : FilesOpened (take place words) old between names wholes
  pub name : List ℕ
  pub name_is : slice_get words place ≡ Some (Some name)
  pub fails : NotOpened name between new
