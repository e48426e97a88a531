-- What is found at an entry among deeds.
use Rattle.std.proofs.Common.{◌≡◌, Bool, true, false, ◌⊎◌, inl, inr, if◌then◌else◌, Option, Some, None, List, [], ◌∷◌}
use Rattle.std.proofs.Common.{refl, ap, sym, ◌∙◌, subst, ⊎_elim}
use Rattle.std.specs.List.{AllByRecursion}
use Rattle.flake_base.specs.declared.journal.Entry.{Entry}
use Rattle.flake_model.specs.Deed.{Deed, entries_of}
use Rattle.flake_model.specs.Journal.{is_entry}
use Rattle.flake_model.specs.Order.{IsBefore, EntriesRise}
use Rattle.flake_model.proofs.Entries.{entry_is, is_itself}
use Rattle.flake_model.proofs.OneOrder.{Among, before_itself}
use Rattle.transcript_model.specs.Deeds.{find_deed}

is_entry_of : (a b : Entry) → a ≡ b → is_entry a b ≡ true
is_entry_of a b e = subst (λ c. is_entry a c ≡ true) e (is_itself a)

found_first : (entry : Entry) (first : Deed) (rest : List Deed) (deed : Deed) (here : Bool)
    → is_entry entry first.entry ≡ here → (if here then Some first else find_deed entry rest) ≡ Some deed
    → ((first ≡ deed) × (first.entry ≡ entry)) ⊎ (find_deed entry rest ≡ Some deed)
found_first entry first rest deed true is e =
    inl ((let same : first ≡ deed = cc in same), sym (entry_is entry first.entry is))
found_first entry first rest deed false is e = inr e

-- a deed that is found stands there
pub at_some : (entry : Entry) (deeds : List Deed) (deed : Deed) → find_deed entry deeds ≡ Some deed
    → Among deeds deed × (deed.entry ≡ entry)
at_some entry [] deed e = absurd (let no : ⊥ = cc in no)
at_some entry (first ∷ rest) deed e = ⊎_elim
    (λ is. (inl is.0, ap (λ (d : Deed). d.entry) (sym is.0) ∙ is.1))
    (λ later. let more = at_some entry rest deed later in (inr more.0, more.1))
    (found_first entry first rest deed (is_entry entry first.entry) refl e)

not_first : (first : Deed) (rest : Option Deed) (here : Bool) → (if here then Some first else rest) ≡ None
    → (here ≡ true → ⊥) × (rest ≡ None)
not_first first rest true e = absurd (let no : ⊥ = cc in no)
not_first first rest false e = ((λ t. let no : ⊥ = cc in no), e)

-- where none is found none stands
pub at_none : (entry : Entry) (deeds : List Deed) (deed : Deed) → find_deed entry deeds ≡ None → Among deeds deed
    → deed.entry ≡ entry → ⊥
at_none entry [] deed e among at = among
at_none entry (first ∷ rest) deed e (inl is) at =
    (not_first first (find_deed entry rest) (is_entry entry first.entry) e).0
    (is_entry_of entry first.entry (sym (ap (λ (d : Deed). d.entry) is ∙ at)))
at_none entry (first ∷ rest) deed e (inr later) at =
    at_none entry rest deed (not_first first (find_deed entry rest) (is_entry entry first.entry) e).1 later at

-- no entry is that of two deeds
abbrev pub AreOnce : List Deed → Type 0
AreOnce deeds = (a b : Deed) → Among deeds a → Among deeds b → a.entry ≡ b.entry → a ≡ b

-- a deed of these is found at its entry
pub found_there : (deeds : List Deed) (deed : Deed) → AreOnce deeds → Among deeds deed
    → find_deed deed.entry deeds ≡ Some deed
found_there deeds deed once among = by (find_deed deed.entry deeds) refl where
  by : (found : Option Deed) → find_deed deed.entry deeds ≡ found → found ≡ Some deed
  by None is = absurd (at_none deed.entry deeds deed is among refl)
  by (Some other) is =
      let there = at_some deed.entry deeds other is in
      ap Some (once other deed there.0 among there.1)

-- two lists that have the same deeds at an entry, of which one has one there
pub same_deed : (entry : Entry) (all own : List Deed)
    → ((deed : Deed) → Among all deed → deed.entry ≡ entry → Among own deed)
    → ((deed : Deed) → Among own deed → deed.entry ≡ entry → Among all deed)
    → AreOnce own → find_deed entry all ≡ find_deed entry own
same_deed entry all own into out once = agree (find_deed entry all) (find_deed entry own) refl refl where
  agree : (some other : Option Deed) → find_deed entry all ≡ some → find_deed entry own ≡ other → some ≡ other
  agree None None e d = refl
  agree None (Some b) e d =
      let there = at_some entry own b d in absurd (at_none entry all b e (out b there.0 there.1) there.1)
  agree (Some a) None e d =
      let there = at_some entry all a e in absurd (at_none entry own a d (into a there.0 there.1) there.1)
  agree (Some a) (Some b) e d =
      let here = at_some entry all a e in
      let there = at_some entry own b d in
      ap Some (once a b (into a here.0 here.1) there.0 (here.1 ∙ sym there.1))

-- what holds of each entry holds of that of each deed
all_of : (P : Entry → Type 0) (deeds : List Deed) (deed : Deed) → AllByRecursion P (entries_of deeds)
    → Among deeds deed → P deed.entry
all_of P [] deed all among = absurd among
all_of P (first ∷ deeds) deed all (inl is) = subst (λ (d : Deed). P d.entry) is all.0
all_of P (first ∷ deeds) deed all (inr among) = all_of P deeds deed all.1 among

-- entries that rise are all different
pub rising_once : (deeds : List Deed) → EntriesRise (entries_of deeds) → AreOnce deeds
rising_once [] rising a b in_a in_b same = absurd in_a
rising_once (d ∷ deeds) rising a b (inl is_a) (inl is_b) same = sym is_a ∙ is_b
rising_once (d ∷ deeds) rising a b (inl is_a) (inr in_b) same =
    let before = all_of (λ later. IsBefore d.entry later) deeds b rising.0 in_b in
    absurd (before_itself b.entry
    (subst (λ m. IsBefore m b.entry) (ap (λ (u : Deed). u.entry) is_a ∙ same) before))
rising_once (d ∷ deeds) rising a b (inr in_a) (inl is_b) same =
    let before = all_of (λ later. IsBefore d.entry later) deeds a rising.0 in_a in
    absurd (before_itself a.entry
    (subst (λ m. IsBefore m a.entry) (ap (λ (u : Deed). u.entry) is_b ∙ sym same) before))
rising_once (d ∷ deeds) rising a b (inr in_a) (inr in_b) same = rising_once deeds rising.1 a b in_a in_b same
