-- A map with keys of bytes, after a change at one key.
use Rattle.std.proofs.Common.{◌≡◌, ℕ, Bool, true, false, cond, List, Option, IsSome, Some, refl, sym, ap, ◌∙◌, subst}
use Rattle.std.proofs.Common.{⊎_elim}
use Rattle.std.specs.Global.{Vec}
use Rattle.std.specs.HashMap.{HashMap, UpdatesBy, WritesThrough, get_by}
use Rattle.std.specs.Map.{lookup, IsKeyTest, AreApart, KeepsOthers}
use Rattle.std.specs.Option.{option_map}
use Rattle.std.specs.Cmp.Lexicographic.{bytes_decides, nat_list_eq_equiv}
use Rattle.std.proofs.lemmas.Bool.{cases_Bool, cond-true, cond-false}
use Rattle.byte_store.specs.Table.{TableEntries, table_bytes, equal_bytes, HasChanged, HasKept, after_append}

-- what differs from one text differs from each text that is the same
apart : (bytes other name : List ℕ) → equal_bytes bytes other ≡ false → equal_bytes bytes name ≡ true
    → equal_bytes other name ≡ false
apart bytes other name differs is = nat_list_eq_equiv.symm other name
    ∙ sym (nat_list_eq_equiv.congr bytes name other is) ∙ differs

keeps : {K X : Type 0} (eq : K → K → Bool) (test : K → Bool) (old new : List (K × X)) → KeepsOthers eq test old new
    → (other : K → Bool) → IsKeyTest eq other → AreApart test other → lookup other new ≡ lookup other old
unfolding KeepsOthers
keeps eq test old new kept = kept

abbrev pub key_eq : Vec ℕ → Vec ℕ → Bool
key_eq a b = equal_bytes a.items b.items

-- after a change at one key the map has there the new value, and elsewhere what it had
pub updated : {S : Type 0} (bytes : List ℕ) (old new : HashMap (Vec ℕ) (Vec ℕ) S) (value : Option (Vec ℕ))
    → UpdatesBy key_eq (λ (name : Vec ℕ). equal_bytes bytes name.items) old new value
    → HasChanged bytes (option_map (λ (v : Vec ℕ). v.items) value) old.entries new.entries
updated bytes old new value updates key =
    let items : Option (Vec ℕ) → Option (List ℕ) = λ found. option_map (λ (v : Vec ℕ). v.items) found in
    ⊎_elim
    (λ same. subst (λ k. table_bytes k new.entries ≡ items value) ((bytes_decides bytes key).0 same)
    (ap items updates.1) ∙ sym (cond-true (equal_bytes bytes key) (items value) (table_bytes key old.entries) same))
    (λ differs. ap items (keeps key_eq (λ (name : Vec ℕ). equal_bytes bytes name.items) old.entries new.entries
    updates.3
    (λ (name : Vec ℕ). equal_bytes key name.items) (λ a b. nat_list_eq_equiv.congr key a.items b.items)
    (λ name. apart bytes key name.items differs))
    ∙ sym (cond-false (equal_bytes bytes key) (items value) (table_bytes key old.entries) differs))
    (cases_Bool (equal_bytes bytes key))

-- nothing changed
pub unchanged : (key : List ℕ) (old new : TableEntries) → new ≡ old → HasChanged key (table_bytes key old) old new
unchanged key old new same other =
    ap (table_bytes other) same
    ∙ ⊎_elim
    (λ is. ap (λ k. table_bytes k old) (sym ((bytes_decides key other).0 is))
    ∙ sym (cond-true (equal_bytes key other) (table_bytes key old) (table_bytes other old) is))
    (λ differs. sym (cond-false (equal_bytes key other) (table_bytes key old) (table_bytes other old) differs))
    (cases_Bool (equal_bytes key other))

-- a value that was written through what was lent of it
pub through : {S : Type 0} (key : List ℕ) (old new : HashMap (Vec ℕ) (Vec ℕ) S) (was now : Vec ℕ)
    → get_by (λ (name : Vec ℕ). equal_bytes key name.items) old ≡ Some was
    → WritesThrough key_eq (λ (name : Vec ℕ). equal_bytes key name.items) old now new
    → HasChanged key (Some now.items) old.entries new.entries
through key old new was now had written = updated key old new (Some now) (written.3 (subst IsSome (sym had) refl))

-- bytes were put behind it, unless it would be too long
pub appended_through : {S : Type 0} (key bytes : List ℕ) (old new : HashMap (Vec ℕ) (Vec ℕ) S) (was now : Vec ℕ)
    → get_by (λ (name : Vec ℕ). equal_bytes key name.items) old ≡ Some was
    → WritesThrough key_eq (λ (name : Vec ℕ). equal_bytes key name.items) old now new → Some now.items
    ≡ after_append (Some was.items) bytes → HasChanged key (after_append (table_bytes key old.entries) bytes)
    old.entries new.entries
appended_through key bytes old new was now had written is =
    let there : table_bytes key old.entries ≡ Some was.items = ap (option_map (λ (v : Vec ℕ). v.items)) had in
    subst (λ value. HasChanged key value old.entries new.entries)
    (is ∙ ap (λ found. after_append found bytes) (sym there)) (through key old new was now had written)

-- it has the same bytes
pub kept_through : {S : Type 0} (key : List ℕ) (old new : HashMap (Vec ℕ) (Vec ℕ) S) (was now : Vec ℕ)
    → get_by (λ (name : Vec ℕ). equal_bytes key name.items) old ≡ Some was
    → WritesThrough key_eq (λ (name : Vec ℕ). equal_bytes key name.items) old now new → now.items ≡ was.items
    → HasKept old.entries new.entries
kept_through key old new was now had written is other =
    let there : table_bytes key old.entries ≡ Some was.items = ap (option_map (λ (v : Vec ℕ). v.items)) had in
    through key old new was now had written other
    ∙ ap (λ value. cond (equal_bytes key other) value (table_bytes other old.entries)) (ap Some is ∙ sym there)
    ∙ sym (unchanged key old.entries old.entries refl other)
