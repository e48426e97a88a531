-- What the parts do, by the definitions.
use Rattle.std.proofs.Common.{◌≡◌, ℕ, Bool, true, false, cond, List, [], ◌++◌, length, Option, None, Some, is_some}
use Rattle.std.proofs.Common.{refl, sym, ap, ◌∙◌, subst, append-nil}
use Rattle.std.specs.Option.{option_map}
use Rattle.std.specs.FinMap as finite
use Rattle.pin_core.specs.Holding.{Holding}
use Rattle.pin_core.specs.declared.sizes.Sizes.{Sizes}
use Rattle.flake_model.specs.Store.{Store, When, always, if_missing, if_present, Operation, set, Answer, keeps, puts}
use Rattle.flake_model.specs.Store.{removes, found, done, missing, stores, key_of, answer, change_by, changed, bytes_at}
use Rattle.flake_model.specs.Store.{first_at}
use Rattle.flake_model.specs.Deed.{Places, places_at, places_with, kept_fragments, AreStored}
use Rattle.frag_value.specs.Values.{IsCut, value_bytes}
use Rattle.frag_value.specs.Taken.{entire}
use Rattle.shard_core.specs.Kept.{Entries, value_at, frags_of, bytes_kept, Agrees, value_addresses, segs_of}
use Rattle.frag_value.specs.Values.{Frags}
use Rattle.shard_core.specs.Answers.{answer_shown, old_answer}
use Rattle.shard_core.specs.Pieces.{pieces_at, answer_pieces}
use Rattle.shard_core.specs.Done.{IsDone}
use Rattle.shard_core.specs.ShardMaps.{ShardState}
use Rattle.shard_core.specs.declared.answer.PartAnswer.{PartAnswer}
use Rattle.shard_core.specs.declared.answer.PartAnswer.TheVariants as say
use Rattle.shard_core.proofs.Holds.{places_of}
use Rattle.shard_core.proofs.Runs.{segs-cut, count-addresses}

same_old : (f g : Frags → List ℕ) (o : Option Frags) → f (frags_of o) ≡ g (frags_of o) → option_map f o ≡ option_map g o
same_old f g None e = refl
same_old f g (Some v) e = ap Some e

pub present : {X Y : Type 0} (f : X → Y) (o : Option X) → is_some (option_map f o) ≡ is_some o
present f None = refl
present f (Some v) = refl

pub is_there : (z : Sizes) (es : Entries) (hs : List Holding) (s : Store) (p : Places) (key : List ℕ)
    → Agrees z es hs s p → is_some (finite.get s key) ≡ is_some (value_at key es)
is_there z es hs s p key a = ap is_some (sym (a.bytes key)) ∙ present (value_bytes hs) (value_at key es)

-- a set that stores over a value hands it over
over_pieces : (w : When) (asks : Bool) (key bytes : List ℕ) (o : Option (List ℕ)) (were : List ℕ) → stores w o ≡ true
    → pieces_at entire true (old_answer asks o) were 0 ≡ answer_pieces (set w asks key bytes) (old_answer asks o) were 0
over_pieces always asks key bytes o were e = refl
over_pieces if_present asks key bytes o were e = refl
over_pieces if_missing true key bytes None were e = refl
over_pieces if_missing false key bytes None were e = refl
over_pieces if_missing asks key bytes (Some v) were e = absurd (cc)

module _ (z : Sizes) (w : When) (asks : Bool) (key bytes : List ℕ) (s : Store) (p : Places) (said : PartAnswer)
    (before after : ShardState) (mid : List Holding)
    (a : Agrees z before.shard.entries before.shard.seat.holds s p) where
  abbrev pub es : Entries
  es = before.shard.entries

  abbrev pub hs : List Holding
  hs = before.shard.seat.holds

  -- a set that stores
  pub set_done : (old : Option Frags) (v : Frags) → stores w (bytes_kept key es hs) ≡ true → old ≡ value_at key es
      → value_bytes mid (frags_of old) ≡ value_bytes hs (frags_of old)
      → said ≡ answer_shown (old_answer asks (option_map (value_bytes mid) old))
      → after.taken ≡ before.taken ++ pieces_at entire true (old_answer asks (option_map (value_bytes mid) old))
      (value_addresses z (frags_of old)) 0
      → after.stored ≡ before.stored ++ segs_of z v → IsCut (length bytes) v
      → Agrees z after.shard.entries after.shard.seat.holds (finite.insert s key bytes)
      (finite.insert p key (value_addresses z v))
      → IsDone z (set w asks key bytes) s p said before after
  set_done old v does was same says taken segs cut agrees =
      let stored : List ℕ = value_addresses z v in
      let there : option_map (value_bytes mid) old ≡ finite.get s key = same_old (value_bytes mid)
      (value_bytes hs) old same ∙ ap (option_map (value_bytes hs)) was ∙ a.bytes key in
      let yes : stores w (finite.get s key) ≡ true = ap (stores w) (sym (a.bytes key)) ∙ does in
      let answer_is : answer s (set w asks key bytes) ≡ old_answer asks (finite.get s key) =
      ap (λ t. cond asks (found (finite.get s key)) (cond t done missing)) yes in
      let change_is : change_by s (set w asks key bytes) ≡ puts bytes = ap (λ t. cond t (puts bytes) keeps) yes in
      let places = places_of z es hs s p key a ∙ ap (λ o. value_addresses z (frags_of o)) (sym was) in
      record {
        stored = stored;
        says = says ∙ ap (λ o. answer_shown (old_answer asks o)) there ∙ ap answer_shown (sym answer_is);
        agrees = subst (λ what. Agrees z after.shard.entries after.shard.seat.holds (changed s key what)
            (places_with p key what stored)) (sym change_is) agrees;
        stored_is = subst (λ what. AreStored what 0 (places_at p key) stored) (sym change_is)
            (count-addresses z bytes v cut, refl);
        segs_are = segs ∙ ap (λ l. before.stored ++ l) (segs-cut z (length bytes) v cut);
        pieces = taken
            ∙ ap (λ l. before.taken ++ l) ((λ i. pieces_at entire true (old_answer asks (there i)) (sym places i) 0)
            ∙ over_pieces w asks key bytes (finite.get s key) (places_at p key) yes
            ∙ ap (λ x. answer_pieces (set w asks key bytes) x (places_at p key) 0) (sym answer_is));
      }

-- a part that changes nothing
pub same_done : (z : Sizes) (operation : Operation) (s : Store) (p : Places) (said : PartAnswer)
    (before after : ShardState) (says_is : Answer)
    → change_by s operation ≡ keeps → answer s operation ≡ says_is → said ≡ answer_shown says_is
    → Agrees z after.shard.entries after.shard.seat.holds s p → after.stored ≡ before.stored
    → after.taken ≡ before.taken ++ answer_pieces operation says_is (places_at p (key_of operation))
    (first_at s operation)
    → IsDone z operation s p said before after
same_done z operation s p said before after says_is change_is answer_is says agrees segs taken =
    let key : List ℕ = key_of operation in
    record {
      stored = [];
      says = says ∙ ap answer_shown (sym answer_is);
      agrees = subst (λ what. Agrees z after.shard.entries after.shard.seat.holds (changed s key what)
          (places_with p key what [])) (sym change_is) agrees;
      stored_is = subst (λ what. AreStored what (kept_fragments (bytes_at s key) operation) (places_at p key) [])
          (sym change_is) refl;
      segs_are = segs ∙ sym (append-nil before.stored);
      pieces = taken ∙ ap (λ l. before.taken ++ l)
          (ap (λ x. answer_pieces operation x (places_at p key) (first_at s operation)) (sym answer_is));
    }

-- a set that stores nothing hands no hold over
kept_pieces : (w : When) (asks : Bool) (key bytes : List ℕ) (o : Option (List ℕ)) (were : List ℕ) → stores w o ≡ false
    → pieces_at entire false (found o) were 0 ≡ answer_pieces (set w asks key bytes) (found o) were 0
kept_pieces always asks key bytes o were e = absurd (cc)
kept_pieces if_missing asks key bytes o were e = refl
kept_pieces if_present asks key bytes None were e = refl
kept_pieces if_present asks key bytes (Some v) were e = absurd (cc)

-- a set that stores nothing, and answers what its key has
pub asked_done : (z : Sizes) (w : When) (asks : Bool) (key bytes : List ℕ) (s : Store) (p : Places)
    (said : PartAnswer) (before after : ShardState)
    → asks ≡ true → stores w (finite.get s key) ≡ false → said ≡ answer_shown (found (finite.get s key))
    → Agrees z after.shard.entries after.shard.seat.holds s p → after.stored ≡ before.stored
    → after.taken ≡ before.taken ++ pieces_at entire false (found (finite.get s key)) (places_at p key) 0
    → IsDone z (set w asks key bytes) s p said before after
asked_done z w asks key bytes s p said before after asking idle says agrees segs taken =
    let had : Answer = found (finite.get s key) in
    let change_is : change_by s (set w asks key bytes) ≡ keeps = ap (λ t. cond t (puts bytes) keeps) idle in
    let answer_is : answer s (set w asks key bytes) ≡ had =
    ap (λ t. cond t had (cond (stores w (finite.get s key)) done missing)) asking in
    same_done z (set w asks key bytes) s p said before after had change_is answer_is says agrees segs
    (taken ∙ ap (λ l. before.taken ++ l) (kept_pieces w asks key bytes (finite.get s key) (places_at p key) idle))

-- a set that stores nothing, and is not asked for what its key has
pub unasked_done : (z : Sizes) (w : When) (asks : Bool) (key bytes : List ℕ) (s : Store) (p : Places)
    (before after : ShardState) → asks ≡ false → stores w (finite.get s key) ≡ false
    → Agrees z after.shard.entries after.shard.seat.holds s p → after.stored ≡ before.stored
    → after.taken ≡ before.taken → IsDone z (set w asks key bytes) s p say.Null before after
unasked_done z w asks key bytes s p before after asking idle agrees segs taken =
    let change_is : change_by s (set w asks key bytes) ≡ keeps = ap (λ t. cond t (puts bytes) keeps) idle in
    let answer_is : answer s (set w asks key bytes) ≡ missing =
    ap (λ t. cond t (found (finite.get s key)) (cond (stores w (finite.get s key)) done missing)) asking
    ∙ ap (λ t. cond t done missing) idle in
    same_done z (set w asks key bytes) s p say.Null before after missing change_is answer_is refl agrees segs
    (taken ∙ sym (append-nil before.taken))

-- a key that goes
pub gone_done : (z : Sizes) (operation : Operation) (s : Store) (p : Places) (said : PartAnswer)
    (before after : ShardState) (says_is : Answer)
    → change_by s operation ≡ removes → answer s operation ≡ says_is → said ≡ answer_shown says_is
    → Agrees z after.shard.entries after.shard.seat.holds (finite.remove s (key_of operation))
    (finite.remove p (key_of operation))
    → after.stored ≡ before.stored → after.taken ≡ before.taken
    → answer_pieces operation says_is (places_at p (key_of operation)) (first_at s operation) ≡ []
    → IsDone z operation s p said before after
gone_done z operation s p said before after says_is change_is answer_is says agrees segs taken none =
    let key : List ℕ = key_of operation in
    record {
      stored = [];
      says = says ∙ ap answer_shown (sym answer_is);
      agrees = subst (λ what. Agrees z after.shard.entries after.shard.seat.holds (changed s key what)
          (places_with p key what [])) (sym change_is) agrees;
      stored_is = subst (λ what. AreStored what (kept_fragments (bytes_at s key) operation) (places_at p key) [])
          (sym change_is) refl;
      segs_are = segs ∙ sym (append-nil before.stored);
      pieces = taken ∙ sym (append-nil before.taken)
          ∙ ap (λ l. before.taken ++ l) (sym none
          ∙ ap (λ x. answer_pieces operation x (places_at p key) (first_at s operation)) (sym answer_is));
    }
