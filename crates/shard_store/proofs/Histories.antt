-- A shard's history with one deed more.
use Rattle.std.proofs.Common.{OnErr, Ok, Err, Result, ◌≡◌, ℕ, ◌+◌, ◌-◌, ◌<◌, List, [], ◌∷◌, ◌++◌, length, take, drop}
use Rattle.std.proofs.Common.{Option, refl, sym, ap, ◌∙◌, subst, arith}
use Rattle.std.proofs.lemmas.List.{map-append, drop_at, take_all, length-drop}
use Rattle.std.specs.Ordering.{nat_cmp}
use Rattle.std.specs.Cmp.Lexicographic.{slice_cmp}
use Rattle.std.specs.FinMap as finite
use Rattle.pin_core.specs.declared.sizes.Sizes.{Sizes}
use Rattle.pin_core.specs.declared.class.Class.{Class}
use Rattle.pin_core.specs.declared.class.Class.TheVariants.{Small, Large}
use Rattle.pinned_pool.specs.Classes.{buffers_in}
use Rattle.pinned_pool.specs.Named.{IsSeat}
use Rattle.pinned_pool.specs.Sought.{Sought}
use Rattle.pinned_pool.specs.declared.view.View.{View}
use Rattle.pinned_pool.proofs.InClasses.{buffers-append}
use Rattle.flake_base.specs.declared.journal.Entry.{Entry}
use Rattle.flake_base.specs.declared.segment.Seg.{Seg}
use Rattle.flake_model.specs.Store.{Store, Operation, get, set, append, del, exists, str_len, get_range, Answer, value}
use Rattle.flake_model.specs.Store.{missing, done, length_is, did, too_long, key_of, after, IsWrite}
use Rattle.flake_model.specs.Deed.{Deed, deed_at, Places, places_after, found_at, IsLegalDeed, IsLegalFrom, store_left}
use Rattle.flake_model.specs.Deed.{places_left, final_store, final_places}
use Rattle.frag_value.specs.Changes.{found_none}
use Rattle.frag_value.specs.declared.error.PlaceError.{PlaceError}
use Rattle.frag_value.specs.declared.error.PlaceError.TheVariants as unplaced
use Rattle.pinned_pool.specs.declared.pool.NoBuffer.{NoBuffer}
use Rattle.order_book.specs.Pages.{ShardList, SessionList, shard_with, session_with, new_shard}
use Rattle.shard_core.specs.Kept.{IsKept, Agrees}
use Rattle.shard_core.specs.ShardMaps.{ShardMapView, ShardState}
use Rattle.shard_core.specs.Demand.{part_row}
use Rattle.shard_core.specs.Done.{IsDone}
use Rattle.shard_core.specs.Paid.{IsPaid, HasNone, LacksBuffers, NeedsBuffers, WhyPartRefused}
use Rattle.shard_core.specs.Pieces.{answer_pieces, segs_at}
use Rattle.shard_core.specs.declared.answer.PartAnswer.{PartAnswer}
use Rattle.shard_core.proofs.Holds.{are_apart}
use Rattle.shard_part.specs.Parts.{operation_by}
use Rattle.shard_part.specs.declared.part.PartOp.{PartOp}
use Rattle.shard_part.specs.declared.part.PartOp.TheVariants as part
use Rattle.shard_core.specs.Needed.{may_need, SoughtFor}
use Rattle.shard_core.specs.Outcomes.{PartOutcome, MayMiss, answer_told, missed_in}
use Rattle.shard_core.specs.Parts.{KeepsSeat}
use Rattle.shard_core.proofs.Needed.{needs_one}
use Rattle.shard_store.specs.Shards.{IsShard, answer_after, found_after, first_after, segment_addresses}

store-snoc : (s : Store) (ds : List Deed) (d : Deed) → store_left s (ds ++ d ∷ []) ≡ after (store_left s ds) d.operation
store-snoc s [] d = refl
store-snoc s (e ∷ ds) d = store-snoc (after s e.operation) ds d

places-snoc : (s : Store) (p : Places) (ds : List Deed) (d : Deed) → places_left s p (ds ++ d ∷ [])
    ≡ places_after (store_left s ds) (places_left s p ds) d.operation d.stored
places-snoc s p [] d = refl
places-snoc s p (e ∷ ds) d = places-snoc (after s e.operation) (places_after s p e.operation e.stored) ds d

legal-snoc : (s : Store) (p : Places) (ds : List Deed) (d : Deed) → IsLegalFrom s p ds
    → IsLegalDeed (store_left s ds) (places_left s p ds) d → IsLegalFrom s p (ds ++ d ∷ [])
legal-snoc s p [] d legal next = (next, tt)
legal-snoc s p (e ∷ ds) d legal next =
    (legal.0, legal-snoc (after s e.operation) (places_after s p e.operation e.stored) ds d legal.1 next)

pub as_was : (z : Sizes) (number : ℕ) (old new : ShardMapView) (list : ShardList) (journal : List Entry) → new ≡ old
    → IsShard z number old list journal → IsShard z number new list journal
as_was z number old new list journal same it =
    subst (λ (m : ShardMapView). IsShard z number m list journal) (sym same) it

pub begins : (z : Sizes) (number : ℕ) (shard_map : ShardMapView) (own : View) (list : ShardList) (journal : List Entry)
    → shard_map ≡ record { entries = []; seat = own } → list ≡ new_shard number → journal ≡ []
    → IsShard z number shard_map list journal
begins z number shard_map own list journal none new empty =
    subst (λ (y : ShardMapView × ShardList × List Entry). IsShard z number y.0 y.1 y.2)
    (λ i. (sym none i, sym new i, sym empty i))
    (record {
      number_is = refl;
      journal_is = refl;
      legal = tt;
      agrees = record {
        bytes = λ key. sym (finite.get-empty (slice_cmp nat_cmp) key);
        places_are = λ key. sym (finite.get-empty (slice_cmp nat_cmp) key);
      };
    })

module _ (z : Sizes) (number : ℕ) (list : ShardList) (journal : List Entry) (at : Entry)
    (operation : Operation) (said : PartAnswer) (old new : ShardState)
    (was : IsShard z number old.shard list journal)
    (d : IsDone z operation (final_store list.told) (final_places list.told) said old new) where
  abbrev pub now : ShardMapView
  now = new.shard

  -- the deed, by the definitions
  abbrev pub the_deed : Deed
  the_deed = deed_at at operation (answer_after list.told operation) (found_after list.told operation)
      (first_after list.told operation) d.stored

  pub grows : IsKept z now.entries now.seat → IsSeat z now.seat → IsShard z number now (shard_with list the_deed)
      (journal ++ at ∷ [])
  grows kept seat =
      let deeds : List Deed = list.told in
      let store_is = store-snoc finite.empty deeds the_deed in
      let places_are = places-snoc finite.empty finite.empty deeds the_deed in
      record {
        number_is = was.number_is;
        journal_is = ap (λ l. l ++ at ∷ []) was.journal_is
            ∙ sym (map-append (λ (e : Deed). e.entry) deeds (the_deed ∷ []));
        legal = legal-snoc finite.empty finite.empty deeds the_deed was.legal
            (record {
              answered = refl;
              found_is = refl;
              first_is = refl;
              stored_is = d.stored_is;
              apart = are_apart z now.entries now.seat.holds kept.held seat.loose (after (final_store deeds) operation)
                  (places_after (final_store deeds) (final_places deeds) operation d.stored) d.agrees;
            });
        agrees = subst (λ (y : Store × Places). Agrees z now.entries now.seat.holds y.0 y.1)
            (λ i. (sym store_is i, sym places_are i)) d.agrees;
      }

-- the addresses of the segments that were added
segs-addresses : (stored : List ℕ) (n : ℕ) → segment_addresses (segs_at stored n) ≡ stored
segs-addresses [] n = refl
segs-addresses (a ∷ stored) n = ap (λ l. a ∷ l) (segs-addresses stored (n - 4096))

pub stored_are : (segs0 segs1 slice : List Seg) (from n : ℕ) (stored : List ℕ) → slice ≡ segs1 → from ≡ length segs0
    → segs1 ≡ segs0 ++ segs_at stored n → segment_addresses (take (length slice - from) (drop from slice)) ≡ stored
stored_are segs0 segs1 slice from n stored is first grew =
    ap segment_addresses (take_all (length slice - from) (drop from slice) (omega (arith, length-drop from slice)))
    ∙ (λ i. segment_addresses (drop (first i) ((is ∙ grew) i)))
    ∙ ap segment_addresses (drop_at segs0 (segs_at stored n) (length segs0) refl) ∙ segs-addresses stored n

-- the deed that was entered
abbrev deed_after : Entry → Operation → List Deed → List ℕ → Deed
deed_after at operation deeds stored = deed_at at operation (answer_after deeds operation) (found_after deeds operation)
    (first_after deeds operation) stored

pub entered_shard : (list new before : ShardList) (at : Entry) (operation : Operation) (listed stored : List ℕ)
    → new ≡ shard_with list (deed_after at operation before.told listed)
    → before ≡ list → listed ≡ stored → new ≡ shard_with list (deed_after at operation list.told stored)
entered_shard list new before at operation listed stored is same all = is
    ∙ (λ i. shard_with list (deed_after at operation (same i).told (all i)))

pub entered_session : (mine new : SessionList) (list before : ShardList) (number : ℕ) (at : Entry)
    (operation : Operation) (listed stored : List ℕ)
    → new ≡ session_with mine list.number (deed_after at operation before.told listed)
    → before ≡ list → listed ≡ stored → list.number ≡ number
    → new ≡ session_with mine number (deed_after at operation list.told stored)
entered_session mine new list before number at operation listed stored is same all here =
    is ∙ (λ i. session_with mine (here i) (deed_after at operation (same i).told (all i)))

pub pieces-found : (operation : Operation) (a : Answer) (were : List ℕ) (first : ℕ)
    → answer_pieces operation a were first ≡ answer_pieces operation a (found_at were a) first
pieces-found operation (value bytes) were first = refl
pieces-found operation missing were first = refl
pieces-found operation done were first = refl
pieces-found operation (length_is n) were first = refl
pieces-found operation (did happened) were first = refl
pieces-found operation too_long were first = refl

-- a seat that never sought
pub stays : (z : Sizes) (rows : Class → ℕ) (v : View) → Sought z rows 0 v v
stays z rows v = record {
  missed = λ class. 0;
  missed_are = refl;
  claims = λ class. omega arith;
  looks = λ b near. omega arith;
}

-- a part that finds no buffer has a row
some_row : (z : Sizes) (rows : Class → ℕ) (u w : View) → IsPaid z rows 1 u w → 0 < rows Small + rows Large
some_row z rows u w paid =
    let grew = λ (class : Class). ap (buffers_in z class) paid.claims.1
    ∙ buffers-append z class u.claims paid.claims.0 in
    omega (arith, paid.sought.missed_are, paid.sought.claims Small, paid.sought.claims Large, grew Small, grew Large)

-- and only a write has one
only_writes : (operation : Operation) → 0 < part_row Small operation + part_row Large operation → IsWrite operation
only_writes (get key) some = absurd (omega (arith, some))
only_writes (set when asks key bytes) some = tt
only_writes (append key bytes) some = tt
only_writes (del key) some = absurd (omega (arith, some))
only_writes (exists key) some = absurd (omega (arith, some))
only_writes (str_len key) some = absurd (omega (arith, some))
only_writes (get_range key first last) some = absurd (omega (arith, some))

pub may_miss : (z : Sizes) (operation : Operation) (u w : View)
    → IsPaid z (λ (class : Class). part_row class operation) 1 u w → MayMiss operation
may_miss z operation u w paid =
    let some = some_row z (λ (class : Class). part_row class operation) u w paid in
    (only_writes operation some, some)

pub key-part : (op : PartOp) (key bytes : List ℕ) → key_of (operation_by op key bytes) ≡ key
key-part part.Get key bytes = refl
key-part part.Set key bytes = refl
key-part part.SetNx key bytes = refl
key-part part.SetXx key bytes = refl
key-part part.SetGet key bytes = refl
key-part part.SetNxGet key bytes = refl
key-part part.SetXxGet key bytes = refl
key-part part.Append key bytes = refl
key-part part.Del key bytes = refl
key-part part.Exists key bytes = refl
key-part part.StrLen key bytes = refl
key-part (part.GetRange start end) key bytes = refl

-- a part that found no buffer
pub refused : (z : Sizes) (operation : Operation) (e : PlaceError) (none : NoBuffer) (u w : View)
    → e ≡ unplaced.NoBuffer none
    → IsPaid z (λ (class : Class). part_row class operation) (found_none {A = PartAnswer} (Err e)) u w
    → WhyPartRefused z operation e u w
    → IsPaid z (λ (class : Class). part_row class operation) 1 u w × HasNone z operation none u w
refused z operation e none u w is paid why = (
  subst (λ x. IsPaid z (λ (class : Class). part_row class operation) (found_none {A = PartAnswer} (Err x)) u w) is paid,
  subst (λ x. WhyPartRefused z operation x u w) is why,
)

pub needed : (z : Sizes) (operation : Operation) (e : PlaceError) (none : NoBuffer) (old new : ShardState)
    → e ≡ unplaced.NoBuffer none → NeedsBuffers z operation e old new
    → (store : Store) (places : Places) → Agrees z old.shard.entries old.shard.seat.holds store places
    → LacksBuffers z (finite.get store (key_of operation)) operation none old.payer new.payer
needed z operation e none old new is needs = subst (λ x. NeedsBuffers z operation x old new) is needs

-- a part for which memory was wanting
pub wanting : (z : Sizes) (operation : Operation) (e : PlaceError) (u w : View) → e ≡ unplaced.Memory
    → IsPaid z (λ (class : Class). part_row class operation) (found_none {A = PartAnswer} (Err e)) u w
    → IsPaid z (λ (class : Class). part_row class operation) 0 u w
wanting z operation e u w is paid =
    subst (λ x. IsPaid z (λ (class : Class). part_row class operation) (found_none {A = PartAnswer} (Err x)) u w) is
    paid

-- of each class a part misses only what it may need
pub paid_part : (z : Sizes) (operation : Operation) (outcome : Option PartOutcome) (u w : View)
    → IsPaid z (λ (class : Class). part_row class operation) (missed_in (outcome ∷ [])) u w
    → SoughtFor z (λ (class : Class). part_row class operation)
    (λ (class : Class). may_need class operation (answer_told outcome)) (missed_in (outcome ∷ [])) u w
paid_part z operation outcome u w paid = needs_one z operation outcome u w paid.sought (λ class. omega (
  arith,
  ap (buffers_in z class) paid.claims.1,
  buffers-append z class u.claims paid.claims.0,
))

-- what is paid keeps the seat
pub seat_kept : (z : Sizes) (rows : Class → ℕ) (requests : ℕ) (u w : View) → IsPaid z rows requests u w → KeepsSeat u w
seat_kept z rows requests u w paid = record {
  holds = paid.holds;
  credits = paid.credits;
  returns = paid.returns;
}

pub on_err : {A E : Type 0} (P : Type 0) (r : Result A E) → P → OnErr r P
on_err P (Ok a) p = tt
on_err P (Err e) p = p
