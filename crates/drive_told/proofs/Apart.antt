-- At the end no two fragments lie in one buffer.
use Rattle.std.proofs.Common.{◌≡◌, ℕ, zero, suc, ◌+◌, ◌*◌, ◌<◌, ◌≤◌, ◌⊎◌, inl, inr, cond, List, [], ◌∷◌, Some, map}
use Rattle.std.proofs.Common.{Bool, true, false, if◌then◌else◌, nat_lt, slice_get, refl, ap, sym, ◌∙◌, subst}
use Rattle.std.proofs.Common.{eq-eqb, ne_eqb}
use Rattle.std.proofs.Common.{⊎_elim, arith}
use mathlib.Core.Logic.{dite}
use native.Mathlib.Decide.{ℕ_discrete}
use Rattle.view_sums.specs.Total.{total, same, Each}
use Rattle.view_sums.proofs.Sums.{total-append, total-map}
use Rattle.pin_core.specs.Buffers.{buffers, buffer_words}
use Rattle.pin_core.specs.Holding.{loose_at}
use Rattle.pin_core.specs.declared.sizes.Sizes.{Sizes}
use Rattle.pinned_pool.specs.Addresses.{address_of}
use Rattle.pinned_pool.specs.Moves.{joined_views}
use Rattle.pinned_pool.specs.Views.{IsLoose}
use Rattle.pinned_pool.specs.declared.view.View.{View}
use Rattle.pinned_pool.proofs.Covering.{one_byte_each}
use Rattle.frag_value.specs.Values.{IsPlaced}
use Rattle.flake_model.specs.Deed as deed
use Rattle.flake_model.specs.Deed.{Deed, Places, IsLegal}
use Rattle.order_book.specs.Pages.{ShardList}
use Rattle.shard_core.specs.Stock.{fragments_by, fragments_left, IsStock}
use Rattle.serve_model.proofs.Held.{loose_there}
use Rattle.serve_model.proofs.Places.{each_at}
use Rattle.transcript_model.specs.Transcript.{AreAllApart}
use Rattle.drive_told.proofs.Lists.{behind_map, same_place}
use Rattle.drive_told.proofs.Owned.{all_deeds}
use Rattle.drive_told.proofs.Placed.{lies, is_left, apart_in}

-- the store's seat has at most one hold of a buffer that is not pinned, as the last seat has
pub loose_front : (main store : View) → IsLoose (joined_views main store) → IsLoose store
loose_front main store loose b = omega (arith, loose b, total-append (loose_at b) main.holds store.holds)

module _ (z : Sizes) where
  some_room : (b : ℕ) → 0 < 8 * buffer_words z b
  some_room b = by (nat_lt b z.small) where
    by : (small : Bool) → 0 < 8 * (if small then 64 else 512)
    by true = omega arith
    by false = omega arith

  -- no two buffers have one address
  one_buffer : (b c : ℕ) → b < buffers z → c < buffers z → address_of z c ≡ address_of z b → c ≡ b
  one_buffer b c b_is c_is same_address =
      let covers : address_of z b ≡ address_of z b + 0 = omega arith in
      let other : address_of z b ≡ address_of z c + 0 = omega (arith, same_address) in
      (one_byte_each z b c 0 0 (address_of z b) (b_is, some_room b, covers) (c_is, some_room c, other)).0

  -- the buffer of an address
  record IsBuffer (address : ℕ) : Type 0 where
    buffer : ℕ
    near : buffer < buffers z
    is : address_of z buffer ≡ address

  abbrev at_address : ℕ → ℕ × ℕ → ℕ
  at_address address p = same (address_of z p.0) address

  some_buffer : (address : ℕ) (kept : List (ℕ × ℕ)) → Each (IsPlaced z) kept
      → (total (at_address address) kept ≡ 0) ⊎ IsBuffer address
  some_buffer address [] placed = inl refl
  some_buffer address (p ∷ kept) placed = dite (ℕ_discrete (address_of z p.0) address)
      (λ is. inr (record { buffer = p.0; near = placed.0.0; is = is }))
      (λ other. ⊎_elim
      (λ none. let here : same (address_of z p.0) address ≡ 0 =
      ap (λ b. cond b 1 0) (ne_eqb (address_of z p.0) address other) in inl (omega (arith, here, none)))
      (λ some. inr some) (some_buffer address kept placed.1))

  at_one : (address b : ℕ) → b < buffers z → address_of z b ≡ address → (kept : List (ℕ × ℕ))
      → Each (IsPlaced z) kept → total (at_address address) kept ≤ total (λ (p : ℕ × ℕ). same p.0 b) kept
  at_one address b near is [] placed = omega arith
  at_one address b near is (p ∷ kept) placed =
      let rest = at_one address b near is kept placed.1 in
      dite (ℕ_discrete (address_of z p.0) address)
      (λ here. let e = one_buffer b p.0 near placed.0.0 (here ∙ sym is) in
      let one : same p.0 b ≡ 1 = ap (λ t. cond t 1 0) (eq-eqb p.0 b e) in
      let also : same (address_of z p.0) address ≡ 1 = ap (λ t. cond t 1 0) (eq-eqb (address_of z p.0) address here) in
      omega (arith, rest, one, also))
      (λ other. let none : same (address_of z p.0) address ≡ 0 =
      ap (λ t. cond t 1 0) (ne_eqb (address_of z p.0) address other) in omega (arith, rest, none))

  -- where no buffer has two of them, no address is that of two
  few_there : (kept : List (ℕ × ℕ)) → Each (IsPlaced z) kept
      → ((b : ℕ) → total (λ (p : ℕ × ℕ). same p.0 b) kept ≤ 1) → (address : ℕ) → total (at_address address) kept ≤ 1
  few_there kept placed few address = ⊎_elim
      (λ none. omega (arith, none))
      (λ some. omega (arith, few some.buffer, at_one address some.buffer some.near some.is kept placed))
      (some_buffer address kept placed)

  -- no address is that of two fragments which the shards' deeds leave
  pub few_left : (shards : List ShardList) (store : View) → IsStock z shards store → IsLoose store → (address : ℕ)
      → total (lies address) (fragments_left shards) ≤ 1
  few_left shards store stock loose address =
      let few : (b : ℕ) → total (λ (p : ℕ × ℕ). same p.0 b) stock.kept ≤ 1 =
      λ b. omega (arith, loose b, loose_there store.holds stock.kept stock.holds b) in
      omega (
        arith,
        few_there stock.kept stock.placed few address,
        stock.fragments (lies address),
        total-map (lies address) (λ (p : ℕ × ℕ). (address_of z p.0, p.1)) stock.kept,
      )

-- what one shard leaves is among what all leave
one_left : (address : ℕ) (shards : List ShardList) (k : ℕ) (shard : ShardList) → slice_get shards k ≡ Some shard
    → total (lies address) (fragments_by shard.told) ≤ total (lies address) (fragments_left shards)
one_left address [] k shard is = absurd (let no : ⊥ = cc in no)
one_left address (first ∷ shards) zero shard is =
    let same : first ≡ shard = cc in
    omega (
      arith,
      total-append (lies address) (fragments_by first.told) (fragments_left shards),
      ap (λ (s : ShardList). total (lies address) (fragments_by s.told)) same,
    )
one_left address (first ∷ shards) (suc k) shard is =
    omega (
      arith,
      total-append (lies address) (fragments_by first.told) (fragments_left shards),
      one_left address shards k shard is,
    )

-- and so is what two leave
two_left : (address : ℕ) (shards : List ShardList) (j k : ℕ) (one two : ShardList) → slice_get shards j ≡ Some one
    → slice_get shards k ≡ Some two → (j ≡ k → ⊥)
    → total (lies address) (fragments_by one.told) + total (lies address) (fragments_by two.told)
    ≤ total (lies address) (fragments_left shards)
two_left address [] j k one two is is' other = absurd (let no : ⊥ = cc in no)
two_left address (first ∷ shards) zero zero one two is is' other = absurd (other refl)
two_left address (first ∷ shards) zero (suc k) one two is is' other =
    let same : first ≡ one = cc in
    omega (
      arith,
      total-append (lies address) (fragments_by first.told) (fragments_left shards),
      ap (λ (s : ShardList). total (lies address) (fragments_by s.told)) same,
      one_left address shards k two is',
    )
two_left address (first ∷ shards) (suc j) zero one two is is' other =
    let same : first ≡ two = cc in
    omega (
      arith,
      total-append (lies address) (fragments_by first.told) (fragments_left shards),
      ap (λ (s : ShardList). total (lies address) (fragments_by s.told)) same,
      one_left address shards j one is,
    )
two_left address (first ∷ shards) (suc j) (suc k) one two is is' other =
    omega (
      arith,
      total-append (lies address) (fragments_by first.told) (fragments_left shards),
      two_left address shards j k one two is is' (λ same. other (ap suc same)),
    )

pub all_apart : (z : Sizes) (shards : List ShardList) (store : View) → IsStock z shards store → IsLoose store
    → Each (λ (s : ShardList). IsLegal s.told) shards → AreAllApart (map deed.final_places (all_deeds shards))
all_apart z shards store stock loose legal shard shard' places places' is is' key key' number number' address at at' =
    let first = behind_map deed.final_places (all_deeds shards) shard places is in
    let other = behind_map deed.final_places (all_deeds shards) shard' places' is' in
    let one = behind_map (λ (s : ShardList). s.told) shards shard first.source first.there in
    let two = behind_map (λ (s : ShardList). s.told) shards shard' other.source other.there in
    let in_one : places ≡ deed.final_places one.source.told = sym (ap deed.final_places one.is ∙ first.is) in
    let in_two : places' ≡ deed.final_places two.source.told = sym (ap deed.final_places two.is ∙ other.is) in
    let legal_one = each_at (λ (s : ShardList). IsLegal s.told) shards shard one.source legal one.there in
    let legal_two = each_at (λ (s : ShardList). IsLegal s.told) shards shard' two.source legal two.there in
    let at_one = subst (λ (p : Places). slice_get (deed.places_at p key) number ≡ Some address) in_one at in
    let at_two = subst (λ (p : Places). slice_get (deed.places_at p key') number' ≡ Some address) in_two at' in
    dite (ℕ_discrete shard shard')
    (λ same. let the_same = same_place shards shard one.source two.source one.there
    (subst (λ k. slice_get shards k ≡ Some two.source) (sym same) two.there) in
    let apart = apart_in one.source.told legal_one key key' number number' address at_one
    (subst (λ (s : ShardList). slice_get (deed.places_at (deed.final_places s.told) key') number' ≡ Some address)
    (sym the_same) at_two) in
    (same, apart.0, apart.1))
    (λ differ. let both = two_left address shards shard shard' one.source two.source one.there two.there differ in
    let no : ⊥ = omega (
      arith,
      both,
      is_left one.source.told legal_one key number address at_one,
      is_left two.source.told legal_two key' number' address at_two,
      few_left z shards store stock loose address,
    ) in
    absurd no)
