-- What each step tells: of the step, the seat before, the number found and the seat after.
use Rattle.std.specs.Prelude.{◌≡◌, ◌≢◌, ℕ, Bool, ◌==◌, slice_index}
use Rattle.atomic_table.specs.Table.{Me, Step, State}
use Rattle.view_sums.specs.Total.{total}
use Rattle.pin_core.specs.Holding.{at}
use Rattle.pin_core.specs.declared.sizes.Sizes.{Sizes}
use Rattle.pinned_pool.specs.Views.{IsLoose, OneFront}
use Rattle.pinned_pool.specs.Rule.{IsSoundTable}
use Rattle.pinned_pool.specs.Moves.{won, lost, pin, unpin, put, front_of}
use Rattle.pinned_pool.specs.declared.view.View.{View}

module _ {S : Type 0} where
  abbrev pub KeepsRule : Sizes → State S View → Type 0
  KeepsRule z t = IsSoundTable z t.words t.views

  abbrev pub claim_tells : Step S → Me S View → ℕ → Me S View → Type 0
  claim_tells st m r n =
      (r ≡ 0 → (n ≡ (won st.word m.0, m.1)) × (total (at st.word) m.0.holds ≡ 0))
      × (r ≢ 0 → n ≡ (lost st.word r m.0, m.1))

  -- a load of a count word: one that is not 0 was found held
  abbrev pub look_tells : Step S → Me S View → ℕ → Me S View → Type 0
  look_tells st m r n = (r ≡ 0 → n ≡ (m.0, m.1)) × (r ≢ 0 → n ≡ (lost st.word r m.0, m.1))

  abbrev pub pin_tells : Step S → Me S View → ℕ → Me S View → Type 0
  pin_tells st m r n = n ≡ (pin st.word m.0, m.1)

  abbrev pub unpin_tells : Bool → Step S → Me S View → ℕ → Me S View → Type 0
  unpin_tells pin st m r n =
      (n ≡ (unpin (r == 1) (record { buffer = st.word; pinned = pin }) m.0, m.1))
      × (r ≡ 1 → total (at st.word) n.0.holds ≡ 0)

  -- a load that tells what the rule says of the seat's own holds
  abbrev pub rule_tells : Step S → Me S View → ℕ → Me S View → Type 0
  rule_tells st m r n = (n ≡ m) × IsLoose m.0 × OneFront m.0

  abbrev pub put_tells : ℕ → ℕ → Step S → Me S View → ℕ → Me S View → Type 0
  put_tells b i st m r n = n ≡ (put b i st.first m.0, m.1)

  abbrev pub load_tells : ℕ → ℕ → Step S → Me S View → ℕ → Me S View → Type 0
  load_tells b i st m r n = (n ≡ m) × (r ≡ slice_index (front_of b m.0.holds) i)
