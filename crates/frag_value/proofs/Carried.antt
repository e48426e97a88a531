-- Holds of a value that come to a seat and go again: its other holds are the same list then.
use Rattle.std.proofs.Common.{◌≡◌, ℕ, ◌+◌, ◌<◌, ◌≤◌, Bool, true, false, cond, List, [], ◌∷◌, ◌++◌, length, map, refl}
use Rattle.std.proofs.Common.{sym, ap, ◌∙◌, append-nil, arith}
use Rattle.pin_core.specs.Holding.{Holding, Key}
use Rattle.pin_core.specs.declared.sizes.Sizes.{Sizes}
use Rattle.pinned_pool.specs.Moves.{means, hold_key, without, holds_for, without_keys, meant_count, times_asked}
use Rattle.pinned_pool.specs.Moves.{gaining, loose_key}
use Rattle.pinned_pool.specs.Named.{IsSeat}
use Rattle.pinned_pool.specs.declared.view.View.{View}
use Rattle.pinned_pool.proofs.Keys.{same_key-refl, taken_by-keys}
use Rattle.pinned_pool.proofs.AfterSteps.{times-append, times-loose, times-taken_by, left_by-append, without-own}
use Rattle.frag_value.specs.Carried.{HoldsComeBack}
use Rattle.frag_value.specs.Changes.{IsAppended}
use Rattle.frag_value.specs.Values.{IsValue, HasValue, keys_of, size_of, whole_fragments, partial_of}
use Rattle.frag_value.proofs.Appended.{left_by-swap}
use Rattle.frag_value.proofs.Cuts.{parts}
use Rattle.frag_value.proofs.Released.{asked-pinned, has_keys, keys-append}

-- a hold that stands behind others which its key doesn't mean
without_here : (t : Bool) (k : Key) (h : Holding) (front back : List Holding) → cond t 1 0 + meant_count k front ≡ 0
    → (meant_count k front ≡ 0 → without k (front ++ back) ≡ front ++ without k back)
    → cond t (front ++ back) (h ∷ without k (front ++ back)) ≡ h ∷ (front ++ without k back)
without_here true k h front back none rest = absurd (omega arith)
without_here false k h front back none rest = ap (λ l. h ∷ l) (rest (omega arith))

without-behind : (k : Key) (front back : List Holding) → meant_count k front ≡ 0 → without k (front ++ back) ≡ front
    ++ without k back
without-behind k [] back none = refl
without-behind k (h ∷ front) back none = without_here (means k h) k h front back none (without-behind k front back)

pub left_by-behind : (front back : List Holding)
    → ((k : Key) → 0 < times_asked k (map hold_key back) → meant_count k front ≡ 0)
    → without_keys (map hold_key back) (front ++ back) ≡ front
left_by-behind front [] none = append-nil front
left_by-behind front (h ∷ back) none =
    let own : meant_count (hold_key h) front ≡ 0 =
    none (hold_key h) (omega (arith, ap {B = ℕ} (λ t. cond t 1 0) (same_key-refl (hold_key h)))) in
    ap (without_keys (map hold_key back))
    (without-behind (hold_key h) front (h ∷ back) own ∙ ap (λ l. front ++ l) (without-own h back))
    ∙ left_by-behind front back (λ k some. none k (omega (arith, some)))

-- a seat of which no buffer has two loose holds gets a value's holds, and gives them up
module _ (z : Sizes) (v : List (ℕ × ℕ)) (from old new : View) (seat : IsSeat z new) (has : HasValue from.holds v)
    (gained : new ≡ gaining (holds_for (keys_of v) from.holds) old) where
  came : new.holds ≡ old.holds ++ holds_for (keys_of v) from.holds
  came = ap (λ (x : View). x.holds) gained

  keys_are : map hold_key (holds_for (keys_of v) from.holds) ≡ keys_of v
  keys_are = taken_by-keys (keys_of v) from.holds (has_keys v from.holds has.held)

  one_each : (b : ℕ) → meant_count (loose_key b) old.holds + times_asked (loose_key b) (keys_of v) ≤ 1
  one_each b =
      omega (
        arith,
        seat.loose b,
        times-loose b new.holds,
        ap (meant_count (loose_key b)) came,
        times-append (loose_key b) old.holds (holds_for (keys_of v) from.holds),
        times-taken_by (loose_key b) (keys_of v) from.holds (has_keys v from.holds has.held),
      )

  not_before : (c : ℕ) (t : Bool) → 0 < times_asked (record { buffer = c; pinned = t }) (keys_of v)
      → meant_count (record { buffer = c; pinned = t }) old.holds ≡ 0
  not_before c true some = absurd (omega (arith, some, asked-pinned c v))
  not_before c false some = omega (arith, some, one_each c)

  pub back_again : without_keys (keys_of v) new.holds ≡ old.holds
  back_again =
      ap (without_keys (keys_of v)) came ∙ ap (λ ks. without_keys ks (old.holds ++ holds_for (keys_of v) from.holds))
      (sym keys_are)
      ∙ left_by-behind old.holds (holds_for (keys_of v) from.holds)
      (λ k some. not_before k.buffer k.pinned (omega (arith, some, ap (times_asked k) keys_are)))

-- and so it does where more bytes were appended in between
pub back_longer : (z : Sizes) (v w : List (ℕ × ℕ)) (bytes : List ℕ) (front : List Holding) (old new : View)
    → IsValue z v → 0 < length bytes → without_keys (keys_of v) old.holds ≡ front → IsAppended v bytes w old new
    → without_keys (keys_of w) new.holds ≡ front
back_longer z v w bytes front old new value some back appended =
    let m = appended.moved some in
    let full : List Key = keys_of (whole_fragments v) in
    let part : List Key = keys_of (partial_of v) in
    ap (λ x. without_keys (keys_of x) new.holds) m.parts ∙ ap (λ ks. without_keys ks new.holds)
    (keys-append (whole_fragments v) m.added) ∙ left_by-append full (keys_of m.added) new.holds
    ∙ left_by-swap (keys_of m.added) full new.holds
    ∙ ap (without_keys full) m.holds ∙ left_by-swap full part old.holds ∙ sym (left_by-append full part old.holds)
    ∙ ap (λ ks. without_keys ks old.holds) (sym (keys-append (whole_fragments v) (partial_of v)))
    ∙ ap (λ x. without_keys (keys_of x) old.holds) (sym (parts (size_of v) v value.cut).whole) ∙ back

pub holds_come_back : HoldsComeBack
holds_come_back = record { again = back_again; longer = back_longer }

-- what to give to `search`
pub ruleset carried = (left_by-behind, left_by-swap, back_again, back_longer)
