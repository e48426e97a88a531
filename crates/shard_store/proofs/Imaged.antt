-- What a seat has, once a shard's values were pinned for it.
use Rattle.std.proofs.Common.{◌≡◌, ℕ, ◌+◌, ◌<◌, ◌≤◌, List, [], ◌∷◌, ◌++◌, Bool, true, false, cond, eqb, map, take}
use Rattle.std.proofs.Common.{length, Option, Some, None, refl, ap, ◌∙◌, subst, arith}
use mathlib.Core.Logic.{dite}
use native.Mathlib.Decide.{ℕ_discrete}
use Rattle.std.specs.Option.{option_map}
use Rattle.view_sums.specs.Total.{total, same, Each}
use Rattle.view_sums.proofs.Eachs.{each-front, each-back}
use Rattle.view_sums.proofs.Sums.{total-append}
use Rattle.pin_core.specs.Buffers.{buffers}
use Rattle.pin_core.specs.Holding.{Holding, at}
use Rattle.pin_core.specs.declared.sizes.Sizes.{Sizes}
use Rattle.pinned_pool.specs.Bytes.{bytes_of_words}
use Rattle.pinned_pool.specs.Moves.{front_of, hold_key, meant_count, pinned_hold}
use Rattle.pinned_pool.specs.Views.{OneFront}
use Rattle.pinned_pool.specs.declared.view.View.{View}
use Rattle.pinned_pool.proofs.AfterSteps.{front-on, front-off, front-joined, times-append}
use Rattle.flake_model.specs.Store.{Store}
use Rattle.flake_model.specs.Deed.{Places}
use Rattle.frag_value.specs.Values.{Frags, IsFilled, uses, value_bytes, unmarked_view}
use Rattle.frag_value.proofs.Framed.{each_there}
use Rattle.frag_value.proofs.Sames.{same-no}
use Rattle.frag_value.proofs.Unmarked.{same_front}
use Rattle.frag_value.specs.Pins.{KeyFrags, all_frags, pairs_shown, pin_holds, pin_key, pin_keys, pinning}
use Rattle.shard_core.specs.Kept.{Entries, Agrees, value_at, value_addresses}
use Rattle.shard_store.specs.Images.{HasPinned}

pins-keys : (hs : List Holding) (v : Frags) → map hold_key (pin_holds hs v) ≡ pin_keys v
pins-keys hs [] = refl
pins-keys hs (p ∷ v) = ap (λ l. pin_key p.0 ∷ l) (pins-keys hs v)

meant_bit : (t : Bool) → cond (cond t true false) 1 0 ≡ (let n : ℕ = cond t 1 0 in n)
meant_bit true = refl
meant_bit false = refl

meant-pins : (b : ℕ) (hs : List Holding) (v : Frags) → meant_count (pin_key b) (pin_holds hs v) ≡ uses b v
meant-pins b hs [] = refl
meant-pins b hs (p ∷ v) = omega (arith, meant_bit (eqb p.0 b), meant-pins b hs v)

at-pins : (b : ℕ) (hs : List Holding) (v : Frags) → total (at b) (pin_holds hs v) ≡ uses b v
at-pins b hs [] = refl
at-pins b hs (p ∷ v) = ap (λ n. same p.0 b + n) (at-pins b hs v)

front-pins : (b : ℕ) (hs : List Holding) (v : Frags) → 0 < uses b v → front_of b (pin_holds hs v) ≡ front_of b hs
front-pins b hs [] some = absurd (omega arith)
front-pins b hs (p ∷ v) some =
    let h = pinned_hold p.0 (front_of p.0 hs) in
    dite (ℕ_discrete p.0 b) (λ e. front-on b h (pin_holds hs v) e ∙ ap (λ c. front_of c hs) e)
    (λ n. front-off b h (pin_holds hs v) n ∙ front-pins b hs v (omega (arith, some, same-no p.0 b n)))

-- values whose buffers have the same fronts in other holds show the same
pub shows_same : (hs now : List Holding) (pairs : List KeyFrags)
    → ((b : ℕ) → 0 < uses b (all_frags pairs) → front_of b now ≡ front_of b hs) → Each (IsFilled hs) (all_frags pairs)
    → pairs_shown now pairs ≡ pairs_shown hs pairs
shows_same hs now [] fronts filled = refl
shows_same hs now (p ∷ ps) fronts filled =
    let both : (b : ℕ) → uses b (p.1 ++ all_frags ps) ≡ uses b p.1 + uses b (all_frags ps) =
    λ b. total-append (λ (q : ℕ × ℕ). same q.0 b) p.1 (all_frags ps) in
    let first = each_there hs now p.1 (λ b some. fronts b (omega (arith, some, both b)))
    (each-front (IsFilled hs) p.1 (all_frags ps) filled) in
    let rest = shows_same hs now ps (λ b some. fronts b (omega (arith, some, both b)))
    (each-back (IsFilled hs) p.1 (all_frags ps) filled) in
    λ i. (p.0, first.1 i) ∷ rest i

module _ (z : Sizes) (hs : List Holding) (pairs : List KeyFrags) (old new : View)
    (taken : new ≡ pinning (pin_holds hs (all_frags pairs)) old) (one : OneFront new)
    (filled : Each (IsFilled hs) (all_frags pairs)) where
  gains : new.holds ≡ old.holds ++ pin_holds hs (all_frags pairs)
  gains = ap (λ (v : View). v.holds) taken

  fronts_stay : (b : ℕ) → 0 < uses b (all_frags pairs) → front_of b new.holds ≡ front_of b hs
  fronts_stay b some =
      let v = all_frags pairs in
      ap (front_of b) gains
      ∙ front-joined one.0 b old.holds (pin_holds hs v)
      (subst (Each (λ (h : Holding). h.front ≡ one.0 h.buffer)) gains one.1) (omega (arith, at-pins b hs v, some))
      ∙ front-pins b hs v some

  pub has_pinned : length (all_frags pairs) ≤ buffers z → HasPinned z pairs old new
  has_pinned few = record {
    pins = pin_holds hs (all_frags pairs);
    taken = taken;
    keys = pins-keys hs (all_frags pairs);
    few = few;
    has = record {
      held = λ b. omega (
        arith,
        meant-pins b hs (all_frags pairs),
        times-append (pin_key b) old.holds (pin_holds hs (all_frags pairs)),
        ap (meant_count (pin_key b)) gains,
      );
      filled = (each_there hs new.holds (all_frags pairs) fronts_stay filled).0;
    };
  }

  pub still_shown : pairs_shown new.holds pairs ≡ pairs_shown hs pairs
  still_shown = shows_same hs new.holds pairs fronts_stay filled

-- the shard has what it had
same_bytes_of : (old new : View) → unmarked_view new ≡ unmarked_view old → (v : Frags)
    → value_bytes new.holds v ≡ value_bytes old.holds v
same_bytes_of old new same [] = refl
same_bytes_of old new same (p ∷ v) =
    λ i. take p.1 (bytes_of_words (same_front p.0 old new same i)) ++ same_bytes_of old new same v i

same_found : (old new : View) → unmarked_view new ≡ unmarked_view old → (o : Option Frags)
    → option_map (value_bytes new.holds) o ≡ option_map (value_bytes old.holds) o
same_found old new same None = refl
same_found old new same (Some v) = ap Some (same_bytes_of old new same v)

pub agrees_still : (z : Sizes) (es now : Entries) (old new : View)
    → ((key : List ℕ) → value_at key now ≡ value_at key es) → unmarked_view new ≡ unmarked_view old
    → (s : Store) (p : Places) → Agrees z es old.holds s p → Agrees z now new.holds s p
agrees_still z es now old new kept same s p agrees = record {
  bytes = λ key. same_found old new same (value_at key now) ∙ ap (option_map (value_bytes old.holds)) (kept key)
      ∙ agrees.bytes key;
  places_are = λ key. ap (option_map (value_addresses z)) (kept key) ∙ agrees.places_are key;
}
