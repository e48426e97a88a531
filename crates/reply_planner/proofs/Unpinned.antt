-- Holds that are given back, the last one first.
use Rattle.std.proofs.Common.{◌≡◌, ℕ, ◌+◌, ◌<◌, ◌≤◌, List, [], ◌∷◌, ◌++◌, Bool, true, false, cond, length, sym, refl}
use Rattle.std.proofs.Common.{ap, ◌∙◌, append-nil, append_assoc, length-append, arith}
use Rattle.view_sums.proofs.Sums.{total-append}
use Rattle.pin_core.specs.Holding.{Key}
use Rattle.pinned_pool.specs.Moves.{without, without_keys, meant_count, times_asked, HasHolds, unpin}
use Rattle.pinned_pool.specs.declared.view.View.{View}
use Rattle.pinned_pool.proofs.Keys.{same_key-refl, times-without}
use Rattle.pinned_pool.proofs.AfterSteps.{asked-append, left_by-append}
use Rattle.frag_value.proofs.Placed.{left_by-without}
use Rattle.reply_planner.specs.Parcels.{pinned_keys, Unpins}

-- these keys are left, and so many of the others were the last of their buffers
pub record UnpinnedSoFar (all rest : List Key) (n : ℕ) (old now : View) : Type 0 where
  pub held : HasHolds rest now.holds
  pub holds : without_keys rest now.holds ≡ without_keys all old.holds
  pub credits : now.credits + pinned_keys rest ≡ old.credits + pinned_keys all
  pub claims : now.claims ≡ old.claims
  pub looks : now.looks ≡ old.looks
  pub returns : now.returns + pinned_keys rest ≡ old.returns + pinned_keys all
  pub ended : List ℕ
  pub lasts : now.lasts ≡ old.lasts ++ ended
  pub count : length ended ≡ n
  pub few : n + length rest ≤ length all

pub unpinned_none : (all : List Key) (v : View) → HasHolds all v.holds → UnpinnedSoFar all all 0 v v
unpinned_none all v has = record {
  held = has;
  holds = refl;
  credits = refl;
  claims = refl;
  looks = refl;
  returns = refl;
  ended = [];
  lasts = sym (append-nil v.lasts);
  count = refl;
  few = omega arith;
}

-- how often the last key is asked for
asked_last : (next : List Key) (k : Key) → times_asked k (next ++ k ∷ []) ≡ times_asked k next + 1
asked_last next k = omega (arith, asked-append k next (k ∷ []), ap {B = ℕ} (λ t. cond t 1 0) (same_key-refl k))

pub last_held : (all rest next : List Key) (k : Key) (n : ℕ) (old now : View) → UnpinnedSoFar all rest n old now
    → rest ≡ next ++ k ∷ [] → 0 < meant_count k now.holds
last_held all rest next k n old now was here = omega (arith, was.held k, ap (times_asked k) here, asked_last next k)

-- one hold more
pub more_unpinned : (all rest next : List Key) (k : Key) (n : ℕ) (old now new : View) (last : Bool)
    → UnpinnedSoFar all rest n old now → rest ≡ next ++ k ∷ [] → new ≡ unpin last k now
    → UnpinnedSoFar all next (n + cond last 1 0) old new
more_unpinned all rest next k n old now new last was here step =
    let some = last_held all rest next k n old now was here in
    let holds : new.holds ≡ without k now.holds = ap (λ (v : View). v.holds) step in
    let pins : pinned_keys rest ≡ pinned_keys next + cond k.pinned 1 0 =
    omega (arith, ap pinned_keys here, total-append (λ (j : Key). cond j.pinned 1 0) next (k ∷ [])) in
    record {
      held = λ j. omega (
        arith,
        was.held j,
        ap (times_asked j) here,
        asked-append j next (k ∷ []),
        times-without j k
            now.holds some,
        ap (meant_count j) holds,
      );
      holds = ap (without_keys next) holds ∙ left_by-without next k now.holds
          ∙ sym (left_by-append next (k ∷ []) now.holds) ∙ ap (λ ks. without_keys ks now.holds) (sym here) ∙ was.holds;
      credits = omega (arith, ap (λ (v : View). v.credits) step, was.credits, pins);
      claims = ap (λ (v : View). v.claims) step ∙ was.claims;
      looks = ap (λ (v : View). v.looks) step ∙ was.looks;
      returns = omega (arith, ap (λ (v : View). v.returns) step, was.returns, pins);
      ended = cond last (was.ended ++ k.buffer ∷ []) was.ended;
      lasts = ap (λ (v : View). v.lasts) step ∙ listed last;
      count = counted last;
      few = omega (arith, was.few, ap length here, length-append next (k ∷ []), one_most last);
    }
  where
    listed : (t : Bool) → cond t (now.lasts ++ k.buffer ∷ []) now.lasts ≡ old.lasts
        ++ cond t (was.ended ++ k.buffer ∷ []) was.ended
    listed true = ap (λ l. l ++ k.buffer ∷ []) was.lasts ∙ append_assoc old.lasts was.ended (k.buffer ∷ [])
    listed false = was.lasts

    counted : (t : Bool) → length (cond t (was.ended ++ k.buffer ∷ []) was.ended) ≡ n + cond t 1 0
    counted true = omega (arith, length-append was.ended (k.buffer ∷ []), was.count)
    counted false = omega (arith, was.count)

    one_most : (t : Bool) → cond t 1 0 ≤ 1
    one_most true = omega arith
    one_most false = omega arith

pub all_unpinned : (all rest : List Key) (n : ℕ) (old now : View) → rest ≡ [] → UnpinnedSoFar all rest n old now
    → Unpins all n old now
all_unpinned all rest n old now none was =
    let no_pins : pinned_keys rest ≡ 0 = ap pinned_keys none in
    record {
      holds = ap (λ ks. without_keys ks now.holds) (sym none) ∙ was.holds;
      credits = omega (arith, was.credits, no_pins);
      claims = was.claims;
      looks = was.looks;
      returns = omega (arith, was.returns, no_pins);
      ended = was.ended;
      lasts = was.lasts;
      count = was.count;
      few = omega (arith, was.few);
    }
