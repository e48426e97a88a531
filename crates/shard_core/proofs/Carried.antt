-- A value that goes to another seat and comes back.
use Rattle.std.proofs.Common.{◌≡◌, ℕ, ◌+◌, ◌<◌, ◌≤◌, Bool, true, false, cond, eqb, List, [], ◌∷◌, ◌++◌, map, refl, sym}
use Rattle.std.proofs.Common.{ap, ◌∙◌, append-nil, arith}
use Rattle.view_sums.specs.Total.{total, Each}
use Rattle.pin_core.specs.Holding.{Holding, Key, loose_at}
use Rattle.pin_core.specs.declared.sizes.Sizes.{Sizes}
use Rattle.pinned_pool.specs.Moves.{means, hold_key, without, holds_for, without_keys, meant_count, times_asked}
use Rattle.pinned_pool.specs.Moves.{HasHolds, loose_key, losing, gaining}
use Rattle.pinned_pool.specs.Named.{IsSeat}
use Rattle.pinned_pool.specs.declared.view.View.{View}
use Rattle.pinned_pool.proofs.Keys.{same_key-refl, taken_by-keys}
use Rattle.pinned_pool.proofs.AfterSteps.{times-append, times-loose, times-taken_by, left_by-append, without-own}
use Rattle.frag_value.specs.Values.{IsValue, IsFilled, keys_of, value_bytes, HasValue, whole_fragments, partial_of}
use Rattle.frag_value.proofs.Released.{asked-loose, has_keys, keys-append}
use Rattle.frag_value.proofs.Appended.{left_by-swap}
use Rattle.frag_value.proofs.Framed.{each_there}
use Rattle.frag_value.specs.Values.{Frags}
use Rattle.shard_core.specs.Moved.{IsCarried}
use Rattle.shard_core.proofs.Holds.{keys-times}
use Rattle.shard_core.proofs.Brought.{came-front}

-- holds that stand behind others which their keys don't mean
without-behind : (k : Key) (front back : List Holding) → meant_count k front ≡ 0 → without k (front ++ back) ≡ front
    ++ without k back
without-behind k [] back none = refl
without-behind k (h ∷ front) back none = here (means k h) none (without-behind k front back)
  where
    here : (t : Bool) → cond t 1 0 + meant_count k front ≡ 0
        → (meant_count k front ≡ 0 → without k (front ++ back) ≡ front ++ without k back)
        → cond t (front ++ back) (h ∷ without k (front ++ back)) ≡ h ∷ (front ++ without k back)
    here true none rest = absurd (omega arith)
    here false none rest = ap (λ l. h ∷ l) (rest (omega arith))

left_by-behind : (front back : List Holding)
    → ((k : Key) → 0 < times_asked k (map hold_key back) → meant_count k front ≡ 0)
    → without_keys (map hold_key back) (front ++ back) ≡ front
left_by-behind front [] none = append-nil front
left_by-behind front (h ∷ back) none =
    let own : meant_count (hold_key h) front ≡ 0 =
    none (hold_key h) (omega (arith, ap {B = ℕ} (λ t. cond t 1 0) (same_key-refl (hold_key h)))) in
    ap (without_keys (map hold_key back))
    (without-behind (hold_key h) front (h ∷ back) own ∙ ap (λ l. front ++ l) (without-own h back))
    ∙ left_by-behind front back (λ k some. none k (omega (arith, some)))

pinned_bit : (t : Bool) → (let n : ℕ = cond (cond t false false) 1 0 in n ≡ 0)
pinned_bit true = refl
pinned_bit false = refl

asked-pinned : (c : ℕ) (v : Frags) → times_asked (record { buffer = c; pinned = true }) (keys_of v) ≡ 0
asked-pinned c [] = refl
asked-pinned c (p ∷ v) = omega (arith, pinned_bit (eqb p.0 c), asked-pinned c v)

-- a seat of which no buffer has two loose holds gets a value's holds, and gives them back
pub back-again : (z : Sizes) (v : Frags) (front hs now : List Holding) (seat : View) → IsSeat z seat → seat.holds ≡ now
    → now ≡ front ++ holds_for (keys_of v) hs → HasHolds (keys_of v) hs → without_keys (keys_of v) now ≡ front
back-again z v front hs now seat is same came has =
    let back : List Holding = holds_for (keys_of v) hs in
    let keys : map hold_key back ≡ keys_of v = taken_by-keys (keys_of v) hs has in
    let loose : (b : ℕ) → meant_count (loose_key b) front + meant_count (loose_key b) back ≤ 1 =
    λ b. omega (
      arith,
      is.loose b,
      ap (total (loose_at b)) (same ∙ came),
      times-loose b
          (front ++ back),
      times-append (loose_key b) front back,
    ) in
    ap (without_keys (keys_of v)) came ∙ ap (λ ks. without_keys ks (front ++ back)) (sym keys)
    ∙ left_by-behind front back (λ k some. apart loose keys k.buffer k.pinned some)
  where
    apart : ((b : ℕ) → meant_count (loose_key b) front + meant_count (loose_key b) (holds_for (keys_of v) hs) ≤ 1)
        → map hold_key (holds_for (keys_of v) hs) ≡ keys_of v
        → (c : ℕ) (t : Bool) → 0 < times_asked (record { buffer = c; pinned = t })
        (map hold_key (holds_for (keys_of v) hs)) → meant_count (record { buffer = c; pinned = t }) front ≡ 0
    apart loose keys c true some =
        absurd (omega (arith, some, ap (times_asked (record { buffer = c; pinned = true })) keys, asked-pinned c v))
    apart loose keys c false some =
        omega (
          arith,
          some,
          ap (times_asked (loose_key c)) keys,
          loose c,
          times-taken_by (loose_key c)
              (keys_of v) hs has,
        )

-- and so it does where its partial fragment was written anew in between
pub back-longer : (v w added : Frags) (now after front : List Holding) → v ≡ whole_fragments v ++ partial_of v
    → w ≡ whole_fragments v ++ added → without_keys (keys_of added) after ≡ without_keys (keys_of (partial_of v)) now
    → without_keys (keys_of v) now ≡ front → without_keys (keys_of w) after ≡ front
back-longer v w added now after front whole parts moved back =
    let full : List Key = keys_of (whole_fragments v) in
    let part : List Key = keys_of (partial_of v) in
    ap (λ x. without_keys (keys_of x) after) parts ∙ ap (λ ks. without_keys ks after)
    (keys-append (whole_fragments v) added) ∙ left_by-append full (keys_of added) after
    ∙ left_by-swap (keys_of added) full after ∙ ap (without_keys full) moved
    ∙ left_by-swap full part now ∙ sym (left_by-append full part now) ∙ ap (λ ks. without_keys ks now)
    (sym (keys-append (whole_fragments v) (partial_of v))) ∙ ap (λ x. without_keys (keys_of x) now) (sym whole) ∙ back

-- a value whose holds came from another seat
pub came_value : (z : Sizes) (v : Frags) (own new mid : View) → HasValue mid.holds v → IsSeat z mid → IsSeat z new
    → new ≡ gaining (holds_for (keys_of v) mid.holds) own
    → HasValue new.holds v × (value_bytes new.holds v ≡ value_bytes mid.holds v)
came_value z v own new mid has is isn gained =
    let all = has_keys v mid.holds has.held in
    let more : List Holding = holds_for (keys_of v) mid.holds in
    let came : new.holds ≡ own.holds ++ more = ap (λ (x : View). x.holds) gained in
    let exactly : map hold_key more ≡ keys_of v = taken_by-keys (keys_of v) mid.holds all in
    let there = each_there mid.holds new.holds v
    (came-front z v own.holds more mid.holds new.holds mid new came exactly refl is refl isn refl) has.filled in (
      record {
        held = λ b. omega (
          arith,
          ap (meant_count (loose_key b)) came,
          times-append (loose_key b) own.holds more,
          keys-times more
              (keys_of v) exactly (loose_key b),
          asked-loose b v,
        );
        filled = there.0;
      },
      there.1,
    )

-- one that went out and came back, perhaps longer
pub carried : (z : Sizes) (v w : Frags) (own own1 own2 payer2 : View) → own1 ≡ losing (keys_of v) own
    → own2 ≡ gaining (holds_for (keys_of w) payer2.holds) own1
    → HasValue payer2.holds w → Each (IsFilled own2.holds) w → IsValue z w → IsCarried z v w own own2
carried z v w own own1 own2 payer2 lost gained has filled value = record {
  more = holds_for (keys_of w) payer2.holds;
  gained = ap (λ (x : View). x.holds) gained ∙ ap (λ (x : View). x.holds ++ holds_for (keys_of w) payer2.holds) lost;
  keys_are = taken_by-keys (keys_of w) payer2.holds (has_keys w payer2.holds has.held);
  filled = filled;
  value = value;
  poor = λ p. record {
    credits = ap (λ (x : View). x.credits) gained ∙ ap (λ (x : View). x.credits) lost ∙ p.credits;
    claims = ap (λ (x : View). x.claims) gained ∙ ap (λ (x : View). x.claims) lost ∙ p.claims;
    looks = ap (λ (x : View). x.looks) gained ∙ ap (λ (x : View). x.looks) lost ∙ p.looks;
  };
}
