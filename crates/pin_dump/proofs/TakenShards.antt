-- The shards that were taken so far.
use Rattle.std.proofs.Common.{◌≡◌, ℕ, ◌+◌, ◌*◌, ◌<◌, ◌≤◌, List, [], ◌∷◌, ◌++◌, length, map, refl, sym, ap}
use Rattle.std.proofs.Common.{◌∙◌, subst, append_assoc, append-nil, length-append, arith}
use Rattle.std.specs.List.{range_with_len}
use Rattle.std.proofs.lemmas.Grind.{flat_map-append}
use Rattle.std.proofs.lemmas.List.{map-append}
use Rattle.std.proofs.Math.Nat.{mul-le-mul_right}
use Rattle.std.proofs.lemmas.List.FromFn.{map-range_with_len_more}
use Rattle.view_sums.specs.Total.{same, Each}
use Rattle.view_sums.proofs.Eachs.{each-append}
use Rattle.view_sums.proofs.Sums.{total-append}
use Rattle.pin_core.specs.Buffers.{buffers}
use Rattle.pin_core.specs.declared.sizes.Sizes.{Sizes}
use Rattle.pinned_pool.specs.Moves.{front_of, hold_key, meant_count}
use Rattle.pinned_pool.specs.declared.view.View.{View}
use Rattle.pinned_pool.proofs.Keys.{some-at}
use Rattle.pinned_pool.proofs.AfterSteps.{front-append, times-append}
use Rattle.flake_model.specs.Deed.{final_store}
use Rattle.order_book.specs.Closed.{IsShared}
use Rattle.order_book.specs.Pages.{ShardList, SessionList}
use Rattle.dump_model.specs.Dump.{Pair, pairs_in, pairs_text}
use Rattle.dump_model.specs.Seen.{ShardSeen, list_seen, pairs_seen}
use Rattle.frag_value.specs.Values.{IsFilled, uses, value_bytes}
use Rattle.frag_value.proofs.Ends.{length-map}
use Rattle.frag_value.proofs.Framed.{each_there}
use Rattle.shard_core.proofs.Holds.{keys-times}
use Rattle.frag_value.specs.Pins.{KeyFrags, IsPinned, all_frags, pairs_shown, pin_key, pin_keys}
use Rattle.frag_value.proofs.Returned.{asked-pins, left}
use Rattle.shard_store.specs.Images.{IsImage}
use Rattle.shard_store.proofs.Imaged.{shows_same}
use Rattle.pin_dump.specs.Dumps.{GivesHolds, TookDump, HasTakenHolds, HoldsFor, KeepsDeeds}
use Rattle.pin_dump.proofs.Emptied.{fewer}
use Rattle.pin_dump.proofs.GivenBack.{frags-append}

pub record TakenSoFar (z : Sizes) (n : ℕ) (old now : SessionList) (start seat : View) (pairs : List KeyFrags)
    (points : List ℕ) : Type 0 where
  pub seen : List ShardSeen
  pub number_is : now.number ≡ old.number
  pub told_is : now.told ≡ old.told
  pub looks_are : now.looks ≡ old.looks ++ seen
  pub numbered : map (λ (look : ShardSeen). look.0) seen ≡ range_with_len 0 n
  pub points_are : points ≡ map (λ (look : ShardSeen). length look.1) seen
  pub shown : pairs_shown seat.holds pairs ≡ pairs_seen seen
  pub shared : Each (λ (look : ShardSeen). IsShared (list_seen look) old) seen
  pub count : length seat.holds ≡ length (all_frags pairs)
  pub has : IsPinned seat.holds (all_frags pairs)
  pub few : length (all_frags pairs) ≤ n * buffers z
  pub credits : seat.credits + length seat.holds ≡ start.credits
  pub claims : seat.claims ≡ start.claims
  pub looks : seat.looks ≡ start.looks
  pub returns : seat.returns ≡ start.returns
  pub lasts : seat.lasts ≡ start.lasts

pub taken_none : (z : Sizes) (old : SessionList) (start : View) (pairs : List KeyFrags) (points : List ℕ)
    → start.holds ≡ [] → pairs ≡ [] → points ≡ [] → TakenSoFar z 0 old old start start pairs points
taken_none z old start pairs points holds none zero_points = record {
  seen = [];
  number_is = refl;
  told_is = refl;
  looks_are = sym (append-nil old.looks);
  numbered = refl;
  points_are = zero_points;
  shown = ap (pairs_shown start.holds) none;
  shared = tt;
  count = ap length holds ∙ sym (ap (λ (l : List KeyFrags). length (all_frags l)) none);
  has = subst (λ (l : List KeyFrags). IsPinned start.holds (all_frags l)) (sym none)
      (record { held = λ b. omega arith; filled = tt });
  few = omega (arith, ap (λ (l : List KeyFrags). length (all_frags l)) none);
  credits = omega (arith, ap length holds);
  claims = refl;
  looks = refl;
  returns = refl;
  lasts = refl;
}

times_more : (n b : ℕ) → (n + 1) * b ≡ n * b + b
times_more n b = grind arith

map-same : {A : Type 0} (xs : List A) → map (λ (x : A). x) xs ≡ xs
map-same [] = refl
map-same (x ∷ xs) = ap (λ l. x ∷ l) (map-same xs)

numbers_more : (n : ℕ) → range_with_len 0 (n + 1) ≡ range_with_len 0 n ++ n ∷ []
numbers_more n =
    let none : 0 + n ≡ n = omega arith in
    sym (map-same (range_with_len 0 (n + 1))) ∙ map-range_with_len_more (λ (x : ℕ). x) 0 n n none
    ∙ ap (λ l. l ++ n ∷ []) (map-same (range_with_len 0 n))

shared_by : (list : ShardList) (a b : SessionList) → a.number ≡ b.number → a.told ≡ b.told → IsShared list a
    → IsShared list b
shared_by list a b number told s =
    let c : SessionList = record { number = a.number; told = a.told; looks = b.looks } in
    let here : IsShared list c = record { deeds = s.deeds; entries = s.entries } in
    let same_list : c ≡ b = λ i. record { number = number i; told = told i; looks = b.looks } in
    subst (IsShared list) same_list here

module _ (z : Sizes) (n place : ℕ) (old mine now : SessionList) (start seat next : View) (pairs more : List KeyFrags)
    (points : List ℕ) (was : TakenSoFar z n old mine start seat pairs points)
    (image : IsImage z n place more mine now seat next) (enough : buffers z ≤ seat.credits) where
  pins_are : length image.pinned.pins ≡ length (all_frags more)
  pins_are = omega (
    arith,
    ap length image.pinned.keys,
    length-map hold_key image.pinned.pins,
    length-map (λ (p : ℕ × ℕ). pin_key p.0) (all_frags more),
  )

  gains : next.holds ≡ seat.holds ++ image.pinned.pins
  gains = ap (λ (v : View). v.holds) image.pinned.taken

  fronts_stay : (b : ℕ) → 0 < uses b (all_frags pairs) → front_of b next.holds ≡ front_of b seat.holds
  fronts_stay b some =
      ap (front_of b) gains
      ∙ front-append b seat.holds image.pinned.pins
      (some-at (pin_key b) seat.holds (omega (arith, was.has.held b, some)))

  long : length (all_frags (pairs ++ more)) ≡ length (all_frags pairs) + length (all_frags more)
  long = ap length (frags-append pairs more) ∙ length-append (all_frags pairs) (all_frags more)

  pub held_more : (b : ℕ) → uses b (all_frags (pairs ++ more)) ≤ meant_count (pin_key b) next.holds
  held_more b = omega (
    arith,
    ap (uses b) (frags-append pairs more),
    total-append (λ (p : ℕ × ℕ). same p.0 b) (all_frags pairs) (all_frags more),
    was.has.held b,
    ap (meant_count (pin_key b)) gains,
    times-append (pin_key b) seat.holds image.pinned.pins,
    keys-times image.pinned.pins (pin_keys (all_frags more)) image.pinned.keys (pin_key b),
    asked-pins b (all_frags more),
  )

  pub count_more : length next.holds ≡ length (all_frags pairs) + length (all_frags more)
  count_more = omega (arith, ap length gains, length-append seat.holds image.pinned.pins, pins_are, was.count)

  look : ShardSeen
  look = (n, image.list.told)

  pub credits_more : next.credits + length next.holds ≡ start.credits
  credits_more = omega (
    arith,
    ap (λ (v : View). v.credits) image.pinned.taken,
    was.credits,
    ap length gains,
    length-append seat.holds image.pinned.pins,
    pins_are,
    image.pinned.few,
    enough,
  )

  pub looks_more : now.looks ≡ old.looks ++ (was.seen ++ (n, image.list.told) ∷ [])
  looks_more =
      ap (λ (s : SessionList). s.looks) image.seen
      ∙ ap (λ (m : ℕ). mine.looks ++ (m, image.list.told) ∷ []) image.number_is
      ∙ ap (λ (l : List ShardSeen). l ++ (n, image.list.told) ∷ []) was.looks_are
      ∙ append_assoc old.looks was.seen ((n, image.list.told) ∷ [])

  shown_more : pairs_shown next.holds (pairs ++ more) ≡ pairs_seen (was.seen ++ (n, image.list.told) ∷ [])
  shown_more =
      let shows : KeyFrags → Pair = λ p. (p.0, value_bytes next.holds p.1) in
      let entries : ShardSeen → List Pair = λ l. pairs_in (final_store l.1) in
      let first : pairs_shown next.holds pairs ≡ pairs_seen was.seen =
      shows_same seat.holds next.holds pairs fronts_stay was.has.filled ∙ was.shown in
      map-append shows pairs more
      ∙ (λ i. first i ++ image.pairs_are i)
      ∙ ap (λ l. pairs_seen was.seen ++ l) (sym (append-nil (pairs_in (final_store image.list.told))))
      ∙ sym (flat_map-append entries was.seen ((n, image.list.told) ∷ []))

  shared_more : IsShared (list_seen (n, image.list.told)) old
  shared_more =
      subst (λ (m : ℕ). IsShared (record { number = m; told = image.list.told }) old) image.number_is
      (shared_by image.list mine old was.number_is was.told_is image.shared)

  pub taken_more : TakenSoFar z (n + 1) old now start next (pairs ++ more) (points ++ place ∷ [])
  taken_more = record {
    seen = was.seen ++ (n, image.list.told) ∷ [];
    number_is = ap (λ (s : SessionList). s.number) image.seen ∙ was.number_is;
    told_is = ap (λ (s : SessionList). s.told) image.seen ∙ was.told_is;
    looks_are = looks_more;
    numbered = map-append (λ (l : ShardSeen). l.0) was.seen ((n, image.list.told) ∷ [])
        ∙ ap (λ l. l ++ n ∷ []) was.numbered ∙ sym (numbers_more n);
    points_are = ap (λ l. l ++ place ∷ []) was.points_are
        ∙ ap (λ (p : ℕ). map (λ (l : ShardSeen). length l.1) was.seen ++ p ∷ []) image.place_is
        ∙ sym (map-append (λ (l : ShardSeen). length l.1) was.seen ((n, image.list.told) ∷ []));
    shown = shown_more;
    shared = each-append (λ (l : ShardSeen). IsShared (list_seen l) old) was.seen ((n, image.list.told) ∷ [])
        was.shared (shared_more, tt);
    count = count_more ∙ sym long;
    has = record {
      held = held_more;
      filled = subst (Each (IsFilled next.holds)) (sym (frags-append pairs more))
          (each-append (IsFilled next.holds) (all_frags pairs) (all_frags more)
          (each_there seat.holds next.holds (all_frags pairs) fronts_stay was.has.filled).0 image.pinned.has.filled);
    };
    few = omega (arith, long, was.few, image.pinned.few, times_more n (buffers z));
    credits = credits_more;
    claims = ap (λ (v : View). v.claims) image.pinned.taken ∙ was.claims;
    looks = ap (λ (v : View). v.looks) image.pinned.taken ∙ was.looks;
    returns = ap (λ (v : View). v.returns) image.pinned.taken ∙ was.returns;
    lasts = ap (λ (v : View). v.lasts) image.pinned.taken ∙ was.lasts;
  }

-- what a loop over the shards ensures
module _ (z : Sizes) (n : ℕ) (old now : SessionList) (start seat : View) (pairs : List KeyFrags) (points : List ℕ)
    (so_far : TakenSoFar z n old now start seat pairs points) where
  pub has_taken : TookDump n old now points (pairs_text (pairs_shown seat.holds pairs))
  has_taken = record {
    seen = so_far.seen;
    number_is = so_far.number_is;
    told_is = so_far.told_is;
    looks_are = so_far.looks_are;
    numbered = so_far.numbered;
    points_are = so_far.points_are;
    text_is = ap pairs_text so_far.shown;
    shared = so_far.shared;
  }

  pub held_so_far : HoldsFor seat.holds (all_frags pairs)
  held_so_far = record { count = so_far.count; held = so_far.has.held }

  pub took_so_far : HasTakenHolds start seat
  took_so_far = record { credits = so_far.credits; claims = so_far.claims; looks = so_far.looks }

  pub keeps_so_far : KeepsDeeds old now
  keeps_so_far = record {
    number = so_far.number_is;
    told = so_far.told_is;
    looks = (so_far.seen, so_far.looks_are);
  }

-- credits are left for one shard more
pub enough_left : (n shards b held credits start : ℕ) → n < shards → held ≤ n * b → credits + held ≡ start
    → shards * b + 4 ≤ start → b ≤ credits
enough_left n shards b held credits start below few split all =
    let less : n + 1 ≤ shards = omega arith in
    omega (arith, few, split, all, times_more n b, mul-le-mul_right b less)

-- where the last shard's holds were given back again
module _ (z : Sizes) (n place : ℕ) (old mine now : SessionList) (start seat next back : View)
    (pairs more : List KeyFrags) (points : List ℕ) (was : TakenSoFar z n old mine start seat pairs points)
    (image : IsImage z n place more mine now seat next) (enough : buffers z ≤ seat.credits)
    (gives : GivesHolds (all_frags more) next back) where
  shorter : length back.holds + length (all_frags more) ≡ length next.holds
  shorter = omega (arith, ap length gives.holds, fewer (all_frags more) next.holds image.pinned.has.held)

  pub back_held : HoldsFor back.holds (all_frags pairs)
  back_held = record {
    count = omega (
      arith,
      shorter,
      count_more z n place old mine now start seat next pairs more points was image
          enough,
    );
    held = λ b. omega (
      arith,
      left b (all_frags more) next.holds image.pinned.has.held,
      held_more z n place old mine now start seat next pairs more points was image enough b,
      ap (uses b) (frags-append pairs more),
      total-append (λ (p : ℕ × ℕ). same p.0 b) (all_frags pairs) (all_frags more),
      ap (meant_count (pin_key b)) gives.holds,
    );
  }

  pub back_took : HasTakenHolds start back
  back_took = record {
    credits = omega (
      arith,
      gives.credits,
      shorter,
      credits_more z n place old mine now start seat next pairs more points was image enough,
    );
    claims = gives.claims ∙ ap (λ (v : View). v.claims) image.pinned.taken ∙ was.claims;
    looks = gives.looks ∙ ap (λ (v : View). v.looks) image.pinned.taken ∙ was.looks;
  }

  pub back_keeps : KeepsDeeds old now
  back_keeps = record {
    number = ap (λ (s : SessionList). s.number) image.seen ∙ was.number_is;
    told = ap (λ (s : SessionList). s.told) image.seen ∙ was.told_is;
    looks = (
      was.seen ++ (n, image.list.told) ∷ [],
      looks_more z n place old mine now start seat next pairs more points was image enough,
    );
  }
