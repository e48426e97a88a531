-- A value that was written for one seat and brought to another.
use Rattle.std.proofs.Common.{◌≡◌, ℕ, ◌<◌, cond, List, [], ◌++◌, append-nil, length, map, Option, None, Some, refl, sym}
use Rattle.std.proofs.Common.{ap, ◌∙◌, subst, arith}
use Rattle.view_sums.specs.Total.{total, Each}
use Rattle.pin_core.specs.Holding.{Holding, at}
use Rattle.pin_core.specs.declared.class.Class.{Class}
use Rattle.pin_core.specs.declared.sizes.Sizes.{Sizes}
use Rattle.flake_base.specs.declared.segment.Seg.{Seg}
use Rattle.pinned_pool.specs.Sought.{Sought}
use Rattle.pinned_pool.proofs.SoughtLaws.{sought_still}
use Rattle.std.specs.Cmp.Lexicographic.{bytes_decides}
use Rattle.pinned_pool.specs.Moves.{hold_key, holds_for, front_of, loose_key, losing, gaining}
use Rattle.pinned_pool.specs.Named.{IsSeat}
use Rattle.pinned_pool.specs.declared.view.View.{View}
use Rattle.pinned_pool.proofs.Keys.{some-at, taken_by-keys}
use Rattle.pinned_pool.proofs.AfterSteps.{front-taken_by, front-joined}
use Rattle.frag_value.specs.Values.{IsValue, IsCut, value_buffers, keys_of, uses, value_bytes}
use Rattle.frag_value.specs.Changes.{IsWritten}
use Rattle.frag_value.specs.Claimed.{ClaimsFor}
use Rattle.frag_value.specs.Fragments.{stored_fragments, fragments_in}
use Rattle.frag_value.proofs.Released.{asked-loose, has_keys}
use Rattle.frag_value.proofs.Framed.{each_there}
use Rattle.frag_value.proofs.Cuts.{length-bytes-value}
use Rattle.shard_core.specs.Kept.{Entries, value_at, frags_of, AreHeld, IsPoor, IsKept, segs_of}
use Rattle.frag_value.specs.Values.{Frags}
use Rattle.shard_core.specs.Keys.{is_key}
use Rattle.shard_core.specs.Moved.{IsBrought, BytesWerePut}
use Rattle.shard_core.specs.Paid.{IsPaid}
use Rattle.shard_core.proofs.Changed.{Put}
use Rattle.shard_core.proofs.Entries.{every-found}
use Rattle.shard_core.proofs.Holds.{IsSame, keys-times, gained_same, gained_held, gained_agrees, put_held, put_agrees}

-- the fronts of holds that came, of a seat that has them
module _ (z : Sizes) (v : Frags) (own more mid now : List Holding) (seat here : View) (came : now ≡ own ++ more)
    (keys : map hold_key more ≡ keys_of v)
    (picks : more ≡ holds_for (keys_of v) mid) (is : IsSeat z seat) (mid_is : seat.holds ≡ mid) (isn : IsSeat z here)
    (now_is : here.holds ≡ now) where
  pub came-front : (c : ℕ) → 0 < uses c v → front_of c now ≡ front_of c mid
  came-front c some =
      let there : 0 < total (at c) more = some-at (loose_key c) more
      (omega (arith, some, keys-times more (keys_of v) keys (loose_key c), asked-loose c v)) in
      let each_now = subst (λ hs. Each (λ (h : Holding). h.front ≡ isn.fronts.0 h.buffer) hs)
      (now_is ∙ came) isn.fronts.1 in
      let each_mid = subst (λ hs. Each (λ (h : Holding). h.front ≡ is.fronts.0 h.buffer) hs) mid_is is.fronts.1 in
      ap (front_of c) came ∙ front-joined isn.fronts.0 c own more each_now there ∙ ap (front_of c) picks
      ∙ front-taken_by is.fronts.0 c (keys_of v) mid each_mid (subst (λ l. 0 < total (at c) l) picks there)

pub poor-gaining : (hs : List Holding) (own new : View) → new ≡ gaining hs own → IsPoor own → IsPoor new
poor-gaining hs own new is p = record {
  credits = ap (λ (v : View). v.credits) is ∙ p.credits;
  claims = ap (λ (v : View). v.claims) is ∙ p.claims;
  looks = ap (λ (v : View). v.looks) is ∙ p.looks;
}

pub brought : (z : Sizes) (bytes : List ℕ) (v : Frags) (own new payer mid : View) → IsValue z v
    → IsWritten bytes v payer mid → IsSeat z mid → IsSeat z new
    → new ≡ gaining (holds_for (keys_of v) mid.holds) own → IsBrought z bytes v own new
brought z bytes v own new payer mid value w is isn gained =
    let has = has_keys v mid.holds w.has.held in
    let more : List Holding = holds_for (keys_of v) mid.holds in
    let came : new.holds ≡ own.holds ++ more = ap (λ (x : View). x.holds) gained in
    let exactly : map hold_key more ≡ keys_of v = taken_by-keys (keys_of v) mid.holds has in
    let there = each_there mid.holds new.holds v
    (came-front z v own.holds more mid.holds new.holds mid new came exactly refl is refl isn refl) w.has.filled in
    record {
      more = more;
      gained = came;
      keys_are = exactly;
      filled = there.0;
      bytes_are = there.1 ∙ w.bytes_are;
      value = value;
      poor = poor-gaining more own new gained;
    }

-- the seat that paid
pub brought_paid : (z : Sizes) (rows : Class → ℕ) (n : ℕ) (bytes : List ℕ) (v : Frags) (payer mid after : View)
    → IsWritten bytes v payer mid
    → Sought z rows n payer mid → after ≡ losing (keys_of v) mid → IsPaid z rows n payer after
brought_paid z rows n bytes v payer mid after w sought lost = record {
  holds = ap (λ (x : View). x.holds) lost ∙ w.holds;
  credits = ap (λ (x : View). x.credits) lost ∙ w.keeps.credits;
  returns = ap (λ (x : View). x.returns) lost ∙ w.keeps.returns;
  claims = (value_buffers v, ap (λ (x : View). x.claims) lost ∙ w.claims);
  looks = (w.keeps.looks.0, ap (λ (x : View). x.looks) lost ∙ w.keeps.looks.1);
  sought = sought_still z rows n payer mid after sought (ap (λ (x : View). x.claims) lost)
      (ap (λ (x : View). x.looks) lost);
}

-- and after a refusal
pub refused_paid : (z : Sizes) (bytes : List ℕ) (n : ℕ) (payer mid : View) → mid.holds ≡ payer.holds
    → ClaimsFor z (stored_fragments bytes) payer mid
    → Sought z (λ class. fragments_in class (stored_fragments bytes)) n payer mid
    → IsPaid z (λ class. fragments_in class (stored_fragments bytes)) n payer mid
refused_paid z bytes n payer mid same c sought = record {
  holds = same;
  credits = c.keeps.credits;
  returns = c.keeps.returns;
  claims = c.claims;
  looks = c.keeps.looks;
  sought = sought;
}

-- what a key has, in other holds with the same fronts
hand_same : (es : Entries) (hs now : List Holding) (o : Option Frags) → ((v : Frags) → o ≡ Some v → IsSame hs now v)
    → value_bytes now (frags_of o) ≡ value_bytes hs (frags_of o)
hand_same es hs now None all = refl
hand_same es hs now (Some v) all = (all v refl).1

-- and put at a key
pub placed : (z : Sizes) (key bytes : List ℕ) (es now : Entries) (v : Frags) (old : Option Frags) (own new : View)
    (segs0 segs1 : List Seg) → IsKept z es own
    → IsBrought z bytes v own new → Put es now key v → old ≡ value_at key es → segs1 ≡ segs0 ++ segs_of z v
    → BytesWerePut z key bytes es now own new old segs0 segs1
placed z key bytes es now v old own new segs0 segs1 kept b put was segs =
    let held : AreHeld z es v new.holds = gained_held z es own.holds new.holds b.more v b.gained b.keys_are kept.held
    b.filled in
    record {
      found = was;
      poor = b.poor kept.poor;
      held = subst (λ l. AreHeld z now l new.holds) (sym (ap frags_of was))
          (put_held z es now key v new.holds b.value put held);
      hand_bytes = ap (value_bytes new.holds) (ap frags_of was)
          ∙ hand_same es own.holds new.holds (value_at key es)
          (λ x there. every-found (λ (y : Frags). IsSame own.holds new.holds y) (is_key key) es x
          (gained_same z es own.holds new.holds b.more v b.gained b.keys_are kept.held) there)
          ∙ sym (ap (value_bytes own.holds) (ap frags_of was));
      value = v;
      stored = put.changed key ∙ ap (λ t. cond t (Some v) (value_at key es)) ((bytes_decides key key).1 refl);
      cut = subst (λ n. IsCut n v) (sym (length-bytes-value new.holds v b.filled) ∙ ap length b.bytes_are) b.value.cut;
      segs_are = segs;
      agrees = λ s p g. put_agrees z es now key v new.holds bytes b.bytes_are put.changed s p
          (gained_agrees z es own.holds new.holds b.more v b.gained b.keys_are kept.held s p g);
    }

-- nothing was paid
pub unpaid : (z : Sizes) (rows : Class → ℕ) (v : View) → IsPaid z rows 0 v v
unpaid z rows v = record {
  holds = refl;
  credits = refl;
  returns = refl;
  claims = ([], sym (append-nil v.claims));
  looks = ([], sym (append-nil v.looks));
  sought = record {
    missed = λ class. 0;
    missed_are = refl;
    claims = λ class. omega arith;
    looks = λ b near. omega arith;
  };
}
