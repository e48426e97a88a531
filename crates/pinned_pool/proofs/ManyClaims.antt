-- Buffers that are claimed one after another, and given back.
use Rattle.std.proofs.Common.{◌≡◌, ℕ, ◌+◌, ◌<◌, ◌≤◌, List, [], ◌∷◌, ◌++◌, Bool, cond, map, sym, refl, ap, ◌∙◌, subst}
use Rattle.std.proofs.Common.{append-nil, append_assoc, length-append, arith}
use Rattle.std.proofs.lemmas.List.Sums.{fold-append}
use Rattle.view_sums.specs.Total.{total, Each}
use Rattle.view_sums.proofs.Eachs.{each-append}
use Rattle.pin_core.specs.Holding.{Holding, Key, at, fresh}
use Rattle.pin_core.specs.declared.sizes.Sizes.{Sizes}
use Rattle.pin_core.specs.declared.class.Class.{Class}
use Rattle.pinned_pool.specs.Moves.{meant_count, without, unpin, loose_key}
use Rattle.pinned_pool.specs.Claims.{Passed, WinsIn}
use Rattle.pinned_pool.specs.Claimed.{with_claimed, KeepsCredits, Claims, IsIn, ClaimsMore, NoneFree, GivesBack}
use Rattle.pinned_pool.specs.Starts.{ClaimsOne}
use Rattle.pinned_pool.specs.declared.pool.NoBuffer.{NoBuffer}
use Rattle.pinned_pool.specs.declared.view.View.{View}
use Rattle.pinned_pool.proofs.AfterSteps.{times-own, without-own}
use Rattle.pinned_pool.proofs.Still.{won-holds, won-credits, won-returns, won-claims, won-looks, won-key}
use Rattle.pinned_pool.proofs.InClasses.{looked-more}

pub claimed-more : (ks : List Key) (k : Key) (hs : List Holding) → with_claimed (ks ++ k ∷ []) hs ≡ fresh k.buffer
    ∷ with_claimed ks hs
claimed-more ks k hs = fold-append (λ l (j : Key). fresh j.buffer ∷ l) hs ks (k ∷ [])

pub claimed-append : (ks js : List Key) (hs : List Holding) → with_claimed (ks ++ js) hs
    ≡ with_claimed js (with_claimed ks hs)
claimed-append ks js hs = fold-append (λ l (j : Key). fresh j.buffer ∷ l) hs ks js

pub last_loose : (ks : List Key) (k : Key) → Each (λ (j : Key). j ≡ loose_key j.buffer) (ks ++ k ∷ [])
    → Each (λ (j : Key). j ≡ loose_key j.buffer) ks × (k ≡ loose_key k.buffer)
last_loose [] k a = (tt, a.0)
last_loose (j ∷ ks) k a = let rest = last_loose ks k a.1 in ((a.0, rest.0), rest.1)

module _ (all ks : List Key) (k : Key) (hs : List Holding) (v : View) (one : all ≡ ks ++ k ∷ [])
    (loose : k ≡ loose_key k.buffer) (has : v.holds ≡ with_claimed all hs) where
  now : v.holds ≡ fresh k.buffer ∷ with_claimed ks hs
  now = has ∙ ap (λ l. with_claimed l hs) one ∙ claimed-more ks k hs

  pub can_unpin : 0 < meant_count k v.holds
  can_unpin = omega (
    arith,
    times-own (fresh k.buffer) (with_claimed ks hs),
    ap
        (λ l. meant_count (loose_key k.buffer) l) now,
    ap (λ j. meant_count j v.holds) loose,
  )

  pub one_back : (last : Bool) (w : View) → w ≡ unpin last k v → w.holds ≡ with_claimed ks hs
  one_back last w e = ap (λ (x : View). x.holds) e ∙ ap (λ j. without j v.holds) loose
      ∙ ap (without (loose_key k.buffer)) now ∙ without-own (fresh k.buffer) (with_claimed ks hs)

pub gives_more : (u v w : View) (last : Bool) (k : Key) → k ≡ loose_key k.buffer → GivesBack u v → w ≡ unpin last k v
    → GivesBack u w
gives_more u v w last k loose was e =
    let free : cond k.pinned 1 0 ≡ 0 = ap (λ (j : Key). let n : ℕ = cond j.pinned 1 0 in n) loose in
    record {
      credits = omega (arith, ap (λ (x : View). x.credits) e, free, was.credits);
      returns = omega (arith, ap (λ (x : View). x.returns) e, free, was.returns);
      claims = ap (λ (x : View). x.claims) e ∙ was.claims;
      looks = ap (λ (x : View). x.looks) e ∙ was.looks;
    }

-- claims that are made
pub keeps_same : (v : View) → KeepsCredits v v
keeps_same v = record { credits = refl; returns = refl; looks = ([], sym (append-nil v.looks)) }

pub keeps_more : (u v w : View) → KeepsCredits u v → KeepsCredits v w → KeepsCredits u w
keeps_more u v w a b = record {
  credits = b.credits ∙ a.credits;
  returns = b.returns ∙ a.returns;
  looks = (
    a.looks.0 ++ b.looks.0,
    b.looks.1 ∙ ap (λ l. l ++ b.looks.0) a.looks.1
        ∙ append_assoc u.looks a.looks.0 b.looks.0,
  );
}

pub claims_none : (v : View) → Claims [] v v
claims_none v = record {
  keeps = keeps_same v;
  holds = refl;
  claims = sym (append-nil v.claims);
  lasts = refl;
  loose = tt;
  apart = tt;
}

apart-claimed : (b : ℕ) (ks : List Key) (hs : List Holding) → total (at b) (with_claimed ks hs) ≡ 0 → total (at b) hs
    ≡ 0
apart-claimed b [] hs none = none
apart-claimed b (k ∷ ks) hs none = let rest = apart-claimed b ks (fresh k.buffer ∷ hs) none in omega (arith, rest)

buffers-both : (ks js : List Key) → map (λ (j : Key). j.buffer) (ks ++ js) ≡ map (λ (j : Key). j.buffer) ks
    ++ map (λ (j : Key). j.buffer) js
buffers-both [] js = refl
buffers-both (k ∷ ks) js = ap (λ l. k.buffer ∷ l) (buffers-both ks js)

apart-both : (ks : List Key) (hs gs : List Holding) (js : List Key) → gs ≡ with_claimed ks hs
    → Each (λ (k : Key). total (at k.buffer) gs ≡ 0) js → Each (λ (k : Key). total (at k.buffer) hs ≡ 0) js
apart-both ks hs gs [] is all = tt
apart-both ks hs gs (j ∷ js) is all =
    (apart-claimed j.buffer ks hs (omega (arith, ap (total (at j.buffer)) is, all.0)), apart-both ks hs gs js is all.1)

-- some after others
pub claims_then : (ks js : List Key) (u v w : View) → Claims ks u v → Claims js v w → Claims (ks ++ js) u w
claims_then ks js u v w a b = record {
  keeps = keeps_more u v w a.keeps b.keeps;
  holds = b.holds ∙ ap (with_claimed js) a.holds ∙ sym (claimed-append ks js u.holds);
  claims = b.claims ∙ ap (λ l. l ++ map (λ (j : Key). j.buffer) js) a.claims
      ∙ append_assoc u.claims (map (λ (j : Key). j.buffer) ks) (map (λ (j : Key). j.buffer) js)
      ∙ ap (λ l. u.claims ++ l) (sym (buffers-both ks js));
  lasts = b.lasts ∙ a.lasts;
  loose = each-append (λ (j : Key). j ≡ loose_key j.buffer) ks js a.loose b.loose;
  apart = each-append (λ (j : Key). total (at j.buffer) u.holds ≡ 0) ks js a.apart
      (apart-both ks u.holds v.holds js a.holds b.apart);
}

pub claims_one : (first count : ℕ) (k : Key) (v w : View) → WinsIn first count k v w → Claims (k ∷ []) v w
claims_one first count k v w won = record {
  keeps = record {
    credits = won-credits first count k v w won;
    returns = won-returns first count k v w won;
    looks = (won.looks, won-looks first count k v w won);
  };
  holds = won-holds first count k v w won;
  claims = won-claims first count k v w won;
  lasts = ap (λ (x : View). x.lasts) won.seat;
  loose = (won-key first count k v w won, tt);
  apart = (won.alone, tt);
}

-- a claim that found no free buffer
pub claims_passed : (b n : ℕ) (v w : View) → Passed b n v w → Claims [] v w
claims_passed b n v w passed = record {
  keeps = record {
    credits = ap (λ (x : View). x.credits) passed.seat;
    returns = ap (λ (x : View). x.returns) passed.seat;
    looks = (passed.looks, ap (λ (x : View). x.looks) passed.seat);
  };
  holds = ap (λ (x : View). x.holds) passed.seat;
  claims = ap (λ (x : View). x.claims) passed.seat ∙ sym (append-nil v.claims);
  lasts = ap (λ (x : View). x.lasts) passed.seat;
  loose = tt;
  apart = tt;
}

-- of one class
pub more_none : (z : Sizes) (class : Class) (had : List Key) (v : View) → ClaimsMore z class 0 had had v v
more_none z class had v = record {
  more = [];
  list = sym (append-nil had);
  few = omega arith;
  class_is = tt;
  claims = claims_none v;
}

pub more_won : (z : Sizes) (class : Class) (n : ℕ) (had has next : List Key) (k : Key) (u v w : View)
    → ClaimsMore z class n had has u v → next ≡ has ++ k ∷ [] → ClaimsOne z class k v w
    → ClaimsMore z class (n + 1) had next u w
more_won z class n had has next k u v w was one won = record {
  more = was.more ++ k ∷ [];
  list = one ∙ ap (λ l. l ++ k ∷ []) was.list ∙ append_assoc had was.more (k ∷ []);
  few = omega (arith, length-append was.more (k ∷ []), was.few);
  class_is = each-append (IsIn z class) was.more (k ∷ []) was.class_is (won.class_is, tt);
  claims = claims_then was.more (k ∷ []) u v w was.claims won.claims;
}

pub more_passed : (z : Sizes) (class : Class) (n count : ℕ) (had has : List Key) (u v w : View)
    → ClaimsMore z class n had has u v → n ≤ count → Claims [] v w → ClaimsMore z class count had has u w
more_passed z class n count had has u v w was fewer passed = record {
  more = was.more;
  list = was.list;
  few = omega (arith, was.few);
  class_is = was.class_is;
  claims = subst (λ l. Claims l u w) (append-nil was.more) (claims_then was.more [] u v w was.claims passed);
}

-- a claim that found none, behind others
pub none_free : (z : Sizes) (ks : List Key) (e : NoBuffer) (u v w : View) → Claims ks u v → NoneFree z e v w
    → NoneFree z e u w
none_free z ks e u v w was free = record {
  looked = free.looked;
  found = λ b near at. omega (
    arith,
    looked-more b u v was.keeps.looks.0 was.keeps.looks.1,
    free.found b near at,
  );
}

pub ruleset many_claims = (
  claimed-more,
  claimed-append,
  can_unpin,
  one_back,
  gives_more,
  keeps_same,
  keeps_more,
  claims_none,
  claims_then,
  claims_one,
  claims_passed,
  more_none,
  more_won,
  more_passed,
  none_free,
)
