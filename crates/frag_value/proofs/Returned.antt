-- Pinned holds that are given back one by one.
use Rattle.std.proofs.Common.{◌≡◌, ℕ, ◌+◌, ◌<◌, ◌≤◌, List, [], ◌∷◌, ◌++◌, Bool, true, false, cond, eqb, length}
use Rattle.std.proofs.Common.{sym, refl, ap, ◌∙◌, append-nil, append_assoc, length-append, arith}
use mathlib.Core.Logic.{dite}
use native.Mathlib.Decide.{ℕ_discrete}
use Rattle.view_sums.specs.Total.{total, same}
use Rattle.view_sums.proofs.Sums.{total-append}
use Rattle.pin_core.specs.Holding.{Holding, Key, at}
use Rattle.pinned_pool.specs.Views.{among}
use Rattle.pinned_pool.specs.Moves.{times_asked, HasHolds, without, without_keys, meant_count, unpin}
use Rattle.pinned_pool.specs.Named.{is_last}
use Rattle.pinned_pool.specs.declared.unpinned.Unpinned.{Unpinned}
use Rattle.pinned_pool.specs.declared.unpinned.Unpinned.TheVariants.{Last}
use Rattle.pinned_pool.specs.declared.view.View.{View}
use Rattle.pinned_pool.proofs.Keys.{total-without}
use Rattle.pinned_pool.proofs.AfterSteps.{times-left_by, left_by-append}
use Rattle.frag_value.specs.Values.{Frags, uses}
use Rattle.frag_value.proofs.Sames.{same-yes, same-no}
use Rattle.frag_value.proofs.Released.{last_true}
use Rattle.frag_value.specs.Pins.{pin_key, pin_keys, AreReturned}

-- how often the holds of a value are asked for
asked_bit : (t : Bool) → cond (cond t true false) 1 0 ≡ (let n : ℕ = cond t 1 0 in n)
asked_bit true = refl
asked_bit false = refl

loose_bit : (t : Bool) → (let n : ℕ = cond (cond t false false) 1 0 in n ≡ 0)
loose_bit true = refl
loose_bit false = refl

pub asked-pins : (c : ℕ) (v : Frags) → times_asked (pin_key c) (pin_keys v) ≡ uses c v
asked-pins c [] = refl
asked-pins c (p ∷ v) = omega (arith, asked_bit (eqb p.0 c), asked-pins c v)

asked-loose : (c : ℕ) (v : Frags) → times_asked (record { buffer = c; pinned = false }) (pin_keys v) ≡ 0
asked-loose c [] = refl
asked-loose c (p ∷ v) = omega (arith, loose_bit (eqb p.0 c), asked-loose c v)

has_pins : (v : Frags) (hs : List Holding) → ((c : ℕ) → uses c v ≤ meant_count (pin_key c) hs)
    → HasHolds (pin_keys v) hs
has_pins v hs has = λ j. either_way j.buffer j.pinned where
  either_way : (c : ℕ) (t : Bool) → times_asked (record { buffer = c; pinned = t }) (pin_keys v)
      ≤ meant_count (record { buffer = c; pinned = t }) hs
  either_way c true = omega (arith, asked-pins c v, has c)
  either_way c false = omega (arith, asked-loose c v)

pub left : (b : ℕ) (v : Frags) (hs : List Holding) → ((c : ℕ) → uses c v ≤ meant_count (pin_key c) hs)
    → meant_count (pin_key b) (without_keys (pin_keys v) hs) + uses b v ≡ meant_count (pin_key b) hs
left b v hs has = omega (arith, times-left_by (pin_key b) (pin_keys v) hs (has_pins v hs has), asked-pins b v)

pub keys-append : (v w : Frags) → pin_keys (v ++ w) ≡ pin_keys v ++ pin_keys w
keys-append [] w = refl
keys-append (p ∷ v) w = ap (λ l. pin_key p.0 ∷ l) (keys-append v w)

abbrev pub one : Bool → ℕ
one t = cond t 1 0

pub returned_none : (v : View) → AreReturned [] 0 v v
returned_none v = record {
  holds = refl;
  credits = omega arith;
  claims = refl;
  looks = refl;
  returns = omega arith;
  ended = [];
  lasts = sym (append-nil v.lasts);
  count = refl;
  of_value = λ b. omega arith;
  gone = λ b some. absurd (omega arith);
}

one_returned : (v : Frags) (n : ℕ) (p : ℕ × ℕ) (old now new : View) (last : Bool) (k : Key)
    → AreReturned v n old now → k ≡ pin_key p.0 → new ≡ unpin last k now
    → (last ≡ true → total (at k.buffer) new.holds ≡ 0)
    → AreReturned (v ++ p ∷ []) (n + cond last 1 0) old new
one_returned v n p old now new last k was meant step sure =
    let e : new ≡ unpin last (pin_key p.0) now = step ∙ ap (λ j. unpin last j now) meant in
    let holds : new.holds ≡ without (pin_key p.0) now.holds = ap (λ (w : View). w.holds) e in
    let fewer : (b : ℕ) → total (at b) new.holds ≤ total (at b) now.holds =
    λ b. omega (arith, ap (total (at b)) holds, total-without (at b) (pin_key p.0) now.holds) in
    let last_is : last ≡ true → total (at p.0) new.holds ≡ 0 = λ t. ap (λ (j : Key). total (at j.buffer) new.holds)
    (sym meant) ∙ sure t in
    record {
      holds = holds ∙ ap (without (pin_key p.0)) was.holds
          ∙ sym (left_by-append (pin_keys v) (pin_key p.0 ∷ []) old.holds) ∙ ap (λ ks. without_keys ks old.holds)
          (sym (keys-append v (p ∷ [])));
      credits = omega (arith, ap (λ (w : View). w.credits) e, was.credits, length-append v (p ∷ []));
      claims = ap (λ (w : View). w.claims) e ∙ was.claims;
      looks = ap (λ (w : View). w.looks) e ∙ was.looks;
      returns = omega (arith, ap (λ (w : View). w.returns) e, was.returns, length-append v (p ∷ []));
      ended = cond last (was.ended ++ p.0 ∷ []) was.ended;
      lasts = ap (λ (w : View). w.lasts) e ∙ listed last;
      count = counted last;
      of_value = λ b. omega (arith, total-append (λ (q : ℕ × ℕ). same q.0 b) v (p ∷ []), among_value b last);
      gone = λ b. ends b last (fewer b) last_is;
    }
  where
    listed : (t : Bool) → cond t (now.lasts ++ p.0 ∷ []) now.lasts ≡ old.lasts
        ++ cond t (was.ended ++ p.0 ∷ []) was.ended
    listed true = ap (λ l. l ++ p.0 ∷ []) was.lasts ∙ append_assoc old.lasts was.ended (p.0 ∷ [])
    listed false = was.lasts

    counted : (t : Bool) → length (cond t (was.ended ++ p.0 ∷ []) was.ended) ≡ n + cond t 1 0
    counted true = omega (arith, length-append was.ended (p.0 ∷ []), was.count)
    counted false = omega (arith, was.count)

    among_value : (b : ℕ) (t : Bool) → among b (cond t (was.ended ++ p.0 ∷ []) was.ended) ≤ uses b v + same p.0 b
    among_value b true = omega (arith, total-append (λ c. same c b) was.ended (p.0 ∷ []), was.of_value b)
    among_value b false = omega (arith, was.of_value b)

    ends : (b : ℕ) (t : Bool) → total (at b) new.holds ≤ total (at b) now.holds
        → (t ≡ true → total (at p.0) new.holds ≡ 0) → 0 < among b (cond t (was.ended ++ p.0 ∷ []) was.ended)
        → total (at b) new.holds ≡ 0
    ends b true less now_none some = dite (ℕ_discrete p.0 b)
        (λ same_b. ap (λ c. total (at c) new.holds) (sym same_b) ∙ now_none refl)
        (λ apart. let before =
        was.gone b (omega (arith, some, total-append (λ c. same c b) was.ended (p.0 ∷ []), same-no p.0 b apart)) in
        omega (arith, before, less))
    ends b false less now_none some = omega (arith, was.gone b some, less)

-- some fragments were given back, n of them the last of their buffers, and these are left
pub record ReturnedSoFar (v rest : Frags) (n : ℕ) (old now : View) : Type 0 where
  pub gone : Frags
  pub parts : v ≡ gone ++ rest
  pub returned : AreReturned gone n old now
  pub few : n ≤ length gone

-- the next hold is there
pub next_there : (v gone rest : Frags) (p : ℕ × ℕ) (hs now : List Holding) (k : Key)
    → ((c : ℕ) → uses c v ≤ meant_count (pin_key c) hs) → v ≡ gone ++ p ∷ rest → now ≡ without_keys (pin_keys gone) hs
    → k ≡ pin_key p.0 → 0 < meant_count k now
next_there v gone rest p hs now k has parts is meant =
    let all : (c : ℕ) → uses c v ≡ uses c gone + (same p.0 c + uses c rest) = λ c. ap (uses c) parts
    ∙ total-append (λ (q : ℕ × ℕ). same q.0 c) gone (p ∷ rest) in
    omega (
      arith,
      all p.0,
      same-yes p.0 p.0 refl,
      has p.0,
      left p.0 gone hs (λ c. omega (arith, all c, has c)),
      ap (meant_count (pin_key p.0)) is,
      ap (λ j. meant_count j now) meant,
    )

-- one fragment more
pub more_returned : (v rest next : Frags) (n : ℕ) (p : ℕ × ℕ) (k : Key) (old now new : View) (u : Unpinned)
    → ReturnedSoFar v rest n old now → rest ≡ p ∷ next → k ≡ pin_key p.0 → new ≡ unpin (is_last u) k now
    → (u ≡ Last → total (at k.buffer) new.holds ≡ 0) → ReturnedSoFar v next (n + one (is_last u)) old new
more_returned v rest next n p k old now new u was here meant step sure = record {
  gone = was.gone ++ p ∷ [];
  parts = was.parts ∙ ap (λ l. was.gone ++ l) here ∙ sym (append_assoc was.gone (p ∷ []) next);
  returned = one_returned was.gone n p old now new (is_last u) k was.returned meant step (λ t. sure (last_true u t));
  few = omega (arith, was.few, length-append was.gone (p ∷ []), one_most (is_last u));
}
  where
    one_most : (t : Bool) → one t ≤ 1
    one_most true = omega arith
    one_most false = omega arith
