-- A stage's holds that are given back, the first one first.
use Rattle.std.proofs.Common.{◌≡◌, ℕ, ◌<◌, List, [], ◌∷◌, ◌++◌, Bool, sym, refl, ap, ◌∙◌, subst, append-nil}
use Rattle.std.proofs.Common.{append_assoc, arith}
use Rattle.std.proofs.lemmas.List.{map-append}
use Rattle.pin_core.specs.Holding.{Key}
use Rattle.pinned_pool.specs.Moves.{without, without_keys, meant_count, unpin, loose_key}
use Rattle.pinned_pool.specs.Views.{among}
use Rattle.pinned_pool.specs.declared.view.View.{View}
use Rattle.pinned_pool.proofs.AfterSteps.{left_by-append}
use Rattle.frag_value.proofs.Sames.{same-yes}
use Rattle.reply_planner.specs.Owned.{AreOwn, keys_for}
use Rattle.reply_planner.specs.Stages.{IsClosed}
use Rattle.reply_planner.proofs.Owned.{own-times, own_left}

-- those of these buffers are left
pub record ClosedSoFar (stage rest : List ℕ) (old now : View) : Type 0 where
  pub gone : List ℕ
  pub parts : stage ≡ gone ++ rest
  pub own : AreOwn now.holds rest
  pub closed : IsClosed gone old now

pub closed_none : (stage : List ℕ) (v : View) → AreOwn v.holds stage → ClosedSoFar stage stage v v
closed_none stage v own = record {
  gone = [];
  parts = refl;
  own = own;
  closed = record { holds = refl; credits = refl; claims = refl; looks = refl; returns = refl };
}

-- the next hold is there
pub next_there : (stage rest next : List ℕ) (b : ℕ) (k : Key) (old now : View) → ClosedSoFar stage rest old now
    → rest ≡ b ∷ next → k ≡ loose_key b → 0 < meant_count k now.holds
next_there stage rest next b k old now was here meant =
    omega (
      arith,
      was.own b,
      ap (among b) here,
      same-yes b b refl,
      own-times b now.holds,
      ap
          (λ j. meant_count j now.holds) meant,
    )

-- one hold more
pub more_closed : (stage rest next : List ℕ) (b : ℕ) (k : Key) (old now new : View) (last : Bool)
    → ClosedSoFar stage rest old now → rest ≡ b ∷ next → k ≡ loose_key b → new ≡ unpin last k now
    → ClosedSoFar stage next old new
more_closed stage rest next b k old now new last was here meant step =
    let e : new ≡ unpin last (loose_key b) now = step ∙ ap (λ j. unpin last j now) meant in
    let holds : new.holds ≡ without (loose_key b) now.holds = ap (λ (v : View). v.holds) e in
    let left = own_left now.holds (b ∷ []) next (subst (AreOwn now.holds) here was.own) in
    record {
      gone = was.gone ++ b ∷ [];
      parts = was.parts ∙ ap (λ l. was.gone ++ l) here ∙ sym (append_assoc was.gone (b ∷ []) next);
      own = subst (λ hs. AreOwn hs next) (sym holds) left;
      closed = record {
        holds = holds ∙ ap (without (loose_key b)) was.closed.holds
            ∙ sym (left_by-append (keys_for was.gone) (loose_key b ∷ []) old.holds)
            ∙ ap (λ ks. without_keys ks old.holds) (sym (map-append loose_key was.gone (b ∷ [])));
        credits = omega (arith, ap (λ (v : View). v.credits) e, was.closed.credits);
        claims = ap (λ (v : View). v.claims) e ∙ was.closed.claims;
        looks = ap (λ (v : View). v.looks) e ∙ was.closed.looks;
        returns = omega (arith, ap (λ (v : View). v.returns) e, was.closed.returns);
      };
    }

pub all_closed : (stage rest : List ℕ) (old now : View) → ClosedSoFar stage rest old now → rest ≡ []
    → IsClosed stage old now
all_closed stage rest old now was none = subst (λ l. IsClosed l old now)
    (sym (was.parts ∙ ap (λ l. was.gone ++ l) none ∙ append-nil was.gone)) was.closed
