-- A plan that is given up.
use Rattle.std.proofs.Common.{◌≡◌, ℕ, List, [], ◌∷◌, ◌++◌, map, refl, sym, ap, ◌∙◌, append-nil, arith}
use Rattle.pin_core.specs.Holding.{Holding, Key}
use Rattle.pinned_pool.specs.Moves.{hold_key, without_keys, joined_views}
use Rattle.pinned_pool.specs.declared.view.View.{View}
use Rattle.pinned_pool.proofs.AfterSteps.{without-own}
use Rattle.reply_planner.specs.Parcels.{Unpins}
use Rattle.reply_planner.specs.Planned.{Planned}
use Rattle.reply_planner.specs.Plans.{Has}
use Rattle.reply_planner.specs.Sealed.{Cancels}

pub all_gone : (hs : List Holding) → without_keys (map hold_key hs) hs ≡ []
all_gone [] = refl
all_gone (h ∷ hs) = ap (without_keys (map hold_key hs)) (without-own h hs) ∙ all_gone hs

pub cancels : (p : Planned) (pins : List Key) (paid : ℕ) (own own2 seat last : View) (n : ℕ) → Has p pins paid own
    → Unpins pins n own own2 → last ≡ joined_views seat own2 → Cancels p seat last
cancels p pins paid own own2 seat last n has unpins joins =
    let none : own2.holds ≡ [] = unpins.holds ∙ ap (λ ks. without_keys ks own.holds) (sym has.keys)
    ∙ all_gone own.holds in
    record {
      holds = ap (λ (v : View). v.holds) joins ∙ ap (λ l. seat.holds ++ l) none ∙ append-nil seat.holds;
      credits = omega (
        arith,
        ap (λ (v : View). v.credits) joins,
        unpins.credits,
        has.paid_are,
        has.paid_is,
        has.credits,
      );
      claims = ap (λ (v : View). v.claims) joins ∙ ap (λ l. seat.claims ++ l) (unpins.claims ∙ has.idle.claims)
          ∙ append-nil seat.claims;
      looks = ap (λ (v : View). v.looks) joins ∙ ap (λ l. seat.looks ++ l) (unpins.looks ∙ has.idle.looks)
          ∙ append-nil seat.looks;
      returns = omega (arith, ap (λ (v : View). v.returns) joins, unpins.returns, has.paid_are, has.idle.returns);
      lasts = (
        unpins.ended,
        ap (λ (v : View). v.lasts) joins
            ∙ ap (λ l. seat.lasts ++ l) (unpins.lasts ∙ ap (λ l. l ++ unpins.ended) has.idle.lasts),
      );
    }
