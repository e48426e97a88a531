-- A parcel that is given back.
use Rattle.std.proofs.Common.{◌≡◌, ℕ, List, ◌++◌, sym, ap, ◌∙◌, subst, append-nil, arith}
use Rattle.pin_core.specs.Holding.{Key}
use Rattle.pin_core.specs.declared.sizes.Sizes.{Sizes}
use Rattle.pinned_pool.specs.Moves.{without_keys, joined_views, HasHolds}
use Rattle.pinned_pool.specs.declared.view.View.{View}
use Rattle.flake_base.specs.declared.segment.Seg.{Seg}
use Rattle.reply_planner.specs.Owned.{AreOwn, bare_all, fresh_all, key_buffers}
use Rattle.reply_planner.specs.Stages.{merged}
use Rattle.reply_planner.specs.Parcels.{Sent, sent, IsParcelOf, Unpins, TakesBack}
use Rattle.reply_planner.proofs.Owned.{own_joined, bare-left_by, bare-append}
use Rattle.reply_planner.proofs.Fronted.{has_front, left_by-front}

module _ (z : Sizes) (segments : List Seg) (call : ℕ) (pins staged : List Key) (v : View)
    (is : IsParcelOf z segments pins staged v) where
  pub has_pins : HasHolds pins v.holds
  has_pins = subst (λ ks. HasHolds ks v.holds) is.parts.keys_are
      (has_front is.parts.front v.holds (fresh_all (key_buffers staged)) is.parts.parts)

  -- what is left of its holds
  left_staged : bare_all (without_keys pins v.holds) ≡ fresh_all (key_buffers staged)
  left_staged =
      bare-left_by pins v.holds ∙ ap (without_keys pins) is.parts.parts
      ∙ ap (λ ks. without_keys ks (bare_all is.parts.front ++ fresh_all (key_buffers staged)))
      (sym is.parts.keys_are)
      ∙ left_by-front is.parts.front (fresh_all (key_buffers staged))

  pub takes_back : (n : ℕ) (own old new : View) → Unpins pins n v own → new ≡ joined_views old own
      → TakesBack (sent z segments call pins staged v.holds) n old new
  takes_back n own old new unpins step = record {
    holds = ap (λ (x : View). bare_all x.holds) step ∙ bare-append old.holds own.holds
        ∙ ap (λ hs. bare_all old.holds ++ bare_all hs) unpins.holds ∙ ap (λ hs. bare_all old.holds ++ hs) left_staged;
    credits = omega (arith, ap (λ (x : View). x.credits) step, unpins.credits, is.credit);
    claims = ap (λ (x : View). x.claims) step ∙ ap (λ l. old.claims ++ l) (unpins.claims ∙ is.idle.claims)
        ∙ append-nil old.claims;
    looks = ap (λ (x : View). x.looks) step ∙ ap (λ l. old.looks ++ l) (unpins.looks ∙ is.idle.looks)
        ∙ append-nil old.looks;
    returns = omega (arith, ap (λ (x : View). x.returns) step, unpins.returns, is.idle.returns);
    ended = unpins.ended;
    lasts = ap (λ (x : View). x.lasts) step
        ∙ ap (λ l. old.lasts ++ l) (unpins.lasts ∙ ap (λ l. l ++ unpins.ended) is.idle.lasts);
    count = unpins.count;
    few = unpins.few;
  }

-- its staging buffers are the session's again
pub own_again : (p : Sent) (n : ℕ) (stage : List ℕ) (old new : View) → TakesBack p n old new → AreOwn old.holds stage
    → AreOwn new.holds (merged p.staged stage)
own_again p n stage old new back own = own_joined old.holds new.holds p.staged stage back.holds own
