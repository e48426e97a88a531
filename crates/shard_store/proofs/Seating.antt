-- Seats that are split off one seat.
use Rattle.std.proofs.Common.{◌≡◌, ℕ, ◌+◌, ◌<◌, ◌≤◌, List, [], ◌∷◌, ◌++◌, length, refl, ap, sym, ◌∙◌, subst, arith}
use Rattle.std.proofs.lemmas.List.{length-append}
use Rattle.view_sums.specs.Total.{Each}
use Rattle.pinned_pool.specs.Moves.{split_old, split_new}
use Rattle.pinned_pool.specs.Seats.{SeatList}
use Rattle.pinned_pool.specs.declared.view.View.{View}
use Rattle.shard_core.specs.ShardMaps.{IsBare}

-- so many were split off, and there is room for the others
pub record IsSeating (shards done : ℕ) (seats : SeatList) (first main : View) : Type 0 where
  pub as_many : length seats.items ≡ done
  pub bare : Each IsBare seats.items
  pub main_is : main ≡ record first { credits = main.credits }
  pub credits : main.credits + done ≡ first.credits
  pub room : shards ≤ seats.spare + done

pub seating_starts : (shards : ℕ) (seats : SeatList) (main : View) → seats.items ≡ [] → shards ≤ seats.spare
    → IsSeating shards 0 seats main main
seating_starts shards seats main none room = record {
  as_many = ap length none;
  bare = subst (Each IsBare) (sym none) tt;
  main_is = refl;
  credits = omega arith;
  room = omega arith;
}

each_more : (P : View → Type 0) (xs : List View) (x : View) → Each P xs → P x → Each P (xs ++ x ∷ [])
each_more P [] x each is = (is, tt)
each_more P (y ∷ xs) x each is = (each.0, each_more P xs x each.1 is)

pub seating_on : (shards done : ℕ) (seats more : SeatList) (first main new seat : View)
    → IsSeating shards done seats first main → done < shards → shards < first.credits
    → new ≡ split_old [] 1 main → seat ≡ split_new [] 1 main → more.items ≡ seats.items ++ seat ∷ []
    → seats.spare ≤ more.spare + 1 → IsSeating shards (done + 1) more first new
seating_on shards done seats more first main new seat is near rich new_is seat_is more_is room = record {
  as_many = ap length more_is ∙ length-append seats.items (seat ∷ []) ∙ ap (λ n. n + 1) is.as_many;
  bare = subst (Each IsBare) (sym more_is) (each_more IsBare seats.items seat is.bare (record {
    poor = record {
      credits = ap (λ (v : View). v.credits) seat_is;
      claims = ap (λ (v : View). v.claims) seat_is;
      looks = ap (λ (v : View). v.looks) seat_is;
    };
    holds = ap (λ (v : View). v.holds) seat_is;
  }));
  main_is = λ i. record {
    holds = (ap (λ (v : View). v.holds) new_is ∙ ap (λ (v : View). v.holds) is.main_is) i;
    credits = new.credits;
    claims = (ap (λ (v : View). v.claims) new_is ∙ ap (λ (v : View). v.claims) is.main_is) i;
    looks = (ap (λ (v : View). v.looks) new_is ∙ ap (λ (v : View). v.looks) is.main_is) i;
    returns = (ap (λ (v : View). v.returns) new_is ∙ ap (λ (v : View). v.returns) is.main_is) i;
    lasts = (ap (λ (v : View). v.lasts) new_is ∙ ap (λ (v : View). v.lasts) is.main_is) i;
  };
  credits = omega (arith, is.credits, ap (λ (v : View). v.credits) new_is);
  room = omega (arith, is.room);
}
