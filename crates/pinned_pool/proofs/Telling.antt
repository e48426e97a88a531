-- What all seats tell of any steps: how many claims won, claims lost and unpins of pinned holds there were.
use Rattle.std.proofs.Common.{◌≡◌, ℕ, ◌+◌, List, [], ◌∷◌, Bool, eqb, get_or, refl, ap, arith}
use Rattle.view_sums.specs.Total.{total, same}
use Rattle.view_sums.proofs.Sums.{total-append, total-set, total-set_push, total-two_set}
use Rattle.pin_core.specs.Holding.{Key}
use Rattle.pin_core.specs.declared.sizes.Sizes.{Sizes}
use Rattle.pinned_pool.specs.Views.{nobody, among, looked_at}
use Rattle.pinned_pool.specs.Moves as to
use Rattle.pinned_pool.specs.StepKinds.{PoolStep, wins, misses, peeks, puts, loads, pins, unpins, splits, joins}
use Rattle.pinned_pool.specs.Runs.{Table, opened_table, Steps, RunsPool, win_of, miss_of, return_of, ViewsCountRuns}
use Rattle.pinned_pool.specs.declared.view.View.{View}

-- a weight of views that each step makes greater by as much as its kind weighs
record Weighs (f : View → ℕ) (of : PoolStep → ℕ) : Type 0 where
  at_win : (b : ℕ) (v : View) → f (to.won b v) ≡ f v + of (wins b)
  at_miss : (b n : ℕ) (v : View) → f (to.lost b n v) ≡ f v + of (misses b)
  at_peek : (b : ℕ) → of (peeks b) ≡ 0
  at_put : (b i x : ℕ) (v : View) → f (to.put b i x v) ≡ f v + of (puts b i x)
  at_load : (b i : ℕ) → of (loads b i) ≡ 0
  at_pin : (b : ℕ) (v : View) → f (to.pin b v) ≡ f v + of (pins b)
  at_unpin : (last : Bool) (k : Key) (v : View) → f (to.unpin last k v) ≡ f v + of (unpins k)
  at_split : (ks : List Key) (n : ℕ) (v : View) → f (to.split_old ks n v) + f (to.split_new ks n v)
      ≡ f v + of (splits ks n)
  at_join : (other : ℕ) (v w : View) → f (to.joined_views v w) ≡ f v + f w + of (joins other w)
  none : f nobody ≡ 0

module _ (f : View → ℕ) (of : PoolStep → ℕ) (weighs : Weighs f of) (z : Sizes) where
  one_step : (kind : PoolStep) (old new : Table) → Steps z kind old new → total f new.views ≡ total f old.views
      + of kind
  one_step (wins b) old new s =
      omega (
        arith,
        ap (total f) s.makes.views,
        total-set f old.views s.seat s.view (to.won b s.view) s.sits,
        weighs.at_win b s.view,
      )
  one_step (misses b) old new s =
      let n = get_or old.words b 0 in
      omega (
        arith,
        ap (total f) s.makes.views,
        total-set f old.views s.seat s.view (to.lost b n s.view) s.sits,
        weighs.at_miss b n s.view,
      )
  one_step (peeks b) old new s = omega (arith, ap (total f) s.makes.views, weighs.at_peek b)
  one_step (puts b i x) old new s =
      omega (
        arith,
        ap (total f) s.makes.views,
        total-set f old.views s.seat s.view (to.put b i x s.view) s.sits,
        weighs.at_put b i x s.view,
      )
  one_step (loads b i) old new s = omega (arith, ap (total f) s.makes.views, weighs.at_load b i)
  one_step (pins b) old new s =
      omega (
        arith,
        ap (total f) s.makes.views,
        total-set f old.views s.seat s.view (to.pin b s.view) s.sits,
        weighs.at_pin b s.view,
      )
  one_step (unpins k) old new s =
      let last = eqb (get_or old.words k.buffer 0) 1 in
      omega (
        arith,
        ap (total f) s.makes.views,
        total-set f old.views s.seat s.view (to.unpin last k s.view) s.sits,
        weighs.at_unpin last k s.view,
      )
  one_step (splits ks n) old new s =
      omega (
        arith,
        ap (total f) s.makes.views,
        total-set_push f old.views s.seat s.view (to.split_old ks n s.view)
            (to.split_new ks n s.view) s.sits,
        weighs.at_split ks n s.view,
      )
  one_step (joins other w) old new s =
      omega (
        arith,
        ap (total f) s.makes.views,
        total-two_set f old.views s.seat other s.view w (to.joined_views s.view w) nobody s.makes.apart s.sits
            s.makes.sits,
        weighs.at_join other s.view w,
        weighs.none,
      )

  all_steps : (kinds : List PoolStep) (old new : Table) → RunsPool z old kinds new → total f new.views
      ≡ total f old.views + total of kinds
  all_steps [] old new same_table = omega (arith, ap (λ (t : Table). total f t.views) same_table)
  all_steps (kind ∷ kinds) old new run = omega (arith, one_step kind old run.0 run.1, all_steps kinds run.0 new run.2)

claims_weigh : (b : ℕ) → Weighs (λ v. among b v.claims) (win_of b)
claims_weigh b = record {
  at_win = λ c v. omega (arith, total-append (λ x. same x b) v.claims (c ∷ []));
  at_miss = λ c n v. omega arith;
  at_peek = λ c. refl;
  at_put = λ c i x v. omega arith;
  at_load = λ c i. refl;
  at_pin = λ c v. omega arith;
  at_unpin = λ last k v. omega arith;
  at_split = λ ks n v. omega arith;
  at_join = λ other v w. omega (arith, total-append (λ x. same x b) v.claims w.claims);
  none = refl;
}

looks_weigh : (b : ℕ) → Weighs (λ v. looked_at b v.looks) (miss_of b)
looks_weigh b = record {
  at_win = λ c v. omega arith;
  at_miss = λ c n v. omega (arith, total-append (λ (l : ℕ × ℕ). same l.0 b) v.looks ((c, n) ∷ []));
  at_peek = λ c. refl;
  at_put = λ c i x v. omega arith;
  at_load = λ c i. refl;
  at_pin = λ c v. omega arith;
  at_unpin = λ last k v. omega arith;
  at_split = λ ks n v. omega arith;
  at_join = λ other v w. omega (arith, total-append (λ (l : ℕ × ℕ). same l.0 b) v.looks w.looks);
  none = refl;
}

returns_weigh : Weighs (λ v. v.returns) return_of
returns_weigh = record {
  at_win = λ c v. omega arith;
  at_miss = λ c n v. omega arith;
  at_peek = λ c. refl;
  at_put = λ c i x v. omega arith;
  at_load = λ c i. refl;
  at_pin = λ c v. omega arith;
  at_unpin = λ last k v. refl;
  at_split = λ ks n v. omega arith;
  at_join = λ other v w. omega arith;
  none = refl;
}

pub runs_are_told : ViewsCountRuns
runs_are_told z kinds end run = record {
  claims = λ b. omega (
    arith,
    all_steps (λ v. among b v.claims) (win_of b) (claims_weigh b) z kinds
        (opened_table z) end run,
  );
  looks = λ b. omega (
    arith,
    all_steps (λ v. looked_at b v.looks) (miss_of b) (looks_weigh b) z kinds
        (opened_table z) end run,
  );
  returns = omega (arith, all_steps (λ v. v.returns) return_of returns_weigh z kinds (opened_table z) end run);
}
