-- Each kind of step keeps the rule, and is its events.
use Rattle.std.proofs.Common.{◌≡◌, ◌≢◌, ℕ, ◌+◌, ◌-◌, ◌<◌, ◌≤◌, List, [], ◌∷◌, ◌++◌, eqb, length, set, get_or, sym, refl}
use Rattle.std.proofs.Common.{ap, ◌∙◌, subst, get_or-set_other, get_or-set_same, arith}
use mathlib.Core.Logic.{dite}
use mathlib.Core.Option.{some}
use native.Mathlib.Decide.{ℕ_discrete}
use lib.ListN.{get_elem?}
use lib.Seq.{set-get_or}
use Rattle.view_sums.specs.Total.{total, Each}
use Rattle.view_sums.proofs.Sums.{total-le}
use Rattle.pin_core.specs.Buffers.{buffers, buffer_words}
use Rattle.pin_core.specs.Holding.{Holding, Key, at, sole_at}
use Rattle.pin_core.specs.PinStep.{Event, IsNear, PinStep, PinSteps, claim, put, load, pin, unpin, give}
use Rattle.pin_core.specs.declared.sizes.Sizes.{Sizes}
use Rattle.pin_core.proofs.Weights.{sole-at, Fits}
use Rattle.pin_core.proofs.Steps.{put_sound, steps_sound}
use Rattle.pinned_pool.specs.Views.{nobody}
use Rattle.pinned_pool.specs.Rule.{word_at, pins_of, IsSoundTable}
use Rattle.pinned_pool.specs.Moves.{meant_count, holds_for, front_of, split_old, split_new, joined_views}
use Rattle.pinned_pool.specs.Moves as to
use Rattle.pinned_pool.specs.StepKinds.{PoolStep, wins, misses, peeks, puts, loads, pins, unpins, splits, joins, Makes}
use Rattle.pinned_pool.specs.StepKinds.{move_all, FallsByLast, WrittenByPut, IsItsEvents, StepsAreEvents}
use Rattle.pinned_pool.specs.declared.view.View.{View}
use Rattle.pinned_pool.proofs.Keys.{each-taken_by}
use Rattle.pinned_pool.proofs.Events.{only, claim_event, look_event, put_event, load_event, pin_event, unpin_event}
use Rattle.pinned_pool.proofs.Events.{split_event, join_event}
use Rattle.pinned_pool.proofs.Keeps as keeps

-- the buffers that moves and a last event name
moves-near : (z : Sizes) (fronts : ℕ → List ℕ) (hs : List Holding) (p taker n : ℕ) → Each (Fits z fronts) hs
    → Each (IsNear z) (move_all hs p taker ++ give p taker n ∷ [])
moves-near z fronts [] p taker n all = (tt, tt)
moves-near z fronts (h ∷ hs) p taker n all = (all.0.near, moves-near z fronts hs p taker n all.1)

module _ (z : Sizes) (words : List ℕ) (views : List View) (s : IsSoundTable z words views) (seat : ℕ) (v : View)
    (me : get_elem? views seat ≡ some v) where
  pub put_keeps : 0 < v.credits → (b i x : ℕ) → 0 < total (sole_at b) v.holds → i ≤ length (front_of b v.holds)
      → i < buffer_words z b → IsSoundTable z (set words (word_at z b i) x) (set views seat (to.put b i x v))
  put_keeps rich b i x has within fits =
      let some_hold : 0 < total (at b) v.holds = omega (arith, total-le (sole_at b) (at b) (sole-at b) v.holds) in
      keeps.puts z words views s seat v me rich b i x some_hold
      (put_sound z (pins_of z words views) (pins_of z (set words (word_at z b i) x) (set views seat (to.put b i x v)))
      s.held b seat i x (put_event z words views s seat v me b i x has within fits))

  pub split_keeps : (ks : List Key) (n : ℕ) → 0 < n → n < v.credits
      → IsSoundTable z words (set views seat (split_old ks n v) ++ split_new ks n v ∷ [])
  split_keeps ks n more less =
      let near = each-taken_by (Fits z s.held.held.fronts) ks v.holds (keeps.fits-of z words views s seat v me) in
      keeps.splits z words views s seat v me ks n more less
      (steps_sound z (move_all (holds_for ks v.holds) seat (length views) ++ give seat (length views) n ∷ [])
      (pins_of z words views) (pins_of z words (set views seat (split_old ks n v) ++ split_new ks n v ∷ []))
      (moves-near z s.held.held.fronts (holds_for ks v.holds) seat (length views) n near)
      (split_event z words views s seat v me ks n less) s.held)

  pub join_keeps : 0 < v.credits → (other : ℕ) (w : View) → other ≢ seat → get_elem? views other ≡ some w
      → IsSoundTable z words (set (set views seat (joined_views v w)) other nobody)
  join_keeps rich other w apart there =
      keeps.joins z words views s seat v me rich other w apart there
      (steps_sound z (move_all w.holds other seat ++ give other seat w.credits ∷ []) (pins_of z words views)
      (pins_of z words (set (set views seat (joined_views v w)) other nobody))
      (moves-near z s.held.held.fronts w.holds other seat w.credits (keeps.fits-of z words views s other w there))
      (join_event z words views s seat v me other w apart there) s.held)

  long : buffers z ≤ length words
  long = omega (arith, s.sized)

  -- a count word that fell to 0 is the one that was written
  fell : (b n c : ℕ) → b < buffers z → 0 < get_or words c 0 → get_or (set words b n) c 0 ≡ 0 → (c ≡ b) × (n ≡ 0)
  fell b n c near was now = dite (ℕ_discrete c b)
      (λ e. (
        e,
        sym (get_or-set_same words b n 0 (omega (arith, long))) ∙ ap (λ k. get_or (set words b n) k 0) (sym e)
            ∙ now,
      ))
      (λ ne. absurd (omega (arith, get_or-set_other words b c n 0 ne)))

  -- no data word changes with a count word, or with none
  counts_only : (kind : PoolStep) (b n : ℕ) → b < buffers z → WrittenByPut z words views v kind (set words b n)
  counts_only kind b n near k far ne = absurd (ne (get_or-set_other words b k n 0 (λ e. absurd (omega arith))))

  nothing : (kind : PoolStep) → WrittenByPut z words views v kind words
  nothing kind k far ne = absurd (ne refl)

  none_falls : (kind : PoolStep) → FallsByLast z words kind words
  none_falls kind b near was now = absurd (omega arith)

  -- an event that is the only one
  single : (e : Event ℕ) (new : List ℕ) (after : List View) → PinStep z (pins_of z words views) e (pins_of z new after)
      → PinSteps z (pins_of z words views) (e ∷ []) (pins_of z new after)
  single e new after step = (pins_of z new after, step, record { holds = λ f. refl; words = refl; credits = λ f. refl })

  abbrev Is : PoolStep → List ℕ → List View → Type 0
  Is kind new after = IsItsEvents z words views seat v kind new after

  won_is : 0 < v.credits → (b : ℕ) → b < buffers z → get_or words b 0 ≡ 0
      → Is (wins b) (set words b 1) (set views seat (to.won b v))
  won_is rich b near free = record {
    sound = keeps.wins z words views s seat v me rich b near free;
    steps = single (claim b seat) (set words b 1) (set views seat (to.won b v))
        (claim_event z words views s seat v me b near free);
    falls = λ c low was now. absurd (omega (arith, (fell b 1 c near was now).1));
    written = counts_only (wins b) b 1 near;
  }

  lost_is : 0 < v.credits → (b : ℕ) → b < buffers z → get_or words b 0 ≢ 0
      → Is (misses b) words (set views seat (to.lost b (get_or words b 0) v))
  lost_is rich b near taken = record {
    sound = subst (λ (l : List ℕ). IsSoundTable z l (set views seat (to.lost b (get_or words b 0) v)))
        (set-get_or words b 0) (keeps.misses z words views s seat v me rich b near taken);
    steps = look_event z words views s seat v me b (get_or words b 0);
    falls = none_falls (misses b);
    written = nothing (misses b);
  }

  put_is : 0 < v.credits → (b i x : ℕ) → 0 < total (sole_at b) v.holds → i ≤ length (front_of b v.holds)
      → i < buffer_words z b → Is (puts b i x) (set words (word_at z b i) x) (set views seat (to.put b i x v))
  put_is rich b i x has within fits =
      let k : ℕ = word_at z b i in
      record {
        sound = put_keeps rich b i x has within fits;
        steps = single (put b seat i x) (set words k x) (set views seat (to.put b i x v))
            (put_event z words views s seat v me b i x has within fits);
        falls = λ c low was now. absurd
            (omega (arith, get_or-set_other words k c x 0 (λ e. absurd (omega (arith, e)))));
        written = λ j far ne. dite (ℕ_discrete j k)
            (λ e. (b, i, x, e, refl, has, (only z words views s seat v me b has).count))
            (λ other. absurd (ne (get_or-set_other words k j x 0 other)));
      }

  load_is : (b i : ℕ) → 0 < total (at b) v.holds → i < length (front_of b v.holds) → Is (loads b i) words views
  load_is b i has short = record {
    sound = s;
    steps = single (load b seat i) words views (load_event z words views s seat v me b i has short);
    falls = none_falls (loads b i);
    written = nothing (loads b i);
  }

  pin_is : (b : ℕ) → 0 < total (at b) v.holds → 1 < v.credits → Is (pins b) (set words b (get_or words b 0 + 1))
      (set views seat (to.pin b v))
  pin_is b has rich =
      let near = keeps.near-of z words views s seat v me b has in
      let n : ℕ = get_or words b 0 + 1 in
      record {
        sound = keeps.adds_pin z words views s seat v me b has rich;
        steps = single (pin b seat seat) (set words b n) (set views seat (to.pin b v))
            (pin_event z words views s seat v me b n near has rich);
        falls = λ c low was now. absurd (omega (arith, (fell b n c near was now).1));
        written = counts_only (pins b) b n near;
      }

  unpin_is : 0 < v.credits → (k : Key) → 0 < meant_count k v.holds
      → Is (unpins k) (set words k.buffer (get_or words k.buffer 0 - 1))
      (set views seat (to.unpin (eqb (get_or words k.buffer 0) 1) k v))
  unpin_is rich k has =
      let n : ℕ = get_or words k.buffer 0 in
      let u = keeps.unpins z words views s seat v me rich k has in
      record {
        sound = u.sound;
        steps = single (unpin k seat) (set words k.buffer (n - 1)) (set views seat (to.unpin (eqb n 1) k v))
            (unpin_event z words views s seat v me (eqb n 1) k (n - 1) u.near has);
        falls = λ c low was now. let f = fell k.buffer (n - 1) c u.near was now in (
          omega (arith, ap (λ i. get_or words i 0) f.0, f.1, was),
          (k.pinned, λ i. unpins (record { buffer = sym f.0 i; pinned = k.pinned })),
        );
        written = counts_only (unpins k) k.buffer (n - 1) u.near;
      }

  split_is : (ks : List Key) (n : ℕ) → 0 < n → n < v.credits
      → Is (splits ks n) words (set views seat (split_old ks n v) ++ split_new ks n v ∷ [])
  split_is ks n more less = record {
    sound = split_keeps ks n more less;
    steps = split_event z words views s seat v me ks n less;
    falls = none_falls (splits ks n);
    written = nothing (splits ks n);
  }

  join_is : 0 < v.credits → (other : ℕ) (w : View) → other ≢ seat → get_elem? views other ≡ some w
      → Is (joins other w) words (set (set views seat (joined_views v w)) other nobody)
  join_is rich other w apart there = record {
    sound = join_keeps rich other w apart there;
    steps = join_event z words views s seat v me other w apart there;
    falls = none_falls (joins other w);
    written = nothing (joins other w);
  }

  -- at words and views that are known by equations
  along : (kind : PoolStep) (new made : List ℕ) (after came : List View) → new ≡ made → after ≡ came → Is kind made came
      → Is kind new after
  along kind new made after came e d = subst (λ (p : List ℕ × List View). Is kind p.0 p.1) (λ i. (sym e i, sym d i))

  -- a load that changes nothing
  peek_is : (b : ℕ) → Is (peeks b) words views
  peek_is b = record {
    sound = s;
    steps = record { holds = λ f. refl; words = refl; credits = λ f. refl };
    falls = none_falls (peeks b);
    written = nothing (peeks b);
  }

  made_is : 0 < v.credits → (kind : PoolStep) (new : List ℕ) (after : List View)
      → Makes z words views seat v kind new after → Is kind new after
  made_is rich (wins b) new after m = along (wins b) new _ after _ m.words m.views (won_is rich b m.near m.free)
  made_is rich (misses b) new after m = along (misses b) new _ after _ m.words m.views (lost_is rich b m.near m.taken)
  made_is rich (peeks b) new after m = along (peeks b) new _ after _ m.words m.views (peek_is b)
  made_is rich (puts b i x) new after m = along (puts b i x) new _ after _ m.words m.views
      (put_is rich b i x m.exclusive m.in_front m.in_buffer)
  made_is rich (loads b i) new after m = along (loads b i) new _ after _ m.words m.views (load_is b i m.held m.in_front)
  made_is rich (pins b) new after m = along (pins b) new _ after _ m.words m.views (pin_is b m.held m.rich)
  made_is rich (unpins k) new after m = along (unpins k) new _ after _ m.words m.views (unpin_is rich k m.held)
  made_is rich (splits ks n) new after m = along (splits ks n) new _ after _ m.words m.views
      (split_is ks n m.some m.fewer)
  made_is rich (joins other w) new after m = along (joins other w) new _ after _ m.words m.views
      (join_is rich other w m.apart m.sits)

pub steps_are_events : StepsAreEvents
steps_are_events z words new views after seat v kind s me rich made = made_is z words views s seat v me rich kind new
    after made
