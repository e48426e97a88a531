-- What is true of every seat stays true as the seat steps.
use Rattle.std.proofs.Common.{◌≡◌, ℕ, ◌<◌, ◌≤◌, ◌≢◌, List, [], ◌∷◌, ◌++◌, length, map, take, Bool, true, false, cond}
use Rattle.std.proofs.Common.{eqb, sym, refl, ap, ◌∙◌, subst, zero-le, length-append, eq-eqb, ne_eqb, arith}
use mathlib.Core.Logic.{dite}
use native.Mathlib.Decide.{ℕ_discrete}
use Rattle.std.proofs.lemmas.List.{length-take}
use Rattle.atomic_table.specs.Seated.{TableId}
use Rattle.atomic_table.specs.Table.{Me}
use Rattle.view_sums.specs.Total.{total, Each}
use Rattle.view_sums.proofs.Sums.{total-le}
use Rattle.view_sums.proofs.Eachs.{each-imp, each-append, each-map}
use Rattle.pin_core.specs.Buffers.{buffers, buffer_words}
use Rattle.pin_core.specs.Holding.{Holding, Key, at, loose_at, fresh, shared, written}
use Rattle.pin_core.specs.declared.sizes.Sizes.{Sizes}
use Rattle.pin_core.proofs.Weights.{at-on, at-off, loose-at, loose-pinned, refronted, refronted-here, refronted-else}
use Rattle.pinned_pool.specs.Views.{opener, IsLoose, OneFront}
use Rattle.pinned_pool.specs.Moves.{share, write, front_of, pinned_hold, won, lost, pin, put, unpin, split_old}
use Rattle.pinned_pool.specs.Moves.{split_new, joined_views}
use Rattle.pinned_pool.specs.Named.{IsNearby, IsSeat, IsSeatOf}
use Rattle.pinned_pool.specs.declared.view.View.{View}
use Rattle.pinned_pool.proofs.Keys.{total-without, total-left_by, each-without, each-taken_by, each-left_by}
use Rattle.pinned_pool.proofs.Fronts.{write-on, write-off, total-share, total-write}

-- a fact of holds, none of which is of the buffer
pub each_else : (P Q : Holding → Type 0) (b : ℕ) → ((h : Holding) → h.buffer ≢ b → P h → Q h) → (hs : List Holding)
    → total (at b) hs ≡ 0 → Each P hs → Each Q hs
each_else P Q b go [] none all = tt
each_else P Q b go (h ∷ hs) none all =
    (go h (λ e. absurd (omega (arith, at-on b h e))) all.0, each_else P Q b go hs (omega arith) all.1)

-- the first hold of a buffer is one of them
pub first_is : (P : Holding → Type 0) (b : ℕ) (hs : List Holding) → Each P hs → 0 < total (at b) hs → (h : Holding)
    × (h.buffer ≡ b) × (front_of b hs ≡ h.front) × P h
first_is P b [] all has = absurd (omega arith)
first_is P b (h ∷ hs) all has = dite (ℕ_discrete h.buffer b)
    (λ e. (h, e, ap (λ t. cond t h.front (front_of b hs)) (eq-eqb h.buffer b e), all.0))
    (λ n. let t = first_is P b hs all.1 (omega (arith, at-off b h n)) in
    (t.0, t.1, ap (λ t. cond t h.front (front_of b hs)) (ne_eqb h.buffer b n) ∙ t.2, t.3))

-- what sharing and writing keep of each hold
module _ (P : Holding → Type 0) where
  pub each-share : (b : ℕ) → ((h : Holding) → P h → P (shared h)) → (hs : List Holding) → Each P hs
      → Each P (map (share b) hs)
  each-share b keep hs all = each-map P (share b) hs
      (each-imp P (λ h. P (share b h)) (λ h p. bits (eqb h.buffer b) h p) hs all)
    where
      bits : (t : Bool) (h : Holding) → P h → P (cond t (shared h) h)
      bits true h p = keep h p
      bits false h p = p

  pub each-write : (Q : Holding → Type 0) (b i x : ℕ) → ((h : Holding) → h.buffer ≡ b → P h → Q (written i x h))
      → ((h : Holding) → h.buffer ≢ b → P h → Q h) → (hs : List Holding) → Each P hs → Each Q (map (write b i x) hs)
  each-write Q b i x here else hs all = each-map Q (write b i x) hs
      (each-imp P (λ h. Q (write b i x h)) (λ h p. go h p) hs all)
    where
      go : (h : Holding) → P h → Q (write b i x h)
      go h p = dite (ℕ_discrete h.buffer b) (λ e. subst Q (sym (write-on b i x h e)) (here h e p))
          (λ n. subst Q (sym (write-off b i x h n)) (else h n p))

module _ (z : Sizes) (v : View) (s : IsSeat z v) where
  -- a buffer that is held is one of the pool's
  pub held-near : (b : ℕ) → 0 < total (at b) v.holds → b < buffers z
  held-near b has = let n = first_is (IsNearby z) b v.holds s.near has in omega (arith, n.1, n.3.0)

  pub front-short : (b : ℕ) → 0 < total (at b) v.holds → length (front_of b v.holds) ≤ buffer_words z b
  front-short b has = let n = first_is (IsNearby z) b v.holds s.near has in
      omega (arith, ap length n.2, n.3.1, ap (λ (k : ℕ). buffer_words z k) n.1)

  pub seat_won : (b : ℕ) → b < buffers z → total (at b) v.holds ≡ 0 → IsSeat z (won b v)
  seat_won b near free = record {
    live = s.live;
    near = ((near, zero-le), s.near);
    loose = λ c. dite (ℕ_discrete b c)
        (λ e. omega (
          arith,
          at-on c (fresh b) e,
          loose-at c (fresh b),
          total-le (loose_at c) (at c)
              (loose-at c) v.holds,
          ap (λ (k : ℕ). total (at k) v.holds) e,
          free,
        ))
        (λ n. omega (arith, at-off c (fresh b) n, loose-at c (fresh b), s.loose c));
    fronts = (
      refronted b [] s.fronts.0,
      (
        sym (refronted-here b [] s.fronts.0 b refl),
        each_else (λ h. h.front ≡ s.fronts.0 h.buffer)
            (λ h. h.front ≡ refronted b [] s.fronts.0 h.buffer) b
            (λ h n e. e ∙ sym (refronted-else b [] s.fronts.0 h.buffer n)) v.holds free s.fronts.1,
      ),
    );
    claimed = each-append (λ (c : ℕ). c < buffers z) v.claims (b ∷ []) s.claimed (near, tt);
  }

  pub seat_lost : (b found : ℕ) → IsSeat z (lost b found v)
  seat_lost b found = record {
    live = s.live;
    near = s.near;
    loose = s.loose;
    fronts = s.fronts;
    claimed = s.claimed;
  }

  pub seat_pin : (b : ℕ) → 0 < total (at b) v.holds → 1 < v.credits → IsSeat z (pin b v)
  seat_pin b has rich =
      let n = first_is (IsNearby z) b v.holds s.near has in
      let f = first_is (λ h. h.front ≡ s.fronts.0 h.buffer) b v.holds s.fronts.1 has in
      record {
        live = omega (arith, rich);
        near = (
          (
            subst (λ (k : ℕ). k < buffers z) n.1 n.3.0,
            subst (λ (p : ℕ × List ℕ). length p.1 ≤ buffer_words z p.0)
                (λ j. (n.1 j, sym n.2 j)) n.3.1,
          ),
          each-share (IsNearby z) b (λ h p. p) v.holds s.near,
        );
        loose = λ c. omega (
          arith,
          loose-pinned c (pinned_hold b (front_of b v.holds)) refl,
          total-share
              (λ x p. cond (eqb x c) (cond p 0 1) 0) b v.holds,
          s.loose c,
        );
        fronts = (
          s.fronts.0,
          (
            f.2 ∙ f.3 ∙ ap s.fronts.0 f.1,
            each-share (λ h. h.front ≡ s.fronts.0 h.buffer) b
                (λ h p. p) v.holds s.fronts.1,
          ),
        );
        claimed = s.claimed;
      }

  pub seat_put : (b i x : ℕ) → i < buffer_words z b → IsSeat z (put b i x v)
  seat_put b i x less =
      let front : List ℕ = take i (s.fronts.0 b) ++ x ∷ [] in
      record {
        live = s.live;
        near = each-write (IsNearby z) (IsNearby z) b i x
            (λ h e p. (
              p.0,
              short (buffer_words z h.buffer) h.front
                  (subst (λ (k : ℕ). i < buffer_words z k) (sym e) less) p.1,
            )) (λ h n p. p) v.holds s.near;
        loose = λ c. omega (arith, total-write (λ y e p. cond (eqb y c) (cond p 0 1) 0) b i x v.holds, s.loose c);
        fronts = (
          refronted b front s.fronts.0,
          each-write (λ h. h.front ≡ s.fronts.0 h.buffer) (λ h. h.front ≡ refronted b front s.fronts.0 h.buffer) b i x
              (λ h e p. ap (λ xs. take i xs ++ x ∷ []) (p ∙ ap s.fronts.0 e)
              ∙ sym (refronted-here b front s.fronts.0 h.buffer e))
              (λ h n p. p ∙ sym (refronted-else b front s.fronts.0 h.buffer n))
              v.holds
              s.fronts.1,
        );
        claimed = s.claimed;
      }
    where
      short : (n : ℕ) (xs : List ℕ) → i < n → length xs ≤ n → length (take i xs ++ x ∷ []) ≤ n
      short n xs below fits = omega (arith, length-append (take i xs) (x ∷ []), length-take i xs)

  pub seat_unpin : (last : Bool) (k : Key) → IsSeat z (unpin last k v)
  seat_unpin last k = record {
    live = omega (arith, s.live);
    near = each-without (IsNearby z) k v.holds s.near;
    loose = λ c. omega (arith, total-without (loose_at c) k v.holds, s.loose c);
    fronts = (s.fronts.0, each-without (λ h. h.front ≡ s.fronts.0 h.buffer) k v.holds s.fronts.1);
    claimed = s.claimed;
  }

  pub seat_kept : (ks : List Key) (n : ℕ) → n < v.credits → IsSeat z (split_old ks n v)
  seat_kept ks n less = record {
    live = omega (arith, less);
    near = each-left_by (IsNearby z) ks v.holds s.near;
    loose = λ c. omega (arith, total-left_by (loose_at c) ks v.holds, s.loose c);
    fronts = (s.fronts.0, each-left_by (λ h. h.front ≡ s.fronts.0 h.buffer) ks v.holds s.fronts.1);
    claimed = s.claimed;
  }

  pub seat_given : (ks : List Key) (n : ℕ) → 0 < n → IsSeat z (split_new ks n v)
  seat_given ks n more = record {
    live = more;
    near = each-taken_by (IsNearby z) ks v.holds s.near;
    loose = λ c. omega (arith, total-left_by (loose_at c) ks v.holds, s.loose c);
    fronts = (s.fronts.0, each-taken_by (λ h. h.front ≡ s.fronts.0 h.buffer) ks v.holds s.fronts.1);
    claimed = tt;
  }

  pub seat_joined : (w : View) → IsSeat z w → IsLoose (joined_views v w) → OneFront (joined_views v w)
      → IsSeat z (joined_views v w)
  seat_joined w other loose fronts =
      record {
        live = omega (arith, s.live);
        near = each-append (IsNearby z) v.holds w.holds s.near other.near;
        loose = loose;
        fronts = fronts;
        claimed = each-append (λ (b : ℕ). b < buffers z) v.claims w.claims s.claimed other.claimed;
      }

-- a seat after a step
pub next_seat : {S : Type 0} (table : TableId) (z : Sizes) (id new : TableId) (me next : Me S View) (w : View)
    → IsSeatOf table z id me → new ≡ id → next ≡ (w, me.1) → IsSeat z w → IsSeatOf table z new next
next_seat {S} table z id new me next w was same to kept_by = record {
  named = same ∙ was.named;
  no_slot = ap (λ (m : Me S View). m.1) to ∙ was.no_slot;
  kept = subst (λ (m : Me S View). IsSeat z m.0) (sym to) kept_by;
}

pub seat_opened : (z : Sizes) (credits : ℕ) → 0 < credits → IsSeat z (opener credits)
seat_opened z credits rich = record {
  live = rich;
  near = tt;
  loose = λ b. zero-le;
  fronts = (λ b. [], tt);
  claimed = tt;
}
