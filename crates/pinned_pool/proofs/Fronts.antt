-- The first hold of a buffer, and the holds of a list as they are shared and written.
use Rattle.std.proofs.Common.{◌≡◌, ℕ, ◌+◌, ◌<◌, ◌≢◌, List, [], ◌∷◌, map, Bool, true, false, cond, eqb, sym, refl, ap}
use Rattle.std.proofs.Common.{◌∙◌, subst, eq-eqb, ne_eqb, arith}
use Rattle.std.proofs.lemmas.Bool.{eqb-true}
use Rattle.view_sums.specs.Total.{total}
use Rattle.view_sums.proofs.Sums.{total-map}
use Rattle.pin_core.specs.Holding.{Holding, at, sole_at, shared, written}
use Rattle.pinned_pool.specs.Moves.{share, write, front_of}

-- the first hold of a buffer, and the others
pub record Picked (b : ℕ) (hs : List Holding) : Type 0 where
  pub hold : Holding
  pub rest : List Holding
  pub buffer : hold.buffer ≡ b
  pub front : front_of b hs ≡ hold.front
  pub sums : (f : Holding → ℕ) → total f hs ≡ f hold + total f rest

pick_here : (b : ℕ) (h : Holding) (hs : List Holding) (t : Bool) → eqb h.buffer b ≡ t
    → (0 < total (at b) hs → Picked b hs) → 0 < cond t 1 0 + total (at b) hs → Picked b (h ∷ hs)
pick_here b h hs true e more some = record {
  hold = h;
  rest = hs;
  buffer = eqb-true h.buffer b e;
  front = ap (λ t. cond t h.front (front_of b hs)) e;
  sums = λ f. refl;
}
pick_here b h hs false e more some =
    let p = more (omega arith) in
    record {
      hold = p.hold;
      rest = h ∷ p.rest;
      buffer = p.buffer;
      front = ap (λ t. cond t h.front (front_of b hs)) e
          ∙ p.front;
      sums = λ f. omega (arith, p.sums f);
    }

pub pick : (b : ℕ) (hs : List Holding) → 0 < total (at b) hs → Picked b hs
pick b [] some = absurd (omega arith)
pick b (h ∷ hs) some = pick_here b h hs (eqb h.buffer b) refl (pick b hs) some

-- a change of holds that leaves those without weight
module _ (g : Holding → Holding) (weight : Holding → ℕ) (idle : (h : Holding) → weight h ≡ 0 → g h ≡ h)
    (f : Holding → ℕ) where
  idle-holds : (hs : List Holding) → total weight hs ≡ 0 → total (λ h. f (g h)) hs ≡ total f hs
  idle-holds [] none = refl
  idle-holds (h ∷ hs) none = omega (arith, ap f (idle h (omega arith)), idle-holds hs (omega arith))

  -- where the first hold of a buffer alone has some
  pub changed-one : (b : ℕ) (hs : List Holding) (p : Picked b hs) → total weight p.rest ≡ 0 → total f (map g hs)
      ≡ f (g p.hold) + total f p.rest
  changed-one b hs p none = omega (arith, total-map f g hs, p.sums (λ h. f (g h)), idle-holds p.rest none)

pub share-on : (b : ℕ) (h : Holding) → h.buffer ≡ b → share b h ≡ shared h
share-on b h e = ap (λ t. cond t (shared h) h) (eq-eqb h.buffer b e)

pub share-off : (b : ℕ) (h : Holding) → h.buffer ≢ b → share b h ≡ h
share-off b h n = ap (λ t. cond t (shared h) h) (ne_eqb h.buffer b n)

pub write-on : (b i x : ℕ) (h : Holding) → h.buffer ≡ b → write b i x h ≡ written i x h
write-on b i x h e = ap (λ t. cond t (written i x h) h) (eq-eqb h.buffer b e)

pub write-off : (b i x : ℕ) (h : Holding) → h.buffer ≢ b → write b i x h ≡ h
write-off b i x h n = ap (λ t. cond t (written i x h) h) (ne_eqb h.buffer b n)

shared_bits : (t e : Bool) (h : Holding) → h.exclusive ≡ e → (let n : ℕ = cond t (cond e 1 0) 0 in n ≡ 0)
    → cond t (shared h) h ≡ h
shared_bits true true h is none = absurd (omega arith)
shared_bits true false h is none = λ j. record h { exclusive = sym is j }
shared_bits false e h is none = refl

pub shared_idle : (b : ℕ) (h : Holding) → sole_at b h ≡ 0 → share b h ≡ h
shared_idle b h none = shared_bits (eqb h.buffer b) h.exclusive h refl none

written_bits : (t : Bool) (i x : ℕ) (h : Holding) → (let n : ℕ = cond t 1 0 in n ≡ 0) → cond t (written i x h) h ≡ h
written_bits true i x h none = absurd (omega arith)
written_bits false i x h none = refl

pub written_idle : (b i x : ℕ) (h : Holding) → at b h ≡ 0 → write b i x h ≡ h
written_idle b i x h none = written_bits (eqb h.buffer b) i x h none

exclusive_bit : (e : Bool) → (let n : ℕ = cond e 1 0 in 0 < n) → e ≡ true
exclusive_bit true some = refl
exclusive_bit false some = absurd (omega arith)

pub exclusive_of : (b : ℕ) (h : Holding) → h.buffer ≡ b → 0 < sole_at b h → h.exclusive ≡ true
exclusive_of b h e some = exclusive_bit h.exclusive
    (subst (λ n. 0 < n) (ap (λ t. let n : ℕ = cond t (cond h.exclusive 1 0) 0 in n) (eq-eqb h.buffer b e)) some)

-- weights that see neither what is shared nor what is written
module _ (f : ℕ → Bool → ℕ) where
  share_bits : (t : Bool) (h : Holding) → (let g : Holding = cond t (shared h) h in f g.buffer g.pinned)
      ≡ f h.buffer h.pinned
  share_bits true h = refl
  share_bits false h = refl

  pub total-share : (b : ℕ) (hs : List Holding) → total (λ h. f h.buffer h.pinned) (map (share b) hs)
      ≡ total (λ h. f h.buffer h.pinned) hs
  total-share b [] = refl
  total-share b (h ∷ hs) = omega (arith, share_bits (eqb h.buffer b) h, total-share b hs)

module _ (f : ℕ → Bool → Bool → ℕ) where
  write_bits : (t : Bool) (i x : ℕ) (h : Holding)
      → (let g : Holding = cond t (written i x h) h in f g.buffer g.exclusive g.pinned)
      ≡ f h.buffer h.exclusive h.pinned
  write_bits true i x h = refl
  write_bits false i x h = refl

  pub total-write : (b i x : ℕ) (hs : List Holding) → total (λ h. f h.buffer h.exclusive h.pinned)
      (map (write b i x) hs) ≡ total (λ h. f h.buffer h.exclusive h.pinned) hs
  total-write b i x [] = refl
  total-write b i x (h ∷ hs) = omega (arith, write_bits (eqb h.buffer b) i x h, total-write b i x hs)
