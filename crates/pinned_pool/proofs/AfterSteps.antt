-- For callers: what a seat still holds after each call, and with what fronts. All speak of its list of holds.
use Rattle.std.proofs.Common.{◌≡◌, ◌≢◌, ℕ, suc, ◌+◌, ◌<◌, ◌≤◌, List, [], ◌∷◌, ◌++◌, map, take, length, Bool, true}
use Rattle.std.proofs.Common.{false, not, cond, eqb, sym, refl, ap, ◌∙◌, zero-le, eq-eqb, ne_eqb, arith}
use mathlib.Core.Logic.{dite}
use native.Mathlib.Decide.{ℕ_discrete}
use Rattle.view_sums.specs.Total.{total, same, Each}
use Rattle.view_sums.proofs.Sums.{total-append, total-le}
use Rattle.view_sums.proofs.Eachs.{each-back}
use Rattle.pin_core.specs.Holding.{Holding, Key, at, sole_at, loose_at, fresh, shared, written}
use Rattle.pin_core.proofs.Weights.{at-on, at-off, sole-at}
use Rattle.pinned_pool.specs.Views.{looked_at}
use Rattle.pinned_pool.specs.Claims.{LooksFrom}
use Rattle.pinned_pool.specs.Moves.{means, same_key, hold_key, without, holds_for, without_keys, meant_count}
use Rattle.pinned_pool.specs.Moves.{times_asked, HasHolds, share, write, front_of, pinned_hold}
use Rattle.pinned_pool.proofs.Keys.{same_key-refl, times-without, total-without, total-left_by, taken_by-keys}
use Rattle.pinned_pool.proofs.Keys.{has_first, has_rest, each-without, each-left_by, each-taken_by}
use Rattle.pinned_pool.proofs.Fronts.{total-share, total-write, share-on, share-off, write-on, write-off}
use Rattle.pinned_pool.proofs.Within.{first_is}

-- how often a key is asked for, and how often it is held
pub asked-append : (k : Key) (ks js : List Key) → times_asked k (ks ++ js) ≡ times_asked k ks + times_asked k js
asked-append k ks js = total-append (λ j. cond (same_key k j) 1 0) ks js

pub times-append : (k : Key) (hs gs : List Holding) → meant_count k (hs ++ gs) ≡ meant_count k hs + meant_count k gs
times-append k hs gs = total-append (λ h. cond (means k h) 1 0) hs gs

-- a hold at the head is the first that its key means
pub means-own : (h : Holding) → means (hold_key h) h ≡ true
means-own h = same_key-refl (hold_key h)

pub times-own : (h : Holding) (hs : List Holding) → meant_count (hold_key h) (h ∷ hs) ≡ meant_count (hold_key h) hs + 1
times-own h hs = omega (arith, ap {B = ℕ} (λ t. cond t 1 0) (means-own h))

pub without-own : (h : Holding) (hs : List Holding) → without (hold_key h) (h ∷ hs) ≡ hs
without-own h hs = ap (λ t. cond t hs (h ∷ without (hold_key h) hs)) (means-own h)

-- a hold behind others that the key doesn't mean
pub without-last : (hs : List Holding) (h : Holding) → meant_count (hold_key h) hs ≡ 0
    → without (hold_key h) (hs ++ h ∷ []) ≡ hs
without-last [] h none = without-own h []
without-last (g ∷ hs) h none = bits (means (hold_key h) g) none (without-last hs h)
  where
    bits : (t : Bool) → cond t 1 0 + meant_count (hold_key h) hs ≡ 0
        → (meant_count (hold_key h) hs ≡ 0 → without (hold_key h) (hs ++ h ∷ []) ≡ hs)
        → cond t (hs ++ h ∷ []) (g ∷ without (hold_key h) (hs ++ h ∷ [])) ≡ g ∷ hs
    bits true none rest = absurd (omega arith)
    bits false none rest = ap (λ xs. g ∷ xs) (rest (omega arith))

-- a buffer's holds that are not pinned, of which a seat has one at most
loose_bits : (t p : Bool) → cond (cond t (not p) false) 1 0 ≡ (let n : ℕ = cond t (cond p 0 1) 0 in n)
loose_bits true true = refl
loose_bits true false = refl
loose_bits false p = refl

pub times-loose : (b : ℕ) (hs : List Holding) → meant_count (record { buffer = b; pinned = false }) hs
    ≡ total (loose_at b) hs
times-loose b [] = refl
times-loose b (h ∷ hs) = omega (arith, loose_bits (eqb h.buffer b) h.pinned, times-loose b hs)

-- what a split hands over and leaves
pub has_none : (hs : List Holding) → HasHolds [] hs
has_none hs = λ k. zero-le

pub has_one : (k : Key) (hs : List Holding) → 0 < meant_count k hs → HasHolds (k ∷ []) hs
has_one k hs some = λ j. omega (arith, times-without j k hs some)

pub times-left_by : (j : Key) (ks : List Key) (hs : List Holding) → HasHolds ks hs → meant_count j (without_keys ks hs)
    + times_asked j ks ≡ meant_count j hs
times-left_by j [] hs has = omega arith
times-left_by j (k ∷ ks) hs has =
    omega (
      arith,
      times-without j k hs (has_first k ks hs has),
      times-left_by j ks (without k hs)
          (has_rest k ks hs has),
    )

pub times-taken_by : (j : Key) (ks : List Key) (hs : List Holding) → HasHolds ks hs → meant_count j (holds_for ks hs)
    ≡ times_asked j ks
times-taken_by j ks hs has = omega (arith, times-left_by j ks hs has, total-left_by (λ h. cond (means j h) 1 0) ks hs)

pub left_by-append : (ks js : List Key) (hs : List Holding) → without_keys (ks ++ js) hs
    ≡ without_keys js (without_keys ks hs)
left_by-append [] js hs = refl
left_by-append (k ∷ ks) js hs = left_by-append ks js (without k hs)

-- sharing and writing leave what is held
pub times-share : (k : Key) (b : ℕ) (hs : List Holding) → meant_count k (map (share b) hs) ≡ meant_count k hs
times-share k b hs = total-share (λ x p. cond (cond (eqb x k.buffer) (cond k.pinned p (not p)) false) 1 0) b hs

pub times-write : (k : Key) (b i x : ℕ) (hs : List Holding) → meant_count k (map (write b i x) hs) ≡ meant_count k hs
times-write k b i x hs = total-write (λ y e p. cond (cond (eqb y k.buffer) (cond k.pinned p (not p)) false) 1 0) b i x
    hs

pub at-share : (c b : ℕ) (hs : List Holding) → total (at c) (map (share b) hs) ≡ total (at c) hs
at-share c b hs = total-share (λ x p. cond (eqb x c) 1 0) b hs

pub at-write : (c b i x : ℕ) (hs : List Holding) → total (at c) (map (write b i x) hs) ≡ total (at c) hs
at-write c b i x hs = total-write (λ y e p. cond (eqb y c) 1 0) b i x hs

pub sole-write : (c b i x : ℕ) (hs : List Holding) → total (sole_at c) (map (write b i x) hs) ≡ total (sole_at c) hs
sole-write c b i x hs = total-write (λ y e p. cond (eqb y c) (cond e 1 0) 0) b i x hs

-- a pin shares no other buffer's holds
pub sole-share : (c b : ℕ) (hs : List Holding) → c ≢ b → total (sole_at c) (map (share b) hs) ≡ total (sole_at c) hs
sole-share c b [] away = refl
sole-share c b (h ∷ hs) away = omega (arith, one h, sole-share c b hs away)
  where
    one : (g : Holding) → sole_at c (share b g) ≡ sole_at c g
    one g = dite (ℕ_discrete g.buffer b)
        (λ e. let none : sole_at c g ≡ 0 = omega (arith, sole-at c g, at-off c g (λ d. away (sym d ∙ e))) in
        let gone : sole_at c (shared g) ≡ 0 =
        omega (arith, sole-at c (shared g), at-off c (shared g) (λ d. away (sym d ∙ e))) in
        omega (arith, ap (sole_at c) (share-on b g e), none, gone))
        (λ n. ap (sole_at c) (share-off b g n))

pub sole-held : (b : ℕ) (hs : List Holding) → 0 < total (sole_at b) hs → 0 < total (at b) hs
sole-held b hs some = omega (arith, total-le (sole_at b) (at b) (sole-at b) hs)

-- the buffer that was won
pub at-won : (b : ℕ) (hs : List Holding) → total (at b) (fresh b ∷ hs) ≡ total (at b) hs + 1
at-won b hs = omega (arith, at-on b (fresh b) refl)

pub sole-won : (b : ℕ) (hs : List Holding) → total (sole_at b) (fresh b ∷ hs) ≡ total (sole_at b) hs + 1
sole-won b hs = omega (arith, ap {B = ℕ} (λ t. cond t 1 0) (eq-eqb b b refl))

-- a buffer's front where its first hold is at the head, and where it is not
pub front-on : (b : ℕ) (h : Holding) (hs : List Holding) → h.buffer ≡ b → front_of b (h ∷ hs) ≡ h.front
front-on b h hs e = ap (λ t. cond t h.front (front_of b hs)) (eq-eqb h.buffer b e)

pub front-off : (b : ℕ) (h : Holding) (hs : List Holding) → h.buffer ≢ b → front_of b (h ∷ hs) ≡ front_of b hs
front-off b h hs n = ap (λ t. cond t h.front (front_of b hs)) (ne_eqb h.buffer b n)

pub front-won : (b : ℕ) (hs : List Holding) → front_of b (fresh b ∷ hs) ≡ []
front-won b hs = front-on b (fresh b) hs refl

pub front-won-else : (b c : ℕ) (hs : List Holding) → c ≢ b → front_of c (fresh b ∷ hs) ≡ front_of c hs
front-won-else b c hs away = front-off c (fresh b) hs (λ e. away (sym e))

shared_front : (t : Bool) (c : ℕ) (h : Holding) (xs : List ℕ)
    → (let g : Holding = cond t (shared h) h in cond (eqb g.buffer c) g.front xs) ≡ cond (eqb h.buffer c) h.front xs
shared_front true c h xs = refl
shared_front false c h xs = refl

pub front-share : (c b : ℕ) (hs : List Holding) → front_of c (map (share b) hs) ≡ front_of c hs
front-share c b [] = refl
front-share c b (h ∷ hs) = shared_front (eqb h.buffer b) c h (front_of c (map (share b) hs))
    ∙ ap (λ xs. cond (eqb h.buffer c) h.front xs) (front-share c b hs)

-- the front that was written, and those of other buffers
pub front-write : (b i x : ℕ) (hs : List Holding) → 0 < total (at b) hs → front_of b (map (write b i x) hs)
    ≡ take i (front_of b hs) ++ x ∷ []
front-write b i x [] some = absurd (omega arith)
front-write b i x (h ∷ hs) some = dite (ℕ_discrete h.buffer b)
    (λ e. ap (λ g. front_of b (g ∷ map (write b i x) hs)) (write-on b i x h e)
    ∙ front-on b (written i x h) (map (write b i x) hs) e ∙ ap (λ xs. take i xs ++ x ∷ [])
    (sym (front-on b h hs e)))
    (λ n. ap (λ g. front_of b (g ∷ map (write b i x) hs)) (write-off b i x h n) ∙ front-off b h (map (write b i x) hs) n
    ∙ front-write b i x hs (omega (arith, at-off b h n)) ∙ ap (λ xs. take i xs ++ x ∷ [])
    (sym (front-off b h hs n)))

pub front-write-else : (b c i x : ℕ) (hs : List Holding) → c ≢ b → front_of c (map (write b i x) hs) ≡ front_of c hs
front-write-else b c i x [] away = refl
front-write-else b c i x (h ∷ hs) away = dite (ℕ_discrete h.buffer b)
    (λ e. let off : h.buffer ≢ c = λ d. away (sym d ∙ e) in
    ap (λ g. front_of c (g ∷ map (write b i x) hs)) (write-on b i x h e)
    ∙ front-off c (written i x h) (map (write b i x) hs) off ∙ front-write-else b c i x hs away
    ∙ sym (front-off c h hs off))
    (λ n. ap (λ g. front_of c (g ∷ map (write b i x) hs)) (write-off b i x h n)
    ∙ ap (λ xs. cond (eqb h.buffer c) h.front xs) (front-write-else b c i x hs away))

pub front-append : (b : ℕ) (hs gs : List Holding) → 0 < total (at b) hs → front_of b (hs ++ gs) ≡ front_of b hs
front-append b [] gs some = absurd (omega arith)
front-append b (h ∷ hs) gs some = dite (ℕ_discrete h.buffer b)
    (λ e. front-on b h (hs ++ gs) e ∙ sym (front-on b h hs e))
    (λ n. front-off b h (hs ++ gs) n ∙ front-append b hs gs (omega (arith, at-off b h n)) ∙ sym (front-off b h hs n))

pub front-append-else : (b : ℕ) (hs gs : List Holding) → total (at b) hs ≡ 0 → front_of b (hs ++ gs) ≡ front_of b gs
front-append-else b [] gs none = refl
front-append-else b (h ∷ hs) gs none = front-off b h (hs ++ gs) (λ e. absurd (omega (arith, at-on b h e)))
    ∙ front-append-else b hs gs (omega arith)

-- where all holds of a buffer have one front, any of them tells it
module _ (fronts : ℕ → List ℕ) where
  pub front-is : (b : ℕ) (hs : List Holding) → Each (λ (h : Holding). h.front ≡ fronts h.buffer) hs
      → 0 < total (at b) hs → front_of b hs ≡ fronts b
  front-is b hs all some = let t = first_is (λ h. h.front ≡ fronts h.buffer) b hs all some in t.2 ∙ t.3 ∙ ap fronts t.1

  pub front-without : (b : ℕ) (k : Key) (hs : List Holding) → Each (λ (h : Holding). h.front ≡ fronts h.buffer) hs
      → 0 < total (at b) (without k hs) → front_of b (without k hs) ≡ front_of b hs
  front-without b k hs all some =
      front-is b (without k hs) (each-without (λ h. h.front ≡ fronts h.buffer) k hs all) some
      ∙ sym (front-is b hs all (omega (arith, total-without (at b) k hs)))

  pub front-left_by : (b : ℕ) (ks : List Key) (hs : List Holding) → Each (λ (h : Holding). h.front ≡ fronts h.buffer) hs
      → 0 < total (at b) (without_keys ks hs) → front_of b (without_keys ks hs) ≡ front_of b hs
  front-left_by b ks hs all some =
      front-is b (without_keys ks hs) (each-left_by (λ h. h.front ≡ fronts h.buffer) ks hs all) some
      ∙ sym (front-is b hs all (omega (arith, total-left_by (at b) ks hs)))

  pub front-taken_by : (b : ℕ) (ks : List Key) (hs : List Holding)
      → Each (λ (h : Holding). h.front ≡ fronts h.buffer) hs → 0 < total (at b) (holds_for ks hs)
      → front_of b (holds_for ks hs) ≡ front_of b hs
  front-taken_by b ks hs all some =
      front-is b (holds_for ks hs) (each-taken_by (λ h. h.front ≡ fronts h.buffer) ks hs all) some
      ∙ sym (front-is b hs all (omega (arith, total-left_by (at b) ks hs)))

  pub front-joined : (b : ℕ) (hs gs : List Holding) → Each (λ (h : Holding). h.front ≡ fronts h.buffer) (hs ++ gs)
      → 0 < total (at b) gs → front_of b (hs ++ gs) ≡ front_of b gs
  front-joined b hs gs all some =
      front-is b (hs ++ gs) all (omega (arith, total-append (at b) hs gs))
      ∙ sym (front-is b gs (each-back (λ (h : Holding). h.front ≡ fronts h.buffer) hs gs all) some)

-- the hold that a pin gave the taker
pub at-taken : (b : ℕ) (hs : List Holding) (front : List ℕ) → total (at b) (hs ++ pinned_hold b front ∷ [])
    ≡ total (at b) hs + 1
at-taken b hs front =
    omega (arith, total-append (at b) hs (pinned_hold b front ∷ []), at-on b (pinned_hold b front) refl)

pub front-taken : (fronts : ℕ → List ℕ) (b : ℕ) (hs : List Holding) (front : List ℕ)
    → Each (λ (h : Holding). h.front ≡ fronts h.buffer) (hs ++ pinned_hold b front ∷ [])
    → front_of b (hs ++ pinned_hold b front ∷ []) ≡ front
front-taken fronts b hs front all =
    front-joined fronts b hs (pinned_hold b front ∷ []) all (omega (arith, at-on b (pinned_hold b front) refl))
    ∙ front-on b (pinned_hold b front) [] refl

-- the looks of a claim: each buffer that was passed once, and no other
pub looks-none : (b c : ℕ) (ls : List (ℕ × ℕ)) → LooksFrom b ls → c < b → looked_at c ls ≡ 0
looks-none b c [] from below = refl
looks-none b c (l ∷ ls) from below =
    omega (arith, off c l.0 (λ e. absurd (omega (arith, e, from.0))), looks-none (suc b) c ls from.2 (omega arith))
  where
    off : (n m : ℕ) → m ≢ n → same m n ≡ 0
    off n m ne = ap (λ t. cond t 1 0) (ne_eqb m n ne)

pub looks-once : (b c : ℕ) (ls : List (ℕ × ℕ)) → LooksFrom b ls → b ≤ c → c < b + length ls → looked_at c ls ≡ 1
looks-once b c [] from low high = absurd (omega arith)
looks-once b c (l ∷ ls) from low high = dite (ℕ_discrete b c)
    (λ e. omega (arith, on c l.0 (from.0 ∙ e), looks-none (suc b) c ls from.2 (omega (arith, e))))
    (λ n. omega (
      arith,
      off c l.0 (λ e. n (sym from.0 ∙ e)),
      looks-once (suc b) c ls from.2 (omega (arith, n))
          (omega arith),
    ))
  where
    on : (n m : ℕ) → m ≡ n → same m n ≡ 1
    on n m e = ap (λ t. cond t 1 0) (eq-eqb m n e)

    off : (n m : ℕ) → m ≢ n → same m n ≡ 0
    off n m ne = ap (λ t. cond t 1 0) (ne_eqb m n ne)

-- what to give to `search`, `simp` or `grind`
pub ruleset seat_holds = (
  asked-append,
  times-append,
  times-own,
  without-own,
  without-last,
  times-loose,
  has_none,
  has_one,
  times-without,
  times-left_by,
  times-taken_by,
  left_by-append,
  taken_by-keys,
  times-share,
  times-write,
  at-share,
  at-write,
  sole-write,
  sole-share,
  sole-held,
  at-won,
  sole-won,
  at-taken,
)

pub ruleset seat_fronts = (
  front-on,
  front-off,
  front-won,
  front-won-else,
  front-share,
  front-write,
  front-write-else,
  front-append,
  front-append-else,
  front-is,
  front-without,
  front-left_by,
  front-taken_by,
  front-joined,
  front-taken,
)
