-- What replies take, added up.
use Rattle.std.proofs.Common.{◌≡◌, ℕ, zero, suc, ◌+◌, ◌≤◌, List, [], ◌∷◌, ◌++◌, length, drop, Bool, true, false, cond}
use Rattle.std.proofs.Common.{◌||◌, refl, ap, ◌∙◌, zero-add, arith}
use Rattle.std.specs.List.{list_any}
use Rattle.view_sums.specs.Total.{total, Each}
use Rattle.view_sums.proofs.Sums.{total-append}
use Rattle.pin_core.specs.Holding.{Holding}
use Rattle.reply_planner.specs.Owned.{fresh_all}
use Rattle.reply_planner.specs.Parcels.{Sent}
use Rattle.session_pass.specs.Waiting.{is_staged_by, descriptors_of}
use Rattle.session_pass.specs.Kept.{IsWaiting, reply_credits, holds_paid, staged_in, staged_weight, users}

-- behind a list's front
pub drop_front : {A : Type 0} (xs ys : List A) (k n : ℕ) → k ≡ length xs + n → drop k (xs ++ ys) ≡ drop n ys
drop_front [] ys k n e = ap (λ m. drop m ys) (e ∙ zero-add n)
drop_front (x ∷ xs) ys zero n e = absurd (omega arith)
drop_front (x ∷ xs) ys (suc k) n e = drop_front xs ys k n (omega arith)

pub drop_length : {A : Type 0} (xs ys : List A) → drop (length xs + 0) (xs ++ ys) ≡ ys
drop_length xs ys = drop_front xs ys (length xs + 0) 0 refl

none_step : (t s : Bool) (n : ℕ) → (s ≡ false → n ≡ 0) → (t || s) ≡ false → cond t 1 0 + n ≡ 0
none_step true s n others none = cc
none_step false s n others none = omega (arith, others none)

-- a buffer that no reply uses has no user
pub users_none : (b : ℕ) (replies : List Sent) → list_any (is_staged_by b) replies ≡ false → users b replies ≡ 0
users_none b [] none = refl
users_none b (p ∷ ps) none = none_step (is_staged_by b p) (list_any (is_staged_by b) ps) (users b ps)
    (users_none b ps) none

unused_step : (t s : Bool) (n : ℕ) → (n ≡ 0 → s ≡ false) → cond t 1 0 + n ≡ 0 → (t || s) ≡ false
unused_step true s n others none = absurd (omega arith)
unused_step false s n others none = others (omega arith)

pub unused : (b : ℕ) (replies : List Sent) → users b replies ≡ 0 → list_any (is_staged_by b) replies ≡ false
unused b [] none = refl
unused b (p ∷ ps) none = unused_step (is_staged_by b p) (list_any (is_staged_by b) ps) (users b ps) (unused b ps) none

-- each reply that waits uses a staging buffer at least, and pays for no more than its segments
pub credits_few : (stage : List ℕ) (replies : List Sent) → Each (IsWaiting stage) replies
    → reply_credits replies ≤ staged_in replies + descriptors_of replies
credits_few stage [] each = omega arith
credits_few stage (p ∷ ps) each = omega (arith, each.0.some, each.0.few, credits_few stage ps each.1)

pub paid_one : (replies : List Sent) (p : Sent) → holds_paid (replies ++ p ∷ []) ≡ holds_paid replies + p.paid
paid_one replies p = omega (arith, total-append (λ (reply : Sent). reply.paid) replies (p ∷ []))

pub credits_one : (replies : List Sent) (p : Sent) → reply_credits (replies ++ p ∷ []) ≡ reply_credits replies
    + (1 + p.paid)
credits_one replies p = omega (arith, total-append (λ (reply : Sent). 1 + reply.paid) replies (p ∷ []))

pub staged_one : (replies : List Sent) (p : Sent) → staged_in (replies ++ p ∷ []) ≡ staged_in replies + length p.staged
staged_one replies p = omega (arith, total-append (λ (reply : Sent). length reply.staged) replies (p ∷ []))

pub descriptors_one : (replies : List Sent) (p : Sent) → descriptors_of (replies ++ p ∷ []) ≡ descriptors_of replies
    + length p.segments
descriptors_one replies p = omega (arith, total-append (λ (reply : Sent). length reply.segments) replies (p ∷ []))

pub users_one : (b : ℕ) (replies : List Sent) (p : Sent) → users b (replies ++ p ∷ []) ≡ users b replies
    + cond (is_staged_by b p) 1 0
users_one b replies p = omega (arith, total-append (λ (reply : Sent). cond (is_staged_by b reply) 1 0) replies (p ∷ []))

pub weight_one : (weight : Holding → ℕ) (replies : List Sent) (p : Sent) → staged_weight weight (replies ++ p ∷ [])
    ≡ staged_weight weight replies + total weight (fresh_all p.staged)
weight_one weight replies p =
    omega (arith, total-append (λ (reply : Sent). total weight (fresh_all reply.staged)) replies (p ∷ []))
