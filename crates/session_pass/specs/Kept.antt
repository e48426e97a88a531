-- What is true of every session.
use Rattle.std.specs.Prelude.{◌≡◌, ℕ, ◌+◌, ◌^◌, ◌<◌, ◌≤◌, ◌++◌, List, length, filter, if◌then◌else◌}
use Rattle.view_sums.specs.Total.{total, Each}
use Rattle.pin_core.specs.Holding.{Holding}
use Rattle.reply_planner.specs.Owned.{bare_all, fresh_all}
use Rattle.reply_planner.specs.Parcels.{Sent}
use Rattle.reply_planner.specs.Stages.{stage_size}
use Rattle.tx_ring.specs.Shown.{ring_size}
use Rattle.session_pass.specs.Views.{SessionView}
use Rattle.session_pass.specs.Waiting.{waiting, descriptors_of, is_staged_by, free_of}

-- the least ring of a session, the greatest one, and the credits with which any command can be executed
abbrev pub least_ring : ℕ
least_ring = 1160

abbrev pub greatest_ring : ℕ
greatest_ring = 4096

abbrev pub least_credits : ℕ
least_credits = 8192

-- a reply that waits has staging buffers of the stage, in order, and pays for no more holds than it has segments
pub record IsWaiting (stage : List ℕ) (reply : Sent) : Type 0 where
  pub some : 0 < length reply.staged
  pub staged : reply.staged ≡ filter (λ buffer. is_staged_by buffer reply) stage
  pub few : reply.paid ≤ length reply.segments

-- what replies have of the pass's credits: one, and one for each hold that they pay for
abbrev pub reply_credits : List Sent → ℕ
reply_credits replies = total (λ (reply : Sent). 1 + reply.paid) replies

abbrev pub holds_paid : List Sent → ℕ
holds_paid replies = total (λ (reply : Sent). reply.paid) replies

-- how many staging buffers they have, and what these weigh
abbrev pub staged_in : List Sent → ℕ
staged_in replies = total (λ (reply : Sent). length reply.staged) replies

abbrev pub staged_weight : (Holding → ℕ) → List Sent → ℕ
staged_weight weight replies = total (λ (reply : Sent). total weight (fresh_all reply.staged)) replies

-- how many of them use a buffer
abbrev pub users : ℕ → List Sent → ℕ
users buffer replies = total (λ (reply : Sent). if is_staged_by buffer reply then 1 else 0) replies

pub record IsSessionSound (s : SessionView) : Type 0 where
  pub least : least_ring ≤ ring_size s.ring
  pub greatest : ring_size s.ring ≤ greatest_ring
  pub front : s.posted ≡ s.reaped ++ waiting s 0
  pub each : Each (IsWaiting s.pass.stage) (waiting s 0)
  pub free_is : s.pass.free ≡ free_of s.pass.stage (waiting s 0)
  pub all : staged_in (waiting s 0) + length s.pass.free ≡ stage_size
  pub once : (buffer : ℕ) → users buffer (waiting s 0) ≤ 1
  pub fits : descriptors_of (waiting s 0) < ring_size s.ring
  pub rich : least_credits ≤ s.opened.credits
  pub count : length s.posted < 2 ^ 32
  pub credits : s.pass.seat.credits + reply_credits (waiting s 0) ≡ s.opened.credits
  pub returns : s.opened.returns + holds_paid s.reaped ≤ s.pass.seat.returns
  pub holds : (weight : Holding → ℕ) → total weight (bare_all s.pass.seat.holds) + staged_weight weight (waiting s 0)
      ≡ total weight (bare_all s.opened.holds)

-- and its own numbers are those of its calls and of its list
pub record IsSessionOf (calls number : ℕ) (s : SessionView) : Type 0 where
  pub calls_are : calls ≡ length s.posted
  pub number_is : number ≡ s.pass.list.number
  pub is : IsSessionSound s
