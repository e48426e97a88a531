-- What is true of a session, by the replies that wait.
use Rattle.std.proofs.Common.{◌≡◌, ℕ, ◌+◌, ◌^◌, ◌<◌, ◌≤◌, List, ◌++◌, length, drop, sym, ap, ◌∙◌, subst}
use Rattle.view_sums.specs.Total.{total, Each}
use Rattle.pin_core.specs.Holding.{Holding}
use Rattle.reply_planner.specs.Owned.{bare_all}
use Rattle.reply_planner.specs.Parcels.{Sent}
use Rattle.reply_planner.specs.Stages.{stage_size}
use Rattle.tx_ring.specs.Shown.{ring_size}
use Rattle.session_pass.specs.Views.{SessionView}
use Rattle.session_pass.specs.Waiting.{waiting, descriptors_of, free_of}
use Rattle.session_pass.specs.Kept.{IsSessionSound, IsWaiting, least_ring, greatest_ring, least_credits, reply_credits}
use Rattle.session_pass.specs.Kept.{holds_paid, staged_in, staged_weight, users}
use Rattle.session_pass.proofs.Sums.{drop_length}

pub record With (s : SessionView) (waits : List Sent) : Type 0 where
  pub least : least_ring ≤ ring_size s.ring
  pub greatest : ring_size s.ring ≤ greatest_ring
  pub front : s.posted ≡ s.reaped ++ waits
  pub each : Each (IsWaiting s.pass.stage) waits
  pub free_is : s.pass.free ≡ free_of s.pass.stage waits
  pub all : staged_in waits + length s.pass.free ≡ stage_size
  pub once : (buffer : ℕ) → users buffer waits ≤ 1
  pub fits : descriptors_of waits < ring_size s.ring
  pub rich : least_credits ≤ s.opened.credits
  pub count : length s.posted < 2 ^ 32
  pub credits : s.pass.seat.credits + reply_credits waits ≡ s.opened.credits
  pub returns : s.opened.returns + holds_paid s.reaped ≤ s.pass.seat.returns
  pub holds : (weight : Holding → ℕ) → total weight (bare_all s.pass.seat.holds) + staged_weight weight waits
      ≡ total weight (bare_all s.opened.holds)

pub waits_are : (s : SessionView) (waits : List Sent) → s.posted ≡ s.reaped ++ waits → waiting s 0 ≡ waits
waits_are s waits front = ap (drop (length s.reaped + 0)) front ∙ drop_length s.reaped waits

pub with_waits : (s : SessionView) → IsSessionSound s → With s (waiting s 0)
with_waits s is = record {
  least = is.least;
  greatest = is.greatest;
  front = is.front;
  each = is.each;
  free_is = is.free_is;
  all = is.all;
  once = is.once;
  fits = is.fits;
  rich = is.rich;
  count = is.count;
  credits = is.credits;
  returns = is.returns;
  holds = is.holds;
}

pub with_front : (s : SessionView) (waits : List Sent) → s.posted ≡ s.reaped ++ waits → IsSessionSound s → With s waits
with_front s waits front is = subst (With s) (waits_are s waits front) (with_waits s is)

pub session_with : (s : SessionView) (waits : List Sent) → With s waits → IsSessionSound s
session_with s waits w =
    let is = subst (With s) (sym (waits_are s waits w.front)) w in
    record {
      least = is.least;
      greatest = is.greatest;
      front = is.front;
      each = is.each;
      free_is = is.free_is;
      all = is.all;
      once = is.once;
      fits = is.fits;
      rich = is.rich;
      count = is.count;
      credits = is.credits;
      returns = is.returns;
      holds = is.holds;
    }
