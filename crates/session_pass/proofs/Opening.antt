-- A session without calls, and what is free.
use Rattle.std.proofs.Common.{◌≡◌, ℕ, ◌+◌, ◌≤◌, List, [], ◌∷◌, ◌++◌, length, Bool, true, false, sym, refl, ap, ◌∙◌}
use Rattle.std.proofs.Common.{append-nil, arith}
use Rattle.atomic_table.specs.Seated.{TableId}
use Rattle.view_sums.specs.Total.{total}
use Rattle.pin_core.specs.declared.sizes.Sizes.{Sizes}
use Rattle.pinned_pool.specs.declared.view.View.{View}
use Rattle.reply_planner.specs.Owned.{bare_all}
use Rattle.reply_planner.specs.Parcels.{Sent}
use Rattle.flake_model.specs.Command.{Command}
use Rattle.reply_layout.specs.Need.{need, need_of}
use Rattle.reply_layout.specs.declared.need.Need.{Need}
use Rattle.tx_ring.specs.Changes.{IsPrefix, room_in}
use Rattle.tx_ring.specs.Words.{extent}
use Rattle.tx_ring.specs.declared.view.DriverView.{DriverView}
use Rattle.command_exec.specs.Passes.{PassView, IsPass}
use Rattle.session_pass.specs.Views.{whole_view}
use Rattle.session_pass.specs.Waiting.{waiting, room_left, descriptors_of, free_of, FitsBeside}
use Rattle.session_pass.specs.Kept.{IsSessionSound, IsSessionOf}
use Rattle.session_pass.proofs.Filters.{filter_all, each_all}
use Rattle.session_pass.proofs.With.{session_with}

front_none : (xs ys : List Sent) → xs ++ ys ≡ [] → xs ≡ []
front_none [] ys e = refl
front_none (x ∷ xs) ys e = cc

pub open_keeps : (z : Sizes) (pass : PassView) (opened : View) (ring : TableId) (d : DriverView Sent) (number : ℕ)
    → IsPass z pass → opened ≡ pass.seat → number ≡ pass.list.number → 8192 ≤ pass.seat.credits → pass.free ≡ pass.stage
    → 1160 ≤ ring.slots → ring.slots ≤ 4096 → d.posted ≡ [] → IsPrefix d.reaped d.posted
    → IsSessionOf 0 number (whole_view pass opened ring d false)
open_keeps z pass opened ring d number valid same number_is rich free least greatest none prefix =
    let reaped : d.reaped ≡ [] = front_none d.reaped prefix.0 (sym prefix.1 ∙ none) in
    record {
      calls_are = sym (ap length none);
      number_is = number_is;
      is = session_with (whole_view pass opened ring d false) [] (record {
        least = least;
        greatest = greatest;
        front = none ∙ sym reaped ∙ sym (append-nil d.reaped);
        each = tt;
        free_is = free ∙ sym (filter_all (λ b. true) pass.stage (each_all (λ b. true ≡ true) (λ b. refl) pass.stage));
        all = omega (arith, ap length free, valid.count);
        once = λ b. omega arith;
        fits = omega (arith, least);
        rich = omega (arith, rich, ap (λ (v : View). v.credits) same);
        count = omega (arith, ap length none);
        credits = omega (arith, ap (λ (v : View). v.credits) same);
        returns = omega (
          arith,
          ap (λ (v : View). v.returns) same,
          ap
              (λ (l : List Sent). total (λ (p : Sent). p.paid) l) reaped,
        );
        holds = λ weight. omega (arith, ap (λ (v : View). total weight (bare_all v.holds)) same);
      });
    }

extent-append : (xs ys : List Sent) → extent (λ (p : Sent). p.segments) (xs ++ ys)
    ≡ extent (λ (p : Sent). p.segments) xs + descriptors_of ys
extent-append [] [] = refl
extent-append [] (y ∷ ys) = omega (arith, extent-append [] ys)
extent-append (x ∷ xs) ys = omega (arith, extent-append xs ys)

-- the ring's room is what the replies that wait leave
pub room_is : (pass : PassView) (opened : View) (ring : TableId) (d : DriverView Sent) (stopped : Bool)
    → IsSessionSound (whole_view pass opened ring d stopped)
    → room_in (λ (p : Sent). p.segments) ring.slots d
    ≡ room_left ring (waiting (whole_view pass opened ring d stopped) 0)
room_is pass opened ring d stopped is =
    let waits = waiting (whole_view pass opened ring d stopped) 0 in
    omega (arith, extent-append d.reaped waits, ap (extent (λ (p : Sent). p.segments)) is.front)

-- a reply within a need that is there has room
pub reply_fits : (pass : PassView) (opened : View) (ring : TableId) (d : DriverView Sent) (stopped : Bool)
    (command : Command) (p : Sent)
    → IsSessionSound (whole_view pass opened ring d stopped)
    → (let s = whole_view pass opened ring d stopped in FitsBeside ring pass.stage (waiting s 0) (need_of command))
    → length p.segments ≤ (need_of command).descriptors
    → length p.segments ≤ room_in (λ (q : Sent). q.segments) ring.slots d
reply_fits pass opened ring d stopped command p is fits within =
    omega (arith, fits.in_ring, within, room_is pass opened ring d stopped is)

-- what is free of ring and stage
pub left_is : (pass : PassView) (opened : View) (ring : TableId) (d : DriverView Sent) (stopped : Bool) (room free : ℕ)
    → IsSessionSound (whole_view pass opened ring d stopped) → room ≡ room_in (λ (p : Sent). p.segments) ring.slots d
    → free ≡ length pass.free
    → (let s = whole_view pass opened ring d stopped in
    let left : Need = record { descriptors = room; stage = free } in
    left ≡ need (room_left s.ring (waiting s 0)) (length (free_of s.pass.stage (waiting s 0))))
left_is pass opened ring d stopped room free is room_same free_is =
    let s = whole_view pass opened ring d stopped in
    let room_left_is : room ≡ room_left ring (waiting s 0) =
    room_same ∙ room_is pass opened ring d stopped is in
    let free_same : free ≡ length (free_of pass.stage (waiting s 0)) = free_is ∙ ap length is.free_is in
    λ i. record { descriptors = room_left_is i; stage = free_same i }
