-- What came of the dump that the first session was asked for.
use Rattle.std.proofs.Common.{
  ◌≡◌,
  ℕ,
  ◌+◌,
  ◌<◌,
  ◌≤◌,
  Bool,
  true,
  false,
  List,
  [],
  ◌∷◌,
  ◌++◌,
  Option,
  Some,
  None,
  IfSome,
  IfNone,
}
use Rattle.std.proofs.Common.{inl, inr, map, length, refl, ap, sym, ◌∙◌, subst, arith}
use Rattle.std.specs.Borrow.{Bor}
use Rattle.std.specs.List.{AllZip, insert}
use Rattle.std.proofs.lemmas.List.Edits.{length-insert}
use Rattle.view_sums.specs.Total.{Each}
use Rattle.flake_base.specs.declared.session.SessionEnd.{SessionEnd}
use Rattle.pin_core.specs.declared.sizes.Sizes.{Sizes}
use Rattle.pinned_pool.specs.Moves.{joined_views}
use Rattle.pinned_pool.specs.declared.view.View.{View}
use Rattle.order_book.specs.Pages.{SessionList}
use Rattle.command_pump.specs.Pump.{PumpState}
use Rattle.serve_model.specs.Seats.{HasAll, IsSpare}
use Rattle.session_pass.specs.Views.{SessionView}
use Rattle.session_serve.specs.declared.dump.DumpPlan.{DumpPlan}
use Rattle.serve_inputs.specs.Jobs.{IsDumped, IsDumpedBy, IsGivenBack, HasDumped}
use Rattle.serve_inputs.specs.declared.job.Dumped.{Dumped}
use Rattle.run_resources.specs.Opened.{credits_of_dump}
use Rattle.serve_inputs.specs.Dumped.{DumpTold, no_dump}
use Rattle.serve_inputs.specs.Orders.{DumpRequest, IsUnasked, IsFirstAsked, first_or_none}
use Rattle.serve_inputs.specs.declared.orders.Order.{Order}
use Rattle.serve_inputs.proofs.Places.{insert_behind, spare_both, all_with_both}
use Rattle.serve_inputs.proofs.Runs.{WasDone}
use Rattle.serve_inputs.proofs.Told.{IsToldOf}

-- a seat that was given back has nothing, where it had nothing
spare_again : (old new : View) → IsSpare old → IsGivenBack old new → IsSpare new
spare_again old new is back = record {
  holds = back.holds;
  idle = record { claims = back.claims ∙ is.idle.claims; looks = back.looks ∙ is.idle.looks };
}

if_any : {X : Type 0} (x : Option X) (Q : X → Type 0) → ((y : X) → Q y) → IfSome x Q
if_any None Q each = tt
if_any (Some y) Q each = each y

module _ {P W : Type 0} (put_may : W → Bor (List ℕ) → (W × Bool) → Type 0) (flush_may : W → (W × Bool) → Type 0)
    (shards : ℕ) where
  no_request : (wire : Option W) (x : Option (Dumped P W)) (first mine : SessionList)
      → IsDumped put_may flush_may shards None wire first mine x → x ≡ None
  no_request wire None first mine is = refl
  no_request wire (Some d) first mine is = absurd is

  -- a session that was asked for none took none
  pub none_taken : (plan : Option (DumpPlan P)) (wire : Option W) (x : Option (Dumped P W)) (first mine : SessionList)
      → plan ≡ None → IsDumped put_may flush_may shards plan wire first mine x → x ≡ None
  none_taken plan wire x first mine none is =
      no_request wire x first mine
      (subst (λ (p : Option (DumpPlan P)). IsDumped put_may flush_may shards p wire first mine x) none is)

  -- what came of an order
  pub record Came (order : Order P W) (mine : SessionList) (x : Option (Dumped P W)) : Type 0 where
    pub dumped : Dumped P W
    pub is : x ≡ Some dumped
    pub by : IsDumpedBy put_may flush_may dumped.taken shards order.plan.before mine order.wire dumped.points.items
        dumped.bytes dumped.failed dumped.wire
    pub back : IsGivenBack order.plan.seat dumped.seat

  requested : (order : Order P W) (x : Option (Dumped P W)) (first mine : SessionList)
      → IsDumped put_may flush_may shards (Some order.plan) (Some order.wire) first mine x → Came order mine x
  requested order None first mine is = absurd is
  requested order (Some d) first mine is = record { dumped = d; is = refl; by = is.0; back = is.1 }

  pub came : (order : Order P W) (request : DumpRequest P W) (x : Option (Dumped P W)) (first mine : SessionList)
      → request ≡ (Some order.plan, Some order.wire)
      → IsDumped put_may flush_may shards request.0 request.1 first mine x → Came order mine x
  came order request x first mine same is =
      requested order x first mine
      (subst (λ (q : DumpRequest P W). IsDumped put_may flush_may shards q.0 q.1 first mine x) same is)

module _ {W : Type 0} (put_may : W → Bor (List ℕ) → (W × Bool) → Type 0) (flush_may : W → (W × Bool) → Type 0)
    (shards : ℕ) where
  -- on the first wire behind those of the sessions
  pub by_taken : (taken : Bool) (asked : Option ℕ) (before : ℕ) (mine : SessionList) (others : List SessionList)
      (old new : W) (rest : List W) (points : List ℕ) (bytes : ℕ) (failed : Bool) (dump : DumpTold)
      → asked ≡ Some before
      → dump ≡ record { points = points; taken = taken; bytes = bytes; failed = failed }
      → IsDumpedBy put_may flush_may taken shards before mine old points bytes failed new
      → IsToldOf put_may flush_may asked shards (mine ∷ others) (old ∷ rest) (new ∷ rest) dump
  by_taken true asked before mine others old new rest points bytes failed dump asked_is same is = inr (record {
    before = before;
    asked_is = asked_is;
    mine = mine;
    others = others;
    lists_are = refl;
    taken_is = ap (λ (d : DumpTold). d.taken) same;
    old = old;
    new = new;
    rest = rest;
    olds_are = refl;
    news_are = refl;
    is = subst (λ (d : DumpTold). HasDumped put_may flush_may shards before mine old d.points d.bytes d.failed new)
        (sym same) is;
  })
  by_taken false asked before mine others old new rest points bytes failed dump asked_is same is = inl (
    same ∙ (λ i. record {
      points = is.no_points i;
      taken = false;
      bytes = is.no_bytes i;
      failed = is.unfailed i;
    }),
    ap (λ (w : W). w ∷ rest) is.wire,
  )

module _ {J D P W : Type 0} (put_may : W → Bor (List ℕ) → (W × Bool) → Type 0) (flush_may : W → (W × Bool) → Type 0)
    (z : Sizes) (shards : ℕ) (mtu : J → Option ℕ) (session : J → SessionView) (pump : J → PumpState)
    (plan : J → Option (DumpPlan P))
    (old : J → W) (dump_wire : J → Option W) (end : D → SessionEnd) (bytes : D → ℕ) (mine : D → SessionList)
    (seat : D → View) (left : D → PumpState) (new : D → W) (dumped : D → Option (Dumped P W)) where
  abbrev pub IsDoneBy : J → D → Type 0
  IsDoneBy =
      WasDone put_may flush_may z shards mtu session pump plan old dump_wire end bytes mine seat left new dumped

  first_untaken : (jobs : List J) (dones : List D) → AllZip IsDoneBy jobs dones
      → Each IsUnasked (map (λ (j : J). (plan j, dump_wire j)) jobs) → first_or_none (map dumped dones) ≡ None
  first_untaken [] [] is none = refl
  first_untaken [] (d ∷ dones) is none = absurd is
  first_untaken (j ∷ jobs) [] is none = absurd is
  first_untaken (j ∷ jobs) (d ∷ dones) is none =
      none_taken put_may flush_may shards (plan j) (dump_wire j) (dumped d) (session j).pass.list (mine d) none.0
      is.0.dump

  -- the wires behind those of the sessions, before and behind, and a seat without anything beside those of the sessions
  pub record CameBack (asked : Option ℕ) (most : ℕ) (jobs : List J) (dones : List D) (wires finals : List W)
      (main last : View) (dump : DumpTold) : Type 0 where
    pub olds : List W
    pub news : List W
    pub olds_are : map old jobs ++ olds ≡ wires
    pub news_are : finals ≡ map new dones ++ news
    pub told : IsToldOf put_may flush_may asked shards (map mine dones) olds news dump
    pub spare : View
    pub spare_is : IsSpare spare
    pub seats : HasAll (spare ∷ map seat dones) last
    pub credits : last.credits ≡ main.credits + credits_of_dump asked most

  module _ (asked : Option ℕ) (most count place : ℕ) (jobs : List J) (dones : List D) (wires mid behind finals past :
      List W)
      (first main last : View) (dump : DumpTold) (is : AllZip IsDoneBy jobs dones) (old_count : length (map old jobs) ≡
      count)
      (new_count : length (map new dones) ≡ place) (mid_is : map old jobs ++ past ≡ mid)
      (behind_is : behind ≡ map new dones ++ past) (first_is : IsSpare first)
      (seats : HasAll (first ∷ map seat dones) main) where
    unordered : asked ≡ None → mid ≡ wires → (dump ≡ no_dump) × (finals ≡ behind) × (last ≡ main)
        → CameBack asked most jobs dones wires finals main last dump
    unordered none same back = record {
      olds = past;
      news = past;
      olds_are = mid_is ∙ same;
      news_are = back.1 ∙ behind_is;
      told = inl (back.0, refl);
      spare = first;
      spare_is = first_is;
      seats = subst (HasAll (first ∷ map seat dones)) (sym back.2) seats;
      credits = omega (
        arith,
        ap (λ (v : View). v.credits) back.2,
        ap (λ (a : Option ℕ). credits_of_dump a most) none,
      );
    }

    ordered : (order : Order P W) (own : Dumped P W) → asked ≡ Some order.plan.before → IsSpare order.plan.seat
        → order.plan.seat.credits ≡ credits_of_dump asked most → wires ≡ insert mid count order.wire
        → IsGivenBack order.plan.seat own.seat → last ≡ joined_views main own.seat
        → finals ≡ insert behind place own.wire
        → IsToldOf put_may flush_may asked shards (map mine dones) (order.wire ∷ past) (own.wire ∷ past) dump
        → CameBack asked most jobs dones wires finals main last dump
    ordered order own asked_is spare credits wires_are back last_is finals_are told = record {
      olds = order.wire ∷ past;
      news = own.wire ∷ past;
      olds_are = sym (wires_are ∙ ap (λ (m : List W). insert m count order.wire) (sym mid_is)
          ∙ ap (λ (n : ℕ). insert (map old jobs ++ past) n order.wire) (sym old_count)
          ∙ insert_behind (map old jobs) past order.wire);
      news_are = finals_are ∙ ap (λ (m : List W). insert m place own.wire) behind_is
          ∙ ap (λ (n : ℕ). insert (map new dones ++ past) n own.wire) (sym new_count)
          ∙ insert_behind (map new dones) past own.wire;
      told = told;
      spare = joined_views first own.seat;
      spare_is = spare_both first own.seat first_is (spare_again order.plan.seat own.seat spare back);
      seats = subst (HasAll (joined_views first own.seat ∷ map seat dones)) (sym last_is)
          (all_with_both (map seat dones) first own.seat main seats);
      credits = omega (arith, ap (λ (v : View). v.credits) last_is, back.credits, credits);
    }

  module _ (asked : Option ℕ) (most count place : ℕ) (wires mid behind finals past : List W) (first main last : View)
      (dump : DumpTold) (taken : Option (Dumped P W)) where
    pub came_back : (order : Option (Order P W)) (jobs : List J) (dones : List D) → AllZip IsDoneBy jobs dones
        → length (map old jobs) ≡ count → length (map new dones) ≡ place → map old jobs ++ past ≡ mid
        → behind ≡ map new dones ++ past → IsSpare first → HasAll (first ∷ map seat dones) main
        → IfNone order ((asked ≡ None) × (mid ≡ wires)) → IfSome order (λ o. asked ≡ Some o.plan.before)
        → IfSome order (λ o. IsSpare o.plan.seat × (o.plan.seat.credits ≡ credits_of_dump asked most))
        → IfSome order (λ o. wires ≡ insert mid count o.wire)
        → IsFirstAsked order (map (λ (j : J). (plan j, dump_wire j)) jobs) → taken ≡ first_or_none (map dumped dones)
        → IfNone taken ((dump ≡ no_dump) × (finals ≡ behind) × (last ≡ main))
        → IfSome taken (λ d. dump
        ≡ record { points = d.points.items; taken = d.taken; bytes = d.bytes; failed = d.failed })
        → IfSome taken (λ d. last ≡ joined_views main d.seat)
        → IfSome taken (λ d. finals ≡ insert behind place d.wire)
        → CameBack asked most jobs dones wires finals main last dump
    came_back None jobs dones is old_count new_count mid_is behind_is first_is seats none before seat_is wires_are
        requests taken_is untaken dump_is last_is finals_are =
        unordered asked most count place jobs dones wires mid behind finals past first main last dump is old_count
        new_count
        mid_is behind_is first_is seats none.0 none.1
        (subst (λ (x : Option (Dumped P W)). IfNone x ((dump ≡ no_dump) × (finals ≡ behind) × (last ≡ main)))
        (taken_is ∙ first_untaken jobs dones is requests) untaken)
    came_back (Some order) [] dones is old_count new_count mid_is behind_is first_is seats none before seat_is
        wires_are requests taken_is untaken dump_is last_is finals_are = absurd requests
    came_back (Some order) (j ∷ jobs) [] is old_count new_count mid_is behind_is first_is seats none before seat_is
        wires_are requests taken_is untaken dump_is last_is finals_are = absurd is
    came_back (Some order) (j ∷ jobs) (d ∷ dones) is old_count new_count mid_is behind_is first_is seats none before
        seat_is wires_are requests taken_is untaken dump_is last_is finals_are =
        let own = came put_may flush_may shards order (plan j, dump_wire j) (dumped d) (session j).pass.list (mine d)
        requests.0 is.0.dump in
        let x = own.dumped in
        let taken_as = taken_is ∙ own.is in
        let dump_as = subst (λ (t : Option (Dumped P W)). IfSome t (λ d. dump
        ≡ record { points = d.points.items; taken = d.taken; bytes = d.bytes; failed = d.failed })) taken_as dump_is in
        ordered asked most count place (j ∷ jobs) (d ∷ dones) wires mid behind finals past first main last dump is
        old_count
        new_count mid_is behind_is first_is seats order x before seat_is.0 seat_is.1 wires_are own.back
        (subst (λ (t : Option (Dumped P W)). IfSome t (λ d. last ≡ joined_views main d.seat)) taken_as last_is)
        (subst (λ (t : Option (Dumped P W)). IfSome t (λ d. finals ≡ insert behind place d.wire)) taken_as finals_are)
        (by_taken put_may flush_may shards x.taken asked order.plan.before (mine d) (map mine dones) order.wire x.wire
        past x.points.items x.bytes x.failed dump before dump_as own.by)

  -- where there is a wire to put back, there is room for it
  pub room_for : (order : Option (Order P W)) (taken : Option (Dumped P W)) (count place room : ℕ)
      (wires mid behind : List W) (jobs : List J) (dones : List D) → AllZip IsDoneBy jobs dones
      → IfSome order (λ o. wires ≡ insert mid count o.wire)
      → IsFirstAsked order (map (λ (j : J). (plan j, dump_wire j)) jobs) → taken ≡ first_or_none (map dumped dones)
      → count ≤ length mid → length behind ≡ length mid → length wires ≤ room → place ≤ length behind
      → IfSome taken (λ d. (place ≤ length behind) × (length behind < room))
  room_for None taken count place room wires mid behind jobs dones is wires_are requests taken_is within same_length
      fits placed =
      subst (λ (t : Option (Dumped P W)). IfSome t (λ d. (place ≤ length behind) × (length behind < room)))
      (sym (taken_is ∙ first_untaken jobs dones is requests)) tt
  room_for (Some order) taken count place room wires mid behind jobs dones is wires_are requests taken_is within
      same_length fits placed =
      if_any taken (λ d. (place ≤ length behind) × (length behind < room)) (λ d. (
        placed,
        omega (arith, ap length wires_are, length-insert mid count order.wire within, same_length, fits),
      ))
