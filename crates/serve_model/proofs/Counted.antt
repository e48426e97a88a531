-- The end of a served pool, by the journal.
use Rattle.std.proofs.Common.{◌≡◌, ℕ, ◌+◌, ◌<◌, ◌≤◌, List, [], ◌∷◌, Option, is_none, map, take, refl, ap, sym, ◌∙◌}
use Rattle.std.proofs.Common.{zero, suc, Some, length, slice_get, subst, arith}
use Rattle.view_sums.specs.Total.{total, same, Each}
use Rattle.view_sums.proofs.Sums.{total-append, total-map}
use Rattle.flake_base.specs.declared.journal.Entry.{Entry}
use Rattle.pin_core.specs.Buffers.{buffers}
use Rattle.pin_core.specs.HeldCount.{held_in}
use Rattle.pin_core.specs.Holding.{Holding, at, loose_at}
use Rattle.pin_core.specs.declared.class.Class.{Class}
use Rattle.pin_core.specs.declared.class.Class.TheVariants.{Small, Large}
use Rattle.pin_core.specs.declared.sizes.Sizes as pool_sizes
use Rattle.pinned_pool.specs.Claims.{class_start, count_of}
use Rattle.pinned_pool.specs.Classes.{class_at, buffers_in}
use Rattle.pinned_pool.specs.Ends.{pool_end}
use Rattle.pinned_pool.specs.Views.{looked_at}
use Rattle.pinned_pool.specs.declared.view.View.{View}
use Rattle.flake_model.specs.Command.{Command}
use Rattle.flake_model.specs.Journal.{Step, answers_of, answer_at, session_steps}
use Rattle.flake_model.specs.Run.{all_commands, served_steps, missing_writes}
use Rattle.flake_model.specs.Session.{Session}
use Rattle.flake_model.specs.Store.{Operation, Answer}
use Rattle.order_book.specs.Closed.{AreMeant, AreShared, journal_of}
use Rattle.order_book.specs.Pages.{ShardList, SessionList}
use Rattle.order_book.specs.declared.rule.BookSizes as book_sizes
use Rattle.order_book.proofs.Replayed.{means}
use Rattle.shard_core.specs.Needed.{may_need, may_need_some}
use Rattle.order_book.proofs.Shared.{shares}
use Rattle.shard_core.specs.Stock.{IsIdle, IsStock}
use Rattle.serve_model.specs.Demand.{session_row, demand_of}
use Rattle.serve_model.specs.Handed.{SessionRun, session_in, runs_in, IsLastSeat}
use Rattle.serve_model.specs.Lists.{AreLists}
use Rattle.serve_model.specs.Runs.{Run, IsRun, missed_by, parts_told, calls_pins, lists_told}
use Rattle.serve_model.specs.Seats.{IsSpare, AreSpentSeats}
use Rattle.serve_model.specs.Shown.{fragments_by_class, pins_found, missing_in_need, IsCounted}
use Rattle.serve_model.proofs.Counts.{sums_of, missed_whole, runs_none, none_in, weigh, counted_by, served_weight}
use Rattle.serve_model.proofs.Finals.{weigh_fragment}
use Rattle.serve_model.proofs.Held.{held_at, loose_there, held_is, held_most, placed_total, left_total}
use Rattle.serve_model.proofs.Pinned.{deed_pins, shards_most, lists_numbered, journal_pins, runs_weigh}
use Rattle.serve_model.proofs.Places.{each_at, get_map}
use Rattle.serve_model.proofs.Ranges.{sum_from-total, one_in, class_of_range}
use Rattle.serve_model.proofs.Served.{AreNamed, all_named, shards_long, sessions_long, told_at, answered}
use Rattle.serve_model.proofs.Served.{commands_same}

-- a run is that of one of the sessions
run_of : (all : List SessionRun) (k : ℕ) (run : Run) → slice_get (runs_in all) k ≡ Some run
    → (one : SessionRun) × (slice_get all k ≡ Some one) × (one.run ≡ run)
run_of [] k run is = absurd (let no : ⊥ = cc in no)
run_of (one ∷ all) zero run is = (one, refl, (let same : one.run ≡ run = cc in same))
run_of (one ∷ all) (suc k) run is = run_of all k run is

spare_holds : (weight : Holding → ℕ) (spare : List View) → Each IsSpare spare
    → total (λ (v : View). total weight v.holds) spare ≡ 0
spare_holds weight [] each = refl
spare_holds weight (v ∷ spare) each = omega (arith, ap (total weight) each.0.holds, spare_holds weight spare each.1)

spare_claims : (z : pool_sizes.Sizes) (class : Class) (spare : List View) → Each IsSpare spare
    → total (λ (v : View). buffers_in z class v.claims) spare ≡ 0
spare_claims z class [] each = refl
spare_claims z class (v ∷ spare) each =
    omega (arith, ap (buffers_in z class) each.0.idle.claims, spare_claims z class spare each.1)

module _ (books : book_sizes.BookSizes) (all : List SessionRun) (shards : List ShardList) (sessions : List SessionList)
    (lists : AreLists books (runs_in all) shards sessions) (z : pool_sizes.Sizes) (threshold : ℕ) (store last : View)
    (spare seats : List View) (stock : IsStock z shards store) (idle : IsIdle store)
    (spent : AreSpentSeats z threshold (runs_in all) seats) (is : IsLastSeat z store spare seats last) where
  abbrev runs : List Run
  runs = runs_in all

  abbrev ran : List Session
  ran = map session_in all

  abbrev commands : List (List Command)
  commands = all_commands ran

  abbrev journal : List (List Entry)
  journal = journal_of shards

  abbrev answers : List (Entry × Answer)
  answers = answers_of commands journal

  shards_meant : Each (λ (s : ShardList). AreMeant commands s.told) shards
  shards_meant =
      means commands books shards sessions lists.closed (shards_long books all shards sessions lists)
      (sessions_long books all shards sessions lists) (answered books all shards sessions lists).meant

  weights : (weight : Operation → Option Answer → ℕ)
      → total (λ (step : Step). weight step.1 (answer_at step.0 answers)) (served_steps 0 ran)
      ≡ total (λ (run : Run). total (weigh weight) (parts_told run.commands run.calls)) runs
  weights weight = served_weight weight answers 0 all (λ k run there.
      let e : 0 + k ≡ k = omega arith in
      let replies_are = (each_at IsRun runs k run lists.runs_are there).replies_are in
      let pair : Step → Operation × Option Answer = λ step. (step.1, answer_at step.0 answers) in
      ap (λ m. map pair (session_steps m 0 (take run.end.replies run.commands))) e
      ∙ ap (λ n. map pair (session_steps k 0 (take n run.commands))) replies_are
      ∙ (told_at books all shards sessions lists k run there).parts)

  hold_weight : (weight : Holding → ℕ) → total weight last.holds ≡ total weight store.holds
  hold_weight weight =
      let sums = sums_of z threshold runs seats spent in
      omega (
        arith,
        is.all.holds weight,
        total-append (λ (v : View). total weight v.holds) spare seats,
        spare_holds weight spare is.spare_is,
        sums.holds weight,
      )

  few : (b : ℕ) → total (λ (p : ℕ × ℕ). same p.0 b) stock.kept ≤ 1
  few b =
      omega (arith, is.loose b, hold_weight (loose_at b), loose_there store.holds stock.kept stock.holds b)

  held : (class : Class) → held_in (λ (weight : Holding → ℕ). total weight last.holds) (class_start z class)
      (count_of z class) ≡ fragments_by_class class commands journal
  held class =
      let kept = stock.kept in
      let first = class_start z class in
      let count = count_of z class in
      held_is (λ (weight : Holding → ℕ). total weight last.holds) (λ b. total (λ (p : ℕ × ℕ). same p.0 b) kept) first
      count (λ b. hold_weight (at b) ∙ held_at store.holds kept stock.holds b) few
      ∙ sum_from-total (λ (p : ℕ × ℕ) (b : ℕ). same p.0 b) kept first count
      ∙ placed_total z class kept stock.placed ∙ sym (total-map (weigh_fragment class) _ kept)
      ∙ stock.fragments (weigh_fragment class) ∙ left_total class commands shards lists.legal shards_meant

  demand_is : (class : Class) → total (λ (run : Run). session_row class run.commands) runs ≡ demand_of class commands
  demand_is class =
      sym (total-map (session_row class) (λ (run : Run). run.commands) runs)
      ∙ ap (total (session_row class)) (commands_same all)

  missing_are : missing_writes ran journal ≡ total (λ (run : Run). missed_by run.calls) runs
  missing_are =
      counted_by (λ (step : Step). is_none (answer_at step.0 answers)) (served_steps 0 ran)
      ∙ weights none_in ∙ runs_none none_in (λ operation may. refl) (λ operation answer. refl) runs lists.runs_are

  need_are : missing_in_need ran journal ≡ total (λ (run : Run). missed_by run.calls) runs
  need_are = weights may_need_some
      ∙ runs_none may_need_some (λ operation may. omega (arith, may.1)) (λ operation answer. refl) runs lists.runs_are

  -- the journal pins no more than the sessions' calls did
  pins_are : pins_found threshold ran journal
      ≤ total (λ (run : Run). calls_pins threshold run.commands run.calls) runs
  pins_are =
      let most = shards_most (deed_pins threshold ran) (lists_told books.shards 0 runs) shards (length runs)
      books.shards (lists_numbered books.shards 0 runs) lists.numbered
      (subst (λ n. Each (AreNamed n) shards) (sym lists.as_many) (all_named books shards sessions lists.closed))
      (subst (AreShared shards) lists.told (shares books shards sessions lists.closed)) in
      omega (
        arith,
        journal_pins threshold ran shards lists.legal shards_meant,
        most,
        runs_weigh threshold ran books.shards 0 runs (λ k run there.
            let one = run_of all k run there in (
              session_in one.0,
              get_map session_in all (0 + k) one.0 (subst (λ n. slice_get all n ≡ Some one.0) (omega arith) one.1),
              ap (λ (r : Run). r.end.replies) one.2
                  ∙ (each_at IsRun runs k run lists.runs_are there).replies_are,
            )),
      )

  pub counted : IsCounted z threshold ran journal (pool_end z last)
  counted =
      let sums = sums_of z threshold runs seats spent in
      let claimed : (class : Class) → buffers_in z class last.claims + sums.missed class ≤ demand_of class commands =
      λ class. omega (
        arith,
        is.all.claims (λ b. one_in z class b),
        ap (buffers_in z class) idle.claims,
        total-append (λ (v : View). buffers_in z class v.claims) spare seats,
        spare_claims z class spare is.spare_is,
        sums.claims class,
        demand_is class,
      ) in
      let seen : (b : ℕ) → b < buffers z → sums.missed (class_at z b) ≤ looked_at b last.looks = λ b below.
      omega (
        arith,
        is.all.looks b,
        total-append (λ (v : View). looked_at b v.looks) spare seats,
        sums.looks b below,
      ) in
      let whole = sums.whole in
      record {
        held_small = held Small;
        held_large = held Large;
        few = (
          held_most (λ (weight : Holding → ℕ). total weight last.holds) 0 z.small,
          held_most (λ (weight : Holding → ℕ). total weight last.holds) z.small z.large,
        );
        missed = whole.missed;
        missed_are = whole.missed_are ∙ sym missing_are;
        needed = λ class. omega (arith, whole.needed class, weights (may_need class));
        all_need = need_are ∙ sym missing_are;
        claims = λ class. omega (arith, claimed class, whole.within class);
        looks_small = λ b below.
            let small = class_of_range z Small b (omega arith) (omega arith) in
            omega (arith, whole.within Small, seen b (omega arith), ap sums.missed small);
        looks_large = λ b from below.
            let large = class_of_range z Large b from below in
            omega (arith, whole.within Large, seen b below, ap sums.missed large);
        exceeded = λ class some.
            let most = missed_whole z class (sums.missed class) last is.looked
            (omega (arith, some, whole.within class))
            (λ b below same. omega (arith, seen b below, ap sums.missed same)) in
            omega (arith, most, claimed class, some, whole.within class);
        returned = omega (
          arith,
          pins_are,
          sums.returns,
          is.all.returns,
          total-append (λ (v : View). v.returns) spare seats,
        );
        nearby = is.nearby;
      }
