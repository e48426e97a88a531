-- What the seats of all sessions claimed, looked at and gave back, together.
use Rattle.std.proofs.Common.{◌≡◌, ℕ, suc, ◌+◌, ◌<◌, ◌≤◌, Bool, cond, List, [], ◌∷◌, Option}
use Rattle.std.proofs.Common.{Some, None, is_none, fold, if◌then◌else◌, length, map, take, slice_get, zip}
use Rattle.std.proofs.Common.{refl, ap, sym, ◌∙◌, arith}
use Rattle.std.specs.List.{count_by}
use Rattle.view_sums.specs.Total.{total, same, Each}
use Rattle.view_sums.proofs.Sums.{total-append, total-map}
use Rattle.flake_base.specs.declared.journal.Entry.{Entry}
use Rattle.pin_core.specs.Buffers.{buffers}
use Rattle.pin_core.specs.Holding.{Holding}
use Rattle.pin_core.specs.declared.class.Class.{Class}
use Rattle.pin_core.specs.declared.class.Class.TheVariants.{Small, Large}
use Rattle.pin_core.specs.declared.sizes.Sizes as pool_sizes
use Rattle.pinned_pool.specs.Claims.{class_start, count_of}
use Rattle.pinned_pool.specs.Classes.{class_at, buffers_in}
use Rattle.pinned_pool.specs.Ends.{LooksClaimed}
use Rattle.pinned_pool.specs.Views.{among, looked_at}
use Rattle.pinned_pool.specs.declared.view.View.{View}
use Rattle.flake_model.specs.Command.{Command, parts}
use Rattle.flake_model.specs.Journal.{Step, answer_at, session_steps}
use Rattle.flake_model.specs.Run.{served_steps}
use Rattle.flake_model.specs.Store.{Operation, Answer}
use Rattle.shard_core.specs.Outcomes.{Outcomes, MayMiss, AreOutcomes, answers_told, missed_in}
use Rattle.serve_model.specs.Demand.{session_row}
use Rattle.serve_model.specs.Handed.{SessionRun, session_in, runs_in}
use Rattle.serve_model.specs.Misses.{calls_needing, WholeMisses}
use Rattle.serve_model.specs.Runs.{Run, IsRun, AreCalls, parts_told, missed_by, calls_pins}
use Rattle.serve_model.specs.Seats.{AreSpentSeats}
use Rattle.serve_model.proofs.Ranges.{sum_from, sum_from-most, sum_from-total, class_of_range, range_below, range_most}

-- what all sessions' seats have together
pub record HasSums (z : pool_sizes.Sizes) (threshold : ℕ) (runs : List Run) (seats : List View) : Type 0 where
  pub missed : Class → ℕ
  pub missed_are : missed Small + missed Large
      ≡ total (λ (run : Run). missed_by run.calls + missed_in run.behind) runs
  pub whole : WholeMisses (total (λ (run : Run). missed_by run.calls) runs) missed
      (λ (class : Class). total (λ (run : Run). calls_needing class run.commands run.calls) runs)
  pub claims : (class : Class) → total (λ (v : View). buffers_in z class v.claims) seats + missed class
      ≤ total (λ (run : Run). session_row class run.commands) runs
  pub looks : (b : ℕ) → b < buffers z → missed (class_at z b) ≤ total (λ (v : View). looked_at b v.looks) seats
  pub returns : total (λ (run : Run). calls_pins threshold run.commands run.calls) runs
      ≤ total (λ (v : View). v.returns) seats
  pub holds : (weight : Holding → ℕ) → total (λ (v : View). total weight v.holds) seats ≡ 0

pub sums_of : (z : pool_sizes.Sizes) (threshold : ℕ) (runs : List Run) (seats : List View)
    → AreSpentSeats z threshold runs seats → HasSums z threshold runs seats
sums_of z threshold [] [] spent = record {
  missed = λ class. 0;
  missed_are = refl;
  whole = record {
    missed = λ class. 0;
    missed_are = refl;
    within = λ class. omega arith;
    needed = λ class. omega arith;
  };
  claims = λ class. omega arith;
  looks = λ b below. omega arith;
  returns = omega arith;
  holds = λ weight. refl;
}
sums_of z threshold [] (seat ∷ seats) spent = absurd spent
sums_of z threshold (run ∷ runs) [] spent = absurd spent
sums_of z threshold (run ∷ runs) (seat ∷ seats) spent =
    let rest = sums_of z threshold runs seats spent.1 in
    let own = spent.0.sought.sought in
    let whole = spent.0.sought.whole in
    record {
      missed = λ class. own.missed class + rest.missed class;
      missed_are = omega (arith, own.missed_are, rest.missed_are);
      whole = record {
        missed = λ class. whole.missed class + rest.whole.missed class;
        missed_are = omega (arith, whole.missed_are, rest.whole.missed_are);
        within = λ class. omega (arith, whole.within class, rest.whole.within class);
        needed = λ class. omega (arith, whole.needed class, rest.whole.needed class);
      };
      claims = λ class. omega (arith, own.claims class, rest.claims class);
      looks = λ b below. omega (arith, own.looks b below, rest.looks b below);
      returns = omega (arith, spent.0.returned, rest.returns);
      holds = λ weight. omega (arith, ap (total weight) spent.0.holds, rest.holds weight);
    }

-- Where each buffer of a class was claimed there are at least as many claims as the class has buffers.
pub all_claimed : (z : pool_sizes.Sizes) (class : Class) (claims : List ℕ)
    → ((b : ℕ) → b < buffers z → class_at z b ≡ class → 0 < among b claims)
    → count_of z class ≤ buffers_in z class claims
all_claimed z class claims each =
    let most = sum_from-most (λ b. among b claims) (class_start z class) (count_of z class)
    (λ b from to. each b (range_below z class b from to) (class_of_range z class b from to)) in
    let turned = sum_from-total same claims (class_start z class) (count_of z class) in
    omega (arith, most, turned, fewer claims)
  where
    fewer : (cs : List ℕ)
        → total (λ c. sum_from (same c) (class_start z class) (count_of z class)) cs ≤ buffers_in z class cs
    fewer [] = omega arith
    fewer (c ∷ cs) = omega (arith, range_most z class c, fewer cs)

-- a class of which some buffer was missed was claimed whole
pub missed_whole : (z : pool_sizes.Sizes) (class : Class) (missed : ℕ) (last : View) → LooksClaimed last → 0 < missed
    → ((b : ℕ) → b < buffers z → class_at z b ≡ class → missed ≤ looked_at b last.looks)
    → count_of z class ≤ buffers_in z class last.claims
missed_whole z class missed last looked some looks =
    all_claimed z class last.claims (λ b below is. looked b (omega (arith, looks b below is)))

-- 1 for a part that has no answer
abbrev pub none_in : Operation → Option Answer → ℕ
none_in operation answer = if is_none answer then 1 else 0

abbrev pub weigh : (Operation → Option Answer → ℕ) → Operation × Option Answer → ℕ
weigh weight p = weight p.0 p.1

-- a weight that is 1 for each part that found no buffer, and 0 for all others, counts those
module _ (weight : Operation → Option Answer → ℕ)
    (one : (operation : Operation) → MayMiss operation → weight operation None ≡ 1)
    (zero : (operation : Operation) (answer : Answer) → weight operation (Some answer) ≡ 0) where
  zip_none : (operations : List Operation) (outcomes : Outcomes) → AreOutcomes operations outcomes
      → length outcomes ≡ length operations
      → total (weigh weight) (zip operations (answers_told outcomes)) ≡ missed_in outcomes
  zip_none [] [] are long = refl
  zip_none [] (outcome ∷ outcomes) are long = absurd are
  zip_none (operation ∷ operations) [] are long = absurd (let no : ⊥ = omega arith in no)
  zip_none (operation ∷ operations) (None ∷ outcomes) are long =
      omega (arith, one operation are.0, zip_none operations outcomes are.1 (omega arith))
  zip_none (operation ∷ operations) (Some done ∷ outcomes) are long =
      omega (arith, zero operation done.answer, zip_none operations outcomes are (omega arith))

  told_none : (commands : List Command) (calls : List Outcomes) → AreCalls commands calls
      → total (weigh weight) (parts_told commands calls) ≡ missed_by calls
  told_none commands [] are = refl
  told_none [] (outcomes ∷ calls) are = absurd are
  told_none (command ∷ commands) (outcomes ∷ calls) are = omega (
    arith,
    total-append (weigh weight) (zip (parts command) (answers_told outcomes)) (parts_told commands calls),
    zip_none (parts command) outcomes are.0 are.1,
    told_none commands calls are.2,
  )

  pub runs_none : (runs : List Run) → Each IsRun runs
      → total (λ (run : Run). total (weigh weight) (parts_told run.commands run.calls)) runs
      ≡ total (λ (run : Run). missed_by run.calls) runs
  runs_none [] each = refl
  runs_none (run ∷ runs) each =
      omega (arith, told_none run.commands run.calls each.0.calls_are, runs_none runs each.1)

-- a count is a total
folded : {A : Type 0} (weight : A → ℕ) (n : ℕ) (xs : List A) → fold (λ a x. a + weight x) n xs ≡ n + total weight xs
folded weight n [] = omega arith
folded weight n (x ∷ xs) = omega (arith, folded weight (n + weight x) xs)

pub counted_by : {A : Type 0} (test : A → Bool) (xs : List A)
    → count_by test xs ≡ total (λ x. if test x then 1 else 0) xs
counted_by test xs = omega (arith, folded (λ x. cond (test x) 1 0) 0 xs)

-- a weight of all served parts is that of what the sessions were told
pub served_weight : (weight : Operation → Option Answer → ℕ) (answers : List (Entry × Answer)) (n : ℕ)
    (all : List SessionRun)
    → ((k : ℕ) (run : Run) → slice_get (runs_in all) k ≡ Some run
    → map (λ (step : Step). (step.1, answer_at step.0 answers))
    (session_steps (n + k) 0 (take run.end.replies run.commands)) ≡ parts_told run.commands run.calls)
    → total (λ (step : Step). weight step.1 (answer_at step.0 answers)) (served_steps n (map session_in all))
    ≡ total (λ (run : Run). total (weigh weight) (parts_told run.commands run.calls)) (runs_in all)
served_weight weight answers n [] each = refl
served_weight weight answers n (ran ∷ all) each =
    let run = ran.run in
    let steps = session_steps n 0 (take run.end.replies run.commands) in
    let pair : Step → Operation × Option Answer = λ step. (step.1, answer_at step.0 answers) in
    let e : n ≡ n + 0 = omega arith in
    let here : map pair steps ≡ parts_told run.commands run.calls =
    ap (λ m. map pair (session_steps m 0 (take run.end.replies run.commands))) e ∙ each 0 run refl in
    let first : total (λ (step : Step). weight step.1 (answer_at step.0 answers)) steps
    ≡ total (weigh weight) (parts_told run.commands run.calls) =
    sym (total-map (weigh weight) pair steps) ∙ ap (total (weigh weight)) here in
    let rest = served_weight weight answers (n + 1) all (λ k later is.
    let d : n + 1 + k ≡ n + suc k = omega arith in
    ap (λ m. map pair (session_steps m 0 (take later.end.replies later.commands))) d ∙ each (suc k) later is) in
    omega (
      arith,
      total-append (λ (step : Step). weight step.1 (answer_at step.0 answers)) steps
          (served_steps (n + 1) (map session_in all)),
      first,
      rest,
    )
