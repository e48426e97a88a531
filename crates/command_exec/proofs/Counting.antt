-- Keys that are counted.
use Rattle.std.proofs.Common.{◌≡◌, ℕ, ◌+◌, ◌<◌, ◌≤◌, Bool, true, false, cond, List, [], ◌∷◌, ◌++◌, Option, None, Some}
use Rattle.std.proofs.Common.{length, map, slice_get, count_by, refl, ap, sym, ◌∙◌, subst, arith, append-nil}
use Rattle.std.proofs.Common.{length-append}
use Rattle.std.specs.Prelude.{is_some}
use Rattle.std.specs.Option.{option_map_or}
use Rattle.std.proofs.lemmas.List.Sums.{sum_by_push}
use Rattle.pin_core.specs.declared.sizes.Sizes.{Sizes}
use Rattle.pinned_pool.specs.declared.view.View.{View}
use Rattle.flake_base.specs.declared.journal.Entry.{Entry}
use Rattle.flake_base.specs.declared.segment.Seg.{Seg}
use Rattle.flake_model.specs.Store as part
use Rattle.flake_model.specs.Store.{Operation, did}
use Rattle.flake_model.specs.Deed.{Deed}
use Rattle.flake_model.specs.Command.{Command, del, exists, parts}
use Rattle.flake_model.specs.Reply.{is_yes}
use Rattle.frag_value.specs.Taken as taken
use Rattle.shard_core.specs.Answers.{answer_shown}
use Rattle.shard_core.specs.Done.{is_taking, is_ranged}
use Rattle.shard_core.specs.Pieces as answered
use Rattle.shard_core.specs.Pieces.{is_over}
use Rattle.shard_core.specs.declared.answer.PartAnswer.{PartAnswer}
use Rattle.shard_core.specs.declared.answer.PartAnswer.TheVariants as say
use Rattle.reply_layout.specs.Pieces.{plain, pieces_of}
use Rattle.reply_planner.specs.Laid.{pieces_in}
use Rattle.reply_planner.specs.Planned.{Planned, planned}
use Rattle.shard_core.specs.CallDemand.{pins_by, part_pins, call_pins}
use Rattle.shard_core.specs.Outcomes.{PartOutcome, Outcomes, entry_at, IsOutcome, call_deeds, answer_told, answers_told}
use Rattle.shard_core.specs.Parts.{AnswersPart, Answered, pieces_told, segs_told}
use Rattle.command_exec.specs.Kinds.{Counts, part_at}
use Rattle.command_exec.specs.Lines.{number_line}
use Rattle.command_exec.specs.Passes.{PassView}
use Rattle.command_exec.specs.Running.{HasRun, HasReply}
use Rattle.command_exec.specs.Parted.{RunsPart, CountsKey}
use Rattle.command_exec.proofs.AlikePieces.{alike_same}
use Rattle.command_exec.proofs.Asked.{IsCounting, part_there}
use Rattle.command_exec.proofs.Growing.{run_none, run_more, outcome_of}
use Rattle.command_exec.proofs.Replying.{nothing_stored}
use Rattle.command_exec.proofs.SoFar.{pins_more, answers_from, answers-more}

pub counting_untaken : (operation : Operation) → IsCounting operation → is_taking operation ≡ false
counting_untaken (part.del key) counting = refl
counting_untaken (part.exists key) counting = refl
counting_untaken operation counting = absurd counting

pub counting_plain : (operation : Operation) → IsCounting operation → is_ranged operation ≡ false
counting_plain (part.del key) counting = refl
counting_plain (part.exists key) counting = refl
counting_plain operation counting = absurd counting

-- whether the key was there, as a number
abbrev one_at : Bool → ℕ
one_at b = cond b 1 0

abbrev pub yes_of : PartAnswer → ℕ
yes_of (say.Did happened) = one_at happened
yes_of answer = 0

pub no_yes : (said : PartAnswer) → ((happened : Bool) → said ≡ say.Did happened → ⊥) → 0 ≡ yes_of said
no_yes say.Bulk not = refl
no_yes say.Null not = refl
no_yes say.Done not = refl
no_yes (say.Length n) not = refl
no_yes (say.Did happened) not = absurd (not happened refl)
no_yes say.TooLong not = refl
no_yes (say.NoBuffer none) not = refl

-- what a part that is counted did
record HasCounted (operation : Operation) (outcome : Option PartOutcome) (said : PartAnswer) : Type 0 where
  count : yes_of said ≡ one_at (is_yes (answer_told outcome))
  pieces : pieces_told operation outcome ≡ []
  segs : segs_told operation outcome ≡ []
  free : (t : ℕ) → part_pins t operation outcome ≡ 0

same_either : (n : ℕ) (b : Bool) → cond b n n ≡ n
same_either n true = refl
same_either n false = refl

by_answer : (operation : Operation) (d : PartOutcome) (said : PartAnswer) (happened : Bool)
    → said ≡ answer_shown d.answer → d.answer ≡ did happened → d.stored ≡ [] → HasCounted operation (Some d) said
by_answer operation d said happened says is none = record {
  count = ap yes_of (says ∙ ap answer_shown is) ∙ sym (ap (λ a. one_at (is_yes (Some a))) is);
  pieces = ap (λ a. answered.answer_pieces operation a d.found d.first) is;
  segs = nothing_stored operation d none;
  free = λ t. ap (λ a. pins_by t operation a d.first) is ∙ same_either 0 (is_over operation);
}

has_counted : (z : Sizes) (operation : Operation) (outcome : Option PartOutcome) (said : PartAnswer) (seat after : View)
    → IsCounting operation → IsOutcome operation outcome → AnswersPart z operation outcome said seat after
    → Answered operation outcome
    → HasCounted operation outcome said
has_counted z (part.del key) None said seat after counting is says answers = absurd is.0
has_counted z (part.del key) (Some d) said seat after counting is says answers = by_answer (part.del key) d said
    (is_some answers.had) says answers.answer_is (answers.stored_is refl)
has_counted z (part.exists key) None said seat after counting is says answers = absurd is.0
has_counted z (part.exists key) (Some d) said seat after counting is says answers = by_answer (part.exists key) d said
    (is_some answers.had) says answers.answer_is (answers.stored_is refl)
has_counted z operation outcome said seat after counting is says answers = absurd counting

module _ (z : Sizes) (shards : ℕ) (entry : Entry) (operation : Operation) (said : PartAnswer) (old new : PassView)
    (segs_before segs : List Seg) (p mid : Planned) (counting : IsCounting operation)
    (ran : RunsPart z shards entry operation said old new segs_before segs p mid) where
  counted : HasCounted operation ran.told.outcome said
  counted = has_counted z operation ran.told.outcome said old.seat new.seat counting ran.told.run.is ran.told.says
      ran.told.answered

  pub counts_key : (n : ℕ) → p.begun ≡ None → n ≡ yes_of said
      → CountsKey z shards entry operation n old new segs_before segs p mid
  counts_key n none is =
      let taken_is : mid.taken ≡ p.taken = ran.told.pieces
      ∙ ap (λ (l : List taken.TakenPiece). p.taken ++ l) counted.pieces ∙ append-nil p.taken in
      record {
        outcome = ran.told.outcome;
        ran = outcome_of z shards entry operation said old new segs_before segs p mid ran;
        count = is ∙ counted.count;
        free = counted.free;
        plan = ran.plan ∙ (λ i. planned p.base (taken_is i) (sym none i));
      }

  pub count_stays : segs ≡ segs_before
  count_stays = ran.told.segs_are ∙ ap (λ (l : List Seg). segs_before ++ l) counted.segs ∙ append-nil segs_before

-- so many keys were looked at
pub record CountSoFar (z : Sizes) (shards call : ℕ) (command : Command) (j there : ℕ) (old new : PassView)
    (segs_before segs : List Seg) (p q : Planned) : Type 0 where
  pub outcomes : Outcomes
  pub count : length outcomes ≡ j
  pub ran : HasRun z shards call (parts command) outcomes old new segs_before segs
  pub there_is : there ≡ count_by is_yes (answers_told outcomes)
  pub free : (t : ℕ) → call_pins t (parts command) outcomes ≡ 0
  pub few : there ≤ j
  pub plan : q ≡ p

pub no_keys : (z : Sizes) (shards call : ℕ) (command : Command) (old : PassView) (segs : List Seg) (p : Planned)
    → CountSoFar z shards call command 0 0 old old segs segs p p
no_keys z shards call command old segs p = record {
  outcomes = [];
  count = refl;
  ran = run_none z shards call (parts command) old segs;
  there_is = refl;
  free = λ t. refl;
  few = omega arith;
  plan = refl;
}

pub one_most : (b : Bool) → one_at b ≤ 1
one_most true = omega arith
one_most false = omega arith

pub key_more : (z : Sizes) (shards : ℕ) (command : Command) (j there n : ℕ) (at : Entry) (old mid new : PassView)
    (first second third : List Seg) (p q r : Planned) → j < length (parts command) → at.part ≡ j → at.session
    ≡ old.list.number
    → CountSoFar z shards at.call command j there old mid first second p q
    → CountsKey z shards at (part_at command at.part) n mid new second third q r
    → CountSoFar z shards at.call command (j + 1) (there + n) old new first third p r
key_more z shards command j there n at old mid new first second third p q r near part own so counts =
    let operations = parts command in
    let operation = part_at command at.part in
    let outcomes = so.outcomes in
    let outcome = counts.outcome in
    let place : at.part ≡ length outcomes = part ∙ sym so.count in
    let is : slice_get operations (length outcomes) ≡ Some operation =
    subst (λ k. slice_get operations k ≡ Some operation) place
    (part_there command at.part (omega (arith, near, part))) in
    let entry_is : at ≡ entry_at old.list.number at.call (length outcomes) = λ i. entry_at (own i) at.call (place i) in
    record {
      outcomes = outcomes ++ outcome ∷ [];
      count = omega (arith, length-append outcomes (outcome ∷ []), so.count);
      ran = run_more z shards at.call operations outcomes at operation outcome old mid new first second third is
          entry_is so.ran counts.ran;
      there_is = (λ i. so.there_is i + counts.count i)
          ∙ sym (ap (count_by is_yes) (answers-more outcomes outcome) ∙ sum_by_push (λ a. one_at (is_yes a))
          (answers_told outcomes) (answer_told outcome));
      free = λ t. omega (arith, so.free t, counts.free t, pins_more t operations outcomes operation outcome is);
      few = omega (arith, so.few, counts.count, one_most (is_yes (answer_told outcome)));
      plan = counts.plan ∙ so.plan;
    }

count_is : (command : Command) → Counts command → (deeds : List (Option Deed)) (outcomes : Outcomes)
    → map (λ found. option_map_or (λ (d : Deed). Some d.answer) found None) deeds ≡ answers_told outcomes
    → pieces_of command deeds ≡ plain (number_line 58 (count_by is_yes (answers_told outcomes))) ∷ []
count_is (del keys) counts deeds outcomes are = ap (λ a. plain (number_line 58 (count_by is_yes a)) ∷ []) are
count_is (exists keys) counts deeds outcomes are = ap (λ a. plain (number_line 58 (count_by is_yes a)) ∷ []) are
count_is command counts deeds outcomes are = absurd counts

pub all_counted : (z : Sizes) (shards call : ℕ) (command : Command) (j there : ℕ) (old new : PassView)
    (first second : List Seg) (p q r : Planned) → Counts command → j ≡ length (parts command) → p.taken ≡ []
    → CountSoFar z shards call command j there old new first second p q
    → r ≡ planned q.base (q.taken ++ taken.copied (number_line 58 there) ∷ []) None
    → HasReply z shards call command old new first second r
all_counted z shards call command j there old new first second p q r counts end none so now =
    let outcomes = so.outcomes in
    let operations = parts command in
    let deeds = call_deeds old.list.number call 0 operations outcomes in
    let is = count_is command counts deeds outcomes
    (answers_from old.list.number call operations outcomes so.ran.running.are) in
    let q_none : q.taken ≡ [] = ap (λ (s : Planned). s.taken) so.plan ∙ none in
    let line : pieces_in r.taken ≡ pieces_of command deeds =
    ap (λ (s : Planned). pieces_in s.taken) now
    ∙ ap (λ (l : List taken.TakenPiece). pieces_in (l ++ taken.copied (number_line 58 there) ∷ [])) q_none
    ∙ ap (λ n. plain (number_line 58 n) ∷ []) so.there_is
    ∙ sym is in
    record {
      outcomes = outcomes;
      ran = so.ran;
      whole = so.count ∙ end;
      pieces = alike_same r.base.threshold (pieces_in r.taken) (pieces_of command deeds) line;
      paid = omega (arith, so.free r.base.threshold);
      begun = ap (λ (s : Planned). s.begun) now;
    }
