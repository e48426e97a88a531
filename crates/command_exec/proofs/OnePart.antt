-- A command with one part, whose answer is the reply.
use Rattle.std.proofs.Common.{◌≡◌, ℕ, ◌≤◌, List, [], ◌∷◌, ◌++◌, Option, None, Some, length, slice_get, refl, ap, sym}
use Rattle.std.proofs.Common.{◌∙◌, subst, arith}
use Rattle.view_sums.specs.Total.{total}
use Rattle.view_sums.proofs.Sums.{total-append}
use Rattle.pin_core.specs.declared.sizes.Sizes.{Sizes}
use Rattle.pinned_pool.specs.declared.view.View.{View}
use Rattle.flake_base.specs.declared.journal.Entry.{Entry}
use Rattle.flake_base.specs.declared.segment.Seg.{Seg}
use Rattle.flake_model.specs.Store.{Operation, Answer, value, missing, done, length_is, did, too_long}
use Rattle.flake_model.specs.Command.{Command, parts}
use Rattle.flake_model.specs.Deed.{Deed}
use Rattle.frag_value.specs.Taken as taken
use Rattle.shard_core.specs.declared.answer.PartAnswer.{PartAnswer}
use Rattle.reply_layout.specs.Need.{need_of}
use Rattle.reply_layout.specs.Pieces.{pieces_of}
use Rattle.reply_planner.specs.Laid.{pieces_in}
use Rattle.reply_planner.specs.Planned.{Planned, planned, paid_by, left_of}
use Rattle.shard_core.specs.Outcomes.{PartOutcome, entry_at, call_deeds, answer_told, answers_told}
use Rattle.shard_core.specs.CallDemand.{part_pins, call_pins}
use Rattle.shard_core.specs.Parts.{AnswersPart, pieces_told}
use Rattle.shard_core.specs.Steps.{deed_told}
use Rattle.shard_core.proofs.Growing.{more_deeds}
use Rattle.command_exec.specs.Alike.{Alike}
use Rattle.command_exec.specs.Kinds.{HasOnePart, part_at}
use Rattle.command_exec.specs.Lines.{line_for, HasLine}
use Rattle.command_exec.specs.Passes.{PassView}
use Rattle.command_exec.specs.Running.{IsStarted, HasReply, LacksMemory}
use Rattle.command_exec.specs.Parted.{RunsPart, MissesPart}
use Rattle.command_exec.proofs.Asked.{part_there, one_part}
use Rattle.command_exec.proofs.Growing.{run_none, run_more, run_missed, outcome_of}
use Rattle.command_exec.proofs.Replying.{one_alike, part_paid}
use Rattle.command_exec.proofs.Started.{line_fits}

-- an answer that makes a line has given no bytes
unanswered : (z : Sizes) (operation : Operation) (answer : Answer) (found : List ℕ) (first : ℕ) (stored : List ℕ)
    (said : PartAnswer) (seat after : View)
    → AnswersPart z operation (Some (record { answer = answer; found = found; first = first; stored = stored })) said
    seat after → HasLine said
    → pieces_told operation (Some (record { answer = answer; found = found; first = first; stored = stored })) ≡ []
unanswered z operation (value bytes) found first stored said seat after says line = absurd (subst HasLine says line)
unanswered z operation missing found first stored said seat after says line = refl
unanswered z operation done found first stored said seat after says line = refl
unanswered z operation (length_is n) found first stored said seat after says line = refl
unanswered z operation (did happened) found first stored said seat after says line = refl
unanswered z operation too_long found first stored said seat after says line = refl

pub untaken : (z : Sizes) (operation : Operation) (outcome : Option PartOutcome) (said : PartAnswer) (seat after : View)
    → AnswersPart z operation outcome said seat after → HasLine said → pieces_told operation outcome ≡ []
untaken z operation None said seat after says line = refl
untaken z operation (Some d) said seat after says line = unanswered z operation d.answer d.found d.first d.stored said
    seat after says line

module _ (z : Sizes) (shards : ℕ) (command : Command) (at : Entry) (said : PartAnswer) (old new : PassView)
    (segs_before segs : List Seg) (p mid : Planned) (one : HasOnePart command) (first : at.part ≡ 0)
    (started : IsStarted (need_of command) p)
    (ran : RunsPart z shards at (part_at command at.part) said old new segs_before segs p mid) where
  -- its line fits
  pub line_left : HasLine said → 64 ≤ left_of mid
  line_left line =
      let none = untaken z (part_at command at.part) ran.told.outcome said old.seat new.seat ran.told.says line in
      line_fits command mid (record {
        taken = ran.told.pieces ∙ (λ i. started.taken i ++ none i);
        begun = ap (λ (q : Planned). q.begun) ran.plan;
        descriptors = ap (λ (q : Planned). q.base.descriptors) ran.plan ∙ started.descriptors;
        stage = ap (λ (q : Planned). length q.base.stage) ran.plan ∙ started.stage;
        threshold = subst (λ n. n ≤ 512) (sym (ap (λ (q : Planned). q.base.threshold) ran.plan)) started.threshold;
      })

  pub one_reply : (q : Planned) → at.session ≡ old.list.number → q ≡ planned mid.base (mid.taken ++ line_for said) None
      → HasReply z shards at.call command old new segs_before segs q
  one_reply q own now =
      let operation = part_at command at.part in
      let outcome = ran.told.outcome in
      let operations = parts command in
      let there : slice_get operations 0 ≡ Some operation = subst (λ j. slice_get operations j ≡ Some operation) first
      (part_there command at.part (omega (arith, first, one_part command one))) in
      let entry_is : at ≡ entry_at old.list.number at.call 0 = λ i. entry_at (own i) at.call (first i) in
      let t = p.base.threshold in
      let base : q.base.threshold ≡ t = ap (λ (r : Planned). r.base.threshold) now
      ∙ ap (λ (r : Planned). r.base.threshold) ran.plan in
      let taken_is : q.taken ≡ pieces_told operation outcome ++ line_for said = ap (λ (r : Planned). r.taken) now
      ∙ ap (λ (l : List taken.TakenPiece). l ++ line_for said)
      (ran.told.pieces ∙ ap (λ (l : List taken.TakenPiece). l ++ pieces_told operation outcome) started.taken) in
      let deeds_are : call_deeds old.list.number at.call 0 operations (outcome ∷ []) ≡ deed_told at operation outcome
      ∷ [] = more_deeds old.list.number at.call 0 operations [] operation outcome there
      ∙ ap (λ (e : Entry). deed_told e operation outcome ∷ []) (sym entry_is) in
      let alike = one_alike t z command at operation outcome said old.seat new.seat one ran.told.says ran.told.reaches
      in
      record {
        outcomes = outcome ∷ [];
        ran = run_more z shards at.call operations [] at operation outcome old old new segs_before segs_before segs
            there entry_is (run_none z shards at.call operations old segs_before)
            (outcome_of z shards at operation said old new segs_before segs p mid ran);
        whole = sym (one_part command one);
        pieces = subst (λ n. Alike n (pieces_in q.taken)
            (pieces_of command (call_deeds old.list.number at.call 0 operations (outcome ∷ [])))) (sym base)
            (subst (λ (l : List taken.TakenPiece). Alike t (pieces_in l)
            (pieces_of command (call_deeds old.list.number at.call 0 operations (outcome ∷ [])))) (sym taken_is)
            (subst (λ (l : List (Option Deed)). Alike t (pieces_in (pieces_told operation outcome ++ line_for said))
            (pieces_of command l)) (sym deeds_are) alike));
        paid = omega (
          arith,
          one_paid operations there outcome,
          part_paid t operation outcome ran.told.reaches,
          ap (λ n. call_pins n operations (outcome ∷ [])) base,
          ap (λ (l : List taken.TakenPiece). total (paid_by t) l) taken_is,
          total-append (paid_by t) (pieces_told operation outcome) (line_for said),
          ap (λ n. total (paid_by n) q.taken) base,
        );
        begun = ap (λ (r : Planned). r.begun) now;
      } where
        one_paid : (operations : List Operation) → slice_get operations 0 ≡ Some (part_at command at.part)
            → (outcome : Option PartOutcome)
            → call_pins p.base.threshold operations (outcome ∷ [])
            ≤ part_pins p.base.threshold (part_at command at.part) outcome
        one_paid [] is outcome = omega arith
        one_paid (operation ∷ operations) is outcome =
            let same : operation ≡ part_at command at.part = cc in
            omega (arith, ap (λ o. part_pins p.base.threshold o outcome) same)

pub one_missed : (z : Sizes) (shards : ℕ) (command : Command) (at : Entry) (old new : PassView) (segs : List Seg)
    → HasOnePart command → at.part ≡ 0 → MissesPart z (part_at command at.part) old new
    → LacksMemory z shards at.call command old new
one_missed z shards command at old new segs one first missed =
    let operation = part_at command at.part in
    let there : slice_get (parts command) 0 ≡ Some operation = subst (λ j. slice_get (parts command) j ≡ Some operation)
    first (part_there command at.part (omega (arith, first, one_part command one))) in
    run_missed z shards at.call command [] operation old old new segs segs there
    (run_none z shards at.call (parts command) old segs) missed
