-- One value of an array: a part that answered it, or null.
use Rattle.std.proofs.Common.{◌≡◌, ℕ, ◌+◌, ◌<◌, ◌≤◌, List, [], ◌∷◌, ◌++◌, Option, None, Some, false, length, refl, ap}
use Rattle.std.proofs.Common.{sym, ◌∙◌, subst, arith, append_assoc, append-nil, length-append}
use Rattle.view_sums.specs.Total.{total}
use Rattle.view_sums.proofs.Sums.{total-append}
use Rattle.pin_core.specs.declared.sizes.Sizes.{Sizes}
use Rattle.pinned_pool.specs.declared.view.View.{View}
use Rattle.flake_base.specs.declared.journal.Entry.{Entry}
use Rattle.flake_base.specs.declared.segment.Seg.{Seg}
use Rattle.flake_model.specs.Store as part
use Rattle.flake_model.specs.Store.{Operation, Answer, value, missing, done, length_is, did, too_long}
use Rattle.flake_model.specs.Reply.{item_of, null_text}
use Rattle.frag_value.specs.Taken as taken
use Rattle.shard_core.specs.Done.{is_ranged}
use Rattle.shard_core.specs.declared.answer.PartAnswer.{PartAnswer}
use Rattle.shard_core.specs.declared.answer.PartAnswer.TheVariants as say
use Rattle.reply_layout.specs.Pieces.{Piece, item_pieces}
use Rattle.reply_planner.specs.Laid.{pieces_in}
use Rattle.reply_planner.specs.Planned.{Planned, planned, paid_by, paid_begun, left_of, room_of}
use Rattle.shard_core.specs.Outcomes.{PartOutcome, answer_told}
use Rattle.shard_core.specs.Parts.{AnswersPart, Answered, pieces_told, segs_told}
use Rattle.shard_core.specs.Steps.{deed_told}
use Rattle.command_exec.specs.Alike.{Alike}
use Rattle.command_exec.specs.Lines.{item_for}
use Rattle.command_exec.specs.Passes.{PassView}
use Rattle.command_exec.specs.Parted.{RunsPart, AddsValue}
use Rattle.command_exec.proofs.AlikePieces.{alike_same, alike_then}
use Rattle.command_exec.proofs.Growing.{outcome_of}
use Rattle.command_exec.proofs.Replying.{pieces-append, item_alike, part_paid, nothing_stored}

-- a part gives the plan one piece at most, or null
one_piece_of : (z : Sizes) (operation : Operation) (answer : Answer) (found : List ℕ) (first : ℕ) (stored : List ℕ)
    (said : PartAnswer) (seat after : View)
    → AnswersPart z operation (Some (record { answer = answer; found = found; first = first; stored = stored })) said
    seat after
    → length (pieces_told operation (Some (record { answer = answer; found = found; first = first; stored = stored })))
    + length (item_for said) ≡ 1
one_piece_of z operation (value bytes) found first stored said seat after says = ap (λ s. 1 + length (item_for s)) says
one_piece_of z operation missing found first stored said seat after says = ap (λ s. 0 + length (item_for s)) says
one_piece_of z operation done found first stored said seat after says = ap (λ s. 0 + length (item_for s)) says
one_piece_of z operation (length_is n) found first stored said seat after says = ap (λ s. 0 + length (item_for s)) says
one_piece_of z operation (did happened) found first stored said seat after says = ap (λ s. 0 + length (item_for s)) says
one_piece_of z operation too_long found first stored said seat after says = ap (λ s. 0 + length (item_for s)) says

one_piece : (z : Sizes) (operation : Operation) (outcome : Option PartOutcome) (said : PartAnswer) (seat after : View)
    → AnswersPart z operation outcome said seat after
    → length (pieces_told operation outcome) + length (item_for said) ≡ 1
one_piece z operation None said seat after says = ap (λ s. 0 + length (item_for s)) says.1
one_piece z operation (Some d) said seat after says = one_piece_of z operation d.answer d.found d.first d.stored said
    seat after says

-- null is copied, and takes no credit
item_free : (t : ℕ) (said : PartAnswer) → total (paid_by t) (item_for said) ≡ 0
item_free t say.Bulk = refl
item_free t say.Null = refl
item_free t say.Done = refl
item_free t (say.Length n) = refl
item_free t (say.Did happened) = refl
item_free t say.TooLong = refl
item_free t (say.NoBuffer none) = refl

-- a GET stores nothing
pub got_nothing : (key : List ℕ) (outcome : Option PartOutcome) → Answered (part.get key) outcome
    → segs_told (part.get key) outcome ≡ []
got_nothing key None answered = refl
got_nothing key (Some d) answered = nothing_stored (part.get key) d (answered.stored_is refl)

-- and any other answer is null
pub null_item : (said : PartAnswer) → (said ≡ say.Bulk → ⊥) → item_for said ≡ taken.copied null_text ∷ []
null_item say.Bulk not = absurd (not refl)
null_item say.Null not = refl
null_item say.Done not = refl
null_item (say.Length n) not = refl
null_item (say.Did happened) not = refl
null_item say.TooLong not = refl
null_item (say.NoBuffer none) not = refl

module _ (z : Sizes) (shards : ℕ) (entry : Entry) (operation : Operation) (said : PartAnswer) (old new : PassView)
    (segs_before segs : List Seg) (p mid : Planned)
    (ran : RunsPart z shards entry operation said old new segs_before segs p mid) where
  pub adds_value : (q : Planned) → p.begun ≡ None → is_ranged operation ≡ false
      → q ≡ planned mid.base (mid.taken ++ item_for said) None → room_of mid ≤ room_of q + length (item_for said)
      → AddsValue z shards entry operation old new segs_before segs p q
  adds_value q none plain now room =
      let outcome = ran.told.outcome in
      let t = p.base.threshold in
      let more = pieces_told operation outcome ++ item_for said in
      let base : q.base.threshold ≡ t = ap (λ (r : Planned). r.base.threshold) now
      ∙ ap (λ (r : Planned). r.base.threshold) ran.plan in
      let taken_is : q.taken ≡ p.taken ++ more = ap (λ (r : Planned). r.taken) now
      ∙ ap (λ (l : List taken.TakenPiece). l ++ item_for said) ran.told.pieces
      ∙ append_assoc p.taken (pieces_told operation outcome) (item_for said) in
      let pieces : pieces_in q.taken ≡ pieces_in p.taken ++ pieces_in more = ap pieces_in taken_is
      ∙ pieces-append p.taken more in
      let items = item_pieces (item_of (answer_told outcome) ∷ []) (deed_told entry operation outcome ∷ []) in
      record {
        outcome = outcome;
        ran = outcome_of z shards entry operation said old new segs_before segs p mid ran;
        pieces = subst (λ (l : List Piece). Alike t l (pieces_in p.taken ++ items)) (sym pieces)
            (alike_then t (pieces_in p.taken) (pieces_in p.taken) (pieces_in more) items
            (alike_same t (pieces_in p.taken) (pieces_in p.taken) refl)
            (item_alike t z entry operation outcome said old.seat new.seat ran.told.says ran.told.reaches));
        paid = omega (
          arith,
          part_paid t operation outcome ran.told.reaches,
          ap (λ (l : List taken.TakenPiece). total (paid_by t) l) taken_is,
          total-append (paid_by t) p.taken more,
          total-append (paid_by t) (pieces_told operation outcome) (item_for said),
          item_free t said,
          ap (λ n. total (paid_by n) q.taken) base,
          ap (paid_begun t) none,
          ap (paid_begun q.base.threshold) (ap (λ (r : Planned). r.begun) now),
        );
        begun = ap (λ (r : Planned). r.begun) now;
        room = omega (
          arith,
          ran.room plain,
          room,
          one_piece z operation outcome said old.seat new.seat ran.told.says,
          ap (λ (l : List taken.TakenPiece). length l) ran.told.pieces,
          length-append p.taken (pieces_told operation outcome),
        );
      }

  -- a value that was answered is in the plan already
  pub bulk_plan : said ≡ say.Bulk → mid ≡ planned mid.base (mid.taken ++ item_for said) None
  bulk_plan is =
      let same : mid.taken ≡ mid.taken ++ item_for said = sym (append-nil mid.taken) ∙ ap (λ s. mid.taken ++ item_for s)
      (sym is) in
      let none : mid.begun ≡ None = ap (λ (r : Planned). r.begun) ran.plan in
      λ i. planned mid.base (same i) (none i)

  -- a GET leaves the stored segments
  pub segs_stay : (key : List ℕ) → operation ≡ part.get key → segs ≡ segs_before
  segs_stay key is =
      let none : segs_told operation ran.told.outcome ≡ [] =
      ap (λ o. segs_told o ran.told.outcome) is ∙ got_nothing key ran.told.outcome
      (subst (λ o. Answered o ran.told.outcome) is ran.told.answered) in
      ran.told.segs_are ∙ ap (λ (l : List Seg). segs_before ++ l) none ∙ append-nil segs_before

  -- null fits where there was room for a value
  pub null_fits : (said ≡ say.Bulk → ⊥) → 0 < room_of p → is_ranged operation ≡ false → 521 ≤ left_of mid
  null_fits not some plain =
      let room : 0 < room_of mid = omega (
        arith,
        some,
        ran.room plain,
        one_piece z operation ran.told.outcome said old.seat new.seat ran.told.says,
        ap (λ (l : List taken.TakenPiece). length l) (null_item said not),
        ap (λ (l : List taken.TakenPiece). length l) ran.told.pieces,
        length-append p.taken (pieces_told operation ran.told.outcome),
      ) in
      omega (arith, room)
