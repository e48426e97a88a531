-- The parts of an array, or of a count, as far as they were run.
use Rattle.std.proofs.Common.{◌≡◌, ℕ, ◌+◌, ◌<◌, ◌≤◌, List, [], ◌∷◌, ◌++◌, Option, None, Some, length, map, slice_get}
use Rattle.std.proofs.Common.{refl, ap, sym, ◌∙◌, subst, arith, append_assoc, length-append}
use Rattle.std.specs.Option.{option_map, option_map_or}
use Rattle.std.proofs.lemmas.List.{map-append, length-map}
use Rattle.pin_core.specs.declared.sizes.Sizes.{Sizes}
use Rattle.flake_base.specs.declared.journal.Entry.{Entry}
use Rattle.flake_base.specs.declared.segment.Seg.{Seg}
use Rattle.flake_model.specs.Resp.{array_head}
use Rattle.flake_model.specs.Store as part
use Rattle.flake_model.specs.Store.{Operation, Answer}
use Rattle.flake_model.specs.Deed.{Deed}
use Rattle.flake_model.specs.Command.{Command, mget, parts}
use Rattle.flake_model.specs.Reply.{item_of, null_text}
use Rattle.frag_value.specs.Taken as taken
use Rattle.reply_layout.specs.Need.{need_of, values_need}
use Rattle.reply_layout.specs.Pieces.{Piece, plain, bulk_pieces, item_pieces, pieces_of}
use Rattle.reply_planner.specs.Laid.{pieces_in}
use Rattle.reply_planner.specs.Planned.{Planned, planned, paid_in, left_of, slots_of, room_of}
use Rattle.shard_core.specs.Outcomes.{PartOutcome, Outcomes, entry_at, AreOutcomes, call_deeds, answer_told}
use Rattle.shard_core.specs.Outcomes.{answers_told}
use Rattle.shard_core.specs.CallDemand.{part_pins, call_pins}
use Rattle.shard_core.specs.Steps.{deed_told}
use Rattle.shard_core.proofs.Growing.{more_deeds}
use Rattle.shard_core.proofs.CallDeeds.{as_many, deed_answers}
use Rattle.command_exec.specs.Alike.{Alike}
use Rattle.command_exec.specs.Kinds.{AsksValues, part_at}
use Rattle.command_exec.specs.Lines.{number_line}
use Rattle.command_exec.specs.Passes.{PassView}
use Rattle.command_exec.specs.Running.{IsStarted, HasRun, HasReply}
use Rattle.command_exec.specs.Parted.{AddsValue}
use Rattle.command_exec.proofs.AlikePieces.{alike_same, alike_trans, alike_then}
use Rattle.command_exec.proofs.Asked.{part_there}
use Rattle.command_exec.proofs.Growing.{run_none, run_more}
use Rattle.command_exec.proofs.Started.{values_room}

-- what an array has of its first outcomes
abbrev pub values_pieces : ℕ → ℕ → Command → Outcomes → List Piece
values_pieces session call command outcomes =
    plain (array_head (length (parts command)))
    ∷ item_pieces (map item_of (answers_told outcomes)) (call_deeds session call 0 (parts command) outcomes)

-- so many values are in the plan
pub record ValuesSoFar (z : Sizes) (shards call : ℕ) (command : Command) (j : ℕ) (old new : PassView)
    (segs_before segs : List Seg) (p q : Planned) : Type 0 where
  pub outcomes : Outcomes
  pub count : length outcomes ≡ j
  pub ran : HasRun z shards call (parts command) outcomes old new segs_before segs
  pub pieces : Alike p.base.threshold (pieces_in q.taken) (values_pieces old.list.number call command outcomes)
  pub paid : call_pins p.base.threshold (parts command) outcomes ≤ paid_in q
  pub begun : q.begun ≡ None
  pub base : q.base ≡ p.base
  pub room : length (parts command) ≤ j + room_of q

-- what one part more pins
pub pins_more : (t : ℕ) (operations : List Operation) (outcomes : Outcomes) (operation : Operation)
    (outcome : Option PartOutcome) → slice_get operations (length outcomes) ≡ Some operation
    → call_pins t operations (outcomes ++ outcome ∷ [])
    ≡ call_pins t operations outcomes + part_pins t operation outcome
pins_more t [] outcomes operation outcome is = absurd (let no : ⊥ = cc in no)
pins_more t (first ∷ operations) [] operation outcome is =
    let same : first ≡ operation = cc in
    omega (arith, ap (λ o. part_pins t o outcome) same)
pins_more t (first ∷ operations) (o ∷ outcomes) operation outcome is =
    omega (arith, pins_more t operations outcomes operation outcome is)

items-more : (items : List (Option (List ℕ))) (deeds : List (Option Deed)) (item : Option (List ℕ)) (deed : Option Deed)
    → length items ≡ length deeds
    → item_pieces (items ++ item ∷ []) (deeds ++ deed ∷ []) ≡ item_pieces items deeds ++ item_pieces (item ∷ [])
    (deed ∷ [])
items-more [] [] item deed long = refl
items-more [] (d ∷ deeds) item deed long = absurd (omega (arith, long))
items-more (i ∷ items) [] item deed long = absurd (omega (arith, long))
items-more (None ∷ items) (d ∷ deeds) item deed long = ap (λ (l : List Piece). plain null_text ∷ l)
    (items-more items deeds item deed (omega (arith, long)))
items-more (Some bytes ∷ items) (d ∷ deeds) item deed long =
    ap (λ (l : List Piece). bulk_pieces d bytes ++ l) (items-more items deeds item deed (omega (arith, long)))
    ∙ sym (append_assoc (bulk_pieces d bytes) (item_pieces items deeds) (item_pieces (item ∷ []) (deed ∷ [])))

pub answers-more : (outcomes : Outcomes) (outcome : Option PartOutcome) → answers_told (outcomes ++ outcome ∷ [])
    ≡ answers_told outcomes ++ answer_told outcome ∷ []
answers-more outcomes outcome = map-append answer_told outcomes (outcome ∷ [])

-- an array with its head alone
pub no_values : (z : Sizes) (shards call : ℕ) (command : Command) (old : PassView) (segs : List Seg) (p q : Planned)
    → p.taken ≡ [] → q ≡ planned p.base (p.taken ++ taken.copied (number_line 42 (length (parts command))) ∷ []) None
    → length (parts command) ≤ room_of q
    → ValuesSoFar z shards call command 0 old old segs segs p q
no_values z shards call command old segs p q none now room = record {
  outcomes = [];
  count = refl;
  ran = run_none z shards call (parts command) old segs;
  pieces = alike_same p.base.threshold (pieces_in q.taken) (values_pieces old.list.number call command [])
      (ap (λ (r : Planned). pieces_in r.taken) now
      ∙ ap (λ (l : List taken.TakenPiece). pieces_in
      (l ++ taken.copied (number_line 42 (length (parts command))) ∷ [])) none);
  paid = omega arith;
  begun = ap (λ (r : Planned). r.begun) now;
  base = ap (λ (r : Planned). r.base) now;
  room = omega (arith, room);
}

-- one value more
pub value_more : (z : Sizes) (shards : ℕ) (command : Command) (j : ℕ) (at : Entry) (old mid new : PassView)
    (first second third : List Seg) (p q r : Planned) → j < length (parts command) → at.part ≡ j → at.session
    ≡ old.list.number → r.base ≡ q.base
    → ValuesSoFar z shards at.call command j old mid first second p q
    → AddsValue z shards at (part_at command at.part) mid new second third q r
    → ValuesSoFar z shards at.call command (j + 1) old new first third p r
value_more z shards command j at old mid new first second third p q r near part own base so adds =
    let operations = parts command in
    let operation = part_at command at.part in
    let outcomes = so.outcomes in
    let outcome = adds.outcome in
    let t = p.base.threshold in
    let place : at.part ≡ length outcomes = part ∙ sym so.count in
    let there : slice_get operations (length outcomes) ≡ Some operation =
    subst (λ k. slice_get operations k ≡ Some operation) place
    (part_there command at.part (omega (arith, near, part))) in
    let entry_is : at ≡ entry_at old.list.number at.call (length outcomes) = λ i. entry_at (own i) at.call (place i) in
    let zero_more : entry_at old.list.number at.call (0 + length outcomes) ≡ at = ap (entry_at old.list.number at.call)
    (omega arith) ∙ sym entry_is in
    let deeds = call_deeds old.list.number at.call 0 operations outcomes in
    let items = map item_of (answers_told outcomes) in
    let item = item_of (answer_told outcome) in
    let deed = deed_told at operation outcome in
    let are = so.ran.running.are in
    let long : length items ≡ length deeds =
    length-map (answers_told outcomes) item_of ∙ length-map outcomes answer_told
    ∙ sym (as_many old.list.number at.call 0 operations outcomes are) in
    let now_items : map item_of (answers_told (outcomes ++ outcome ∷ [])) ≡ items ++ item ∷ [] =
    ap (map item_of) (answers-more outcomes outcome) ∙ map-append item_of (answers_told outcomes)
    (answer_told outcome ∷ []) in
    let now_deeds : call_deeds old.list.number at.call 0 operations (outcomes ++ outcome ∷ []) ≡ deeds ++ deed ∷ [] =
    more_deeds old.list.number at.call 0 operations outcomes operation outcome there
    ∙ ap (λ (e : Entry). deeds ++ deed_told e operation outcome ∷ []) zero_more in
    let head : List Piece = plain (array_head (length operations)) ∷ [] in
    let now : values_pieces old.list.number at.call command (outcomes ++ outcome ∷ [])
    ≡ values_pieces old.list.number at.call command outcomes ++ item_pieces (item ∷ []) (deed ∷ []) =
    (λ i. head ++ item_pieces (now_items i) (now_deeds i)) ∙ ap (λ (l : List Piece). head ++ l)
    (items-more items deeds item deed long) in
    let last = item_pieces (item ∷ []) (deed ∷ []) in
    let at_t : Alike t (pieces_in r.taken) (pieces_in q.taken ++ last) =
    subst (λ n. Alike n (pieces_in r.taken) (pieces_in q.taken ++ last)) (ap (λ b. b.threshold) so.base) adds.pieces
    in
    record {
      outcomes = outcomes ++ outcome ∷ [];
      count = omega (arith, length-append outcomes (outcome ∷ []), so.count);
      ran = run_more z shards at.call operations outcomes at operation outcome old mid new first second third there
          entry_is so.ran adds.ran;
      pieces = subst (Alike t (pieces_in r.taken)) (sym now)
          (alike_trans t (pieces_in r.taken) (pieces_in q.taken ++ last)
          (values_pieces old.list.number at.call command outcomes ++ last) at_t
          (alike_then t (pieces_in q.taken) (values_pieces old.list.number at.call command outcomes) last last so.pieces
          (alike_same t last last refl)));
      paid = omega (
        arith,
        so.paid,
        adds.paid,
        ap (λ b. part_pins b.threshold operation outcome) so.base,
        pins_more t operations outcomes operation outcome there,
      );
      begun = adds.begun;
      base = base ∙ so.base;
      room = omega (arith, so.room, adds.room);
    }

-- the items of a reply, by its deeds
one_answer : (deed : Option Deed) → option_map_or (λ (d : Deed). Some d.answer) deed None
    ≡ option_map (λ (d : Deed). d.answer) deed
one_answer None = refl
one_answer (Some deed) = refl

same_answers : (deeds : List (Option Deed)) → map (λ found. option_map_or (λ (d : Deed). Some d.answer) found None)
    deeds ≡ map (option_map (λ (d : Deed). d.answer)) deeds
same_answers [] = refl
same_answers (deed ∷ deeds) = λ i. one_answer deed i ∷ same_answers deeds i

pub answers_from : (session call : ℕ) (operations : List Operation) (outcomes : Outcomes)
    → AreOutcomes operations outcomes
    → map (λ found. option_map_or (λ (d : Deed). Some d.answer) found None)
    (call_deeds session call 0 operations outcomes) ≡ answers_told outcomes
answers_from session call operations outcomes are = same_answers (call_deeds session call 0 operations outcomes)
    ∙ deed_answers session call 0 operations outcomes are

array_is : (command : Command) → AsksValues command → (deeds : List (Option Deed)) (answers : List (Option Answer))
    → map (λ found. option_map_or (λ (d : Deed). Some d.answer) found None) deeds ≡ answers → length answers
    ≡ length (parts command)
    → pieces_of command deeds ≡ plain (array_head (length (parts command))) ∷ item_pieces (map item_of answers) deeds
array_is (mget keys) asks deeds answers are whole =
    ap (λ a. plain (array_head (length (map item_of a))) ∷ item_pieces (map item_of a) deeds) are
    ∙ ap (λ n. plain (array_head n) ∷ item_pieces (map item_of answers) deeds) (length-map answers item_of ∙ whole)
array_is command asks deeds answers are whole = absurd asks

-- all values
pub all_values : (z : Sizes) (shards call : ℕ) (command : Command) (j : ℕ) (old new : PassView)
    (first second : List Seg) (p q : Planned) → AsksValues command → j ≡ length (parts command)
    → ValuesSoFar z shards call command j old new first second p q
    → HasReply z shards call command old new first second q
all_values z shards call command j old new first second p q asks end so =
    let outcomes = so.outcomes in
    let operations = parts command in
    let whole : length outcomes ≡ length operations = so.count ∙ end in
    let deeds = call_deeds old.list.number call 0 operations outcomes in
    let is = array_is command asks deeds (answers_told outcomes)
    (answers_from old.list.number call operations outcomes so.ran.running.are)
    (length-map outcomes answer_told ∙ whole) in
    record {
      outcomes = outcomes;
      ran = so.ran;
      whole = whole;
      pieces = subst (λ n. Alike n (pieces_in q.taken) (pieces_of command deeds)) (ap (λ b. b.threshold) (sym so.base))
          (subst (Alike p.base.threshold (pieces_in q.taken)) (sym is) so.pieces);
      paid = omega (arith, so.paid, ap (λ b. call_pins b.threshold operations outcomes) so.base);
      begun = so.begun;
    }

-- room for all values behind the head
values_fit : (command : Command) → AsksValues command → need_of command ≡ values_need (length (parts command))
    (length (array_head (length (parts command))))
values_fit (mget keys) asks = ap (λ n. values_need n (length (array_head n))) (sym (length-map keys part.get))
values_fit command asks = absurd asks

pub head_room : (command : Command) (p q : Planned) → AsksValues command → IsStarted (need_of command) p
    → left_of p ≡ left_of q + length (number_line 42 (length (parts command))) → slots_of q ≡ slots_of p
    → length (parts command) ≤ room_of q
head_room command p q asks is left slots =
    let n = length (parts command) in
    let started : IsStarted (values_need n (length (array_head n))) p = subst (λ need. IsStarted need p)
    (values_fit command asks) is in
    values_room n (length (array_head n)) p q started (omega arith) left slots
