-- What a plan has of one part: the pieces of its reply, or of an item of an array.
use Rattle.std.proofs.Common.{◌≡◌, ℕ, ◌≤◌, Bool, true, false, if◌then◌else◌, List, [], ◌∷◌, ◌++◌, Option, Some, None}
use Rattle.std.proofs.Common.{refl, ap, sym, ◌∙◌, subst}
use Rattle.std.proofs.Common.{arith, append_assoc, append-nil}
use Rattle.std.specs.Option.{option_map_or}
use Rattle.view_sums.specs.Total.{total}
use Rattle.pin_core.specs.declared.sizes.Sizes.{Sizes}
use Rattle.pinned_pool.specs.declared.view.View.{View}
use Rattle.flake_base.specs.declared.journal.Entry.{Entry}
use Rattle.flake_base.specs.declared.reply.ErrorKind.{ErrorKind}
use Rattle.flake_base.specs.declared.reply.ErrorKind.TheVariants.{ValueTooLong, NoBuffer}
use Rattle.flake_model.specs.Resp.{crlf}
use Rattle.flake_model.specs.Store as part
use Rattle.flake_model.specs.Store.{Operation, Answer, value, missing, done, length_is, did, too_long}
use Rattle.flake_model.specs.Deed.{Deed}
use Rattle.flake_model.specs.Command.{Command, ping, ping_with, mget, del, exists, fault}
use Rattle.flake_model.specs.Reply.{error, reply_to, reply_text, error_text, null_text, item_of}
use Rattle.frag_value.specs.Taken.{Extent, copied, whole}
use Rattle.frag_value.specs.Taken as taken
use Rattle.shard_core.specs.Answers.{answer_shown}
use Rattle.shard_core.specs.Pieces as answered
use Rattle.shard_core.specs.Pieces.{pieces_at, extent_of, is_over, segs_at, size_stored}
use Rattle.shard_core.specs.declared.answer.PartAnswer.{PartAnswer}
use Rattle.reply_layout.specs.Pieces.{Piece, plain, bulk_pieces, item_pieces, reply_pieces, pieces_of}
use Rattle.reply_planner.specs.Laid.{begun_pieces, pieces_in}
use Rattle.reply_planner.specs.Planned.{paid_by}
use Rattle.shard_core.specs.Outcomes.{PartOutcome, deed_of, answer_told}
use Rattle.shard_core.specs.CallDemand.{value_stays, part_pins}
use Rattle.shard_core.specs.Parts.{AnswersPart, Reach, Reaches, pieces_told, segs_told}
use Rattle.shard_core.specs.Steps.{deed_told}
use Rattle.command_exec.specs.Alike.{Alike}
use Rattle.command_exec.specs.Kinds.{HasOnePart}
use Rattle.command_exec.specs.Lines.{line_for, item_for, error_line}
use Rattle.command_exec.proofs.AlikePieces.{alike_same, alike_trans, alike_then, alike_joined}
use Rattle.command_exec.proofs.ValueRuns.{bulk_alike, pieces_paid}

pub pieces-append : (ps qs : List taken.TakenPiece) → pieces_in (ps ++ qs) ≡ pieces_in ps ++ pieces_in qs
pieces-append [] qs = refl
pieces-append (copied bytes ∷ ps) qs = ap (λ (l : List Piece). plain bytes ∷ l) (pieces-append ps qs)
pieces-append (whole b ∷ ps) qs =
    ap (λ (l : List Piece). begun_pieces b ++ plain crlf ∷ l) (pieces-append ps qs)
    ∙ sym (append_assoc (begun_pieces b) (plain crlf ∷ pieces_in ps) (pieces_in qs))

pub error_alike : (t : ℕ) (kind : ErrorKind) → Alike t (pieces_in (error_line kind))
    (plain (reply_text (error kind)) ∷ [])
error_alike t kind =
    let mark : List ℕ = 45 ∷ [] in
    let end : List Piece = plain crlf ∷ [] in
    let two : List Piece = plain mark ∷ plain (error_text kind) ∷ [] in
    let one : List Piece = plain (mark ++ error_text kind) ∷ [] in
    alike_trans t (two ++ end) (one ++ end) (plain ((mark ++ error_text kind) ++ crlf) ∷ [])
    (alike_then t two one end end (alike_joined t mark (error_text kind)) (alike_same t end end refl))
    (alike_joined t (mark ++ error_text kind) crlf)

abbrev done_of : Answer → List ℕ → ℕ → List ℕ → PartOutcome
done_of answer found first stored = record { answer = answer; found = found; first = first; stored = stored }

-- a reply of one part that was done
answer_alike : (t : ℕ) (entry : Entry) (operation : Operation) (answer : Answer) (found : List ℕ) (first : ℕ)
    (stored : List ℕ) → Reach answer first found
    → Alike t (pieces_in (answered.answer_pieces operation answer found first ++ line_for (answer_shown answer)))
    (reply_pieces (reply_to (Some answer)) (Some (deed_of entry operation (done_of answer found first stored)) ∷ []))
answer_alike t entry operation (value bytes) found first stored reach =
    bulk_alike t (extent_of operation) (is_over operation)
    (deed_of entry operation (done_of (value bytes) found first stored)) bytes reach
answer_alike t entry operation missing found first stored reach = alike_same t _ _ refl
answer_alike t entry operation done found first stored reach = alike_same t _ _ refl
answer_alike t entry operation (length_is n) found first stored reach = alike_same t _ _ refl
answer_alike t entry operation (did happened) found first stored reach = alike_same t _ _ refl
answer_alike t entry operation too_long found first stored reach = error_alike t ValueTooLong

-- a reply of one part
pub part_alike : (t : ℕ) (z : Sizes) (entry : Entry) (operation : Operation) (outcome : Option PartOutcome)
    (said : PartAnswer) (seat after : View) → AnswersPart z operation outcome said seat after → Reaches outcome
    → Alike t (pieces_in (pieces_told operation outcome ++ line_for said))
    (reply_pieces (reply_to (answer_told outcome)) (deed_told entry operation outcome ∷ []))
part_alike t z entry operation None said seat after says reach =
    subst (λ (s : PartAnswer). Alike t (pieces_in (line_for s)) (plain (reply_text (error NoBuffer)) ∷ [])) (sym says.1)
    (error_alike t NoBuffer)
part_alike t z entry operation (Some d) said seat after says reach =
    subst (λ (s : PartAnswer). Alike t (pieces_in (pieces_told operation (Some d) ++ line_for s))
    (reply_pieces (reply_to (Some d.answer)) (Some (deed_of entry operation d) ∷ []))) (sym says)
    (answer_alike t entry operation d.answer d.found d.first d.stored reach)

-- the deed of a part has its answer
pub answer_in : (entry : Entry) (operation : Operation) (outcome : Option PartOutcome)
    → option_map_or (λ (deed : Deed). Some deed.answer) (deed_told entry operation outcome) None ≡ answer_told outcome
answer_in entry operation None = refl
answer_in entry operation (Some d) = refl

one_pieces : (command : Command) → HasOnePart command → (deed : Option Deed) → pieces_of command (deed ∷ [])
    ≡ reply_pieces (reply_to (option_map_or (λ (d : Deed). Some d.answer) deed None)) (deed ∷ [])
one_pieces ping one deed = absurd one
one_pieces (ping_with bytes) one deed = absurd one
one_pieces (mget keys) one deed = absurd one
one_pieces (del keys) one deed = absurd one
one_pieces (exists keys) one deed = absurd one
one_pieces (fault kind) one deed = absurd one
one_pieces command one deed = refl

-- the reply of a command with one part
pub one_alike : (t : ℕ) (z : Sizes) (command : Command) (entry : Entry) (operation : Operation)
    (outcome : Option PartOutcome) (said : PartAnswer) (seat after : View) → HasOnePart command
    → AnswersPart z operation outcome said seat after → Reaches outcome
    → Alike t (pieces_in (pieces_told operation outcome ++ line_for said))
    (pieces_of command (deed_told entry operation outcome ∷ []))
one_alike t z command entry operation outcome said seat after one says reach =
    let deeds = deed_told entry operation outcome ∷ [] in
    let same : pieces_of command deeds ≡ reply_pieces (reply_to (answer_told outcome)) deeds = one_pieces command one
    (deed_told entry operation outcome) ∙ ap (λ a. reply_pieces (reply_to a) deeds)
    (answer_in entry operation outcome) in
    subst (Alike t (pieces_in (pieces_told operation outcome ++ line_for said))) (sym same)
    (part_alike t z entry operation outcome said seat after says reach)

-- an item of an array
item_alike_of : (t : ℕ) (entry : Entry) (operation : Operation) (answer : Answer) (found : List ℕ) (first : ℕ)
    (stored : List ℕ) → Reach answer first found
    → Alike t (pieces_in (answered.answer_pieces operation answer found first ++ item_for (answer_shown answer)))
    (item_pieces (item_of (Some answer) ∷ []) (Some (deed_of entry operation (done_of answer found first stored)) ∷ []))
item_alike_of t entry operation (value bytes) found first stored reach =
    let deed = deed_of entry operation (done_of (value bytes) found first stored) in
    let pieces = bulk_pieces (Some deed) bytes in
    alike_trans t (pieces_in (answered.answer_pieces operation (value bytes) found first)) pieces (pieces ++ [])
    (bulk_alike t (extent_of operation) (is_over operation) deed bytes reach)
    (alike_same t pieces (pieces ++ []) (sym (append-nil pieces)))
item_alike_of t entry operation missing found first stored reach = alike_same t _ _ refl
item_alike_of t entry operation done found first stored reach = alike_same t _ _ refl
item_alike_of t entry operation (length_is n) found first stored reach = alike_same t _ _ refl
item_alike_of t entry operation (did happened) found first stored reach = alike_same t _ _ refl
item_alike_of t entry operation too_long found first stored reach = alike_same t _ _ refl

pub item_alike : (t : ℕ) (z : Sizes) (entry : Entry) (operation : Operation) (outcome : Option PartOutcome)
    (said : PartAnswer) (seat after : View) → AnswersPart z operation outcome said seat after → Reaches outcome
    → Alike t (pieces_in (pieces_told operation outcome ++ item_for said))
    (item_pieces (item_of (answer_told outcome) ∷ []) (deed_told entry operation outcome ∷ []))
item_alike t z entry operation None said seat after says reach =
    subst (λ (s : PartAnswer). Alike t (pieces_in (item_for s)) (plain null_text ∷ [])) (sym says.1)
    (alike_same t _ _ refl)
item_alike t z entry operation (Some d) said seat after says reach =
    subst (λ (s : PartAnswer). Alike t (pieces_in (pieces_told operation (Some d) ++ item_for s))
    (item_pieces (item_of (Some d.answer) ∷ []) (Some (deed_of entry operation d) ∷ []))) (sym says)
    (item_alike_of t entry operation d.answer d.found d.first d.stored reach)

-- what a plan pays of an answer
answer_paid : (t : ℕ) (extent : Extent) (over : Bool) (answer : Answer) (found : List ℕ) (first : ℕ)
    → Reach answer first found
    → (if over then 0 else value_stays t answer first) ≤ total (paid_by t) (pieces_at extent over answer found first)
answer_paid t extent true answer found first reach = omega arith
answer_paid t extent false (value bytes) found first reach = omega (arith, pieces_paid t found bytes first reach)
answer_paid t extent false missing found first reach = omega arith
answer_paid t extent false done found first reach = omega arith
answer_paid t extent false (length_is n) found first reach = omega arith
answer_paid t extent false (did happened) found first reach = omega arith
answer_paid t extent false too_long found first reach = omega arith

pub part_paid : (t : ℕ) (operation : Operation) (outcome : Option PartOutcome) → Reaches outcome
    → part_pins t operation outcome ≤ total (paid_by t) (pieces_told operation outcome)
part_paid t operation None reach = omega arith
part_paid t operation (Some d) reach =
    answer_paid t (extent_of operation) (is_over operation) d.answer d.found d.first reach

-- parts that store nothing
pub nothing_stored : (operation : Operation) (d : PartOutcome) → d.stored ≡ [] → segs_told operation (Some d) ≡ []
nothing_stored operation d none = ap (λ stored. segs_at stored (size_stored operation d.answer)) none
