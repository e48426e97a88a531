-- A reply whose last put failed was not sent.
use Rattle.std.proofs.Common.{◌≡◌, ◌≢◌, ℕ, zero, suc, ◌+◌, ◌<◌, ◌≤◌, Bool, true, false, List, [], ◌∷◌, Option}
use Rattle.std.proofs.Common.{Some, None, length, slice_get, inl, refl, ap, sym, ◌∙◌, subst, arith, lit≤}
use Rattle.std.specs.Prelude.{codes, take, unwrap_or, slice_index, if◌then◌else◌}
use Rattle.std.specs.Fmt.{digits}
use Rattle.std.specs.FinMap as finite
use Rattle.std.specs.List.{range_with_len, flat_map}
use Rattle.flake_base.specs.declared.session.SessionEnd.{SessionEnd}
use Rattle.flake_base.specs.declared.session.End.TheVariants.{Left}
use Rattle.flake_base.specs.Told.{WireTold}
use Rattle.flake_model.specs.Command.{Command}
use Rattle.flake_model.specs.Deed.{Deed, Places}
use Rattle.flake_model.specs.Wire.{faults_told}
use Rattle.any_wire.specs.Sent.{WasSentByPuts}
use Rattle.reply_planner.specs.Stages.{StagesAreApart}
use Rattle.schedule_text.specs.declared.line.Line.TheVariants.{Call, Gather}
use Rattle.transcript_model.specs.Lines.{LineEvent, sent, dropped}
use Rattle.transcript_model.specs.Standing.{at_first}
use Rattle.transcript_model.specs.Terms.{Terms}
use Rattle.any_wire.specs.Texts.{WireGrew}
use Rattle.transcript_model.specs.Sessions.{events_of, texts_from, texts_of, IsRightSession}
use Rattle.transcript_model.specs.Transcript.{DrivenRun, deeds_in, terms_of, AreSent, AreAllApart, transcript_places}
use Rattle.transcript_model.specs.Transcript.{IsTranscript, CutReplyIsDropped}
use Rattle.transcript_model.specs.Whole.{cut_session, cut_before, cut_after, cut_lines, CutIsDropped, wire_of}
use Rattle.transcript_model.specs.Whole.{stage_from}
use Rattle.transcript_model.proofs.Judge.{all_ok, last_of, all_right, ok, after, post_ok, post_after, fits, none_fits}
use Rattle.transcript_model.proofs.Judge.{are_segs, is_seg, all_buffers, is_buffer, is_small, is_large, gather_ok}
use Rattle.transcript_model.proofs.Whole.{nothing, not_there, stage_rises, stage_small}

-- what was put behind the whole replies wasn't empty
some_left : (failed : Bool) (found : Option (List ℕ)) → ((if failed then unwrap_or found [] else []) ≡ [] → ⊥)
    → (text : List ℕ) × (found ≡ Some text)
some_left false found some = absurd (some refl)
some_left true None some = absurd (some refl)
some_left true (Some text) some = (text, refl)

is_below : (texts : List (List ℕ)) (k : ℕ) (text : List ℕ) → slice_get texts k ≡ Some text → k < length texts
is_below [] k text is = absurd (let no : ⊥ = cc in no)
is_below (first ∷ texts) zero text is = omega arith
is_below (first ∷ texts) (suc k) text is = omega (arith, is_below texts k text is)

as_many_texts : (terms : Terms) (call : ℕ) (commands : List Command)
    → length (texts_from terms call commands) ≡ length commands
as_many_texts terms call [] = refl
as_many_texts terms call (command ∷ commands) = ap suc (as_many_texts terms (suc call) commands)

no_more : (n : ℕ) (commands : List Command) → length (take n commands) ≤ n
no_more zero commands = omega arith
no_more (suc n) [] = omega arith
no_more (suc n) (command ∷ commands) = omega (arith, no_more n commands)

-- in whichever wire a put failed, one of the replies of its session is left
one_left : (terms : Terms) (failed : Bool) (whole : ℕ) (old new : WireTold)
    → WireGrew WasSentByPuts failed whole (texts_of terms) old new → new.put_faults ≢ old.put_faults
    → whole < terms.end.replies
one_left terms failed whole old new grew differs =
    let kept : grew.middle.put_faults ≡ old.put_faults = ap (λ (p : ℕ × ℕ). p.0) grew.before.sent.faults in
    let left = some_left failed (slice_get (texts_of terms) whole)
    (λ none. differs (grew.behind.spares none ∙ kept)) in
    omega (
      arith,
      is_below (texts_of terms) whole left.0 left.1,
      as_many_texts terms 0 (take terms.end.replies terms.commands),
      no_more terms.end.replies terms.commands,
    )

pub cut_dropped : CutReplyIsDropped
cut_dropped run olds news schedule lines t session end old new end_is old_is new_is differs =
    one_left (terms_of run (flat_map (λ deeds. deeds) (deeds_in run lines)) session end []
    (slice_index t.told_by.wholes session)) end.failed (slice_index t.told_by.wholes session) old new
    (t.told_by.sent session end old new end_is old_is new_is) differs

abbrev cut_end : SessionEnd
cut_end = record { end = Left; taken = 14; replies = 1; failed = true }

abbrev cut_terms : Terms
cut_terms = terms_of cut_session [] 0 cut_end (stage_from 0) 0

passes : all_ok cut_terms at_first (events_of 0 (cut_lines (dropped 0 7))) ≡ true
unfolding digits all_ok ok after post_ok post_after fits none_fits are_segs is_seg all_buffers is_buffer is_small
    is_large gather_ok
passes = refl

cut_told : IsRightSession cut_terms (events_of 0 (cut_lines (dropped 0 7)))
unfolding last_of after post_after
cut_told = record {
  last = _;
  right = all_right cut_terms at_first (events_of 0 (cut_lines (dropped 0 7))) passes;
  served = refl;
  ended = refl;
  sent = lit≤ tt;
}

cut_grew : WireGrew WasSentByPuts true 0 (texts_of (terms_of cut_session [] 0 cut_end [] 0)) (wire_of [] 0)
    (wire_of (codes "+PONG\r\n") 1)
unfolding digits
cut_grew = record {
  middle = wire_of [] 0;
  before = record { sent = record { put = (_, refl, refl); faults = refl }; spares = λ none. refl };
  behind = record {
    sent = record { put = (codes "+PONG\r\n", ([], refl), refl); faults = inl (lit≤ tt, refl) };
    spares = λ none. absurd (let no : ⊥ = cc in no);
  };
}

cut_sent : AreSent WasSentByPuts cut_session (λ session. []) (0 ∷ []) cut_before cut_after
cut_sent zero end old new end_is old_is new_is =
    let same : cut_end ≡ end = cc in
    let at_old : wire_of [] 0 ≡ old = cc in
    let at_new : wire_of (codes "+PONG\r\n") 1 ≡ new = cc in
    subst (λ (p : SessionEnd × WireTold × WireTold). WireGrew WasSentByPuts p.0.failed 0
    (texts_of (terms_of cut_session [] 0 p.0 [] 0)) p.1 p.2) (λ i. (same i, at_old i, at_new i)) cut_grew
cut_sent (suc session) end old new end_is old_is new_is = absurd (past session end_is) where
  past : (n : ℕ) → slice_get [] n ≡ Some end → ⊥
  past n is = cc

cut_right : (session : ℕ) (end : SessionEnd) (stage : List ℕ) → slice_get (cut_end ∷ []) session ≡ Some end
    → slice_get (stage_from 0 ∷ []) session ≡ Some stage
    → IsRightSession (terms_of cut_session [] session end stage (slice_index (0 ∷ []) session))
    (events_of session (cut_lines (dropped 0 7)))
cut_right zero end stage end_is stage_is =
    let same : cut_end ≡ end = cc in
    let same_stage : stage_from 0 ≡ stage = cc in
    subst (λ e. IsRightSession (terms_of cut_session [] 0 e stage 0) (events_of 0 (cut_lines (dropped 0 7)))) same
    (subst (λ addresses. IsRightSession (terms_of cut_session [] 0 cut_end addresses 0)
    (events_of 0 (cut_lines (dropped 0 7)))) same_stage cut_told)
cut_right (suc session) end stage end_is stage_is = absurd (past session end_is) where
  past : (n : ℕ) → slice_get [] n ≡ Some end → ⊥
  past n is = cc

no_places : AreAllApart (transcript_places cut_session (cut_lines (dropped 0 7)))
no_places zero shard' places places' is is' key key' number number' found at at' =
    not_there places key number found is at
no_places (suc shard) shard' places places' is is' key key' number number' found at at' =
    absurd (past shard is) where
      past : (n : ℕ) → slice_get [] n ≡ Some places → ⊥
      past n is = cc

one_stage : (stage : List ℕ) → StagesAreApart (stage ∷ [])
one_stage stage zero zero k l n one other first second here there = refl
one_stage stage zero (suc j) k l n one other first second here there = absurd (past j second) where
  past : (m : ℕ) → slice_get [] m ≡ Some other → ⊥
  past m is = cc
one_stage stage (suc i) j k l n one other first second here there = absurd (past i first) where
  past : (m : ℕ) → slice_get [] m ≡ Some one → ⊥
  past m is = cc

pub cut_is_dropped : CutIsDropped
cut_is_dropped = record {
  right = record {
    told_by = record {
      answers = refl;
      stages = stage_from 0 ∷ [];
      stages_are = (
        record {
          buffers = range_with_len 0 128;
          as_many = refl;
          ascending = stage_rises 0 128;
          small = stage_small 0 128 (lit≤ tt);
          addresses = refl;
        },
        tt,
      );
      one_each = refl;
      stages_apart = one_stage (stage_from 0);
      wholes = 0 ∷ [];
      told = cut_right;
      wires = (lit≤ tt, refl);
      sent = cut_sent;
    };
    legal = (tt, tt);
    apart = no_places;
  };
  wrong = never;
}
  where
    first_of : (stages : List (List ℕ)) → length stages ≡ 1 → (stage : List ℕ) × (slice_get stages 0 ≡ Some stage)
    first_of [] one = absurd (omega (arith, one))
    first_of (stage ∷ stages) one = (stage, refl)

    never : IsTranscript cut_session cut_before cut_after (Call 0 ∷ Gather 0 ∷ []) (cut_lines (sent 0 7)) → ⊥
    never t =
        let stage = first_of t.told_by.stages t.told_by.one_each in
        let few = cut_dropped cut_session cut_before cut_after (Call 0 ∷ Gather 0 ∷ []) (cut_lines (sent 0 7)) t 0
        cut_end (wire_of [] 0) (wire_of (codes "+PONG\r\n") 1) refl refl refl (λ same. omega (arith, same)) in
        let right = (t.told_by.told 0 cut_end stage.0 refl stage.1).right in
        omega (arith, few, right.2.1.1)
