-- A transcript that is right by the sessions' deeds is right by the journal.
use Rattle.std.proofs.Common.{◌≡◌, ℕ, zero, suc, ◌+◌, ◌<◌, List, [], ◌∷◌, ◌++◌, length, slice_get, Some, arith, refl}
use Rattle.std.proofs.Common.{ap, sym, ◌∙◌, subst, append-nil}
use Rattle.std.specs.Prelude.{map, unwrap_or, slice_index}
use Rattle.std.specs.List.{AllByRecursion, flat_map}
use Rattle.std.specs.FinMap as finite
use Rattle.flake_base.specs.declared.journal.Entry.{Entry}
use Rattle.flake_base.specs.declared.segment.Seg.{Seg}
use Rattle.flake_model.specs.Store as part
use Rattle.flake_model.specs.Store.{Store, Operation, after, IsWrite}
use Rattle.flake_model.specs.Command as asked
use Rattle.flake_model.specs.Command.{Command, parts}
use Rattle.flake_model.specs.Reply.{reply_text}
use Rattle.flake_model.specs.Journal.{step_of, call_steps}
use Rattle.flake_model.specs.Deed.{Deed, Places, entries_of, steps_of, places_after, IsLegalDeed, IsLegalFrom, IsLegal}
use Rattle.transcript_model.specs.Deeds.{find_deed}
use Rattle.flake_model.specs.Replay.{replay}
use Rattle.schedule_text.specs.declared.line.Line.{Line}
use Rattle.reply_layout.specs.Pieces.{reply_from}
use Rattle.transcript_model.specs.Lines.{LineEvent, EventLine}
use Rattle.transcript_model.specs.Terms.{Terms}
use Rattle.transcript_model.specs.Standing.{at_first}
use Rattle.transcript_model.specs.Frames.{deeds_of, fragments_stored, stored_of}
use Rattle.any_wire.specs.Texts.{WireGrew}
use Rattle.transcript_model.specs.Sessions.{events_of, texts_from, IsRightSession}
use Rattle.transcript_model.specs.Transcript.{DrivenRun, shown_by, deeds_in, transcript_places, AreAllApart, terms_of}
use Rattle.transcript_model.specs.Transcript.{Wires, SessionsAreRight, IsToldBy, IsTranscript}
use Rattle.transcript_model.specs.Sources.{IsOwnDeed, AreSources}
use Rattle.flake_model.specs.Replay.{IsShownAt}
use Rattle.flake_model.proofs.Replays.{replay-legal}
use Rattle.any_wire.specs.Sent.{WasSentByPuts}
use Rattle.transcript_model.proofs.Stays.{all_stay}
use Rattle.transcript_model.proofs.Shown.{shown_by_events, posted_shows, fragments_at}

mapped : {A B : Type 0} (f : A → B) (xs : List A) (k : ℕ) (y : B) → slice_get (map f xs) k ≡ Some y → (x : A)
    × (f x ≡ y)
mapped f [] k y is = absurd (cc)
mapped f (x ∷ xs) zero y is = (x, cc)
mapped f (x ∷ xs) (suc k) y is = mapped f xs k y is

only_one : (operation found : Operation) (number : ℕ) → slice_get (operation ∷ []) number ≡ Some found → (number ≡ 0)
    × (operation ∷ [] ≡ found ∷ [])
only_one operation found zero is = (refl, let same : operation ≡ found = cc in ap (λ o. o ∷ []) same)
only_one operation found (suc number) is = absurd (none number is) where
  none : (n : ℕ) → slice_get [] n ≡ Some found → ⊥
  none n is = cc

no_write : (f : List ℕ → Operation) → ((key : List ℕ) → IsWrite (f key) → ⊥) → (keys : List (List ℕ)) (number : ℕ)
    (found : Operation) → slice_get (map f keys) number ≡ Some found → IsWrite found → ⊥
no_write f never keys number found is writes = let at = mapped f keys number found is in
    never at.0 (subst IsWrite (sym at.1) writes)

none_there : (number : ℕ) (found : Operation) → slice_get [] number ≡ Some found → ⊥
none_there number found is = cc

-- a write is the only part of its command
single_write : (command : Command) (number : ℕ) (operation : Operation) → slice_get (parts command) number
    ≡ Some operation → IsWrite operation → (number ≡ 0) × (parts command ≡ operation ∷ [])
single_write asked.ping number operation is writes = absurd (none_there number operation is)
single_write (asked.ping_with bytes) number operation is writes = absurd (none_there number operation is)
single_write (asked.mget keys) number operation is writes =
    absurd (no_write part.get (λ key never. never) keys number operation is writes)
single_write (asked.del keys) number operation is writes =
    absurd (no_write part.del (λ key never. never) keys number operation is writes)
single_write (asked.exists keys) number operation is writes =
    absurd (no_write part.exists (λ key never. never) keys number operation is writes)
single_write (asked.fault kind) number operation is writes = absurd (none_there number operation is)
single_write command number operation is writes = only_one _ operation number is

-- what a call stored, where its only part did this deed
stored_by_one : (terms : Terms) (call : ℕ) (command : Command) (operation : Operation) (deed : Deed) → parts command
    ≡ operation ∷ []
    → find_deed (record { session = terms.number; call = call; part = 0 }) terms.deeds ≡ Some deed
    → stored_of terms call command ≡ fragments_stored (Some deed)
stored_by_one terms call command operation deed only found =
    ap (λ operations. flat_map fragments_stored
    (map (λ step. find_deed step.0 terms.deeds) (call_steps terms.number call 0 operations))) only
    ∙ ap (λ outcome. fragments_stored outcome ++ []) found ∙ append-nil (fragments_stored (Some deed))

module _ (run : DrivenRun) (own : ℕ → List Deed) (stages : List (List ℕ)) (wholes : List ℕ) (lines : List EventLine)
    (told : SessionsAreRight run own stages wholes lines) where
  -- a write is shown where it stored
  write_shown : (store : Store) (places : Places) (deed : Deed) → IsLegalDeed store places deed
      → IsOwnDeed run own stages deed → IsShownAt (shown_by lines) deed
  write_shown store places deed legal owned writes =
      let session = deed.entry.session in
      let said = told session owned.end owned.stage owned.end_is owned.stage_is in
      let terms = terms_of run (own session) session owned.end owned.stage (slice_index wholes session) in
      let single = single_write owned.command deed.entry.part deed.operation owned.part writes in
      let below : deed.entry.call < length said.last.frames = omega (arith, owned.posted writes, said.served) in
      let shown = posted_shows terms at_first said.last (events_of session lines) deed.entry.call owned.command
      said.right (omega arith) below owned.asked in
      let entry_is : deed.entry ≡ record { session = session; call = deed.entry.call; part = 0 } =
      λ i. record { session = session; call = deed.entry.call; part = single.0 i } in
      let found : find_deed (record { session = session; call = deed.entry.call; part = 0 }) (own session) ≡ Some deed =
      subst (λ entry. find_deed entry (own session) ≡ Some deed) entry_is owned.told in
      let stored = stored_by_one terms deed.entry.call owned.command deed.operation deed single.1 found in
      shown_by_events deed.entry lines ∙ ap (λ addresses. unwrap_or addresses []) shown
      ∙ ap (map (λ (fragment : Seg). fragment.address)) stored ∙ fragments_at deed

  all_shown : (store : Store) (places : Places) (deeds : List Deed) → IsLegalFrom store places deeds
      → AllByRecursion (IsOwnDeed run own stages) deeds → AllByRecursion (IsShownAt (shown_by lines)) deeds
  all_shown store places [] legal owned = tt
  all_shown store places (deed ∷ deeds) legal owned = (
    write_shown store places deed legal.0 owned.0,
    all_shown (after store deed.operation)
        (places_after store places deed.operation deed.stored) deeds legal.1 owned.1,
  )

  steps_are : (deeds : List Deed) → AllByRecursion (IsOwnDeed run own stages) deeds
      → flat_map (step_of run.sessions) (entries_of deeds) ≡ steps_of deeds
  steps_are [] owned = refl
  steps_are (deed ∷ deeds) owned =
      let here : step_of run.sessions deed.entry ≡ (deed.entry, deed.operation) ∷ [] = rw owned.0.stands refl in
      ap (λ first. first ++ flat_map (step_of run.sessions) (entries_of deeds)) here
      ∙ ap (λ rest. (deed.entry, deed.operation) ∷ rest) (steps_are deeds owned.1)

  shard_replayed : (deeds : List Deed) → IsLegal deeds → AllByRecursion (IsOwnDeed run own stages) deeds
      → replay (shown_by lines) (flat_map (step_of run.sessions) (entries_of deeds)) ≡ deeds
  shard_replayed deeds legal owned = ap (replay (shown_by lines)) (steps_are deeds owned)
      ∙ replay-legal (shown_by lines) finite.empty finite.empty deeds legal
      (all_shown finite.empty finite.empty deeds legal owned)

  shards_replayed : (shards : List (List Deed)) → AllByRecursion IsLegal shards
      → AllByRecursion (λ deeds. AllByRecursion (IsOwnDeed run own stages) deeds) shards
      → map (λ steps. replay (shown_by lines) steps)
      (map (λ history. flat_map (step_of run.sessions) history) (map entries_of shards)) ≡ shards
  shards_replayed [] legal owned = refl
  shards_replayed (deeds ∷ shards) legal owned =
      let here = shard_replayed deeds legal.0 owned.0 in
      let rest = shards_replayed shards legal.1 owned.1 in
      λ i. here i ∷ rest i

  -- the replay of the journal, storing where the transcript shows it, gives the shards' deeds
  pub replay_gives : (shards : List (List Deed)) → AreSources run shards own stages → deeds_in run lines ≡ shards
  replay_gives shards sources =
      ap (λ journal. map (λ steps. replay (shown_by lines) steps)
      (map (λ history. flat_map (step_of run.sessions) history) journal)) sources.journal
      ∙ shards_replayed shards sources.legal sources.owned

-- the same texts by other deeds that are found alike
texts_alike : (terms : Terms) (deeds : List Deed)
    → ((entry : Entry) → entry.session ≡ terms.number → find_deed entry deeds ≡ find_deed entry terms.deeds)
    → (call : ℕ) (commands : List Command)
    → texts_from (record terms { deeds = deeds }) call commands ≡ texts_from terms call commands
texts_alike terms deeds alike call [] = refl
texts_alike terms deeds alike call (command ∷ commands) =
    let found : deeds_of (record terms { deeds = deeds }) call command ≡ deeds_of terms call command =
    found_alike 0 (parts command) in
    let rest = texts_alike terms deeds alike (suc call) commands in
    λ i. reply_text (reply_from command (found i)) ∷ rest i
  where
    found_alike : (number : ℕ) (operations : List Operation) → map (λ step. find_deed step.0 deeds)
        (call_steps terms.number call number operations) ≡ map (λ step. find_deed step.0 terms.deeds)
        (call_steps terms.number call number operations)
    found_alike number [] = refl
    found_alike number (operation ∷ operations) =
        let here = alike (record { session = terms.number; call = call; part = number }) refl in
        let rest = found_alike (number + 1) operations in
        λ i. here i ∷ rest i

-- what was told by the session's own deeds is told by any deeds that are found alike
told_alike : (terms : Terms) (deeds : List Deed) (events : List LineEvent)
    → ((entry : Entry) → entry.session ≡ terms.number → find_deed entry deeds ≡ find_deed entry terms.deeds)
    → IsRightSession terms events → IsRightSession (record terms { deeds = deeds }) events
told_alike terms deeds events alike told =
    record {
      last = told.last;
      right = all_stay terms told.last terms.commands terms.end terms.whole deeds (record {
        asked = λ call command is. is;
        deeds_stay = λ entry session below. alike entry session;
        sent_stay = λ call below is. is;
        dropped_stay = λ call below is. is;
        end_stays = λ said. (refl, refl);
      }) at_first events told.right;
      served = told.served;
      ended = told.ended;
      sent = told.sent;
    }

-- right by the sessions' deeds is right by the journal
pub sourced : (run : DrivenRun) (olds news : Wires) (schedule : List Line) (lines : List EventLine)
    (shards : List (List Deed)) (own : ℕ → List Deed) (by_own : IsToldBy WasSentByPuts run olds news own schedule lines)
    → AreSources run shards own by_own.stages → AreAllApart (transcript_places run lines)
    → IsTranscript run olds news schedule lines
sourced run olds news schedule lines shards own by_own sources apart =
    let replayed = replay_gives run own by_own.stages by_own.wholes lines by_own.told shards sources in
    let alike : (session : ℕ) (entry : Entry) → entry.session ≡ session
    → find_deed entry (flat_map (λ deeds. deeds) (deeds_in run lines)) ≡ find_deed entry (own session) =
    λ session entry is. ap (λ deeds. find_deed entry (flat_map (λ d. d) deeds)) replayed ∙ sources.shared entry
    ∙ ap (λ number. find_deed entry (own number)) is in
    record {
      told_by = record {
        answers = by_own.answers;
        stages = by_own.stages;
        stages_are = by_own.stages_are;
        one_each = by_own.one_each;
        stages_apart = by_own.stages_apart;
        wholes = by_own.wholes;
        told = λ session end stage end_is stage_is.
            told_alike (terms_of run (own session) session end stage (slice_index by_own.wholes session))
            (flat_map (λ d. d) (deeds_in run lines)) (events_of session lines)
            (alike session) (by_own.told session end stage end_is stage_is);
        wires = by_own.wires;
        sent = λ session end old new end_is old_is new_is.
            subst (λ texts. WireGrew WasSentByPuts end.failed (slice_index by_own.wholes session) texts old new)
            (sym (texts_alike (terms_of run (own session) session end [] (slice_index by_own.wholes session))
            (flat_map (λ d. d) (deeds_in run lines)) (alike session) 0 _))
            (by_own.sent session end old new end_is old_is new_is);
      };
      legal = subst (λ deeds. AllByRecursion IsLegal deeds) (sym replayed) sources.legal;
      apart = apart;
    }
