-- What was said of driven sessions is right by their own deeds.
use Rattle.std.proofs.Common.{◌≡◌, ℕ, zero, suc, ◌+◌, ◌≤◌, List, [], ◌∷◌, ◌++◌, Option, Some, length, map, slice_get}
use Rattle.std.proofs.Common.{slice_index, unwrap_or, take, length-append, refl, ap, sym, ◌∙◌, subst, arith}
use Rattle.std.proofs.lemmas.List.{length-map}
use Rattle.flake_base.specs.declared.session.SessionEnd.{SessionEnd}
use Rattle.flake_base.specs.declared.journal.Entry.{Entry}
use Rattle.flake_model.specs.Command.{Command}
use Rattle.flake_model.specs.Deed.{Deed}
use Rattle.flake_model.specs.Journal.{commands_of}
use Rattle.flake_model.specs.Reply.{reply_text}
use Rattle.flake_model.specs.Run.{all_commands}
use Rattle.reply_layout.specs.Pieces.{reply_from}
use Rattle.pin_core.specs.declared.sizes.Sizes.{Sizes}
use Rattle.pinned_pool.specs.Ends.{End}
use Rattle.order_book.specs.Closed.{own_deeds}
use Rattle.order_book.specs.Pages.{SessionList}
use Rattle.reply_planner.specs.Stages.{StagesAreApart}
use Rattle.schedule_text.specs.declared.line.Line.{Line}
use Rattle.serve_model.specs.Handed.{SessionRun, session_in}
use Rattle.serve_model.proofs.Places.{index_at, get_map}
use Rattle.transcript_model.specs.Frames.{deeds_of}
use Rattle.transcript_model.specs.Lines.{EventLine, line_of}
use Rattle.any_wire.specs.Texts.{Sending, WireGrew}
use Rattle.transcript_model.specs.Sessions.{IsRightSession, events_of, texts_from, texts_of}
use Rattle.transcript_model.specs.Terms.{Terms}
use Rattle.transcript_model.specs.Transcript.{DrivenRun, terms_of, SessionsAreRight, AreSent, IsToldBy}
use Rattle.drive_told.specs.Driven.{OneDriven, IsDriven, AllDriven, terms_by}
use Rattle.drive_told.specs.Together.{driven_run}
use Rattle.drive_told.proofs.Lists.{behind_map, same_place, front_place}
use Rattle.drive_told.proofs.Owned.{own_of}
use Rattle.drive_told.proofs.Ran.{runs_from, at_place, all_stages}

-- texts don't depend on the stage
same_texts : (terms : Terms) (stage : List ℕ) (call : ℕ) (commands : List Command)
    → texts_from terms call commands ≡ texts_from (record terms { stage = stage }) call commands
same_texts terms stage call [] = refl
same_texts terms stage call (command ∷ commands) =
    ap (λ (l : List (List ℕ)). reply_text (reply_from command (deeds_of terms call command)) ∷ l)
    (same_texts terms stage (suc call) commands)

-- the commands of a session's run
commands_at : (all : List SessionRun) (k : ℕ) (ran : SessionRun) → slice_get all k ≡ Some ran
    → slice_get (all_commands (map session_in all)) k ≡ Some ran.run.commands
commands_at [] k ran is = absurd (let no : ⊥ = cc in no)
commands_at (first ∷ all) zero ran is = let same : first ≡ ran = cc in ap (λ (r : SessionRun). Some r.run.commands) same
commands_at (first ∷ all) (suc k) ran is = commands_at all k ran is

module _ {W : Type 0} (sends : Sending W) (z : Sizes) (shards ring threshold : ℕ) (lines : List EventLine)
    (each : List (OneDriven W)) (all : AllDriven sends z shards ring threshold 0 lines each) (past : List W)
    (schedule : List Line) (answers : map line_of lines ≡ schedule) (journal : List (List Entry)) (closed : End) where
  abbrev pub ends : List SessionEnd
  ends = map (λ (one : OneDriven W). one.end) each

  abbrev pub lists_in : List SessionList
  lists_in = map (λ (one : OneDriven W). one.list) each

  abbrev pub stages_in : List (List ℕ)
  stages_in = map (λ (one : OneDriven W). one.stage) each

  abbrev pub wholes : List ℕ
  wholes = map (λ (one : OneDriven W). one.whole) each

  abbrev pub commands : List (List Command)
  commands = all_commands (map session_in (runs_from sends z shards ring threshold lines 0 each all))

  abbrev pub run : DrivenRun
  run = driven_run z ring threshold commands ends journal closed

  -- a session's terms are those of the run
  same_terms : (session : ℕ) (one : OneDriven W) (there : slice_get each session ≡ Some one)
      (driven : IsDriven sends z shards ring threshold session (events_of session lines) one)
      → slice_get (runs_from sends z shards ring threshold lines 0 each all) session
      ≡ Some (record { given = one.given; ended = one.ended; run = driven.ran.run })
      → terms_by sends z shards ring threshold session driven.ran.run.commands one
      ≡ terms_of run (own_of lists_in session) session one.end one.stage (slice_index wholes session)
  same_terms session one there driven is =
      let commands_are : driven.ran.run.commands ≡ commands_of commands session =
      sym (ap (λ (found : Option (List Command)). unwrap_or found [])
      (commands_at (runs_from sends z shards ring threshold lines 0 each all) session _ is)) in
      let deeds_are : own_deeds one.list ≡ own_of lists_in session =
      sym (ap (λ (found : Option (List Deed)). unwrap_or found [])
      (get_map own_deeds lists_in session one.list
      (get_map (λ (o : OneDriven W). o.list) each session one there))) in
      let whole_is : one.whole ≡ slice_index wholes session =
      sym (index_at (λ (o : OneDriven W). o.whole) each session one there) in
      λ i. record {
        number = session;
        sizes = z;
        ring = ring;
        threshold = threshold;
        stage = one.stage;
        commands = commands_are i;
        end = one.end;
        whole = whole_is i;
        deeds = deeds_are i;
      }

  -- one of them, as the run has it
  record IsOne (session : ℕ) (one : OneDriven W) : Type 0 where
    told : IsRightSession
        (terms_of run (own_of lists_in session) session one.end one.stage (slice_index wholes session))
        (events_of session lines)
    grew : WireGrew sends one.end.failed (slice_index wholes session)
        (texts_of (terms_of run (own_of lists_in session) session one.end [] (slice_index wholes session))) one.old
        one.new

  one_at : (session : ℕ) (one : OneDriven W) → slice_get each session ≡ Some one → IsOne session one
  one_at session one there =
      let e : 0 + session ≡ session = omega arith in
      let at = subst (λ n. (driven : IsDriven sends z shards ring threshold n (events_of n lines) one)
      × (slice_get (runs_from sends z shards ring threshold lines 0 each all) session
      ≡ Some (record { given = one.given; ended = one.ended; run = driven.ran.run }))) e
      (at_place sends z shards ring threshold lines 0 each all session one there) in
      let terms = same_terms session one there at.0 at.1 in
      let whole_is : one.whole ≡ slice_index wholes session =
      sym (index_at (λ (o : OneDriven W). o.whole) each session one there) in
      let own = terms_of run (own_of lists_in session) session one.end one.stage (slice_index wholes session) in
      record {
        told = subst (λ (t : Terms). IsRightSession t (events_of session lines)) terms at.0.told;
        grew = subst (λ (texts : List (List ℕ)). WireGrew sends one.end.failed (slice_index wholes session) texts
            one.old one.new) (same_texts own [] 0 (take one.end.replies own.commands))
            (subst (λ (p : ℕ × Terms). WireGrew sends one.end.failed p.0 (texts_of p.1) one.old one.new)
            (λ i. (whole_is i, terms i)) at.0.grew);
      }

  pub told_are : SessionsAreRight run (own_of lists_in) stages_in wholes lines
  told_are session end stage end_is stage_is =
      let from = behind_map (λ (o : OneDriven W). o.end) each session end end_is in
      let other = behind_map (λ (o : OneDriven W). o.stage) each session stage stage_is in
      let same = same_place each session other.source from.source other.there from.there in
      let stage_of : from.source.stage ≡ stage = sym (ap (λ (o : OneDriven W). o.stage) same) ∙ other.is in
      subst (λ (p : SessionEnd × List ℕ). IsRightSession (terms_of run (own_of lists_in session) session p.0 p.1
      (slice_index wholes session)) (events_of session lines)) (λ i. (from.is i, stage_of i))
      (one_at session from.source from.there).told

  wire_at : (wire : OneDriven W → W) (session : ℕ) (one : OneDriven W) (found : W) → slice_get each session ≡ Some one
      → slice_get (map wire each ++ past) session ≡ Some found → wire one ≡ found
  wire_at wire session one found there is =
      same_place (map wire each ++ past) session (wire one) found
      (front_place (map wire each) past session (wire one) (get_map wire each session one there)) is

  pub sent_are : AreSent sends run (own_of lists_in) wholes (map (λ (one : OneDriven W). one.old) each ++ past)
      (map (λ (one : OneDriven W). one.new) each ++ past)
  sent_are session end old new end_is old_is new_is =
      let from = behind_map (λ (o : OneDriven W). o.end) each session end end_is in
      let before = wire_at (λ (o : OneDriven W). o.old) session from.source old from.there old_is in
      let behind = wire_at (λ (o : OneDriven W). o.new) session from.source new from.there new_is in
      subst (λ (p : SessionEnd × W × W). WireGrew sends p.0.failed (slice_index wholes session)
      (texts_of (terms_of run (own_of lists_in session) session p.0 [] (slice_index wholes session))) p.1 p.2)
      (λ i. (from.is i, before i, behind i)) (one_at session from.source from.there).grew

  pub wires_long : (length ends ≤ length (map (λ (one : OneDriven W). one.old) each ++ past))
      × (length (map (λ (one : OneDriven W). one.new) each ++ past)
      ≡ length (map (λ (one : OneDriven W). one.old) each ++ past))
  wires_long =
      let count = length-map each (λ (one : OneDriven W). one.end) in
      let olds = length-map each (λ (one : OneDriven W). one.old) in
      let news = length-map each (λ (one : OneDriven W). one.new) in
      let some = length-append (map (λ (one : OneDriven W). one.old) each) past in
      let more = length-append (map (λ (one : OneDriven W). one.new) each) past in
      (omega (arith, count, olds, some), omega (arith, olds, news, some, more))

  -- all of them are
  abbrev pub by_own : StagesAreApart stages_in → IsToldBy sends run (map (λ (one : OneDriven W). one.old) each ++ past)
      (map (λ (one : OneDriven W). one.new) each ++ past) (own_of lists_in) schedule lines
  by_own apart = record {
    answers = answers;
    stages = stages_in;
    stages_are = all_stages sends z shards ring threshold lines 0 each all;
    one_each = length-map each (λ (one : OneDriven W). one.stage)
        ∙ sym (length-map each (λ (one : OneDriven W). one.end));
    stages_apart = apart;
    wholes = wholes;
    told = told_are;
    wires = wires_long;
    sent = sent_are;
  }
