-- Served sources are a served run of their sessions.
use Rattle.std.proofs.Common.{◌≡◌, ℕ, ◌+◌, ◌++◌, Bool, true, false, List, [], ◌∷◌, Option, Some, None}
use Rattle.std.proofs.Common.{length, map, drop, refl, sym, ap, ◌∙◌, subst, append-nil}
use Rattle.std.specs.Borrow.{Bor}
use Rattle.std.proofs.lemmas.List.{length-map, map-append}
use Rattle.flake_base.specs.Growth.{Grew}
use Rattle.flake_base.specs.Told.{WireTold}
use Rattle.flake_base.specs.declared.journal.Entry.{Entry}
use Rattle.flake_base.specs.declared.session.SessionEnd.{SessionEnd}
use Rattle.flake_model.specs.Command.{Command}
use Rattle.flake_model.specs.Run.{WasServed, all_commands, wire_texts_from, wire_texts}
use Rattle.flake_model.specs.Session.{Session}
use Rattle.flake_model.specs.Wire.{EachWire, WiresGrew, WireFaultIs, FaultsAre, KeptIs, KeptAre, faults_told}
use Rattle.pin_core.specs.declared.sizes.Sizes.{Sizes}
use Rattle.pinned_pool.specs.Ends.{End}
use Rattle.session_serve.specs.Ran.{AllSent}
use Rattle.serve_inputs.specs.Dumped.{DumpTold, dump_texts, no_dump}
use Rattle.serve_inputs.specs.Ran.{RanAll}
use Rattle.serve_model.specs.Shown.{WasRun}
use Rattle.any_wire.specs.Sent.{WasSent, AreTold}
use Rattle.any_wire.proofs.Sent.{sends_told, flush_told}
use Rattle.flake_run.specs.Dumping.{dump_failed, puts_failed}
use Rattle.serve_inputs.specs.Wires.{framed_wire, sent_on_wires}
use Rattle.serve_model.specs.Replies.{all_replies_from}
use Rattle.flake_run.specs.Serving.{IsServedRun, IsDumpingRun}

-- what each change of a wire says of something that the wire tells, by something of its session
each_told : {A B S V : Type 0} (Changes : A → B → B → Type 0) (Says : S → V → V → Type 0) (of : A → S) (tells : B → V)
    → ((session : A) (old new : B) → Changes session old new → Says (of session) (tells old) (tells new))
    → (sessions : List A) (olds news : List B)
    → EachWire Changes sessions olds news → EachWire Says (map of sessions) (map tells olds) (map tells news)
each_told Changes Says of tells so [] olds news each = ap (map tells) each
each_told Changes Says of tells so (session ∷ sessions) [] news each = absurd each
each_told Changes Says of tells so (session ∷ sessions) (old ∷ olds) [] each = absurd each
each_told Changes Says of tells so (session ∷ sessions) (old ∷ olds) (new ∷ news) each =
    (so session old new each.0, each_told Changes Says of tells so sessions olds news each.1)

all_as_is : {A : Type 0} (xs : List A) → map (λ (x : A). x) xs ≡ xs
all_as_is [] = refl
all_as_is (x ∷ xs) = ap (λ ys. x ∷ ys) (all_as_is xs)

-- the wires past the sessions
past : {A B : Type 0} (Changes : A → B → B → Type 0) (sessions : List A) (olds news : List B)
    → EachWire Changes sessions olds news
    → drop (length sessions) news ≡ drop (length sessions) olds
past Changes [] olds news each = each
past Changes (session ∷ sessions) [] news each = absurd each
past Changes (session ∷ sessions) (old ∷ olds) [] each = absurd each
past Changes (session ∷ sessions) (old ∷ olds) (new ∷ news) each = past Changes sessions olds news each.1

-- which of the sessions' wires failed
failed_are : (commands : List (List Command)) (journal : List (List Entry)) (number : ℕ) (sessions : List Session)
    → map (λ (text : Bool × List ℕ). text.0) (wire_texts_from commands journal number sessions)
    ≡ map (λ (end : SessionEnd). end.failed) (map (λ (session : Session). session.end) sessions)
failed_are commands journal number [] = refl
failed_are commands journal number (session ∷ sessions) = ap (λ (rest : List Bool). session.end.failed ∷ rest)
    (failed_are commands journal (number + 1) sessions)

-- so it is where frames were sent
failed_framed : (mtu : ℕ) (commands : List (List Command)) (journal : List (List Entry)) (number : ℕ)
    (sessions : List Session)
    → map (λ (text : Bool × List ℕ). text.0)
    (map (framed_wire mtu) (all_replies_from commands journal number sessions))
    ≡ map (λ (end : SessionEnd). end.failed) (map (λ (session : Session). session.end) sessions)
failed_framed mtu commands journal number [] = refl
failed_framed mtu commands journal number (session ∷ sessions) =
    ap (λ (rest : List Bool). session.end.failed ∷ rest) (failed_framed mtu commands journal (number + 1) sessions)

failed_on : (mtu : Option ℕ) (sessions : List Session) (journal : List (List Entry))
    → map (λ (text : Bool × List ℕ). text.0) (sent_on_wires mtu sessions journal)
    ≡ map (λ (end : SessionEnd). end.failed) (map (λ (session : Session). session.end) sessions)
failed_on None sessions journal = failed_are (all_commands sessions) journal 0 sessions
failed_on (Some mtu) sessions journal = failed_framed mtu (all_commands sessions) journal 0 sessions

-- whether that of a dump did
dump_fails : (commands : List (List Command)) (journal : List (List Entry)) (dump : DumpTold)
    → map (λ (text : Bool × List ℕ). text.0) (dump_texts commands journal dump) ≡ dump_failed dump
dump_fails commands journal dump = by dump.taken
  where
    by : (taken : Bool)
        → map (λ (text : Bool × List ℕ). text.0)
        (dump_texts commands journal (record dump { taken = taken })) ≡ dump_failed (record dump { taken = taken })
    by true = refl
    by false = refl

-- a wire was sent a text, and was flushed behind it
abbrev WasPut : {W : Type 0} (told : W → WireTold) → (Bool × List ℕ) → W → W → Type 0
WasPut told text old new = WasSent text.0 text.1 (told old) (told new) × KeptIs text.0 (told old).kept (told new).kept

kept_from : (failed : Bool) (first mid new : ℕ) → KeptIs failed mid new → KeptIs failed first new
kept_from true first mid new kept = tt
kept_from false first mid new kept = kept

module _ {W : Type 0} (put_may : W → Bor (List ℕ) → (W × Bool) → Type 0) (flush_may : W → (W × Bool) → Type 0)
    (told : W → WireTold) (says : AreTold put_may flush_may told) where
  all_put : (texts : List (Bool × List ℕ)) (olds news : List W) → AllSent put_may flush_may texts olds news
      → EachWire (WasPut told) texts olds news
  all_put [] olds news sent = sent
  all_put (text ∷ texts) [] news sent = absurd sent
  all_put (text ∷ texts) (old ∷ olds) [] sent = absurd sent
  all_put (text ∷ texts) (old ∷ olds) (new ∷ news) sent =
      let was = sends_told put_may flush_may told says sent.0.between text.1 old sent.0.middle sent.0.sends in
      let flushed = flush_told put_may flush_may told says sent.0.between text.0 text.1 old sent.0.middle new was
      sent.0.flushed in
      ((flushed.0, kept_from text.0 _ _ _ flushed.1), all_put texts olds news sent.1)

  -- of wires whose puts and flushes tell what they do
  pub run_told : (z : Sizes) (threshold : ℕ) (givens : List (List ℕ)) (endeds : List Bool) (ends : List SessionEnd)
      (journal : List (List Entry)) (pool : End) (olds news : List W)
      → (ran : WasRun z threshold givens endeds ends journal pool)
      → AllSent put_may flush_may (wire_texts ran.served.sessions journal) olds news
      → IsServedRun z threshold givens endeds ends journal pool olds news told
  run_told z threshold givens endeds ends journal pool olds news ran sends =
      let was = ran.served in
      let texts = wire_texts was.sessions journal in
      let each : EachWire (WasPut told) texts olds news = all_put texts olds news sends in
      let failed : map (λ (text : Bool × List ℕ). text.0) texts ≡ map (λ (end : SessionEnd). end.failed) ends =
      failed_are (all_commands was.sessions) journal 0 was.sessions
      ∙ ap (map (λ (end : SessionEnd). end.failed)) was.ends_are in
      let as_many : length texts ≡ length ends =
      sym (length-map texts (λ (text : Bool × List ℕ). text.0)) ∙ ap length failed
      ∙ length-map ends (λ (end : SessionEnd). end.failed) in
      record {
        run = was;
        wires = subst (λ ts. WiresGrew ts (map (λ w. (told w).put) olds) (map (λ w. (told w).put) news))
            (all_as_is texts)
            (each_told (WasPut told) (λ (text : Bool × List ℕ) (old new : List ℕ). Grew text.0 text.1 old new)
            (λ (text : Bool × List ℕ). text) (λ w. (told w).put) (λ text old new put. put.0.put) texts olds news each);
        counted = ran.counted;
        faults = subst (λ fs. FaultsAre fs (map (λ w. faults_told (told w)) olds)
            (map (λ w. faults_told (told w)) news)) failed
            (each_told (WasPut told) WireFaultIs (λ (text : Bool × List ℕ). text.0) (λ w. faults_told (told w))
            (λ text old new put. put.0.faults) texts olds news each);
        flushed = subst (λ fs. KeptAre fs (map (λ w. (told w).kept) olds) (map (λ w. (told w).kept) news)) failed
            (each_told (WasPut told) KeptIs (λ (text : Bool × List ℕ). text.0) (λ w. (told w).kept)
            (λ text old new put. put.1) texts olds news each);
        others = subst (λ n. drop n news ≡ drop n olds) as_many (past (WasPut told) texts olds news each);
      }

  -- its sessions are those that ran
  pub run_sessions : (z : Sizes) (threshold : ℕ) (givens : List (List ℕ)) (endeds : List Bool) (ends : List SessionEnd)
      (journal : List (List Entry)) (pool : End) (olds news : List W)
      → (ran : WasRun z threshold givens endeds ends journal pool)
      → (sends : AllSent put_may flush_may (wire_texts ran.served.sessions journal) olds news)
      → (run_told z threshold givens endeds ends journal pool olds news ran sends).run.sessions ≡ ran.served.sessions
  unfolding run_told
  run_sessions z threshold givens endeds ends journal pool olds news ran sends = refl

  pub served_to : (z : Sizes) (threshold : ℕ) (givens : List (List ℕ)) (endeds : List Bool)
      (ends : List SessionEnd) (counts : List ℕ) (journal : List (List Entry)) (pool : End) (olds news : List W)
      → RanAll None put_may flush_may z threshold givens endeds ends counts journal pool None no_dump olds news
      → IsServedRun z threshold givens endeds ends journal pool olds news told
  served_to z threshold givens endeds ends counts journal pool olds news ran =
      run_told z threshold givens endeds ends journal pool olds news ran.ran
      (subst (λ texts. AllSent put_may flush_may texts olds news)
      (append-nil (wire_texts ran.ran.served.sessions journal)) ran.sends)

  pub served_sessions : (z : Sizes) (threshold : ℕ) (givens : List (List ℕ)) (endeds : List Bool)
      (ends : List SessionEnd) (counts : List ℕ) (journal : List (List Entry)) (pool : End) (olds news : List W)
      → (ran : RanAll None put_may flush_may z threshold givens endeds ends counts journal pool None no_dump olds news)
      → (served_to z threshold givens endeds ends counts journal pool olds news ran).run.sessions
      ≡ ran.ran.served.sessions
  unfolding served_to
  served_sessions z threshold givens endeds ends counts journal pool olds news ran =
      run_sessions z threshold givens endeds ends journal pool olds news ran.ran
      (subst (λ texts. AllSent put_may flush_may texts olds news)
      (append-nil (wire_texts ran.ran.served.sessions journal)) ran.sends)

  -- with what a dump was sent behind them
  pub dumping_to : (mtu : Option ℕ) (z : Sizes) (threshold : ℕ) (givens : List (List ℕ)) (endeds : List Bool)
      (ends : List SessionEnd) (counts : List ℕ) (journal : List (List Entry)) (pool : End) (asked : Option ℕ)
      (dump : DumpTold) (olds news : List W)
      → RanAll mtu put_may flush_may z threshold givens endeds ends counts journal pool asked dump olds news
      → IsDumpingRun z threshold givens endeds ends journal pool asked mtu dump olds news told
  dumping_to mtu z threshold givens endeds ends counts journal pool asked dump olds news ran =
      let was = ran.ran.served in
      let first = sent_on_wires mtu was.sessions journal in
      let behind = dump_texts (all_commands was.sessions) journal dump in
      let texts = first ++ behind in
      let each : EachWire (WasPut told) texts olds news = all_put texts olds news ran.sends in
      let failed : map (λ (text : Bool × List ℕ). text.0) texts ≡ puts_failed ends dump =
      map-append (λ (text : Bool × List ℕ). text.0) first behind
      ∙ ap (λ (fs : List Bool). fs ++ map (λ (text : Bool × List ℕ). text.0) behind)
      (failed_on mtu was.sessions journal
      ∙ ap (map (λ (end : SessionEnd). end.failed)) was.ends_are)
      ∙ ap (λ (fs : List Bool). map (λ (end : SessionEnd). end.failed) ends ++ fs)
      (dump_fails (all_commands was.sessions) journal dump) in
      let as_many : length texts ≡ length (puts_failed ends dump) =
      sym (length-map texts (λ (text : Bool × List ℕ). text.0)) ∙ ap length failed in
      record {
        run = was;
        dumped = ran.dumped;
        wires = subst (λ ts. WiresGrew ts (map (λ w. (told w).put) olds) (map (λ w. (told w).put) news))
            (all_as_is texts)
            (each_told (WasPut told) (λ (text : Bool × List ℕ) (old new : List ℕ). Grew text.0 text.1 old new)
            (λ (text : Bool × List ℕ). text) (λ w. (told w).put) (λ text old new put. put.0.put) texts olds news each);
        counted = ran.ran.counted;
        faults = subst (λ fs. FaultsAre fs (map (λ w. faults_told (told w)) olds)
            (map (λ w. faults_told (told w)) news)) failed
            (each_told (WasPut told) WireFaultIs (λ (text : Bool × List ℕ). text.0) (λ w. faults_told (told w))
            (λ text old new put. put.0.faults) texts olds news each);
        flushed = subst (λ fs. KeptAre fs (map (λ w. (told w).kept) olds) (map (λ w. (told w).kept) news)) failed
            (each_told (WasPut told) KeptIs (λ (text : Bool × List ℕ). text.0) (λ w. (told w).kept)
            (λ text old new put. put.1) texts olds news each);
        others = subst (λ n. drop n news ≡ drop n olds) as_many (past (WasPut told) texts olds news each);
      }

-- there are as many ends as sources
pub ends_served : (givens : List (List ℕ)) (endeds : List Bool) (ends : List SessionEnd) (journal : List (List Entry))
    → WasServed givens endeds ends journal → length ends ≡ length givens
ends_served givens endeds ends journal run =
    let sessions = run.sessions in
    let end : length sessions ≡ length ends = sym (length-map sessions (λ (session : Session). session.end))
    ∙ ap length run.ends_are in
    let given : length sessions ≡ length givens = sym (length-map sessions (λ (session : Session). session.given))
    ∙ ap length run.given_is in
    sym end ∙ given

pub ends_count : {W : Type 0} (z : Sizes) (threshold : ℕ) (givens : List (List ℕ)) (endeds : List Bool)
    (ends : List SessionEnd) (journal : List (List Entry)) (pool : End) (olds news : List W) (told : W → WireTold)
    → IsServedRun z threshold givens endeds ends journal pool olds news told → length ends ≡ length givens
ends_count z threshold givens endeds ends journal pool olds news told r = ends_served givens endeds ends journal r.run
