-- A journal is orderly for all commands exactly where each place is in order.
use Rattle.std.proofs.Common.{◌≡◌, ℕ, ◌+◌, ◌<◌, ◌≤◌, ◌⊎◌, ⊎_elim, zero, suc, true, false, ◌==◌, List, [], ◌∷◌, ◌++◌}
use Rattle.std.proofs.Common.{Option, Some, None, unwrap_or, length, map, take, drop, slice_get, arith, refl, ap, sym}
use Rattle.std.proofs.Common.{◌∙◌, subst, append_assoc, append-nil, length-append}
use Rattle.std.specs.Prelude.{slice_index, MatchOption}
use Rattle.std.specs.List.{flat_map}
use Rattle.std.proofs.lemmas.Bool.{eq-eqb, eqb-true, cases_Bool}
use Rattle.std.proofs.lemmas.List.{take_all}
use Rattle.std.proofs.lemmas.List.Elements.{filter-append}
use Rattle.flake_base.specs.declared.journal.Entry.{Entry}
use Rattle.flake_model.specs.Command.{Command}
use Rattle.flake_model.specs.Reply.{reply_text}
use Rattle.flake_model.specs.Journal.{IsServed, of_session, in_shard, shard_of, commands_of, session_steps, answers_of}
use Rattle.flake_model.specs.Journal.{replies_from, wire_text}
use Rattle.flake_model.specs.Store.{key_of}
use Rattle.replay_check.specs.Inputs.{parts_in, parts_of, AreInputs}
use Rattle.replay_check.specs.InOrder.{AreWrites, IsNext, left_behind, IsInOrder, AreInOrder, IsFirstFault}
use Rattle.replay_check.specs.Faults.{AllInOrder, IsFaultOf}
use Rattle.replay_check.specs.Noted.{AreTexts}
use Rattle.replay_check.specs.Answered.{IsWholeJournal, AreAnswers, IsRefusal}
use Rattle.replay_check.specs.declared.error.AnswerError.{AnswerError}
use Rattle.replay_check.specs.declared.error.AnswerError.TheVariants.{BadJournal, Memory}
use Rattle.replay_check.proofs.Rising.{AreRising, rising, rising_filter}
use Rattle.replay_check.proofs.Orders.{unserved, only_writes, first_is_next, served_by, served_left}
use Rattle.replay_check.proofs.Cursors.{own_entry, other_entry, left_own, left_other}

-- all commands of a session
all_of : (commands : List Command) → take (length commands) commands ≡ commands
all_of commands = take_all (length commands) commands (omega arith)

none_taken : {A : Type 0} (n : ℕ) → take {A = A} n [] ≡ []
none_taken zero = refl
none_taken (suc n) = refl

pub all_taken : (sessions : List (List Command)) (session : ℕ) → take (slice_index (map length sessions) session)
    (commands_of sessions session) ≡ commands_of sessions session
all_taken [] session = none_taken (slice_index [] session)
all_taken (commands ∷ sessions) zero = all_of commands
all_taken (commands ∷ sessions) (suc session) = all_taken sessions session

-- the first entry of a session
own_first : (entry : Entry) (later : List Entry) → of_session entry.session (entry ∷ later)
    ≡ entry ∷ of_session entry.session later
own_first entry later = let test : (entry.session == entry.session) ≡ true = eq-eqb entry.session entry.session refl in
    rw test refl

other_first : (session : ℕ) (entry : Entry) (later : List Entry) → (entry.session == session) ≡ false
    → of_session session (entry ∷ later) ≡ of_session session later
other_first session entry later test = rw test refl

-- what stands behind the first entries
at_behind : (earlier : List Entry) (entry : Entry) (later : List Entry) → slice_get (earlier ++ entry ∷ later)
    (length earlier) ≡ Some entry
at_behind [] entry later = refl
at_behind (first ∷ earlier) entry later = at_behind earlier entry later

front_of : (earlier later : List Entry) → take (length earlier) (earlier ++ later) ≡ earlier
front_of [] [] = refl
front_of [] (entry ∷ later) = refl
front_of (first ∷ earlier) later = ap (λ rest. first ∷ rest) (front_of earlier later)

past_end : (history : List Entry) → slice_get history (length history) ≡ None
past_end [] = refl
past_end (entry ∷ history) = past_end history

module _ (sessions : List (List Command)) (shards shard : ℕ) where
  -- a place of an entry, and the end
  at_entry : (history : List Entry) (place : ℕ) (entry : Entry) → slice_get history place ≡ Some entry
      → IsInOrder sessions shards shard history place
      → IsNext (left_behind sessions shards shard (take place history) entry.session) entry
  at_entry history place entry is in_order =
      subst (λ (found : Option Entry). MatchOption found
      ((session : ℕ) → AreWrites (left_behind sessions shards shard history session))
      (λ entry. IsNext (left_behind sessions shards shard (take place history) entry.session) entry)) is in_order

  at_end : (history : List Entry) (place : ℕ) → slice_get history place ≡ None
      → IsInOrder sessions shards shard history place → (session : ℕ)
      → AreWrites (left_behind sessions shards shard history session)
  at_end history place is in_order =
      subst (λ (found : Option Entry). MatchOption found
      ((session : ℕ) → AreWrites (left_behind sessions shards shard history session))
      (λ entry. IsNext (left_behind sessions shards shard (take place history) entry.session) entry)) is in_order

  -- the later entries of a session are its parts that are left
  served_from : (history earlier later : List Entry) (session : ℕ) → history ≡ earlier ++ later
      → AreInOrder sessions shards shard history
      → IsServed (left_behind sessions shards shard earlier session) (of_session session later)
  served_from history earlier [] session is in_order =
      let whole : history ≡ earlier = is ∙ append-nil earlier in
      unserved (left_behind sessions shards shard earlier session)
      (subst (λ entries. AreWrites (left_behind sessions shards shard entries session)) whole
      (at_end history (length history) (past_end history) (in_order (length history) (omega arith)) session))
  served_from history earlier (entry ∷ later) session is in_order =
      let rest = served_from history (earlier ++ entry ∷ []) later session
      (is ∙ sym (append_assoc earlier (entry ∷ []) later)) in_order in
      ⊎_elim
      (λ here.
      let same : entry.session ≡ session = eqb-true entry.session session here in
      let place : slice_get history (length earlier) ≡ Some entry = ap (λ h. slice_get h (length earlier)) is
      ∙ at_behind earlier entry later in
      let within : length earlier ≤ length history = omega (arith, ap length is, length-append earlier (entry ∷ later))
      in
      let front : take (length earlier) history ≡ earlier = ap (take (length earlier)) is
      ∙ front_of earlier (entry ∷ later) in
      let next = subst (λ entries. IsNext (left_behind sessions shards shard entries entry.session) entry) front
      (at_entry history (length earlier) entry place (in_order (length earlier) within)) in
      let own = subst (λ n. IsServed (left_behind sessions shards shard (earlier ++ entry ∷ []) n) (of_session n later))
      (sym same) rest in
      let moved = subst (λ steps. IsServed steps (of_session entry.session later))
      (left_own sessions shards shard earlier entry) own in
      let served = served_by (left_behind sessions shards shard earlier entry.session) entry
      (of_session entry.session later) next moved in
      subst (λ n. IsServed (left_behind sessions shards shard earlier n) (of_session n (entry ∷ later))) same
      (subst (IsServed (left_behind sessions shards shard earlier entry.session)) (sym (own_first entry later)) served))
      (λ there.
      let apart : session ≡ entry.session → ⊥ = λ same. cc (there, eq-eqb entry.session session (sym same)) in
      let moved = subst (λ steps. IsServed steps (of_session session later))
      (left_other sessions shards shard earlier entry session apart) rest in
      subst (IsServed (left_behind sessions shards shard earlier session)) (sym (other_first session entry later there))
      moved)
      (cases_Bool (entry.session == session))

  pub in_order_served : (history : List Entry) (session : ℕ) → AreInOrder sessions shards shard history
      → IsServed (parts_in sessions shards shard session) (of_session session history)
  in_order_served history session in_order = served_from history [] history session refl in_order

  -- a history whose entries are the parts of all sessions is in order
  parts_rising : (session : ℕ) → AreRising (parts_in sessions shards shard session)
  parts_rising session = rising_filter (λ step. shard_of shards (key_of step.1) == shard) (parts_of sessions session)
      (rising session 0 (commands_of sessions session))

  cut : (history : List Entry) (place : ℕ) (entry : Entry) → slice_get history place ≡ Some entry
      → history ≡ take place history ++ entry ∷ drop (place + 1) history
  cut [] place entry is = absurd (cc (is))
  cut (first ∷ history) zero entry is = let same : first ≡ entry = cc in ap (λ e. e ∷ history) same
  cut (first ∷ history) (suc place) entry is =
      let next : suc (place + 1) ≡ suc place + 1 = omega arith in
      ap (λ rest. first ∷ rest) (cut history place entry is)
      ∙ ap (λ n. (first ∷ take place history) ++ entry ∷ drop n (first ∷ history)) next

  pub served_in_order : (history : List Entry)
      → ((session : ℕ) → IsServed (parts_in sessions shards shard session) (of_session session history)) → (place : ℕ)
      → IsInOrder sessions shards shard history place
  served_in_order history served place = at (slice_get history place) refl where
    at : (found : Option Entry) → slice_get history place ≡ found
        → MatchOption found ((session : ℕ) → AreWrites (left_behind sessions shards shard history session))
        (λ entry. IsNext (left_behind sessions shards shard (take place history) entry.session) entry)
    at None is = λ session.
        only_writes (left_behind sessions shards shard history session)
        (served_left (parts_in sessions shards shard session) (of_session session history) [] (parts_rising session)
        (subst (IsServed (parts_in sessions shards shard session)) (sym (append-nil (of_session session history)))
        (served session)))
    at (Some entry) is =
        let before = take place history in
        let behind_it = drop (place + 1) history in
        let entries : of_session entry.session history ≡ of_session entry.session before ++ entry
        ∷ of_session entry.session behind_it =
        ap (of_session entry.session) (cut history place entry is)
        ∙ filter-append (λ (e : Entry). e.session == entry.session) before (entry ∷ behind_it)
        ∙ ap (λ rest. of_session entry.session before ++ rest) (own_first entry behind_it) in
        first_is_next (left_behind sessions shards shard before entry.session) entry
        (of_session entry.session behind_it)
        (served_left (parts_in sessions shards shard entry.session) (of_session entry.session before)
        (entry ∷ of_session entry.session behind_it) (parts_rising entry.session)
        (subst (IsServed (parts_in sessions shards shard entry.session)) entries (served entry.session)))

-- a journal in order is orderly
pub whole : (sessions : List (List Command)) (journal : List (List Entry)) → AllInOrder sessions journal
    → IsWholeJournal sessions journal
whole sessions journal all session shard history is =
    subst (λ commands. IsServed (in_shard (length journal) shard (session_steps session 0 commands))
    (of_session session history)) (sym (all_taken sessions session))
    (in_order_served sessions (length journal) shard history session (all shard history is))

-- and an orderly one is in order
pub not_whole : (sessions : List (List Command)) (journal : List (List Entry)) (shard place : ℕ)
    → IsFirstFault sessions journal shard place → IsWholeJournal sessions journal → ⊥
not_whole sessions journal shard place fault orderly =
    fault.at_fault (served_in_order sessions (length journal) shard fault.history
    (λ session. subst (λ commands. IsServed (in_shard (length journal) shard (session_steps session 0 commands))
    (of_session session fault.history)) (all_taken sessions session)
    (orderly session shard fault.history fault.is_there))
    place)

-- the text of a session's wire, by the answers at entries
pub wire_is : (sessions : List (List Command)) (journal : List (List Entry)) (session : ℕ) (commands : List Command)
    → slice_get sessions session ≡ Some commands
    → flat_map reply_text (replies_from (answers_of sessions journal) session 0 commands)
    ≡ wire_text sessions journal session (length commands)
wire_is sessions journal session commands is =
    let own : commands_of sessions session ≡ commands = ap (λ (found : Option (List Command)). unwrap_or found []) is in
    ap (λ c. flat_map reply_text (replies_from (answers_of sessions journal) session 0 c))
    (sym (ap (take (length commands)) own ∙ all_of commands))

-- an error of a journal, by the inputs
pub refusal_by : (inputs : List (List ℕ)) (journal : List (List Entry)) (sessions : List (List Command))
    (error : AnswerError) → AreInputs inputs sessions → IsFaultOf sessions journal error
    → IsRefusal inputs journal error
refusal_by inputs journal sessions (BadJournal shard place) are fault = record {
  sessions = sessions;
  inputs_are = are;
  first = fault;
  not_orderly = not_whole sessions journal shard place fault;
}
refusal_by inputs journal sessions Memory are fault = tt

-- the texts of the replies that a journal in order gives
pub are_answers : (inputs : List (List ℕ)) (journal : List (List Entry)) (sessions : List (List Command))
    (texts : List (List ℕ)) → AreInputs inputs sessions → AllInOrder sessions journal
    → AreTexts (answers_of sessions journal) sessions texts → AreAnswers inputs journal texts
are_answers inputs journal sessions texts are all said = record {
  sessions = sessions;
  inputs_are = are;
  orderly = whole sessions journal all;
  count = said.count ∙ are.count;
  each = λ session commands is. said.each session commands is ∙ ap Some (wire_is sessions journal session commands is);
}
