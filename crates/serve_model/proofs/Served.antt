-- The lists of a served book are a served run.
use Rattle.std.proofs.Common.{◌≡◌, ℕ, ◌+◌, ◌<◌, ◌≤◌, zero, suc, List, [], ◌∷◌, Option, Some, None, length, map, take}
use Rattle.std.proofs.Common.{slice_get, unwrap_or, arith, refl, ap, sym, ◌∙◌, subst}
use Rattle.std.specs.List.{flat_map, AllByRecursion}
use Rattle.std.proofs.lemmas.Bool.{ne_eqb}
use Rattle.std.proofs.lemmas.List.{length-map}
use Rattle.std.proofs.lemmas.List.FromFn.{length-range_with_len}
use Rattle.view_sums.specs.Total.{Each}
use Rattle.flake_base.specs.declared.journal.Entry.{Entry}
use Rattle.flake_model.specs.Command.{Command}
use Rattle.flake_model.specs.Reply.{reply_text}
use Rattle.flake_model.specs.Deed.{entries_of}
use Rattle.flake_model.specs.Journal.{Step, answers_of, replies_from, commands_of, wire_text, of_session, in_shard}
use Rattle.flake_model.specs.Journal.{IsServed, none, HasInOrder, next_parts, ran_steps}
use Rattle.flake_model.specs.Order.{EntriesRise}
use Rattle.flake_model.specs.Run.{all_commands, ran_by, wire_texts_from}
use Rattle.flake_model.specs.Session.{Session, IsSession}
use Rattle.order_book.specs.Pages.{Ranked, Page, deed_session as own_session, ShardList, SessionList, shown_shard}
use Rattle.order_book.specs.Closed.{AreClosed, journal_of, own_deeds, AreRising, AreMeant, AreAnswered, IsReplayed}
use Rattle.order_book.specs.Closed.{IsShared}
use Rattle.order_book.specs.declared.rule.BookSizes.{BookSizes}
use Rattle.order_book.proofs.Shared.{shares}
use Rattle.order_book.proofs.Replayed.{replays}
use Rattle.shard_core.specs.Outcomes.{call_told}
use Rattle.serve_model.specs.Handed.{SessionRun, session_in, runs_in}
use Rattle.serve_model.specs.Lists.{AreLists}
use Rattle.serve_model.specs.Replies.{reply_texts, all_replies_from}
use Rattle.serve_model.specs.Runs.{Run, IsRun, run_text, run_texts, list_of, lists_told, texts_told, all_texts_told}
use Rattle.serve_model.proofs.Answers.{AreTold, calls_are}
use Rattle.serve_model.proofs.Calls.{run_rising, run_meant, at_call}
use Rattle.serve_model.proofs.InOrder.{run_served}
use Rattle.serve_model.proofs.Places.{each_at, past_end, get_map, get_map_none, in_range}

-- what holds of the list of each run, and of each list
list_at : (P : SessionList → Type 0) (shards n : ℕ) (runs : List Run) (k : ℕ) (run : Run)
    → Each P (lists_told shards n runs) → slice_get runs k ≡ Some run → P (list_of shards (n + k) run)
list_at P shards n [] k run each is = absurd (let no : ⊥ = cc in no)
list_at P shards n (first ∷ runs) zero run each is =
    let same : first ≡ run = cc in
    let e : n ≡ n + 0 = omega arith in
    subst (λ (y : ℕ × Run). P (list_of shards y.0 y.1)) (λ i. (e i, same i)) each.0
list_at P shards n (first ∷ runs) (suc k) run each is =
    let e : n + 1 + k ≡ n + suc k = omega arith in
    subst (λ m. P (list_of shards m run)) e (list_at P shards (n + 1) runs k run each.1 is)

lists_each : (P : SessionList → Type 0) (shards n : ℕ) (runs : List Run)
    → ((k : ℕ) (run : Run) → slice_get runs k ≡ Some run → P (list_of shards (n + k) run))
    → Each P (lists_told shards n runs)
lists_each P shards n [] each = tt
lists_each P shards n (first ∷ runs) each =
    let e : n + 0 ≡ n = omega arith in (
      subst (λ m. P (list_of shards m first)) e (each 0 first refl),
      lists_each P shards (n + 1) runs (λ k run is.
          let d : n + suc k ≡ n + 1 + k = omega arith in
          subst (λ m. P (list_of shards m run)) d (each (suc k) run is)),
    )

pub lists_long : (shards n : ℕ) (runs : List Run) → length (lists_told shards n runs) ≡ length runs
lists_long shards n [] = refl
lists_long shards n (run ∷ runs) = ap suc (lists_long shards (n + 1) runs)

-- the list behind a history
record HasList (shards : List ShardList) (k : ℕ) (history : List Entry) : Type 0 where
  list : ShardList
  is : slice_get shards k ≡ Some list
  history_is : history ≡ entries_of list.told

list_behind : (shards : List ShardList) (k : ℕ) (history : List Entry)
    → slice_get (journal_of shards) k ≡ Some history → HasList shards k history
list_behind [] k history is = absurd (let no : ⊥ = cc in no)
list_behind (list ∷ shards) zero history is = record {
  list = list;
  is = refl;
  history_is = (let same : history ≡ entries_of list.told = cc in same);
}
list_behind (list ∷ shards) (suc k) history is =
    let rest = list_behind shards k history is in
    record { list = rest.list; is = rest.is; history_is = rest.history_is }

-- each deed of a shard names a session of the book
abbrev pub AreNamed : ℕ → ShardList → Type 0
AreNamed sessions shard = AllByRecursion (λ (entry : Entry). entry.session < sessions) (entries_of shard.told)

named_on : (sessions number : ℕ) (xs : List Ranked)
    → Each (λ x. (x.shard ≡ number) × (own_session x < sessions)) xs
    → AllByRecursion (λ (entry : Entry). entry.session < sessions) (entries_of (map (λ (x : Ranked). x.deed) xs))
named_on sessions number [] each = tt
named_on sessions number (x ∷ xs) each = (each.0.1, named_on sessions number xs each.1)

named_in : (sessions : ℕ) (pages : List Page)
    → Each (λ p. Each (λ x. (x.shard ≡ p.number) × (own_session x < sessions)) p.deeds) pages
    → Each (AreNamed sessions) (map shown_shard pages)
named_in sessions [] each = tt
named_in sessions (p ∷ pages) each = (named_on sessions p.number p.deeds each.0, named_in sessions pages each.1)

pub all_named : (books : BookSizes) (shards : List ShardList) (sessions : List SessionList)
    → AreClosed books shards sessions → Each (AreNamed books.sessions) shards
all_named books shards sessions closed =
    subst (Each (AreNamed books.sessions)) (sym closed.shards_shown)
    (named_in books.sessions closed.shard_pages closed.one.named)

none_of : (session sessions : ℕ) (entries : List Entry) → sessions ≤ session
    → AllByRecursion (λ (entry : Entry). entry.session < sessions) entries → of_session session entries ≡ []
none_of session sessions [] past named = refl
none_of session sessions (entry ∷ entries) past named =
    rw (ne_eqb entry.session session (λ is. omega (arith, named.0)))
    (none_of session sessions entries past named.1)

-- the sessions have the commands of the runs
pub commands_same : (all : List SessionRun)
    → map (λ (run : Run). run.commands) (runs_in all) ≡ all_commands (map session_in all)
commands_same [] = refl
commands_same (ran ∷ all) = ap (λ (l : List (List Command)). ran.run.commands ∷ l) (commands_same all)

pub all_sessions : (all : List SessionRun) → Each (λ (ran : SessionRun). IsSession (session_in ran)) all
    → AllByRecursion IsSession (map session_in all)
all_sessions [] each = tt
all_sessions (ran ∷ all) each = (each.0, all_sessions all each.1)

texts_are : (commands : List (List Command)) (journal : List (List Entry)) (n : ℕ) (all : List SessionRun)
    → ((k : ℕ) (run : Run) → slice_get (runs_in all) k ≡ Some run
    → wire_text commands journal (n + k) run.end.replies ≡ run_text run)
    → wire_texts_from commands journal n (map session_in all) ≡ texts_told (runs_in all)
texts_are commands journal n [] each = refl
texts_are commands journal n (ran ∷ all) each =
    let run = ran.run in
    let e : n ≡ n + 0 = omega arith in
    let here : wire_text commands journal n run.end.replies ≡ run_text run =
    ap (λ m. wire_text commands journal m run.end.replies) e ∙ each 0 run refl in
    let rest = texts_are commands journal (n + 1) all (λ k later is.
    let d : n + 1 + k ≡ n + suc k = omega arith in
    ap (λ m. wire_text commands journal m later.end.replies) d ∙ each (suc k) later is) in
    λ i. (run.end.failed, here i) ∷ rest i

-- and one by one
replies_are : (commands : List (List Command)) (journal : List (List Entry)) (n : ℕ) (all : List SessionRun)
    → ((k : ℕ) (run : Run) → slice_get (runs_in all) k ≡ Some run
    → reply_texts commands journal (n + k) run.end.replies ≡ run_texts run)
    → all_replies_from commands journal n (map session_in all) ≡ all_texts_told (runs_in all)
replies_are commands journal n [] each = refl
replies_are commands journal n (ran ∷ all) each =
    let run = ran.run in
    let e : n ≡ n + 0 = omega arith in
    let here : reply_texts commands journal n run.end.replies ≡ run_texts run =
    ap (λ m. reply_texts commands journal m run.end.replies) e ∙ each 0 run refl in
    let rest = replies_are commands journal (n + 1) all (λ k later is.
    let d : n + 1 + k ≡ n + suc k = omega arith in
    ap (λ m. reply_texts commands journal m later.end.replies) d ∙ each (suc k) later is) in
    λ i. (run.end.failed, here i) ∷ rest i

-- what a session of the list ran, and what one past its end did
ran_there : (sessions : List Session) (k : ℕ) (session : Session) → slice_get sessions k ≡ Some session
    → ran_by sessions k ≡ ran_steps k session.commands session.end.replies session.begun
ran_there sessions k session is = rw is refl

ran_past : (sessions : List Session) (k : ℕ) → slice_get sessions k ≡ None → ran_by sessions k ≡ []
ran_past sessions k is = rw is refl

module _ (books : BookSizes) (all : List SessionRun) (shards : List ShardList) (sessions : List SessionList)
    (lists : AreLists books (runs_in all) shards sessions) where
  abbrev runs : List Run
  runs = runs_in all

  abbrev ran : List Session
  ran = map session_in all

  abbrev commands : List (List Command)
  commands = all_commands ran

  pub shards_long : length shards ≡ books.shards
  shards_long = sym (length-map shards (λ (s : ShardList). s.number)) ∙ ap length lists.numbered
      ∙ length-range_with_len 0 books.shards

  pub sessions_long : length sessions ≡ books.sessions
  sessions_long = ap length lists.told ∙ lists_long books.shards 0 runs ∙ lists.as_many

  pub rising : AreRising sessions
  rising = subst AreRising (sym lists.told)
      (lists_each (λ (s : SessionList). EntriesRise (entries_of (own_deeds s))) books.shards 0 runs
      (λ k run is. run_rising books.shards (0 + k) run))

  commands_at : (k : ℕ) (run : Run) → slice_get runs k ≡ Some run → slice_get commands k ≡ Some run.commands
  commands_at k run is =
      subst (λ (l : List (List Command)). slice_get l k ≡ Some run.commands) (commands_same all)
      (get_map (λ (run : Run). run.commands) runs k run is)

  pub answered : AreAnswered commands shards sessions
  answered = record {
    legal = lists.legal;
    meant = subst (Each (λ (s : SessionList). AreMeant commands (own_deeds s))) (sym lists.told)
        (lists_each (λ (s : SessionList). AreMeant commands (own_deeds s)) books.shards 0 runs (λ k run is.
        run_meant commands books.shards (0 + k) run
        (subst (λ n. slice_get commands n ≡ Some run.commands) (omega arith) (commands_at k run is))));
  }

  replayed : (k : ℕ) (run : Run) → slice_get runs k ≡ Some run
      → IsReplayed commands (journal_of shards) (list_of books.shards k run)
  replayed k run is =
      let each : Each (IsReplayed commands (journal_of shards)) (lists_told books.shards 0 runs) =
      subst (Each (IsReplayed commands (journal_of shards))) lists.told
      (replays commands books shards sessions lists.closed shards_long sessions_long rising answered) in
      let e : 0 + k ≡ k = omega arith in
      subst (λ n. IsReplayed commands (journal_of shards) (list_of books.shards n run)) e
      (list_at (IsReplayed commands (journal_of shards)) books.shards 0 runs k run each is)

  -- the journal's answers to a session's parts are those that it was told
  pub told_at : (k : ℕ) (run : Run) → slice_get runs k ≡ Some run
      → AreTold (answers_of commands (journal_of shards)) books.shards k 0 run.commands run.calls
  told_at k run is =
      let n = length run.calls in
      let known = replayed k run is in
      calls_are (answers_of commands (journal_of shards)) books.shards k 0 run.commands run.calls
      (call_told books.shards k n 0 (next_parts n run.commands) run.behind)
      (each_at IsRun runs k run lists.runs_are is).calls_are
      (at_call (λ (entry : Entry). 0 + length run.calls ≤ entry.call) books.shards k n 0 (next_parts n run.commands)
      run.behind (λ j from. omega arith))
      (λ e own from. known e own)

  pub commands_are : (k : ℕ) (run : Run) → slice_get runs k ≡ Some run → commands_of commands k ≡ run.commands
  commands_are k run is = ap (λ (found : Option (List Command)). unwrap_or found []) (commands_at k run is)

  wire_is : (k : ℕ) (run : Run) → slice_get runs k ≡ Some run
      → wire_text commands (journal_of shards) k run.end.replies ≡ run_text run
  wire_is k run is =
      let replies_are = (each_at IsRun runs k run lists.runs_are is).replies_are in
      let answers = answers_of commands (journal_of shards) in
      let told = told_at k run is in
      (λ i. flat_map reply_text (replies_from answers k 0 (take (replies_are i) (commands_are k run is i))))
      ∙ ap (flat_map reply_text) told.replies

  pub texts : wire_texts_from commands (journal_of shards) 0 ran ≡ texts_told runs
  texts = texts_are commands (journal_of shards) 0 all (λ k run is.
      let e : 0 + k ≡ k = omega arith in
      ap (λ m. wire_text commands (journal_of shards) m run.end.replies) e ∙ wire_is k run is)

  replies_at : (k : ℕ) (run : Run) → slice_get runs k ≡ Some run
      → reply_texts commands (journal_of shards) k run.end.replies ≡ run_texts run
  replies_at k run is =
      let replies = (each_at IsRun runs k run lists.runs_are is).replies_are in
      let answers = answers_of commands (journal_of shards) in
      let told = told_at k run is in
      (λ i. map reply_text (replies_from answers k 0 (take (replies i) (commands_are k run is i))))
      ∙ ap (map reply_text) told.replies

  pub replies : all_replies_from commands (journal_of shards) 0 ran ≡ all_texts_told runs
  replies = replies_are commands (journal_of shards) 0 all (λ k run is.
      let e : 0 + k ≡ k = omega arith in
      ap (λ m. reply_texts commands (journal_of shards) m run.end.replies) e ∙ replies_at k run is)

  -- a session's parts in a shard
  part_of : (session shard : ℕ) (list : ShardList) → slice_get shards shard ≡ Some list → (found : Option SessionRun)
      → slice_get all session ≡ found
      → IsServed (in_shard books.shards shard (ran_by ran session)) (of_session session (entries_of list.told))
  part_of session shard list is None past =
      let none_run = get_map_none (λ (r : SessionRun). r.run) all session past in
      let none_here : of_session session (entries_of list.told) ≡ [] =
      none_of session books.sessions (entries_of list.told)
      (omega (arith, lists.as_many, past_end runs session none_run))
      (each_at (AreNamed books.sessions) shards shard list (all_named books shards sessions lists.closed) is) in
      let nothing : ran_by ran session ≡ [] = ran_past ran session (get_map_none session_in all session past) in
      subst (λ (y : List Step × List Entry). IsServed (in_shard books.shards shard y.0) y.1)
      (λ i. (sym nothing i, sym none_here i)) none
  part_of session shard list is (Some one) there =
      let run = one.run in
      let run_there : slice_get runs session ≡ Some run = get_map (λ (r : SessionRun). r.run) all session one there in
      let own = each_at IsRun runs session run lists.runs_are run_there in
      let numbers : slice_get (map (λ (s : ShardList). s.number) shards) shard ≡ Some list.number =
      get_map (λ (s : ShardList). s.number) shards shard list is in
      let number : list.number ≡ shard =
      in_range 0 books.shards shard list.number
      (subst (λ (l : List ℕ). slice_get l shard ≡ Some list.number) lists.numbered numbers) ∙ (omega arith) in
      let with_all : Each (IsShared list) (lists_told books.shards 0 runs) = subst (Each (IsShared list)) lists.told
      (each_at (λ (s : ShardList). Each (IsShared s) sessions) shards shard list
      (shares books shards sessions lists.closed) is) in
      let e : 0 + session ≡ session = omega arith in
      let shared : IsShared list (list_of books.shards session run) =
      subst (λ n. IsShared list (list_of books.shards n run)) e
      (list_at (IsShared list) books.shards 0 runs session run with_all run_there) in
      let served = run_served books.shards list.number session run own in
      let there_ran = ran_there ran session (session_in one) (get_map session_in all session one there) in
      let steps : ran_steps session run.commands (length run.calls) (length run.behind) ≡ ran_by ran session =
      ap (λ n. ran_steps session run.commands n (length run.behind)) (sym own.replies_are) ∙ sym there_ran in
      subst (λ (y : List Step × List Entry × ℕ). IsServed (in_shard books.shards y.2 y.0) y.1)
      (λ i. (steps i, sym shared.entries i, number i)) served

  pub in_order : HasInOrder (ran_by ran) (journal_of shards)
  in_order session shard history is =
      let behind = list_behind shards shard history is in
      let long : books.shards ≡ length (journal_of shards) =
      sym (length-map shards (λ (s : ShardList). entries_of s.told) ∙ shards_long) in
      subst (λ (y : ℕ × List Entry). IsServed (in_shard y.0 shard (ran_by ran session)) (of_session session y.1))
      (λ i. (long i, sym behind.history_is i))
      (part_of session shard behind.list behind.is (slice_get all session) refl)
