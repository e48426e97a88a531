-- A served run, with the end of its pool, from what the layers hand up.
use Rattle.std.proofs.Common.{◌≡◌, Bool, ℕ, ◌+◌, List, [], ◌∷◌, length, map, refl, ap, sym, ◌∙◌, subst}
use Rattle.std.specs.List.{flat_map}
use Rattle.std.proofs.lemmas.List.Folds.{flat_map-map}
use Rattle.view_sums.specs.Total.{Each}
use Rattle.flake_base.specs.declared.journal.Entry.{Entry}
use Rattle.flake_base.specs.declared.session.SessionEnd.{SessionEnd}
use Rattle.pin_core.specs.declared.sizes.Sizes as pool_sizes
use Rattle.pinned_pool.specs.Ends.{pool_end}
use Rattle.pinned_pool.specs.declared.view.View.{View}
use Rattle.flake_model.specs.Reply.{reply_text}
use Rattle.flake_model.specs.Run.{WasServed}
use Rattle.flake_model.specs.Session.{Session, IsSession}
use Rattle.order_book.specs.Closed.{AreClosed, journal_of}
use Rattle.order_book.specs.Pages.{ShardList, SessionList}
use Rattle.order_book.specs.declared.rule.BookSizes as book_sizes
use Rattle.order_book.proofs.Ordered.{has_ranks}
use Rattle.shard_core.specs.Stock.{AreParts}
use Rattle.serve_model.specs.Handed.{SessionRun, session_in, runs_in, OneRun, AllRun, AreServed, IsLastSeat}
use Rattle.serve_model.specs.Lists.{AreLists}
use Rattle.serve_model.specs.Runs.{Run, run_text, run_texts, replies_told, IsRun}
use Rattle.serve_model.specs.Runs.{lists_told, texts_told, all_texts_told}
use Rattle.serve_model.specs.Seats.{AreSpentSeats}
use Rattle.serve_model.specs.Shown.{WasRun}
use Rattle.serve_model.specs.Whole.{AreThose, ServedTogether}
use Rattle.serve_model.proofs.Counted.{counted}
use Rattle.serve_model.proofs.OneHistory.{one_history}
use Rattle.serve_model.proofs.Served.{lists_long, sessions_long, rising, all_sessions, texts, replies, in_order}

module _ {T : Type 0} (f : SessionRun → T) (g : Session → T)
    (same : (ran : SessionRun) → g (session_in ran) ≡ f ran) where
  mapped : (all : List SessionRun) → map g (map session_in all) ≡ map f all
  mapped [] = refl
  mapped (ran ∷ all) = λ i. same ran i ∷ mapped all i

ends_mapped : (all : List SessionRun)
    → map (λ (session : Session). session.end) (map session_in all) ≡ map (λ (ran : SessionRun). ran.run.end) all
ends_mapped [] = refl
ends_mapped (ran ∷ all) = ap (λ (ends : List SessionEnd). ran.run.end ∷ ends) (ends_mapped all)

module _ (books : book_sizes.BookSizes) (z : pool_sizes.Sizes) (threshold : ℕ) (shards : List ShardList)
    (sessions : List SessionList) (journal : List (List Entry)) (store : View) (givens : List (List ℕ))
    (endeds : List Bool) (ends : List SessionEnd) (seats : List View) (closed : AreClosed books shards sessions)
    (as_many : length sessions ≡ books.sessions) (parts : AreParts z books.shards shards journal store)
    (served : AreServed z threshold books.shards givens endeds ends sessions seats) where
  abbrev all : List SessionRun
  all = served.all

  lists : AreLists books (runs_in all) shards sessions
  lists = record {
    closed = closed;
    numbered = parts.numbered;
    legal = parts.legal;
    runs_are = served.runs_are;
    as_many = sym (lists_long books.shards 0 (runs_in all)) ∙ sym (ap length served.told) ∙ as_many;
    told = served.told;
  }

  -- the run, by the journal that the shards' lists make
  own : WasServed givens endeds ends (journal_of shards)
  own = record {
    sessions = map session_in all;
    given_is = mapped (λ ran. ran.given) (λ session. session.given) (λ ran. refl) all ∙ sym served.givens_are;
    ended_is = mapped (λ ran. ran.ended) (λ session. session.ended) (λ ran. refl) all ∙ sym served.endeds_are;
    ends_are = ends_mapped all ∙ sym served.ends_are;
    each_is = all_sessions all served.sessions_are;
    orderly = in_order books all shards sessions lists;
    one_order = (has_ranks books shards sessions closed (sessions_long books all shards sessions lists)
        (rising books all shards sessions lists)).0;
    one_history = one_history books all shards sessions lists;
  }

  -- it is of those sessions
  abbrev Served : List (List Entry) → Type 0
  Served j = (run : WasServed givens endeds ends j) × AreThose all run.sessions j

  pub was_served : Served journal
  unfolding own
  was_served =
      let run : Served (journal_of shards) = (
        own,
        record {
          sessions_are = refl;
          texts_are = texts books all shards sessions lists;
          replies_are = replies books all shards sessions lists;
        },
      ) in
      subst Served (sym parts.journal_is) run

  abbrev Ran : View → List (List Entry) → Type 0
  Ran last j = (run : WasRun z threshold givens endeds ends j (pool_end z last)) × AreThose all run.served.sessions j

  pub was_run : (last : View) (spare : List View) → IsLastSeat z store spare seats last → Ran last journal
  unfolding own
  was_run last spare is =
      let run : Ran last (journal_of shards) = (
        record {
          served = own;
          counted = counted books all shards sessions lists z threshold store last spare seats parts.stock parts.idle
              served.seats_are is;
        },
        record {
          sessions_are = refl;
          texts_are = texts books all shards sessions lists;
          replies_are = replies books all shards sessions lists;
        },
      ) in
      subst (Ran last) (sym parts.journal_is) run

-- the sessions' runs, one behind the other
record HasRuns (z : pool_sizes.Sizes) (threshold shards session : ℕ) (each : List OneRun) : Type 0 where
  all : List SessionRun
  givens_are : map (λ (one : OneRun). one.given) each ≡ map (λ (ran : SessionRun). ran.given) all
  endeds_are : map (λ (one : OneRun). one.ended) each ≡ map (λ (ran : SessionRun). ran.ended) all
  ends_are : map (λ (one : OneRun). one.end) each ≡ map (λ (ran : SessionRun). ran.run.end) all
  sessions_are : Each (λ (ran : SessionRun). IsSession (session_in ran)) all
  runs_are : Each IsRun (runs_in all)
  told : map (λ (one : OneRun). one.list) each ≡ lists_told shards session (runs_in all)
  seats_are : AreSpentSeats z threshold (runs_in all) (map (λ (one : OneRun). one.seat) each)
  texts_are : texts_told (runs_in all)
      ≡ map (λ (one : OneRun). (one.end.failed, flat_map (λ text. text) one.texts)) each
  replies_are : all_texts_told (runs_in all) ≡ map (λ (one : OneRun). (one.end.failed, one.texts)) each

-- the texts of its replies, end to end
abbrev in_one : Bool × List (List ℕ) → Bool × List ℕ
in_one texts = (texts.0, flat_map (λ text. text) texts.1)

run_text_is : (run : Run) → run_text run ≡ flat_map (λ text. text) (run_texts run)
run_text_is run = sym (flat_map-map (λ text. text) reply_text (replies_told run.commands run.calls))

runs_of : (z : pool_sizes.Sizes) (threshold shards session : ℕ) (each : List OneRun)
    → AllRun z threshold shards session each → HasRuns z threshold shards session each
runs_of z threshold shards session [] have = record {
  all = [];
  givens_are = refl;
  endeds_are = refl;
  ends_are = refl;
  sessions_are = tt;
  runs_are = tt;
  told = refl;
  seats_are = tt;
  texts_are = refl;
  replies_are = refl;
}
runs_of z threshold shards session (one ∷ each) have =
    let rest = runs_of z threshold shards (session + 1) each have.1 in
    let has = have.0 in
    let texts : (has.run.end.failed, run_texts has.run) ≡ (one.end.failed, one.texts) =
    λ i. ((sym has.end_is i).failed, sym has.texts_are i) in
    let text : (has.run.end.failed, run_text has.run) ≡ (one.end.failed, flat_map (λ text. text) one.texts) =
    (λ i. (has.run.end.failed, run_text_is has.run i)) ∙ ap in_one texts in
    record {
      all = record { given = one.given; ended = one.ended; run = has.run } ∷ rest.all;
      givens_are = ap (λ (l : List (List ℕ)). one.given ∷ l) rest.givens_are;
      endeds_are = ap (λ (l : List Bool). one.ended ∷ l) rest.endeds_are;
      ends_are = λ i. has.end_is i ∷ rest.ends_are i;
      sessions_are = (has.is_session, rest.sessions_are);
      runs_are = (has.is_run, rest.runs_are);
      told = λ i. has.list_is i ∷ rest.told i;
      seats_are = (has.seat_is, rest.seats_are);
      texts_are = λ i. text i ∷ rest.texts_are i;
      replies_are = λ i. texts i ∷ rest.replies_are i;
    }

-- sessions that were run one by one, or beside each other, were served
pub all_served : ServedTogether
all_served z threshold shards each have =
    let found = runs_of z threshold shards 0 each have in (
      record {
        all = found.all;
        givens_are = found.givens_are;
        endeds_are = found.endeds_are;
        ends_are = found.ends_are;
        sessions_are = found.sessions_are;
        runs_are = found.runs_are;
        told = found.told;
        seats_are = found.seats_are;
      },
      found.texts_are,
      found.replies_are,
    )
