-- Driven sessions, with what was closed, as a whole.
use Rattle.std.proofs.Common.{◌≡◌, ℕ, List, [], ◌∷◌, ◌++◌, length, map, refl, ap, sym, ◌∙◌, subst}
use Rattle.std.specs.FinMap as finite
use Rattle.std.proofs.lemmas.List.{length-map}
use Rattle.flake_base.specs.declared.journal.Entry.{Entry}
use Rattle.flake_base.specs.declared.session.SessionEnd.{SessionEnd}
use Rattle.pin_core.specs.declared.sizes.Sizes as pool_sizes
use Rattle.pinned_pool.specs.Ends.{End, pool_end}
use Rattle.pinned_pool.specs.Views.{IsLoose}
use Rattle.pinned_pool.specs.declared.view.View.{View}
use Rattle.flake_model.specs.Deed as deed
use Rattle.flake_model.specs.Deed.{Deed, Places, places_left, places_after}
use Rattle.flake_model.specs.Journal.{Step}
use Rattle.flake_model.specs.Replay.{Showing, replayed, replay_from, replay, places_from}
use Rattle.flake_model.specs.Run.{all_commands}
use Rattle.flake_model.specs.Session.{Session}
use Rattle.flake_model.specs.Store.{Store, after}
use Rattle.order_book.specs.Closed.{AreClosed}
use Rattle.order_book.specs.Pages.{ShardList, SessionList}
use Rattle.order_book.specs.declared.rule.BookSizes as book_sizes
use Rattle.schedule_text.specs.declared.line.Line.{Line}
use Rattle.serve_model.specs.Handed.{SessionRun, session_in, runs_in, IsLastSeat}
use Rattle.serve_model.specs.Lists.{AreLists}
use Rattle.serve_model.specs.Seats.{HasAll}
use Rattle.serve_model.proofs.Ran.{was_run}
use Rattle.serve_model.proofs.Seats.{joins_add}
use Rattle.serve_model.proofs.Served.{lists_long}
use Rattle.transcript_model.specs.Lines.{EventLine, line_of}
use Rattle.any_wire.specs.Texts.{Sending}
use Rattle.transcript_model.specs.Sources.{AreSources}
use Rattle.transcript_model.specs.Transcript as transcript
use Rattle.transcript_model.specs.Transcript.{shown_by, deeds_in, AreAllApart, IsToldBy}
use Rattle.transcript_model.proofs.Sourced.{replay_gives}
use Rattle.drive_told.specs.Closed.{WereClosed}
use Rattle.drive_told.specs.Driven.{OneDriven, AreDriven}
use Rattle.drive_told.specs.Together.{driven_run, HaveDriven, DrivenTogether}
use Rattle.drive_told.proofs.Apart.{all_apart, loose_front}
use Rattle.drive_told.proofs.Owned.{own_of, all_deeds, are_sources}
use Rattle.drive_told.proofs.Ran as ran
use Rattle.drive_told.proofs.Told.{by_own}

-- what a replay leaves lies where the deeds that it gives leave it
left_by_replay : (shows : Showing) (store : Store) (places : Places) (steps : List Step)
    → places_left store places (replay_from shows store places steps) ≡ places_from shows store places steps
left_by_replay shows store places [] = refl
left_by_replay shows store places (step ∷ steps) =
    left_by_replay shows (after store step.1)
    (places_after store places step.1 (replayed shows store places step).stored) steps

all_left : (shows : Showing) (histories : List (List Step))
    → map deed.final_places (map (λ steps. replay shows steps) histories)
    ≡ map (λ steps. places_from shows finite.empty finite.empty steps) histories
all_left shows [] = refl
all_left shows (steps ∷ histories) =
    (λ i. left_by_replay shows finite.empty finite.empty steps i ∷ all_left shows histories i)

module _ {W : Type 0} (sends : Sending W) (books : book_sizes.BookSizes) (z : pool_sizes.Sizes) (ring threshold : ℕ)
    (schedule : List Line) (lines : List EventLine) (each : List (OneDriven W)) (past : List W)
    (shards : List ShardList)
    (lists : List SessionList) (journal : List (List Entry)) (main store last : View) (closed : End)
    (answers : map line_of lines ≡ schedule)
    (are : AreDriven sends z books.shards ring threshold lines each lists main)
    (were : WereClosed books z shards lists journal main store last closed) where
  abbrev all : List SessionRun
  all = ran.runs_from sends z books.shards ring threshold lines 0 each are.all

  abbrev own_lists : List SessionList
  own_lists = map (λ (one : OneDriven W). one.list) each

  abbrev ends : List SessionEnd
  ends = map (λ (one : OneDriven W). one.end) each

  abbrev olds : List W
  olds = map (λ (one : OneDriven W). one.old) each ++ past

  abbrev news : List W
  news = map (λ (one : OneDriven W). one.new) each ++ past

  book : AreClosed books shards own_lists
  book = subst (AreClosed books shards) are.lists_are were.book

  as_many : length own_lists ≡ books.sessions
  as_many = sym (ap length are.lists_are) ∙ were.as_many

  book_lists : AreLists books (runs_in all) shards own_lists
  book_lists = record {
    closed = book;
    numbered = were.parts.numbered;
    legal = were.parts.legal;
    runs_are = ran.runs_are sends z books.shards ring threshold lines 0 each are.all;
    as_many = sym (lists_long books.shards 0 (runs_in all))
        ∙ sym (ap length (ran.lists_are sends z books.shards ring threshold lines 0 each are.all)) ∙ as_many;
    told = ran.lists_are sends z books.shards ring threshold lines 0 each are.all;
  }

  last_seat : IsLastSeat z store (are.spare ∷ []) (map (λ (one : OneDriven W). one.seat) each) last
  last_seat = record {
    all = subst (HasAll (store ∷ are.spare ∷ map (λ (one : OneDriven W). one.seat) each)) (sym were.last_is)
        (joins_add (are.spare ∷ map (λ (one : OneDriven W). one.seat) each) main store are.seats);
    spare_is = (are.spare_is, tt);
    loose = were.loose;
    looked = were.looked;
    nearby = were.nearby;
  }

  -- by the deeds of these sessions, what was said is right
  record IsJudged (held : End) (sessions : List Session) : Type 0 where
    told_by : IsToldBy sends (driven_run z ring threshold (all_commands sessions) ends journal held) olds news
        (own_of own_lists) schedule lines
    sources : AreSources (driven_run z ring threshold (all_commands sessions) ends journal held) (all_deeds shards)
        (own_of own_lists) told_by.stages
    apart : AreAllApart
        (transcript.transcript_places (driven_run z ring threshold (all_commands sessions) ends journal held) lines)

  judged : (held : End) → IsJudged held (map session_in all)
  judged held =
      let run = driven_run z ring threshold (all_commands (map session_in all)) ends journal held in
      let stages = map (λ (one : OneDriven W). one.stage) each in
      let long : length stages ≡ length all =
      length-map each (λ (one : OneDriven W). one.stage) ∙ sym (length-map each (λ (one : OneDriven W). one.end))
      ∙ ap length (ran.ends_are sends z books.shards ring threshold lines 0 each are.all)
      ∙ length-map all (λ (r : SessionRun). r.run.end) in
      let told = by_own sends z books.shards ring threshold lines each are.all past schedule answers journal held
      are.stages_apart in
      let sources : AreSources run (all_deeds shards) (own_of own_lists) stages =
      are_sources books all shards own_lists book_lists run stages refl
      (ran.ends_are sends z books.shards ring threshold lines 0 each are.all) were.parts.journal_is long in
      let replays : deeds_in run lines ≡ all_deeds shards =
      replay_gives run (own_of own_lists) stages told.wholes lines told.told (all_deeds shards) sources in
      let loose : IsLoose store = loose_front main store (subst IsLoose were.last_is were.loose) in
      record {
        told_by = told;
        sources = sources;
        apart = subst AreAllApart
            (ap (map deed.final_places) (sym replays) ∙ all_left (shown_by lines) (transcript.steps_in run))
            (all_apart z shards store were.parts.stock loose were.parts.legal);
      }

  pub have : HaveDriven sends z ring threshold schedule lines each past journal closed
  have =
      let served = ran.served sends z books.shards ring threshold lines each are.all in
      let whole = was_run books z threshold shards own_lists journal store _ _ ends _ book as_many were.parts served
      last (are.spare ∷ []) last_seat in
      let right : IsJudged (pool_end z last) whole.0.served.sessions =
      subst (IsJudged (pool_end z last)) (sym whole.1.sessions_are) (judged (pool_end z last)) in
      subst (HaveDriven sends z ring threshold schedule lines each past journal) (sym were.closed_is) (record {
        ran = whole.0;
        texts_are = whole.1.texts_are ∙ ran.texts_are sends z books.shards ring threshold lines 0 each are.all;
        replies_are = whole.1.replies_are ∙ ran.replies_are sends z books.shards ring threshold lines 0 each are.all;
        own = own_of own_lists;
        shards = all_deeds shards;
        told_by = right.told_by;
        sources = right.sources;
        apart = right.apart;
      })

pub together : {W : Type 0} (sends : Sending W) → DrivenTogether sends
together sends books z ring threshold schedule lines each past shards lists journal main store last closed answers are
    were =
    have sends books z ring threshold schedule lines each past shards lists journal main store last closed answers are
    were
