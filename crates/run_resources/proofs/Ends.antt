-- What the end of a run shows.
use Rattle.std.proofs.Common.{◌≡◌, ℕ, Bool, List, [], ◌∷◌, map, length, ap, sym, ◌∙◌, subst}
use Rattle.std.specs.List.{flat_map}
use Rattle.std.proofs.lemmas.List.{length-map}
use Rattle.std.proofs.lemmas.List.FromFn.{length-range_with_len}
use Rattle.flake_base.specs.Roomy.{Roomy}
use Rattle.flake_base.specs.declared.journal.Entry.{Entry}
use Rattle.flake_base.specs.declared.session.SessionEnd.{SessionEnd}
use Rattle.flake_model.specs.Deed.{entries_of}
use Rattle.flake_model.specs.Run.{wire_texts}
use Rattle.pin_core.specs.declared.sizes.Sizes as pool_sizes
use Rattle.pinned_pool.specs.Moves.{joined_views}
use Rattle.pinned_pool.specs.Views.{IsLoose}
use Rattle.pinned_pool.specs.Ends.{End, pool_end, LooksClaimed}
use Rattle.pinned_pool.specs.Named.{ClaimsAreNearby}
use Rattle.pinned_pool.specs.declared.view.View.{View}
use Rattle.order_book.specs.Closed.{AreClosed}
use Rattle.order_book.specs.Pages.{ShardList, SessionList}
use Rattle.order_book.specs.declared.rule.BookSizes as book_sizes
use Rattle.shard_core.specs.Stock.{AreParts}
use Rattle.serve_model.specs.Handed.{OneRun, IsLastSeat}
use Rattle.serve_model.specs.Seats.{HasAll}
use Rattle.serve_model.specs.Replies.{all_replies}
use Rattle.serve_model.specs.Shown.{WasRun}
use Rattle.serve_model.specs.Whole.{ServedTogether, WholeRun}
use Rattle.serve_model.proofs.Seats.{joins_add}
use Rattle.flake_base.specs.Histories.{histories}
use Rattle.dump_model.specs.Seen.{SeenMakesDump}
use Rattle.run_resources.specs.Closed.{WasClosed}
use Rattle.run_resources.specs.Together.{AreRuns, HaveShown}
use Rattle.run_resources.proofs.Dumps.{AreDumps, dumps}

-- a run with these texts and replies, and the dumps of what the first of these lists saw, whatever its end is called
abbrev Texts : pool_sizes.Sizes → ℕ → List (List ℕ) → List Bool → List SessionEnd → List SessionList
    → List (List Entry) → List (Bool × List ℕ) → List (Bool × List (List ℕ)) → End → Type 0
Texts z threshold givens endeds ends lists journal texts replies end =
    (run : WasRun z threshold givens endeds ends journal end) × (wire_texts run.served.sessions journal ≡ texts)
    × (all_replies run.served.sessions journal ≡ replies) × AreDumps lists journal run.served.sessions

-- what the closing says, together
pub closed : (books : book_sizes.BookSizes) (z : pool_sizes.Sizes) (shards : List ShardList) (lists : List SessionList)
    (journal : List (List Entry)) (main store last : View) (end : End) → AreClosed books shards lists
    → AreParts z books.shards shards journal store → last ≡ joined_views main store → IsLoose last → LooksClaimed last
    → ClaimsAreNearby z last → end ≡ pool_end z last → WasClosed books z lists main journal end
closed books z shards lists journal main store last end tied parts last_is loose looked nearby end_is = record {
  shards = shards;
  store = store;
  last = last;
  tied = tied;
  parts = parts;
  last_is = last_is;
  loose = loose;
  looked = looked;
  nearby = nearby;
  closed_is = end_is;
}

-- the seats of the runs are joined with the store's: so the run shows what they did
pub shown : (books : book_sizes.BookSizes) (z : pool_sizes.Sizes) (shards : List ShardList) (lists : List SessionList)
    (journal : List (List Entry)) (main store last : View) (closed : End)
    → ServedTogether → WholeRun → SeenMakesDump → AreClosed books shards lists → length lists ≡ books.sessions
    → AreParts z books.shards shards journal store → last ≡ joined_views main store
    → IsLoose last → LooksClaimed last → ClaimsAreNearby z last → closed ≡ pool_end z last
    → (threshold : ℕ) (each : List OneRun) → AreRuns z threshold books.shards each lists main
    → HaveShown z threshold each journal closed
shown books z shards lists journal main store last closed together whole makes are_closed as_many parts last_is loose
    looked nearby closed_is threshold each runs =
    let own : List SessionList = map (λ (one : OneRun). one.list) each in
    let ends : List SessionEnd = map (λ (one : OneRun). one.end) each in
    let seats : List View = map (λ (one : OneRun). one.seat) each in
    let is : IsLastSeat z store (runs.spare ∷ []) seats last = record {
      all = subst (HasAll (store ∷ runs.spare ∷ seats)) (sym last_is)
          (joins_add (runs.spare ∷ seats) main store runs.seats);
      spare_is = (runs.spare_is, tt);
      loose = loose;
      looked = looked;
      nearby = nearby;
    } in
    let served = together z threshold books.shards each runs.all in
    let own_closed = subst (AreClosed books shards) runs.lists_are are_closed in
    let own_many = sym (ap length runs.lists_are) ∙ as_many in
    let ran = whole books z threshold shards own journal store _ _ ends seats (runs.spare ∷ []) last own_closed own_many
    parts served.0 is in
    let own_dumps = dumps books z threshold shards own journal store _ _ ends seats own_closed own_many parts served.0
    makes in
    let w = subst (Texts z threshold _ _ ends own journal
    (map (λ (one : OneRun). (one.end.failed, flat_map (λ text. text) one.texts)) each)
    (map (λ (one : OneRun). (one.end.failed, one.texts)) each)) (sym closed_is) (
      ran.0,
      ran.1.texts_are ∙ served.1,
      ran.1.replies_are ∙ served.2,
      subst (AreDumps own journal) (sym ran.1.sessions_are) own_dumps,
    ) in
    record { ran = w.0; texts_are = w.1; replies_are = w.2; dumps = w.3 }

-- a journal has a history of each shard
pub histories_are : (z : pool_sizes.Sizes) (count : ℕ) (shards : List ShardList) (journal : List (Roomy Entry))
    (seat : View) → AreParts z count shards (histories journal) seat → length journal ≡ count
histories_are z count shards journal seat parts =
    sym (length-map journal (λ (history : Roomy Entry). history.items)) ∙ ap length parts.journal_is
    ∙ length-map shards (λ (s : ShardList). entries_of s.told)
    ∙ sym (length-map shards (λ (s : ShardList). s.number)) ∙ ap length parts.numbered
    ∙ length-range_with_len 0 count
