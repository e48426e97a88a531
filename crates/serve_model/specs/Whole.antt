-- What a closed book, a store's parts and the sessions' runs give together.
use Rattle.std.specs.Prelude.{◌≡◌, ℕ, ◌≤◌, Bool, List, length, map}
use Rattle.std.specs.List.{flat_map}
use Rattle.flake_base.specs.declared.journal.Entry.{Entry}
use Rattle.flake_base.specs.declared.session.SessionEnd.{SessionEnd}
use Rattle.pin_core.specs.declared.class.Class.{Class}
use Rattle.pin_core.specs.declared.sizes.Sizes as pool_sizes
use Rattle.pinned_pool.specs.Claims.{count_of}
use Rattle.pinned_pool.specs.Ends.{End, pool_end}
use Rattle.pinned_pool.specs.declared.view.View.{View}
use Rattle.flake_model.specs.Run.{WasServed, all_commands, missing_writes, wire_texts}
use Rattle.flake_model.specs.Session.{Session}
use Rattle.order_book.specs.Closed.{AreClosed}
use Rattle.order_book.specs.Pages.{ShardList, SessionList}
use Rattle.order_book.specs.declared.rule.BookSizes as book_sizes
use Rattle.shard_core.specs.Stock.{AreParts}
use Rattle.serve_model.specs.Demand.{demand_of}
use Rattle.serve_model.specs.Handed.{SessionRun, session_in, runs_in, OneRun, AllRun, AreServed, IsLastSeat}
use Rattle.serve_model.specs.Replies.{all_replies}
use Rattle.serve_model.specs.Runs.{texts_told, all_texts_told}
use Rattle.serve_model.specs.Shown.{IsCounted, WasRun}

-- sessions that ran each for itself were served together, with these texts
abbrev pub ServedTogether : Type 0
ServedTogether = (z : pool_sizes.Sizes) (threshold shards : ℕ) (each : List OneRun)
    → AllRun z threshold shards 0 each
    → (served : AreServed z threshold shards (map (λ (one : OneRun). one.given) each)
    (map (λ (one : OneRun). one.ended) each) (map (λ (one : OneRun). one.end) each)
    (map (λ (one : OneRun). one.list) each) (map (λ (one : OneRun). one.seat) each))
    × (texts_told (runs_in served.all)
    ≡ map (λ (one : OneRun). (one.end.failed, flat_map (λ text. text) one.texts)) each)
    × (all_texts_told (runs_in served.all) ≡ map (λ (one : OneRun). (one.end.failed, one.texts)) each)

-- the sessions are those that ran so, and the journal gives the texts of their replies
pub record AreThose (all : List SessionRun) (sessions : List Session) (journal : List (List Entry)) : Type 0 where
  pub sessions_are : sessions ≡ map session_in all
  pub texts_are : wire_texts sessions journal ≡ texts_told (runs_in all)
  pub replies_are : all_replies sessions journal ≡ all_texts_told (runs_in all)

-- the inputs were served
abbrev pub InputsServed : Type 0
InputsServed = (books : book_sizes.BookSizes) (z : pool_sizes.Sizes) (threshold : ℕ) (shards : List ShardList)
    (sessions : List SessionList) (journal : List (List Entry)) (store : View) (givens : List (List ℕ))
    (endeds : List Bool) (ends : List SessionEnd) (seats : List View)
    → AreClosed books shards sessions → length sessions ≡ books.sessions
    → AreParts z books.shards shards journal store
    → (served : AreServed z threshold books.shards givens endeds ends sessions seats)
    → (run : WasServed givens endeds ends journal) × AreThose served.all run.sessions journal

-- and with the pool's last seat the whole run is as its clause says
abbrev pub WholeRun : Type 0
WholeRun = (books : book_sizes.BookSizes) (z : pool_sizes.Sizes) (threshold : ℕ) (shards : List ShardList)
    (sessions : List SessionList) (journal : List (List Entry)) (store : View) (givens : List (List ℕ))
    (endeds : List Bool) (ends : List SessionEnd) (seats : List View) (spare : List View) (last : View)
    → AreClosed books shards sessions → length sessions ≡ books.sessions
    → AreParts z books.shards shards journal store
    → (served : AreServed z threshold books.shards givens endeds ends sessions seats)
    → IsLastSeat z store spare seats last
    → (run : WasRun z threshold givens endeds ends journal (pool_end z last))
    × AreThose served.all run.served.sessions journal

-- where the pool has the demand in both classes no write is missing
abbrev pub NoneMissing : Type 0
NoneMissing = (z : pool_sizes.Sizes) (threshold : ℕ) (sessions : List Session) (journal : List (List Entry)) (end : End)
    → IsCounted z threshold sessions journal end
    → ((class : Class) → demand_of class (all_commands sessions) ≤ count_of z class)
    → missing_writes sessions journal ≡ 0
