-- What the sessions of a run come to.
use Rattle.std.specs.Prelude.{◌≡◌, ℕ, List, ◌∷◌, map, length}
use Rattle.std.specs.List.{flat_map}
use Rattle.flake_base.specs.declared.journal.Entry.{Entry}
use Rattle.flake_model.specs.Run.{wire_texts, all_commands}
use Rattle.pin_core.specs.declared.sizes.Sizes.{Sizes}
use Rattle.pinned_pool.specs.Ends.{End}
use Rattle.pinned_pool.specs.declared.view.View.{View}
use Rattle.order_book.specs.Pages.{SessionList}
use Rattle.serve_model.specs.Handed.{OneRun, AllRun}
use Rattle.serve_model.specs.Seats.{HasAll, IsSpare}
use Rattle.serve_model.specs.Replies.{all_replies}
use Rattle.serve_model.specs.Shown.{WasRun}
use Rattle.dump_model.specs.Seen.{HasSeen, IsDumpOf}

-- Each session ran; the lists and the seat are theirs, but for a seat that has nothing.
pub record AreRuns (z : Sizes) (threshold shards : ℕ) (each : List OneRun) (lists : List SessionList)
    (main : View) : Type 0 where
  pub all : AllRun z threshold shards 0 each
  pub lists_are : lists ≡ map (λ (one : OneRun). one.list) each
  pub spare : View
  pub spare_is : IsSpare spare
  pub seats : HasAll (spare ∷ map (λ (one : OneRun). one.seat) each) main

-- So the inputs were served, and the returned journal gives the texts of the replies.
pub record HaveShown (z : Sizes) (threshold : ℕ) (each : List OneRun) (journal : List (List Entry)) (closed : End)
    : Type 0 where
  pub ran : WasRun z threshold (map (λ (one : OneRun). one.given) each)
      (map (λ (one : OneRun). one.ended) each) (map (λ (one : OneRun). one.end) each) journal closed
  pub texts_are : wire_texts ran.served.sessions journal
      ≡ map (λ (one : OneRun). (one.end.failed, flat_map (λ text. text) one.texts)) each
  pub replies_are : all_replies ran.served.sessions journal
      ≡ map (λ (one : OneRun). (one.end.failed, one.texts)) each
  -- what the first session saw of the shards is a dump of the journal
  pub dumps : (mine : SessionList) (others : List SessionList) → map (λ (one : OneRun). one.list) each ≡ mine ∷ others
      → (before : ℕ) (points text : List ℕ) → HasSeen (length journal) before mine points text
      → IsDumpOf (all_commands ran.served.sessions) journal 0 before points text
