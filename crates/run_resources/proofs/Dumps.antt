-- What the first session saw of the shards is a dump of the journal.
use Rattle.std.proofs.Common.{◌≡◌, ℕ, Bool, List, [], ◌∷◌, map, length, ap, sym, ◌∙◌, subst}
use Rattle.std.proofs.lemmas.List.{length-map}
use Rattle.view_sums.specs.Total.{Each}
use Rattle.flake_base.specs.declared.journal.Entry.{Entry}
use Rattle.flake_base.specs.declared.session.SessionEnd.{SessionEnd}
use Rattle.flake_model.specs.Command.{Command}
use Rattle.flake_model.specs.Deed.{entries_of}
use Rattle.flake_model.specs.Run.{all_commands}
use Rattle.flake_model.specs.Session.{Session}
use Rattle.pin_core.specs.declared.sizes.Sizes as pool_sizes
use Rattle.pinned_pool.specs.declared.view.View.{View}
use Rattle.order_book.specs.Closed.{AreClosed, AreMeant}
use Rattle.order_book.specs.Pages.{ShardList, SessionList}
use Rattle.order_book.specs.declared.rule.BookSizes as book_sizes
use Rattle.order_book.proofs.Replayed.{means}
use Rattle.shard_core.specs.Stock.{AreParts}
use Rattle.serve_model.specs.Handed.{session_in, runs_in, AreServed}
use Rattle.serve_model.specs.Lists.{AreLists}
use Rattle.serve_model.specs.Runs.{Run, list_of, lists_told}
use Rattle.serve_model.proofs.Served.{answered, lists_long, sessions_long, shards_long}
use Rattle.dump_model.specs.Seen.{HasSeen, IsDumpOf, SeenMakesDump}

-- whatever the first of these lists saw is a dump of the journal
abbrev pub AreDumps : List SessionList → List (List Entry) → List Session → Type 0
AreDumps lists journal sessions = (mine : SessionList) (others : List SessionList) → lists ≡ mine ∷ others
    → (before : ℕ) (points text : List ℕ) → HasSeen (length journal) before mine points text
    → IsDumpOf (all_commands sessions) journal 0 before points text

first_number : (shards : ℕ) (runs : List Run) (mine : SessionList) (others : List SessionList)
    → mine ∷ others ≡ lists_told shards 0 runs → mine.number ≡ 0
first_number shards [] mine others is = absurd (let no : ⊥ = cc in no)
first_number shards (run ∷ runs) mine others is =
    let same : mine ≡ list_of shards 0 run = cc in
    ap (λ (list : SessionList). list.number) same

module _ (books : book_sizes.BookSizes) (z : pool_sizes.Sizes) (threshold : ℕ) (shards : List ShardList)
    (sessions : List SessionList) (journal : List (List Entry)) (store : View) (givens : List (List ℕ))
    (endeds : List Bool) (ends : List SessionEnd) (seats : List View) (closed : AreClosed books shards sessions)
    (as_many : length sessions ≡ books.sessions) (parts : AreParts z books.shards shards journal store)
    (served : AreServed z threshold books.shards givens endeds ends sessions seats) where
  lists : AreLists books (runs_in served.all) shards sessions
  lists = record {
    closed = closed;
    numbered = parts.numbered;
    legal = parts.legal;
    runs_are = served.runs_are;
    as_many = sym (lists_long books.shards 0 (runs_in served.all)) ∙ sym (ap length served.told) ∙ as_many;
    told = served.told;
  }

  abbrev commands : List (List Command)
  commands = all_commands (map session_in served.all)

  meant : Each (λ (shard : ShardList). AreMeant commands shard.told) shards
  meant = means commands books shards sessions closed (shards_long books served.all shards sessions lists)
      (sessions_long books served.all shards sessions lists) (answered books served.all shards sessions lists).meant

  as_long : length journal ≡ books.shards
  as_long = ap length parts.journal_is ∙ length-map shards (λ (shard : ShardList). entries_of shard.told)
      ∙ shards_long books served.all shards sessions lists

  pub dumps : SeenMakesDump → AreDumps sessions journal (map session_in served.all)
  dumps makes mine others is before points text seen =
      let zero : mine.number ≡ 0 =
      first_number books.shards (runs_in served.all) mine others (sym is ∙ served.told) in
      let own = makes commands books shards mine others before points text
      (subst (AreClosed books shards) is closed) parts.numbered meant
      (subst (λ (n : ℕ). HasSeen n before mine points text) as_long seen) in
      subst (λ (y : List (List Entry) × ℕ). IsDumpOf commands y.0 y.1 before points text)
      (λ i. (sym parts.journal_is i, zero i)) own
