-- A run of three sessions over one shard and a pool of one buffer: the first sets a key, the second gets it behind
-- that, and the third sets another key and finds no buffer.
use Rattle.std.specs.Prelude.{◌≡◌, ℕ, Bool, true, false, List, [], ◌∷◌, Some, None, length, map, codes}
use Rattle.flake_base.specs.declared.session.End.TheVariants.{Clean}
use Rattle.pin_core.specs.declared.sizes.Sizes as pool_sizes
use Rattle.pinned_pool.specs.Ends.{pool_end}
use Rattle.pinned_pool.specs.Views.{view}
use Rattle.pinned_pool.specs.declared.view.View.{View}
use Rattle.flake_model.specs.Command.{Command, set, get}
use Rattle.flake_model.specs.Journal.{shard_of}
use Rattle.flake_model.specs.Store as part
use Rattle.order_book.specs.Closed.{AreClosed, journal_of}
use Rattle.order_book.specs.Pages.{Ranked, Page, page, ShardList, SessionList, shown_shard, shown_session}
use Rattle.order_book.specs.declared.rule.BookSizes as book_sizes
use Rattle.shard_core.specs.Outcomes.{PartOutcome, Outcomes, entry_at, deed_of}
use Rattle.shard_core.specs.Stock.{AreParts}
use Rattle.serve_model.specs.Handed.{SessionRun, runs_in, AreServed, IsLastSeat}
use Rattle.serve_model.specs.Runs.{texts_told}
use Rattle.serve_model.specs.Shown.{WasRun}

abbrev pub pool : pool_sizes.Sizes
pool = record { small = 1; large = 0; credits = 4 }

abbrev pub books : book_sizes.BookSizes
books = record { shards = 1; sessions = 3 }

abbrev pub key_a : List ℕ
key_a = codes "a"

abbrev pub bytes : List ℕ
bytes = codes "x"

-- where the pool's one buffer lies
abbrev pub place : List ℕ
place = 1048576 ∷ []

abbrev pub setting : Command
setting = set part.always false key_a bytes

abbrev pub getting : Command
getting = get key_a

abbrev pub setting_other : Command
setting_other = set part.always false (codes "b") bytes

abbrev pub was_set : PartOutcome
was_set = record { answer = part.done; found = []; first = 0; stored = place }

abbrev pub was_found : PartOutcome
was_found = record { answer = part.value bytes; found = place; first = 0; stored = [] }

-- a session that was asked one command, in bytes of which it took so many, and read to the end
abbrev pub served_one : List ℕ → ℕ → Command → Outcomes → SessionRun
served_one input taken command outcomes = record {
  given = input;
  ended = true;
  run = record {
    commands = command ∷ [];
    calls = outcomes ∷ [];
    behind = [];
    looks = [];
    end = record { end = Clean; taken = taken; replies = 1; failed = false };
  };
}

abbrev pub set_input : List ℕ
set_input = codes "*3\r\n$3\r\nSET\r\n$1\r\na\r\n$1\r\nx\r\n"

abbrev pub get_input : List ℕ
get_input = codes "*2\r\n$3\r\nGET\r\n$1\r\na\r\n"

abbrev pub other_input : List ℕ
other_input = codes "*3\r\n$3\r\nSET\r\n$1\r\nb\r\n$1\r\nx\r\n"

abbrev pub all : List SessionRun
all =
    served_one set_input 27 setting (Some was_set ∷ [])
    ∷ served_one get_input 20 getting (Some was_found ∷ [])
    ∷ served_one other_input 27 setting_other (None ∷ [])
    ∷ []

-- the book: both deeds in the shard, in the order of their ranks
abbrev pub set_deed : Ranked
set_deed = record {
  deed = deed_of (entry_at 0 0 0) (part.set part.always false key_a bytes) was_set;
  shard = shard_of 1 key_a;
  rank = 1;
}

abbrev pub get_deed : Ranked
get_deed = record {
  deed = deed_of (entry_at 1 0 0) (part.get key_a) was_found;
  shard = shard_of 1 key_a;
  rank = 2;
}

abbrev pub shard_pages : List Page
shard_pages = page 0 (set_deed ∷ get_deed ∷ []) ∷ []

abbrev pub session_pages : List Page
session_pages = page 0 (set_deed ∷ []) ∷ page 1 (get_deed ∷ []) ∷ page 2 [] ∷ []

abbrev pub shards : List ShardList
shards = map shown_shard shard_pages

abbrev pub sessions : List SessionList
sessions = map shown_session session_pages

-- the pool: the shard's seat, those of the sessions, and all of them joined
abbrev pub store : View
store = view (record { buffer = 0; front = 120 ∷ []; exclusive = false; pinned = false } ∷ []) 1 [] [] 0 []

abbrev pub seats : List View
seats = view [] 1 (0 ∷ []) [] 0 [] ∷ view [] 1 [] [] 0 [] ∷ view [] 1 [] ((0, 1) ∷ []) 0 [] ∷ []

abbrev pub last : View
last = view store.holds 4 (0 ∷ []) ((0, 1) ∷ []) 0 []

-- what the wires are sent
abbrev pub texts : List (Bool × List ℕ)
texts =
    (false, codes "+OK\r\n") ∷ (false, codes "$1\r\nx\r\n") ∷ (false, codes "-OOM no free buffer\r\n") ∷ []

-- The layers can hand all of this up together, and it is a whole run.
pub record WorkedRun : Type 0 where
  pub closed : AreClosed books shards sessions
  pub as_many : length sessions ≡ books.sessions
  pub parts : AreParts pool books.shards shards (journal_of shards) store
  pub served : AreServed pool 512 books.shards (map (λ (ran : SessionRun). ran.given) all)
      (map (λ (ran : SessionRun). ran.ended) all) (map (λ (ran : SessionRun). ran.run.end) all) sessions seats
  pub last_is : IsLastSeat pool store [] seats last
  pub run : WasRun pool 512 (map (λ (ran : SessionRun). ran.given) all) (map (λ (ran : SessionRun). ran.ended) all)
      (map (λ (ran : SessionRun). ran.run.end) all) (journal_of shards) (pool_end pool last)
  pub texts_are : texts_told (runs_in all) ≡ texts
