-- Two driven sessions over one shard, and a pool of one buffer besides their stages: the first sets a key, and its
-- reply is gathered and given back; then the second gets the key, and its reply is gathered without a line.
use Rattle.std.specs.Prelude.{◌≡◌, ℕ, ◌*◌, true, false, List, [], ◌∷◌, ◌++◌, Some, map, codes}
use Rattle.std.specs.List.{range_with_len}
use Rattle.flake_base.specs.Growth.{Grew}
use Rattle.flake_base.specs.declared.session.End.TheVariants.{Left}
use Rattle.flake_model.specs.Command.{Command}
use Rattle.flake_model.specs.Journal.{shard_of}
use Rattle.flake_model.specs.Store as part
use Rattle.pin_core.specs.declared.sizes.Sizes as pool_sizes
use Rattle.pinned_pool.specs.Ends.{pool_end}
use Rattle.pinned_pool.specs.Moves.{joined_views}
use Rattle.pinned_pool.specs.Views.{view}
use Rattle.pinned_pool.specs.declared.view.View.{View}
use Rattle.order_book.specs.Closed.{journal_of}
use Rattle.order_book.specs.Pages.{Ranked, Page, page, ShardList, SessionList, shown_shard}
use Rattle.order_book.specs.declared.rule.BookSizes as book_sizes
use Rattle.shard_core.specs.Outcomes.{PartOutcome, entry_at, deed_of}
use Rattle.reply_layout.specs.Layout.{segment}
use Rattle.schedule_text.specs.declared.line.Line.{Line}
use Rattle.schedule_text.specs.declared.line.Line.TheVariants.{Call, Gather, Reap}
use Rattle.serve_model.specs.Runs.{Run, list_of}
use Rattle.serve_model.specs.Worked.{setting, getting, key_a, bytes, set_input, get_input}
use Rattle.transcript_model.specs.Lines.{EventLine, posted, sent, reaped, line_of}
use Rattle.transcript_model.specs.Whole.{stage_from}
use Rattle.transcript_model.specs.Worked.{one}
use Rattle.drive_told.specs.Closed.{WereClosed}
use Rattle.drive_told.specs.Driven.{OneDriven, AreDriven}
use Rattle.drive_told.specs.Together.{HaveDriven}

abbrev pub pool : pool_sizes.Sizes
pool = record { small = 257; large = 0; credits = 4 }

abbrev pub books : book_sizes.BookSizes
books = record { shards = 1; sessions = 2 }

-- where the buffer lies behind both stages
abbrev pub place : List ℕ
place = 1179648 ∷ []

abbrev pub driven_was_set : PartOutcome
driven_was_set = record { answer = part.done; found = []; first = 0; stored = place }

abbrev pub driven_was_found : PartOutcome
driven_was_found = record { answer = part.value bytes; found = place; first = 0; stored = [] }

-- a session that was asked one command, in so many bytes, and was left behind it
abbrev pub left_after_one : ℕ → Command → PartOutcome → Run
left_after_one taken command done = record {
  commands = command ∷ [];
  calls = (Some done ∷ []) ∷ [];
  behind = [];
  looks = [];
  end = record { end = Left; taken = taken; replies = 1; failed = false };
}

abbrev pub set_run : Run
set_run = left_after_one 27 setting driven_was_set

abbrev pub get_run : Run
get_run = left_after_one 20 getting driven_was_found

-- the buffers that the first session claimed, and the second one
abbrev pub set_claims : List ℕ
set_claims = range_with_len 0 128 ++ 256 ∷ []

abbrev pub get_claims : List ℕ
get_claims = range_with_len 128 128

abbrev pub one_of : ℕ → List ℕ → Run → List ℕ → ℕ → List ℕ → OneDriven (List ℕ)
one_of session input run claims returns text = record {
  given = input;
  ended = true;
  end = run.end;
  list = list_of 1 session run;
  seat = view [] 1 claims [] returns [];
  texts = text ∷ [];
  stage = stage_from (128 * session);
  whole = 1;
  old = [];
  new = text;
}

abbrev pub both : List (OneDriven (List ℕ))
both =
    one_of 0 set_input set_run set_claims 0 (codes "+OK\r\n")
    ∷ one_of 1 get_input get_run get_claims 1 (codes "$1\r\nx\r\n")
    ∷ []

-- the book: both deeds in the shard, in the order of their ranks
abbrev pub driven_set_deed : Ranked
driven_set_deed = record {
  deed = deed_of (entry_at 0 0 0) (part.set part.always false key_a bytes) driven_was_set;
  shard = shard_of 1 key_a;
  rank = 1;
}

abbrev pub driven_get_deed : Ranked
driven_get_deed = record {
  deed = deed_of (entry_at 1 0 0) (part.get key_a) driven_was_found;
  shard = shard_of 1 key_a;
  rank = 2;
}

abbrev pub driven_shard_pages : List Page
driven_shard_pages = page 0 (driven_set_deed ∷ driven_get_deed ∷ []) ∷ []

abbrev pub driven_session_pages : List Page
driven_session_pages = page 0 (driven_set_deed ∷ []) ∷ page 1 (driven_get_deed ∷ []) ∷ []

abbrev pub shards : List ShardList
shards = shown_shard (page 0 (driven_set_deed ∷ driven_get_deed ∷ [])) ∷ []

abbrev pub lists : List SessionList
lists = map (λ (driven : OneDriven (List ℕ)). driven.list) both

-- the pool: the shard's seat, and that with which the opening began, the sessions' in it
abbrev pub store : View
store = view (record { buffer = 256; front = 120 ∷ []; exclusive = false; pinned = false } ∷ []) 1 [] [] 0 []

abbrev pub main : View
main = view [] 3 (set_claims ++ get_claims) [] 1 []

abbrev pub last : View
last = joined_views main store

abbrev pub schedule : List Line
schedule = Call 0 ∷ Gather 0 ∷ Reap 0 ∷ Call 1 ∷ []

abbrev pub lines : List EventLine
lines =
    record { session = 0; event = posted 0 0 (one 1048576 5) (one 1179648 1) }
    ∷ record { session = 0; event = sent 0 5 }
    ∷ record { session = 0; event = reaped 0 0 }
    ∷ record {
      session = 1;
      event = posted 0 0 (segment 1114112 4 ∷ segment 1179648 1 ∷ segment 1114116 2 ∷ []) [];
    } ∷ []

-- The layers can hand all of this up together, with rings of 1,160 descriptors, and every stored piece where it lies;
-- and they were served as a whole, where another wire is past them.
pub record WorkedDrive : Type 0 where
  pub answers : map line_of lines ≡ schedule
  pub driven : AreDriven Grew pool books.shards 1160 1 lines both lists main
  pub closed : WereClosed books pool shards lists (journal_of shards) main store last (pool_end pool last)
  pub have : HaveDriven Grew pool 1160 1 schedule lines both ([] ∷ []) (journal_of shards) (pool_end pool last)
