-- The worked sessions meet all that the layers hand up.
use Rattle.std.proofs.Common.{◌≡◌, ℕ, zero, suc, ◌+◌, ◌<◌, ◌≤◌, Bool, true, false, cond, List, [], ◌∷◌, ◌++◌, Option}
use Rattle.std.proofs.Common.{Some, None, length, map, zip, slice_get, unwrap_or, refl, ap, sym, ◌∙◌, subst, ne_eqb}
use Rattle.std.proofs.Common.{lit≤, arith, nat_lt}
use Rattle.std.specs.Prelude.{codes, ◌&&◌}
use Rattle.std.specs.Fmt.{digits}
use Rattle.std.specs.List.{flat_map, list_all, range_with_len}
use Rattle.std.specs.FinMap as finite
use Rattle.std.specs.Cmp.Lexicographic.{slice_cmp, bytes_decides, texts_ties}
use Rattle.std.specs.Ordering.{nat_cmp, eq_by_cmp}
use Rattle.std.proofs.lemmas.Cmp.{nat_list_cmp_total}
use Rattle.view_sums.specs.Total.{total, same, Each}
use Rattle.view_sums.proofs.Sums.{total-append}
use Rattle.flake_base.specs.Growth.{Grew}
use Rattle.flake_base.specs.declared.session.End.TheVariants.{Clean}
use Rattle.pin_core.specs.declared.class.Class.{Class}
use Rattle.pin_core.specs.declared.class.Class.TheVariants.{Small, Large}
use Rattle.pinned_pool.specs.Classes.{buffers_in}
use Rattle.pinned_pool.specs.Ends.{pool_end}
use Rattle.pinned_pool.specs.Views.{view}
use Rattle.flake_model.specs.Deed.{places_at, AreApart, IsLegal}
use Rattle.flake_model.specs.Fragments.{fragments_of}
use Rattle.flake_model.specs.Resp.{Parses, array}
use Rattle.flake_model.specs.Session.{IsSession}
use Rattle.flake_model.specs.Store as part
use Rattle.flake_model.specs.Store.{answer_on}
use Rattle.flake_model.proofs.InTurn.{read_at_once}
use Rattle.order_book.specs.Closed.{AreClosed, journal_of}
use Rattle.order_book.specs.Pages.{ShardList, shown_session}
use Rattle.shard_core.specs.Stock.{AreParts, IsStock, fragments_left}
use Rattle.reply_planner.specs.Stages.{IsAbove, IsRising}
use Rattle.serve_model.specs.Demand.{session_row}
use Rattle.serve_model.specs.Handed.{SessionHasRun}
use Rattle.serve_model.specs.Runs.{session_of, list_of}
use Rattle.serve_model.specs.Seats.{IsSpentSeat}
use Rattle.serve_model.specs.Worked.{setting, getting, key_a, bytes, set_input, get_input}
use Rattle.serve_model.proofs.Going.{no_misses}
use Rattle.any_wire.specs.Texts.{WireGrew}
use Rattle.transcript_model.specs.Sessions.{IsRightSession, events_of, texts_of}
use Rattle.transcript_model.specs.Standing.{at_first}
use Rattle.transcript_model.specs.Terms.{Terms}
use Rattle.transcript_model.specs.Transcript.{IsStageShown}
use Rattle.transcript_model.specs.Whole.{stage_from}
use Rattle.transcript_model.proofs.Whole.{apart_of_two}
use Rattle.transcript_model.proofs.Judge.{all_ok, last_of, all_right, ok, after, post_ok, post_after, gather_ok}
use Rattle.transcript_model.proofs.Judge.{reap_ok, fits, none_fits, are_segs, is_seg, all_buffers, is_buffer, is_small}
use Rattle.transcript_model.proofs.Judge.{is_large}
use Rattle.drive_told.specs.Closed.{WereClosed}
use Rattle.drive_told.specs.Driven.{OneDriven, AreDriven, terms_by}
use Rattle.drive_told.specs.Worked.{pool, books, place, set_run, get_run, set_claims, get_claims, one_of, both}
use Rattle.drive_told.specs.Worked.{driven_shard_pages, driven_session_pages, shards, lists, store, main, last}
use Rattle.drive_told.specs.Worked.{schedule, lines}
use Rattle.drive_told.specs.Worked.{WorkedDrive}
use Rattle.drive_told.proofs.Joined.{together}

at_most : (b : Bool) → cond b 1 0 ≤ 1
at_most true = omega arith
at_most false = omega arith

same_few : (a b : ℕ) → same a b ≤ 1
same_few a b = at_most _

away : (a b : ℕ) → (a ≡ b → ⊥) → same a b ≡ 0
away a b ne = ap (λ t. cond t 1 0) (ne_eqb a b ne)

one_at_most : (n : ℕ) → same 0 n + (same 1 n + 0) ≤ 1
one_at_most zero = omega arith
one_at_most (suc zero) = omega arith
one_at_most (suc (suc n)) =
    let m = suc (suc n) in
    omega (arith, away 0 m (λ is. omega arith), away 1 m (λ is. omega arith))

closed : AreClosed books shards (map shown_session driven_session_pages)
closed = record {
  shard_pages = driven_shard_pages;
  session_pages = driven_session_pages;
  shards_shown = refl;
  sessions_shown = refl;
  one = record {
    shards_numbered = ((omega arith, tt), λ n. omega (arith, same_few 0 n));
    sessions_numbered = ((omega arith, (omega arith, tt)), one_at_most);
    agree = ((refl, (refl, tt)), tt);
    named = (((refl, omega arith), ((refl, omega arith), tt)), tt);
    filed = (((refl, omega arith), tt), (((refl, omega arith), tt), tt));
    shards_rise = ((omega arith, (omega arith, tt)), tt);
    sessions_rise = ((omega arith, tt), ((omega arith, tt), tt));
    looked = (tt, (tt, tt));
  };
}

key_is : (q k : List ℕ) → eq_by_cmp (slice_cmp nat_cmp) q k ≡ true → q ≡ k
key_is q k is = (bytes_decides q k).0 (texts_ties q k ∙ is)

get_own : (v : List ℕ) → finite.get (finite.insert (finite.empty {R = slice_cmp nat_cmp}) key_a v) key_a ≡ Some v
get_own v = finite.get-insert nat_list_cmp_total finite.empty key_a v key_a

placed_at : (k : List ℕ)
    → places_at (finite.insert finite.empty key_a place) k ≡ cond (eq_by_cmp (slice_cmp nat_cmp) k key_a) place []
placed_at k =
    ap (λ (o : Option (List ℕ)). unwrap_or o [])
    (finite.get-insert nat_list_cmp_total finite.empty key_a place k
    ∙ ap (cond (eq_by_cmp (slice_cmp nat_cmp) k key_a) (Some place)) (finite.get-empty (slice_cmp nat_cmp) k))
    ∙ choose (eq_by_cmp (slice_cmp nat_cmp) k key_a) where
      choose : (here : Bool) → unwrap_or (cond here (Some place) None) [] ≡ cond here place []
      choose true = refl
      choose false = refl

single : (x n a : ℕ) → slice_get (x ∷ []) n ≡ Some a → n ≡ 0
single x zero a is = refl
single x (suc n) a is = absurd (let no : ⊥ = cc in no)

apart : AreApart (finite.insert finite.empty key_a place)
apart k other n m address is there =
    both_there (eq_by_cmp (slice_cmp nat_cmp) k key_a) (eq_by_cmp (slice_cmp nat_cmp) other key_a) refl refl
    (subst (λ l. slice_get l n ≡ Some address) (placed_at k) is)
    (subst (λ l. slice_get l m ≡ Some address) (placed_at other) there) where
      both_there : (here elsewhere : Bool) → eq_by_cmp (slice_cmp nat_cmp) k key_a ≡ here
          → eq_by_cmp (slice_cmp nat_cmp) other key_a ≡ elsewhere
          → slice_get (cond here place []) n ≡ Some address → slice_get (cond elsewhere place []) m ≡ Some address
          → (k ≡ other) × (n ≡ m)
      both_there true true k_is other_is is there = (
        key_is k key_a k_is ∙ sym (key_is other key_a other_is),
        single 1179648 n address is ∙ sym (single 1179648 m address there),
      )
      both_there true false k_is other_is is there = absurd (let no : ⊥ = cc in no)
      both_there false elsewhere k_is other_is is there = absurd (let no : ⊥ = cc in no)

legal : Each (λ (shard : ShardList). IsLegal shard.told) shards
legal = (
  (
    record { answered = refl; found_is = refl; first_is = refl; stored_is = (refl, refl); apart = apart },
    (
      record {
        answered = ap (λ (o : Option (List ℕ)). answer_on o (part.get key_a)) (sym (get_own bytes));
        found_is = ap (λ (o : Option (List ℕ)). unwrap_or o []) (sym (get_own place));
        first_is = refl;
        stored_is = refl;
        apart = apart;
      },
      tt,
    ),
  ),
  tt,
)

no_length : {A : Type 0} (xs : List A) → length xs ≡ 0 → xs ≡ []
no_length [] e = refl
no_length (x ∷ xs) e = absurd (let no : ⊥ = omega arith in no)

one_entry : finite.entries (finite.insert (finite.empty {R = slice_cmp nat_cmp}) key_a bytes) ≡ (key_a, bytes) ∷ []
one_entry =
    let none : finite.entries (finite.empty {X = List ℕ} {R = slice_cmp nat_cmp}) ≡ [] =
    no_length _ (sym (finite.len-entries finite.empty) ∙ finite.len-empty (slice_cmp nat_cmp) (List ℕ)) in
    finite.entries-insert nat_list_cmp_total finite.empty key_a bytes
    ∙ ap (finite.put (slice_cmp nat_cmp) key_a bytes) none

one_fragment : fragments_left shards ≡ (1179648, 1) ∷ []
one_fragment =
    let places = finite.insert (finite.empty {R = slice_cmp nat_cmp}) key_a place in
    ap
    (λ (es : List (List ℕ × List ℕ)).
    flat_map (λ (e : List ℕ × List ℕ). zip (places_at places e.0) (map length (fragments_of e.1))) es ++ [])
    one_entry
    ∙ ap (λ (addresses : List ℕ). (zip addresses (1 ∷ []) ++ []) ++ []) (placed_at key_a)

stock : IsStock pool shards store
stock = record {
  kept = (256, 1) ∷ [];
  holds = λ weight. refl;
  placed = ((omega arith, refl), tt);
  fragments = λ weight. ap (total weight) (sym one_fragment);
}

parts : AreParts pool 1 shards (journal_of shards) store
parts = record {
  numbered = refl;
  legal = legal;
  journal_is = refl;
  stock = stock;
  idle = record { claims = refl; looks = refl };
  credits = refl;
}

lt_is : (a b : ℕ) → nat_lt a b ≡ true → a < b
lt_is a b is = grind arith

each_true : (a b : Bool) → (a && b) ≡ true → (a ≡ true) × (b ≡ true)
each_true true b is = (refl, is)
each_true false b is = absurd (cc)

below : (bound : ℕ) (bs : List ℕ) → list_all (λ b. nat_lt b bound) bs ≡ true → Each (λ b. b < bound) bs
below bound [] is = tt
below bound (b ∷ bs) is =
    let parts = each_true _ _ is in
    (lt_is b bound parts.0, below bound bs parts.1)

no_looks : (b : ℕ) → 0 < 0 → ⊥
no_looks b some = omega (arith, some)

were : WereClosed books pool shards lists (journal_of shards) main store last (pool_end pool last)
were = record {
  parts = parts;
  book = closed;
  as_many = refl;
  last_is = refl;
  loose = λ b. omega (arith, same_few 256 b);
  looked = λ b some. absurd (no_looks b some);
  nearby = below 257 last.claims refl;
  closed_is = refl;
}

-- both inputs
set_parsed : Parses set_input ((codes "SET" ∷ codes "a" ∷ codes "x" ∷ []) ∷ []) Clean
unfolding digits
set_parsed = (
  lit≤ tt,
  record {
    elements = array (codes "SET" ∷ codes "a" ∷ codes "x" ∷ []) ∷ [];
    allowed = ((lit≤ tt, (lit≤ tt, (lit≤ tt, (lit≤ tt, tt)))), tt);
    bytes_are = refl;
    requests_are = refl;
  },
)

get_parsed : Parses get_input ((codes "GET" ∷ codes "a" ∷ []) ∷ []) Clean
unfolding digits
get_parsed = (
  lit≤ tt,
  record {
    elements = array (codes "GET" ∷ codes "a" ∷ []) ∷ [];
    allowed = ((lit≤ tt, (lit≤ tt, (lit≤ tt, tt))), tt);
    bytes_are = refl;
    requests_are = refl;
  },
)

set_session : IsSession (session_of set_input true set_run)
set_session = record {
  requests = _;
  shown = Clean;
  parsed = set_parsed;
  commands_are = refl;
  shown_is = tt;
  read_out = tt;
  taken_is = refl;
  replied = lit≤ tt;
  begun_is = refl;
  in_turn = read_at_once _ _ (lit≤ tt);
}

get_session : IsSession (session_of get_input true get_run)
get_session = record {
  requests = _;
  shown = Clean;
  parsed = get_parsed;
  commands_are = refl;
  shown_is = tt;
  read_out = tt;
  taken_is = refl;
  replied = lit≤ tt;
  begun_is = refl;
  in_turn = read_at_once _ _ (lit≤ tt);
}

set_claimed : (class : Class)
    → buffers_in pool class set_claims + 0 ≤ buffers_in pool class [] + session_row class (setting ∷ [])
set_claimed Small = lit≤ tt
set_claimed Large = lit≤ tt

get_claimed : (class : Class)
    → buffers_in pool class get_claims + 0 ≤ buffers_in pool class [] + session_row class (getting ∷ [])
get_claimed Small = lit≤ tt
get_claimed Large = lit≤ tt

set_seat : IsSpentSeat pool 1 set_run (view [] 1 set_claims [] 0 [])
set_seat = record {
  holds = refl;
  sought = record {
    sought = record {
      missed = λ class. 0;
      missed_are = refl;
      claims = set_claimed;
      looks = λ b below. omega arith;
    };
    whole = no_misses;
  };
  returned = omega arith;
}

get_seat : IsSpentSeat pool 1 get_run (view [] 1 get_claims [] 1 [])
get_seat = record {
  holds = refl;
  sought = record {
    sought = record {
      missed = λ class. 0;
      missed_are = refl;
      claims = get_claimed;
      looks = λ b below. omega arith;
    };
    whole = no_misses;
  };
  returned = omega arith;
}

set_ran : SessionHasRun pool 1 1 0 set_input true set_run.end (list_of 1 0 set_run)
    (view [] 1 set_claims [] 0 [])
    (codes "+OK\r\n" ∷ [])
unfolding digits
set_ran = record {
  run = set_run;
  is_run = record { replies_are = refl; calls_are = (tt, refl, tt); behind_are = tt; begun_is = refl };
  is_session = set_session;
  end_is = refl;
  list_is = refl;
  seat_is = set_seat;
  texts_are = refl;
}

get_ran : SessionHasRun pool 1 1 1 get_input true get_run.end (list_of 1 1 get_run)
    (view [] 1 get_claims [] 1 [])
    (codes "$1\r\nx\r\n" ∷ [])
unfolding digits
get_ran = record {
  run = get_run;
  is_run = record { replies_are = refl; calls_are = (tt, refl, tt); behind_are = tt; begun_is = refl };
  is_session = get_session;
  end_is = refl;
  list_is = refl;
  seat_is = get_seat;
  texts_are = refl;
}

-- a stage from a buffer on
rises : (low first n : ℕ) → low < first → IsAbove low (range_with_len first n)
rises low first zero below = tt
rises low first (suc n) below = (below, rises first (first + 1) n (omega arith))

stage_rises : (first n : ℕ) → IsRising (range_with_len first n)
stage_rises first zero = tt
stage_rises first (suc n) = rises first (first + 1) n (omega arith)

stage_small : (first n : ℕ) → first + n ≤ 257 → Each (λ buffer. buffer < pool.small) (range_with_len first n)
stage_small first zero within = tt
stage_small first (suc n) within = (omega (arith, within), stage_small (first + 1) n (omega (arith, within)))

set_stage : IsStageShown pool (stage_from 0)
set_stage = record {
  buffers = range_with_len 0 128;
  as_many = refl;
  ascending = stage_rises 0 128;
  small = stage_small 0 128 (lit≤ tt);
  addresses = refl;
}

get_stage : IsStageShown pool (stage_from 128)
get_stage = record {
  buffers = range_with_len 128 128;
  as_many = refl;
  ascending = stage_rises 128 128;
  small = stage_small 128 128 (lit≤ tt);
  addresses = refl;
}

abbrev set_one : OneDriven (List ℕ)
set_one = one_of 0 set_input set_run set_claims 0 (codes "+OK\r\n")

abbrev get_one : OneDriven (List ℕ)
get_one = one_of 1 get_input get_run get_claims 1 (codes "$1\r\nx\r\n")

abbrev set_terms : Terms
set_terms = terms_by Grew pool 1 1160 1 0 (setting ∷ []) set_one

abbrev get_terms : Terms
get_terms = terms_by Grew pool 1 1160 1 1 (getting ∷ []) get_one

set_passes : all_ok set_terms at_first (events_of 0 lines) ≡ true
unfolding digits all_ok ok after post_ok post_after gather_ok reap_ok fits none_fits are_segs is_seg all_buffers
    is_buffer is_small is_large
set_passes = refl

get_passes : all_ok get_terms at_first (events_of 1 lines) ≡ true
unfolding digits all_ok ok after post_ok post_after fits none_fits are_segs is_seg all_buffers is_buffer is_small
    is_large
get_passes = refl

set_told : IsRightSession set_terms (events_of 0 lines)
unfolding last_of after post_after
set_told = record {
  last = _;
  right = all_right set_terms at_first (events_of 0 lines) set_passes;
  served = refl;
  ended = refl;
  sent = refl;
}

get_told : IsRightSession get_terms (events_of 1 lines)
unfolding last_of after post_after
get_told = record {
  last = _;
  right = all_right get_terms at_first (events_of 1 lines) get_passes;
  served = refl;
  ended = refl;
  sent = refl;
}

set_grew : WireGrew Grew false 1 (texts_of set_terms) [] (codes "+OK\r\n")
unfolding digits
set_grew = record { middle = codes "+OK\r\n"; before = (_, refl, refl); behind = (_, refl, refl) }

get_grew : WireGrew Grew false 1 (texts_of get_terms) [] (codes "$1\r\nx\r\n")
unfolding digits
get_grew = record { middle = codes "$1\r\nx\r\n"; before = (_, refl, refl); behind = (_, refl, refl) }

two_added : (some more : List ℕ) (weight : ℕ → ℕ)
    → total weight (some ++ more) ≡ 0 + (total weight some + (total weight more + 0))
two_added some more weight = omega (arith, total-append weight some more)

are : AreDriven Grew pool 1 1160 1 lines both lists main
unfolding set_ran get_ran
are = record {
  all = (
    record { ran = set_ran; stage_is = set_stage; told = set_told; grew = set_grew },
    (record { ran = get_ran; stage_is = get_stage; told = get_told; grew = get_grew }, tt),
  );
  stages_apart = apart_of_two;
  lists_are = refl;
  spare = view [] 1 [] [] 0 [];
  spare_is = record { holds = refl; idle = record { claims = refl; looks = refl } };
  seats = record {
    holds = λ weight. refl;
    credits = refl;
    claims = two_added set_claims get_claims;
    looks = λ b. refl;
    returns = refl;
  };
}

pub worked_drive : WorkedDrive
worked_drive = record {
  answers = refl;
  driven = are;
  closed = were;
  have = together Grew books pool 1160 1 schedule lines both ([] ∷ []) shards lists (journal_of shards) main store
      last (pool_end pool last) refl are were;
}
