-- The worked run meets all that the layers hand up.
use Rattle.std.proofs.Common.{◌≡◌, ℕ, zero, suc, ◌+◌, ◌<◌, ◌≤◌, Bool, true, false, cond, List, [], ◌∷◌, ◌++◌, Option}
use Rattle.std.proofs.Common.{Some, None, length, map, zip, slice_get, unwrap_or, refl, ap, sym, ◌∙◌, subst, ne_eqb}
use Rattle.std.proofs.Common.{lit≤, arith}
use Rattle.std.specs.Prelude.{codes}
use Rattle.std.specs.Fmt.{digits}
use Rattle.std.specs.List.{flat_map}
use Rattle.std.specs.FinMap as finite
use Rattle.std.specs.Cmp.Lexicographic.{slice_cmp, bytes_decides, texts_ties}
use Rattle.std.specs.Ordering.{nat_cmp, eq_by_cmp}
use Rattle.std.proofs.lemmas.Cmp.{nat_list_cmp_total}
use Rattle.view_sums.specs.Total.{total, same, Each}
use Rattle.flake_base.specs.declared.session.End.TheVariants.{Clean}
use Rattle.pin_core.specs.Buffers.{buffers}
use Rattle.pin_core.specs.declared.class.Class.{Class}
use Rattle.pin_core.specs.declared.class.Class.TheVariants.{Small, Large}
use Rattle.pinned_pool.specs.Classes.{class_at, buffers_in}
use Rattle.pinned_pool.specs.Views.{looked_at}
use Rattle.flake_model.specs.Deed.{places_at, AreApart, IsLegal}
use Rattle.flake_model.specs.Fragments.{fragments_of}
use Rattle.flake_model.specs.Resp.{Parses, array}
use Rattle.flake_model.specs.Session.{IsSession}
use Rattle.flake_model.specs.Store as part
use Rattle.flake_model.specs.Store.{answer_on}
use Rattle.flake_model.proofs.InTurn.{read_at_once}
use Rattle.order_book.specs.Closed.{AreClosed, journal_of}
use Rattle.order_book.specs.Pages.{ShardList}
use Rattle.shard_core.specs.Stock.{AreParts, IsStock, fragments_left}
use Rattle.serve_model.specs.Demand.{session_row}
use Rattle.serve_model.specs.Handed.{SessionRun, session_in, runs_in, AreServed, IsLastSeat}
use Rattle.serve_model.specs.Misses.{calls_needing}
use Rattle.serve_model.specs.Runs.{IsRun, texts_told}
use Rattle.serve_model.specs.Worked.{pool, books, key_a, bytes, place, setting, getting, setting_other, set_input}
use Rattle.serve_model.specs.Worked.{get_input, other_input, all, shard_pages, session_pages, shards, sessions, store}
use Rattle.serve_model.specs.Worked.{seats, last, texts, WorkedRun}
use Rattle.serve_model.proofs.Going.{no_misses}
use Rattle.serve_model.proofs.Ran.{was_run}

away : (a b : ℕ) → (a ≡ b → ⊥) → same a b ≡ 0
away a b ne = ap (λ t. cond t 1 0) (ne_eqb a b ne)

at_most : (b : Bool) → cond b 1 0 ≤ 1
at_most true = omega arith
at_most false = omega arith

same_few : (a b : ℕ) → same a b ≤ 1
same_few a b = at_most _

one_at_most : (n : ℕ) → same 0 n + (same 1 n + (same 2 n + 0)) ≤ 1
one_at_most zero = omega arith
one_at_most (suc zero) = omega arith
one_at_most (suc (suc zero)) = omega arith
one_at_most (suc (suc (suc n))) =
    let m = suc (suc (suc n)) in
    omega (arith, away 0 m (λ is. omega arith), away 1 m (λ is. omega arith), away 2 m (λ is. omega arith))

closed : AreClosed books shards sessions
closed = record {
  shard_pages = shard_pages;
  session_pages = session_pages;
  shards_shown = refl;
  sessions_shown = refl;
  one = record {
    shards_numbered = ((omega arith, tt), λ n. omega (arith, same_few 0 n));
    sessions_numbered = ((omega arith, (omega arith, (omega arith, tt))), one_at_most);
    agree = ((refl, (refl, (refl, tt))), tt);
    named = (((refl, omega arith), ((refl, omega arith), tt)), tt);
    filed = (((refl, omega arith), tt), (((refl, omega arith), tt), (tt, tt)));
    shards_rise = ((omega arith, (omega arith, tt)), tt);
    sessions_rise = ((omega arith, tt), ((omega arith, tt), (tt, tt)));
    looked = (tt, (tt, (tt, tt)));
  };
}

key_is : (q k : List ℕ) → eq_by_cmp (slice_cmp nat_cmp) q k ≡ true → q ≡ k
key_is q k is = (bytes_decides q k).0 (texts_ties q k ∙ is)

get_own : (v : List ℕ) → finite.get (finite.insert (finite.empty {R = slice_cmp nat_cmp}) key_a v) key_a ≡ Some v
get_own v = finite.get-insert nat_list_cmp_total finite.empty key_a v key_a

placed_at : (k : List ℕ)
    → places_at (finite.insert finite.empty key_a place) k ≡ cond (eq_by_cmp (slice_cmp nat_cmp) k key_a) place []
placed_at k =
    ap (λ (o : Option (List ℕ)). unwrap_or o [])
    (finite.get-insert nat_list_cmp_total finite.empty key_a place k
    ∙ ap (cond (eq_by_cmp (slice_cmp nat_cmp) k key_a) (Some place)) (finite.get-empty (slice_cmp nat_cmp) k))
    ∙ choose (eq_by_cmp (slice_cmp nat_cmp) k key_a) where
      choose : (here : Bool) → unwrap_or (cond here (Some place) None) [] ≡ cond here place []
      choose true = refl
      choose false = refl

single : (x n a : ℕ) → slice_get (x ∷ []) n ≡ Some a → n ≡ 0
single x zero a is = refl
single x (suc n) a is = absurd (let no : ⊥ = cc in no)

apart : AreApart (finite.insert finite.empty key_a place)
apart k other n m address is there =
    both (eq_by_cmp (slice_cmp nat_cmp) k key_a) (eq_by_cmp (slice_cmp nat_cmp) other key_a) refl refl
    (subst (λ l. slice_get l n ≡ Some address) (placed_at k) is)
    (subst (λ l. slice_get l m ≡ Some address) (placed_at other) there) where
      both : (here elsewhere : Bool) → eq_by_cmp (slice_cmp nat_cmp) k key_a ≡ here
          → eq_by_cmp (slice_cmp nat_cmp) other key_a ≡ elsewhere
          → slice_get (cond here place []) n ≡ Some address → slice_get (cond elsewhere place []) m ≡ Some address
          → (k ≡ other) × (n ≡ m)
      both true true k_is other_is is there = (
        key_is k key_a k_is ∙ sym (key_is other key_a other_is),
        single 1048576 n address is ∙ sym (single 1048576 m address there),
      )
      both true false k_is other_is is there = absurd (let no : ⊥ = cc in no)
      both false elsewhere k_is other_is is there = absurd (let no : ⊥ = cc in no)

legal : Each (λ (shard : ShardList). IsLegal shard.told) shards
legal = (
  (
    record { answered = refl; found_is = refl; first_is = refl; stored_is = (refl, refl); apart = apart },
    (
      record {
        answered = ap (λ (o : Option (List ℕ)). answer_on o (part.get key_a)) (sym (get_own bytes));
        found_is = ap (λ (o : Option (List ℕ)). unwrap_or o []) (sym (get_own place));
        first_is = refl;
        stored_is = refl;
        apart = apart;
      },
      tt,
    ),
  ),
  tt,
)

no_length : {A : Type 0} (xs : List A) → length xs ≡ 0 → xs ≡ []
no_length [] e = refl
no_length (x ∷ xs) e = absurd (let no : ⊥ = omega arith in no)

one_entry : finite.entries (finite.insert (finite.empty {R = slice_cmp nat_cmp}) key_a bytes) ≡ (key_a, bytes) ∷ []
one_entry =
    let none : finite.entries (finite.empty {X = List ℕ} {R = slice_cmp nat_cmp}) ≡ [] =
    no_length _ (sym (finite.len-entries finite.empty) ∙ finite.len-empty (slice_cmp nat_cmp) (List ℕ)) in
    finite.entries-insert nat_list_cmp_total finite.empty key_a bytes
    ∙ ap (finite.put (slice_cmp nat_cmp) key_a bytes) none

one_fragment : fragments_left shards ≡ (1048576, 1) ∷ []
one_fragment =
    let places = finite.insert (finite.empty {R = slice_cmp nat_cmp}) key_a place in
    ap
    (λ (es : List (List ℕ × List ℕ)).
    flat_map (λ (e : List ℕ × List ℕ). zip (places_at places e.0) (map length (fragments_of e.1))) es ++ [])
    one_entry
    ∙ ap (λ (addresses : List ℕ). (zip addresses (1 ∷ []) ++ []) ++ []) (placed_at key_a)

stock : IsStock pool shards store
stock = record {
  kept = (0, 1) ∷ [];
  holds = λ weight. refl;
  placed = ((omega arith, refl), tt);
  fragments = λ weight. ap (total weight) (sym one_fragment);
}

parts : AreParts pool 1 shards (journal_of shards) store
parts = record {
  numbered = refl;
  legal = legal;
  journal_is = refl;
  stock = stock;
  idle = record { claims = refl; looks = refl };
  credits = refl;
}

-- the three inputs, and what the sessions did with them
set_parsed : Parses set_input ((codes "SET" ∷ codes "a" ∷ codes "x" ∷ []) ∷ []) Clean
unfolding digits
set_parsed = (
  lit≤ tt,
  record {
    elements = array (codes "SET" ∷ codes "a" ∷ codes "x" ∷ []) ∷ [];
    allowed = ((lit≤ tt, (lit≤ tt, (lit≤ tt, (lit≤ tt, tt)))), tt);
    bytes_are = refl;
    requests_are = refl;
  },
)

get_parsed : Parses get_input ((codes "GET" ∷ codes "a" ∷ []) ∷ []) Clean
unfolding digits
get_parsed = (
  lit≤ tt,
  record {
    elements = array (codes "GET" ∷ codes "a" ∷ []) ∷ [];
    allowed = ((lit≤ tt, (lit≤ tt, (lit≤ tt, tt))), tt);
    bytes_are = refl;
    requests_are = refl;
  },
)

other_parsed : Parses other_input ((codes "SET" ∷ codes "b" ∷ codes "x" ∷ []) ∷ []) Clean
unfolding digits
other_parsed = (
  lit≤ tt,
  record {
    elements = array (codes "SET" ∷ codes "b" ∷ codes "x" ∷ []) ∷ [];
    allowed = ((lit≤ tt, (lit≤ tt, (lit≤ tt, (lit≤ tt, tt)))), tt);
    bytes_are = refl;
    requests_are = refl;
  },
)

sessions_are : Each (λ (ran : SessionRun). IsSession (session_in ran)) all
sessions_are = (
  record {
    requests = _;
    shown = Clean;
    parsed = set_parsed;
    commands_are = refl;
    shown_is = refl;
    read_out = refl;
    taken_is = refl;
    replied = refl;
    begun_is = refl;
    in_turn = read_at_once _ _ (lit≤ tt);
  },
  (
    record {
      requests = _;
      shown = Clean;
      parsed = get_parsed;
      commands_are = refl;
      shown_is = refl;
      read_out = refl;
      taken_is = refl;
      replied = refl;
      begun_is = refl;
      in_turn = read_at_once _ _ (lit≤ tt);
    },
    (
      record {
        requests = _;
        shown = Clean;
        parsed = other_parsed;
        commands_are = refl;
        shown_is = refl;
        read_out = refl;
        taken_is = refl;
        replied = refl;
        begun_is = refl;
        in_turn = read_at_once _ _ (lit≤ tt);
      },
      tt,
    ),
  ),
)

runs_are : Each IsRun (runs_in all)
runs_are = (
  record { replies_are = refl; calls_are = (tt, refl, tt); behind_are = tt; begun_is = refl },
  (
    record { replies_are = refl; calls_are = (tt, refl, tt); behind_are = tt; begun_is = refl },
    (
      record {
        replies_are = refl;
        calls_are = (((tt, omega arith), tt), refl, tt);
        behind_are = tt;
        begun_is = refl;
      },
      tt,
    ),
  ),
)

-- what the three seats claimed
abbrev missed : Class → ℕ
missed Small = 1
missed Large = 0

first_claims : (class : Class)
    → buffers_in pool class (0 ∷ []) + 0 ≤ buffers_in pool class [] + session_row class (setting ∷ [])
first_claims Small = omega arith
first_claims Large = omega arith

second_claims : (class : Class)
    → buffers_in pool class [] + 0 ≤ buffers_in pool class [] + session_row class (getting ∷ [])
second_claims Small = omega arith
second_claims Large = omega arith

third_claims : (class : Class)
    → buffers_in pool class [] + missed class ≤ buffers_in pool class [] + session_row class (setting_other ∷ [])
third_claims Small = omega arith
third_claims Large = omega arith

third_looks : (b : ℕ) → b < buffers pool → looked_at b [] + missed (class_at pool b) ≤ looked_at b ((0, 1) ∷ [])
third_looks zero below = omega arith
third_looks (suc b) below = absurd (let no : ⊥ = omega arith in no)

third_needed : (class : Class)
    → missed class ≤ calls_needing class (setting_other ∷ []) ((None ∷ []) ∷ [])
third_needed Small = omega arith
third_needed Large = omega arith

served : AreServed pool 512 1 (map (λ (ran : SessionRun). ran.given) all) (map (λ (ran : SessionRun). ran.ended) all)
    (map (λ (ran : SessionRun). ran.run.end) all) sessions seats
unfolding digits
served = record {
  all = all;
  givens_are = refl;
  endeds_are = refl;
  ends_are = refl;
  sessions_are = sessions_are;
  runs_are = runs_are;
  told = refl;
  seats_are = (
    record {
      holds = refl;
      sought = record {
        sought = record {
          missed = λ class. 0;
          missed_are = refl;
          claims = first_claims;
          looks = λ b below. omega arith;
        };
        whole = no_misses;
      };
      returned = omega arith;
    },
    (
      record {
        holds = refl;
        sought = record {
          sought = record {
            missed = λ class. 0;
            missed_are = refl;
            claims = second_claims;
            looks = λ b below. omega arith;
          };
          whole = no_misses;
        };
        returned = omega arith;
      },
      (
        record {
          holds = refl;
          sought = record {
            sought = record { missed = missed; missed_are = refl; claims = third_claims; looks = third_looks };
            whole = record { missed = missed; missed_are = refl; within = λ class. omega arith; needed = third_needed };
          };
          returned = omega arith;
        },
        tt,
      ),
    ),
  );
}

is_last : IsLastSeat pool store [] seats last
is_last = record {
  all = record {
    holds = λ weight. omega arith;
    credits = refl;
    claims = λ weight. omega arith;
    looks = λ b. omega arith;
    returns = refl;
  };
  spare_is = tt;
  loose = λ b. omega (arith, same_few 0 b);
  looked = λ b some. some;
  nearby = (omega arith, tt);
}

-- by the text of each reply
sent : texts_told (runs_in all) ≡ texts
unfolding digits
sent = refl

pub worked : WorkedRun
worked = record {
  closed = closed;
  as_many = refl;
  parts = parts;
  served = served;
  last_is = is_last;
  run = (was_run books pool 512 shards sessions (journal_of shards) store _ _ _ seats closed refl parts served last
      [] is_last).0;
  texts_are = sent;
}
