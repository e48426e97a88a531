-- The holds that the journal's answers pin are no more than those that the sessions' parts pinned.
use Rattle.std.proofs.Common.{◌≡◌, ◌==◌, ℕ, zero, suc, ◌+◌, ◌<◌, ◌≤◌, Bool, true, false, if◌then◌else◌, cond, List, []}
use Rattle.std.proofs.Common.{◌∷◌, ◌++◌, Option, Some, None, nat_lt, length, map, slice_get, refl, ap, sym, ◌∙◌}
use Rattle.std.proofs.Common.{subst, eqb, eqb-true, eq-eqb, ne_eqb, lt-ltb, arith}
use Rattle.std.specs.List.{flat_map, filter, range_with_len, AllByRecursion}
use Rattle.std.specs.Option.{option_map_or}
use Rattle.std.specs.FinMap as finite
use Rattle.std.proofs.lemmas.Bool.{le-ltb}
use Rattle.view_sums.specs.Total.{total, Each}
use Rattle.view_sums.proofs.Sums.{total-add, total-append, total-cong, total-map, total-le, total-zero}
use Rattle.flake_base.specs.declared.journal.Entry.{Entry}
use Rattle.flake_model.specs.Store.{Store, Operation, after}
use Rattle.flake_model.specs.Command.{Command, parts}
use Rattle.flake_model.specs.Deed.{Deed, Places, places_after, entries_of, IsLegalFrom, IsLegal}
use Rattle.flake_model.specs.Journal.{step_of, next_parts}
use Rattle.flake_model.specs.Run.{all_commands}
use Rattle.flake_model.specs.Session.{Session}
use Rattle.order_book.specs.Closed.{AreMeant, IsShared, AreShared, deeds_by, session_deeds_in, own_deeds, journal_of}
use Rattle.order_book.specs.Pages.{ShardList, SessionList}
use Rattle.shard_core.specs.CallDemand.{pins_by, call_pins}
use Rattle.shard_core.specs.Outcomes.{Outcomes, entry_at, call_told}
use Rattle.serve_model.specs.Runs.{Run, calls_told, calls_pins, list_of, lists_told}
use Rattle.serve_model.specs.Shown.{has_reply, pins_after, pins_found}
use Rattle.serve_model.proofs.Calls.{own, own_append}

-- a weight at one number
abbrev at_one : ℕ → ℕ → ℕ → ℕ
at_one number n other = if number == other then n else 0

not_before : (number n first len : ℕ) → number < first
    → total (at_one number n) (range_with_len first len) ≡ 0
not_before number n first zero before = refl
not_before number n first (suc len) before = omega (
  arith,
  ap (λ b. if b then n else 0) (ne_eqb number first (λ is. omega (arith, before, is))),
  not_before number n (first + 1) len (omega arith),
)

further : (a b : ℕ) → a ≤ b → (a ≡ b → ⊥) → a + 1 ≤ b
further zero zero le ne = absurd (ne refl)
further zero (suc b) le ne = omega arith
further (suc a) zero le ne = absurd (let no : ⊥ = omega arith in no)
further (suc a) (suc b) le ne = omega (arith, further a b (omega arith) (λ is. ne (ap suc is)))

-- a range has it once at the most, and once where the number is in it
once_most : (number n first len : ℕ) → total (at_one number n) (range_with_len first len) ≤ n
once_most number n first zero = omega arith
once_most number n first (suc len) = by (once_most number n (first + 1) len) (eqb number first) refl where
  by : total (at_one number n) (range_with_len (first + 1) len) ≤ n → (b : Bool) → eqb number first ≡ b
      → total (at_one number n) (range_with_len first (suc len)) ≤ n
  by rest true is = omega (
    arith,
    ap (λ b. if b then n else 0) is,
    not_before number n (first + 1) len (omega (arith, eqb-true number first is)),
  )
  by rest false is = omega (arith, ap (λ b. if b then n else 0) is, rest)

once_least : (number n first len : ℕ) → first ≤ number → number < first + len
    → n ≤ total (at_one number n) (range_with_len first len)
once_least number n first zero from below = absurd (let no : ⊥ = omega arith in no)
once_least number n first (suc len) from below =
    by (λ later. once_least number n (first + 1) len later (omega arith)) (eqb number first) refl where
      by : (first + 1 ≤ number → n ≤ total (at_one number n) (range_with_len (first + 1) len))
          → (b : Bool) → eqb number first ≡ b → n ≤ total (at_one number n) (range_with_len first (suc len))
      by rest true is = omega (arith, ap (λ b. if b then n else 0) is)
      by rest false is = omega (
        arith,
        ap (λ b. if b then n else 0) is,
        rest (further first number from (λ same.
            let no : ⊥ = (let yes = eq-eqb number first (sym same) in cc) in no)),
      )

module _ {A : Type 0} (weight : A → ℕ) where
  -- what passes a test, one item more
  filter_more : (here : Bool) (x : A) (xs : List A)
      → total weight (cond here (x ∷ xs) xs) ≡ (if here then weight x else 0) + total weight xs
  filter_more true x xs = refl
  filter_more false x xs = omega arith

-- sums change places
turned : {A B : Type 0} (f : A → B → ℕ) (xs : List A) (ys : List B)
    → total (λ x. total (f x) ys) xs ≡ total (λ y. total (λ x. f x y) xs) ys
turned f [] ys = sym (total-zero ys)
turned f (x ∷ xs) ys =
    omega (arith, total-add (f x) (λ y. total (λ z. f z y) xs) ys, turned f xs ys)

module _ (weight : Deed → ℕ) (sessions : List SessionList) (count : ℕ)
    (numbers : map (λ (s : SessionList). s.number) sessions ≡ range_with_len 0 count) where
  -- each of a shard's deeds is one of a session's
  dealt_out : (told : List Deed) → AllByRecursion (λ (entry : Entry). entry.session < count) (entries_of told)
      → total weight told
      ≤ total (λ (s : SessionList). total weight (filter (λ (deed : Deed). deed.entry.session == s.number) told))
      sessions
  dealt_out [] named = omega arith
  dealt_out (deed ∷ told) named =
      let rest : SessionList → List Deed =
      λ s. filter (λ (d : Deed). d.entry.session == s.number) told in
      let one : SessionList → ℕ = λ s. at_one deed.entry.session (weight deed) s.number in
      let each : total (λ (s : SessionList). total weight
      (filter (λ (d : Deed). d.entry.session == s.number) (deed ∷ told))) sessions
      ≡ total (λ (s : SessionList). one s + total weight (rest s)) sessions =
      total-cong _ _ (λ s. filter_more weight (deed.entry.session == s.number) deed (rest s)) sessions in
      let ones : total one sessions ≡ total (at_one deed.entry.session (weight deed)) (range_with_len 0 count) =
      sym (total-map (at_one deed.entry.session (weight deed)) (λ (s : SessionList). s.number) sessions)
      ∙ ap (total (at_one deed.entry.session (weight deed))) numbers in
      omega (
        arith,
        each,
        total-add one (λ (s : SessionList). total weight (rest s)) sessions,
        ones,
        once_least deed.entry.session (weight deed) 0 count (omega arith) (omega (arith, named.0)),
        dealt_out told named.1,
      )

module _ (weight : Deed → ℕ) (shards : List ShardList) (count : ℕ)
    (numbers : map (λ (s : ShardList). s.number) shards ≡ range_with_len 0 count) where
  -- and each of a session's deeds is in one shard at the most
  put_in : (told : List (ℕ × Deed))
      → total
      (λ (s : ShardList). total weight
      (map (λ (t : ℕ × Deed). t.1) (filter (λ (t : ℕ × Deed). t.0 == s.number) told)))
      shards
      ≤ total weight (own told)
  put_in [] = omega (arith, total-zero shards)
  put_in (t ∷ told) =
      let rest : ShardList → List (ℕ × Deed) = λ s. filter (λ (u : ℕ × Deed). u.0 == s.number) told in
      let one : ShardList → ℕ = λ s. at_one t.0 (weight t.1) s.number in
      let inside : (s : ShardList) → (here : Bool)
      → total weight (own (cond here (t ∷ rest s) (rest s)))
      ≡ (if here then weight t.1 else 0) + total weight (own (rest s)) = within rest in
      let each : total (λ (s : ShardList). total weight (own (filter (λ (u : ℕ × Deed). u.0 == s.number)
      (t ∷ told)))) shards
      ≡ total (λ (s : ShardList). one s + total weight (own (rest s))) shards =
      total-cong _ _ (λ s. inside s (t.0 == s.number)) shards in
      let ones : total one shards ≡ total (at_one t.0 (weight t.1)) (range_with_len 0 count) =
      sym (total-map (at_one t.0 (weight t.1)) (λ (s : ShardList). s.number) shards)
      ∙ ap (total (at_one t.0 (weight t.1))) numbers in
      omega (
        arith,
        each,
        total-add one (λ (s : ShardList). total weight (own (rest s))) shards,
        ones,
        once_most t.0 (weight t.1) 0 count,
        put_in told,
      )
    where
      within : (rest : ShardList → List (ℕ × Deed)) (s : ShardList) (here : Bool)
          → total weight (own (cond here (t ∷ rest s) (rest s)))
          ≡ (if here then weight t.1 else 0) + total weight (own (rest s))
      within rest s true = refl
      within rest s false = omega arith

module _ (weight : Deed → ℕ) (sessions : List SessionList) where
  shared_here : (shard : ShardList) (some : List SessionList) → Each (IsShared shard) some
      → total (λ (s : SessionList). total weight (deeds_by s.number shard)) some
      ≡ total (λ (s : SessionList). total weight (session_deeds_in shard.number s)) some
  shared_here shard [] shared = refl
  shared_here shard (s ∷ some) shared =
      omega (arith, ap (total weight) shared.0.deeds, shared_here shard some shared.1)

  shard_sums : (count : ℕ) (numbers : map (λ (s : SessionList). s.number) sessions ≡ range_with_len 0 count)
      (shards : List ShardList)
      → Each (λ (s : ShardList). AllByRecursion (λ (entry : Entry). entry.session < count) (entries_of s.told)) shards
      → AreShared shards sessions
      → total (λ (s : ShardList). total weight s.told) shards
      ≤ total (λ (shard : ShardList). total (λ (s : SessionList). total weight (session_deeds_in shard.number s))
      sessions) shards
  shard_sums count numbers [] named shared = omega arith
  shard_sums count numbers (shard ∷ shards) named shared = omega (
    arith,
    dealt_out weight sessions count numbers shard.told named.0,
    shared_here shard sessions shared.0,
    shard_sums count numbers shards named.1 shared.1,
  )

  -- the shards' deeds weigh no more than the sessions'
  pub shards_most : (shards : List ShardList) (count others : ℕ)
      → map (λ (s : SessionList). s.number) sessions ≡ range_with_len 0 count
      → map (λ (s : ShardList). s.number) shards ≡ range_with_len 0 others
      → Each (λ (s : ShardList). AllByRecursion (λ (entry : Entry). entry.session < count) (entries_of s.told)) shards
      → AreShared shards sessions
      → total (λ (s : ShardList). total weight s.told) shards
      ≤ total (λ (s : SessionList). total weight (own_deeds s)) sessions
  shards_most shards count others numbers numbered named shared = omega (
    arith,
    shard_sums count numbers shards named shared,
    turned (λ (shard : ShardList) (s : SessionList). total weight (session_deeds_in shard.number s)) shards sessions,
    total-le _ _ (λ (s : SessionList). put_in weight shards others numbered s.told) sessions,
  )

-- the lists of the sessions are numbered
pub lists_numbered : (shards n : ℕ) (runs : List Run)
    → map (λ (s : SessionList). s.number) (lists_told shards n runs) ≡ range_with_len n (length runs)
lists_numbered shards n [] = refl
lists_numbered shards n (run ∷ runs) = ap (λ (l : List ℕ). n ∷ l) (lists_numbered shards (n + 1) runs)

module _ (threshold : ℕ) (sessions : List Session) where
  -- what a deed pins, where its call has its reply
  abbrev pub deed_pins : Deed → ℕ
  deed_pins deed =
      if has_reply sessions deed.entry then pins_by threshold deed.operation deed.answer deed.first else 0

  -- the replay of a history pins what its deeds do
  replay_pins : (store : Store) (places : Places) (deeds : List Deed) → IsLegalFrom store places deeds
      → AreMeant (all_commands sessions) deeds
      → pins_after threshold sessions store (flat_map (step_of (all_commands sessions)) (entries_of deeds))
      ≡ total deed_pins deeds
  replay_pins store places [] legal meant = refl
  replay_pins store places (deed ∷ deeds) legal meant =
      let here : step_of (all_commands sessions) deed.entry ≡ (deed.entry, deed.operation) ∷ [] = rw meant.0 refl in
      let rest = replay_pins (after store deed.operation)
      (places_after store places deed.operation deed.stored) deeds legal.1 meant.1 in
      ap (λ first. pins_after threshold sessions store
      (first ++ flat_map (step_of (all_commands sessions)) (entries_of deeds))) here
      ∙ (λ i. (if has_reply sessions deed.entry
      then pins_by threshold deed.operation (sym legal.0.answered i) (sym legal.0.first_is i)
      else 0)
      + rest i)

  pub journal_pins : (shards : List ShardList) → Each (λ (s : ShardList). IsLegal s.told) shards
      → Each (λ (s : ShardList). AreMeant (all_commands sessions) s.told) shards
      → pins_found threshold sessions (journal_of shards) ≡ total (λ (s : ShardList). total deed_pins s.told) shards
  journal_pins [] legal meant = refl
  journal_pins (shard ∷ shards) legal meant = omega (
    arith,
    replay_pins finite.empty finite.empty shard.told legal.0 meant.0,
    journal_pins shards legal.1 meant.1,
  )

  module _ (shards session : ℕ) where
    -- a call with its reply, and one without
    call_weighs : (call part : ℕ) (operations : List Operation) (outcomes : Outcomes)
        → ((k : ℕ) → has_reply sessions (entry_at session call k) ≡ true)
        → total deed_pins (own (call_told shards session call part operations outcomes))
        ≡ call_pins threshold operations outcomes
    call_weighs call part operations [] has = refl
    call_weighs call part [] (outcome ∷ outcomes) has = refl
    call_weighs call part (operation ∷ operations) (None ∷ outcomes) has =
        omega (arith, call_weighs call (part + 1) operations outcomes has)
    call_weighs call part (operation ∷ operations) (Some done ∷ outcomes) has =
        λ i. (if has part i then pins_by threshold operation done.answer done.first else 0)
        + call_weighs call (part + 1) operations outcomes has i

    call_weighs_none : (call part : ℕ) (operations : List Operation) (outcomes : Outcomes)
        → ((k : ℕ) → has_reply sessions (entry_at session call k) ≡ false)
        → total deed_pins (own (call_told shards session call part operations outcomes)) ≡ 0
    call_weighs_none call part operations [] has = refl
    call_weighs_none call part [] (outcome ∷ outcomes) has = refl
    call_weighs_none call part (operation ∷ operations) (None ∷ outcomes) has =
        call_weighs_none call (part + 1) operations outcomes has
    call_weighs_none call part (operation ∷ operations) (Some done ∷ outcomes) has =
        λ i. (if has part i then pins_by threshold operation done.answer done.first else 0)
        + call_weighs_none call (part + 1) operations outcomes has i

    calls_weigh : (call limit : ℕ) (commands : List Command) (calls : List Outcomes) → call + length calls ≤ limit
        → ((n k : ℕ) → n < limit → has_reply sessions (entry_at session n k) ≡ true)
        → total deed_pins (own (calls_told shards session call commands calls)) ≡ calls_pins threshold commands calls
    calls_weigh call limit commands [] within has = refl
    calls_weigh call limit [] (outcomes ∷ calls) within has = refl
    calls_weigh call limit (command ∷ commands) (outcomes ∷ calls) within has =
        let here = call_told shards session call 0 (parts command) outcomes in
        let later = calls_told shards session (call + 1) commands calls in
        omega (
          arith,
          ap (total deed_pins) (own_append here later),
          total-append deed_pins (own here) (own later),
          call_weighs call 0 (parts command) outcomes (λ k. has call k (omega arith)),
          calls_weigh (call + 1) limit commands calls (omega arith) has,
        )

    -- a session's deeds pin what its calls that have their reply pinned
    run_weighs : (run : Run) (there : Session) → slice_get sessions session ≡ Some there
        → there.end.replies ≡ length run.calls
        → total deed_pins (own_deeds (list_of shards session run)) ≡ calls_pins threshold run.commands run.calls
    run_weighs run there is replies =
        let n = length run.calls in
        let calls = calls_told shards session 0 run.commands run.calls in
        let behind = call_told shards session n 0 (next_parts n run.commands) run.behind in
        let has : (c k : ℕ) → has_reply sessions (entry_at session c k) ≡ nat_lt c n = λ c k.
        ap (λ (found : Option Session). option_map_or (λ (s : Session). nat_lt c s.end.replies) found false) is
        ∙ ap (λ m. nat_lt c m) replies in
        omega (
          arith,
          ap (total deed_pins) (own_append calls behind),
          total-append deed_pins (own calls) (own behind),
          calls_weigh 0 n run.commands run.calls (omega arith) (λ c k below. has c k ∙ lt-ltb c n below),
          call_weighs_none n 0 (next_parts n run.commands) run.behind (λ k. has n k ∙ le-ltb n n (omega arith)),
        )

  -- and so do all sessions together
  pub runs_weigh : (shards n : ℕ) (runs : List Run)
      → ((k : ℕ) (run : Run) → slice_get runs k ≡ Some run
      → (there : Session) × (slice_get sessions (n + k) ≡ Some there) × (there.end.replies ≡ length run.calls))
      → total (λ (s : SessionList). total deed_pins (own_deeds s)) (lists_told shards n runs)
      ≡ total (λ (run : Run). calls_pins threshold run.commands run.calls) runs
  runs_weigh shards n [] each = refl
  runs_weigh shards n (run ∷ runs) each =
      let first = each 0 run refl in
      let here : slice_get sessions n ≡ Some first.0 =
      subst (λ m. slice_get sessions m ≡ Some first.0) (omega arith) first.1 in
      omega (
        arith,
        run_weighs shards n run first.0 here first.2,
        runs_weigh shards (n + 1) runs (λ k later is.
            let one = each (suc k) later is in
            (one.0, subst (λ m. slice_get sessions m ≡ Some one.0) (omega arith) one.1, one.2)),
      )
