-- The deeds of a closed book in the order of their ranks are one history.
use Rattle.std.specs.FinMap as finite
use Rattle.flake_model.specs.OneThread as one_thread
use Rattle.std.proofs.Common.{◌≡◌, ◌==◌, ℕ, zero, suc, ◌+◌, ◌<◌, inl, inr, Bool, true, false, cond, List, [], ◌∷◌}
use Rattle.std.proofs.Common.{Option, Some, None, length, map, slice_get, get_or, refl, ap, sym, ◌∙◌, subst, eq-eqb}
use Rattle.std.proofs.Common.{ne_eqb, arith}
use Rattle.std.specs.List.{flat_map, filter, AllByRecursion}
use Rattle.std.proofs.lemmas.Bool.{eqb-true}
use Rattle.std.proofs.lemmas.List.{length-map}
use Rattle.view_sums.specs.Total.{Each}
use Rattle.view_sums.proofs.Eachs.{each-imp, each-append}
use Rattle.flake_base.specs.declared.journal.Entry.{Entry}
use Rattle.flake_model.specs.Store.{Operation, Answer, key_of, after, Store}
use Rattle.flake_model.specs.Command.{Command, parts}
use Rattle.flake_model.specs.Deed.{Deed, entries_of}
use Rattle.flake_model.specs.Journal.{Step, shard_of, step_of, operation_at, answers_from, answers_of, answer_at}
use Rattle.flake_model.specs.Journal.{of_session, in_shard, next_parts}
use Rattle.flake_model.specs.OneThread.{IsSharded}
use Rattle.flake_model.specs.Order.{IsBefore, EntriesRise}
use Rattle.flake_model.proofs.OneOrder.{Among, before_itself}
use Rattle.flake_model.proofs.OneSession.{Stands, all_filter, steps_are}
use Rattle.flake_model.proofs.ManyShards.{in_a_piece, in_all, is_found}
use Rattle.flake_model.proofs.SameStores.{from_shard, to_shard}
use Rattle.order_book.specs.Pages.{Ranked, Page, deed_session, ranked_deeds, shard_deeds, ShardList, SessionList}
use Rattle.order_book.specs.Pages.{shown_shard}
use Rattle.order_book.specs.Pages.{shown_session}
use Rattle.order_book.specs.Rule.{Rises}
use Rattle.order_book.specs.Closed.{AreMeant, AreRising, journal_of}
use Rattle.order_book.specs.declared.rule.BookSizes.{BookSizes}
use Rattle.order_book.proofs.Among.{each-among, among-each, among-map}
use Rattle.order_book.proofs.Ordered.{entry_of, all-among, in_session, session_page_of, rising_shown}
use Rattle.shard_core.specs.Outcomes.{Outcomes, call_told}
use Rattle.serve_model.specs.Runs.{calls_told, Run, run_told, lists_told}
use Rattle.flake_model.specs.Run.{all_commands}
use Rattle.serve_model.specs.Handed.{SessionRun, session_in, runs_in}
use Rattle.serve_model.specs.Lists.{AreLists}
use Rattle.flake_model.specs.OneHistory.{HasOneHistory}
use Rattle.serve_model.proofs.Places.{get_map, get_map_none, in_range}
use Rattle.order_book.proofs.Replayed.{means}
use Rattle.std.proofs.lemmas.Option.{slice_get-get_or}
use Rattle.std.specs.Prelude.{⊤}
use Rattle.serve_model.proofs.Served.{shards_long, sessions_long, rising, answered}
use Rattle.serve_model.proofs.Merged.{merged, all_merged, filter_yes, filter_no, Goes, Pairs, IsRow, row_of, AreNamed}
use Rattle.serve_model.proofs.Merged.{merged_pairs, IsOf, IsAway, away_from}

-- each deed that a session is told stands in the shard of its key
abbrev IsKeyed : ℕ → ℕ × Deed → Type 0
IsKeyed shards t = t.0 ≡ shard_of shards (key_of t.1.operation)

call_keyed : (shards session call part : ℕ) (operations : List Operation) (outcomes : Outcomes)
    → Each (IsKeyed shards) (call_told shards session call part operations outcomes)
call_keyed shards session call part operations [] = tt
call_keyed shards session call part [] (outcome ∷ outcomes) = tt
call_keyed shards session call part (operation ∷ operations) (None ∷ outcomes) =
    call_keyed shards session call (part + 1) operations outcomes
call_keyed shards session call part (operation ∷ operations) (Some done ∷ outcomes) =
    (refl, call_keyed shards session call (part + 1) operations outcomes)

calls_keyed : (shards session call : ℕ) (commands : List Command) (calls : List Outcomes)
    → Each (IsKeyed shards) (calls_told shards session call commands calls)
calls_keyed shards session call commands [] = tt
calls_keyed shards session call [] (outcomes ∷ calls) = tt
calls_keyed shards session call (command ∷ commands) (outcomes ∷ calls) =
    each-append (IsKeyed shards) (call_told shards session call 0 (parts command) outcomes)
    (calls_told shards session (call + 1) commands calls)
    (call_keyed shards session call 0 (parts command) outcomes) (calls_keyed shards session (call + 1) commands calls)

run_keyed : (shards session : ℕ) (run : Run) → Each (IsKeyed shards) (run_told shards session run)
run_keyed shards session run =
    each-append (IsKeyed shards) (calls_told shards session 0 run.commands run.calls)
    (call_told shards session (length run.calls) 0 (next_parts (length run.calls) run.commands) run.behind)
    (calls_keyed shards session 0 run.commands run.calls)
    (call_keyed shards session (length run.calls) 0 (next_parts (length run.calls) run.commands) run.behind)

lists_keyed : (shards n : ℕ) (runs : List Run) → Each (λ (s : SessionList). Each (IsKeyed shards) s.told)
    (lists_told shards n runs)
lists_keyed shards n [] = tt
lists_keyed shards n (run ∷ runs) = (run_keyed shards n run, lists_keyed shards (n + 1) runs)

-- in a session's list the lower rank is the earlier part
earlier : (r : ℕ) (xs : List Ranked) (x y : Ranked) → EntriesRise (map entry_of xs) → Rises r xs → Among xs x
    → Among xs y
    → Goes x y → IsBefore x.deed.entry y.deed.entry
earlier r [] x y rising rises in_x in_y goes = absurd in_x
earlier r (z ∷ zs) x y rising rises (inl is) (inl same) goes = absurd (goes.1 (sym is ∙ same))
earlier r (z ∷ zs) x y rising rises (inl is) (inr in_y) goes =
    subst (λ (u : Ranked). IsBefore u.deed.entry y.deed.entry) is
    (all-among (λ e. IsBefore z.deed.entry e) zs y rising.0 in_y)
earlier r (z ∷ zs) x y rising rises (inr in_x) (inl is) goes =
    let up : z.rank < x.rank = above z.rank zs x rises.1 in_x in
    let no : ⊥ = omega (arith, goes.0, ap (λ (u : Ranked). u.rank) is) in absurd no
  where
    above : (r : ℕ) (xs : List Ranked) (x : Ranked) → Rises r xs → Among xs x → r < x.rank
    above r [] x rises among = absurd among
    above r (y ∷ ys) x rises (inl is) = omega (arith, rises.0, ap (λ (u : Ranked). u.rank) is)
    above r (y ∷ ys) x rises (inr among) = omega (arith, rises.0, above y.rank ys x rises.1 among)
earlier r (z ∷ zs) x y rising rises (inr in_x) (inr in_y) goes = earlier z.rank zs x y rising.1 rises.1 in_x in_y goes

-- a deed of some page
record HasHome (ps : List Page) (x : Ranked) : Type 0 where
  page : Page
  page_is : Among ps page
  deed_is : Among page.deeds x

homes : (ps all : List Page) → ((p : Page) → Among ps p → Among all p)
    → Each (λ (p : Page). Each (HasHome all) p.deeds) ps
homes ps all within = among-each _ ps (λ p p_is. among-each (HasHome all) p.deeds
    (λ x x_is. record { page = p; page_is = within p p_is; deed_is = x_is }))

abbrev step_at : Ranked → Step
step_at x = (x.deed.entry, x.deed.operation)

entries_are : (xs : List Ranked) → one_thread.entries_of (map step_at xs) ≡ map entry_of xs
entries_are [] = refl
entries_are (x ∷ xs) = ap (λ l. x.deed.entry ∷ l) (entries_are xs)

deeds_are : (xs : List Ranked) → map entry_of xs ≡ entries_of (ranked_deeds xs)
deeds_are [] = refl
deeds_are (x ∷ xs) = ap (λ l. x.deed.entry ∷ l) (deeds_are xs)

-- the page of a shard is what the test on the shard leaves
page_left : (n : ℕ) (ps : List Page) (k : ℕ) (p : Page) → IsRow n ps → AreNamed ps → slice_get ps k ≡ Some p
    → filter (λ (x : Ranked). x.shard == (n + k)) (merged ps) ≡ p.deeds
page_left n [] k p row named is = absurd (let no : ⊥ = cc in no)
page_left n (q ∷ ps) zero p row named is =
    let same : q ≡ p = cc in
    filter_yes (λ (x : Ranked). x.shard == (n + 0)) q.deeds (merged ps)
    (each-imp (IsOf q.number) (λ (x : Ranked). (x.shard == (n + 0)) ≡ true)
    (λ x of. eq-eqb x.shard (n + 0) (omega (arith, of, row.0))) q.deeds named.0)
    (each-imp (IsAway n) (λ (x : Ranked). (x.shard == (n + 0)) ≡ false)
    (λ x away. ne_eqb x.shard (n + 0) (λ at. away (omega (arith, at)))) (merged ps)
    (away_from n (n + 1) ps (omega arith) row.1 named.1))
    ∙ ap (λ (r : Page). r.deeds) same
page_left n (q ∷ ps) (suc k) p row named is =
    let e : n + 1 + k ≡ n + suc k = omega arith in
    filter_no (λ (x : Ranked). x.shard == (n + suc k)) q.deeds (merged ps)
    (each-imp (IsOf q.number) (λ (x : Ranked). (x.shard == (n + suc k)) ≡ false)
    (λ x of. ne_eqb x.shard (n + suc k) (λ at. let no : ⊥ = omega (arith, at, of, row.0) in no)) q.deeds named.0)
    ∙ subst (λ m. filter (λ (x : Ranked). x.shard == m) (merged ps) ≡ p.deeds) e
    (page_left (n + 1) ps k p row.1 named.1 is)

-- two tests that agree on each leave the same
filter_same : (f g : Ranked → Bool) (xs : List Ranked) → Each (λ x. f x ≡ g x) xs → filter f xs ≡ filter g xs
filter_same f g [] each = refl
filter_same f g (x ∷ xs) each = (λ i. cond (each.0 i) (x ∷ filter_same f g xs each.1 i) (filter_same f g xs each.1 i))

-- what a list has at most once
abbrev AllApart : List Entry → Type 0
AllApart [] = ⊤
AllApart (e ∷ es) = AllByRecursion (λ later. e ≡ later → ⊥) es × AllApart es

entries_of_answers : (store : Store) (steps : List Step)
    → map (λ (a : Entry × Answer). a.0) (answers_from store steps) ≡ one_thread.entries_of steps
entries_of_answers store [] = refl
entries_of_answers store (step ∷ steps) = ap (λ es. step.0 ∷ es) (entries_of_answers (after store step.1) steps)

later_apart : (e : Entry) (answers : List (Entry × Answer)) (found : Entry × Answer)
    → AllByRecursion (λ later. e ≡ later → ⊥) (map (λ (a : Entry × Answer). a.0) answers) → Among answers found
    → e ≡ found.0 → ⊥
later_apart e [] found apart among same = among
later_apart e (a ∷ answers) found apart (inl is) same = apart.0 (same ∙ ap (λ (x : Entry × Answer). x.0) (sym is))
later_apart e (a ∷ answers) found apart (inr among) same = later_apart e answers found apart.1 among same

one_there : (answers : List (Entry × Answer)) (a b : Entry × Answer)
    → AllApart (map (λ (a : Entry × Answer). a.0) answers) → Among answers a → Among answers b → a.0 ≡ b.0 → a ≡ b
one_there [] a b apart in_a in_b same = absurd in_a
one_there (x ∷ answers) a b apart (inl is_a) (inl is_b) same = sym is_a ∙ is_b
one_there (x ∷ answers) a b apart (inl is_a) (inr in_b) same =
    absurd (later_apart x.0 answers b apart.0 in_b (ap (λ (y : Entry × Answer). y.0) is_a ∙ same))
one_there (x ∷ answers) a b apart (inr in_a) (inl is_b) same =
    absurd (later_apart x.0 answers a apart.0 in_a (ap (λ (y : Entry × Answer). y.0) is_b ∙ sym same))
one_there (x ∷ answers) a b apart (inr in_a) (inr in_b) same = one_there answers a b apart.1 in_a in_b same

all_of_among : {A : Type 0} (P : A → Type 0) (xs : List A) → ((x : A) → Among xs x → P x) → AllByRecursion P xs
all_of_among P [] each = tt
all_of_among P (x ∷ xs) each = (each x (inl refl), all_of_among P xs (λ y among. each y (inr among)))

first_kept : {A B : Type 0} (g : A → B) (b : Bool) (x : A) (ys : List A)
    → cond b (g x ∷ map g ys) (map g ys) ≡ map g (cond b (x ∷ ys) ys)
first_kept g true x ys = refl
first_kept g false x ys = refl

filter-map : {A B : Type 0} (f : B → Bool) (g : A → B) (xs : List A)
    → filter f (map g xs) ≡ map g (filter (λ x. f (g x)) xs)
filter-map f g [] = refl
filter-map f g (x ∷ xs) = ap (λ l. cond (f (g x)) (g x ∷ l) l) (filter-map f g xs)
    ∙ first_kept g (f (g x)) x (filter (λ y. f (g y)) xs)

module _ (books : BookSizes) (served : List SessionRun) (shards : List ShardList) (sessions : List SessionList)
    (lists : AreLists books (runs_in served) shards sessions) (some : 0 < length (journal_of shards)) where
  abbrev ps : List Page
  ps = lists.closed.shard_pages

  abbrev qs : List Page
  qs = lists.closed.session_pages

  abbrev commands : List (List Command)
  commands = all_commands (map session_in served)

  abbrev all : List Ranked
  all = merged ps

  named : AreNamed ps
  named = each-imp _ (λ (p : Page). Each (IsOf p.number) p.deeds)
      (λ p each. each-imp _ (IsOf p.number) (λ x both. both.0) p.deeds each) ps lists.closed.one.named

  row : IsRow 0 ps
  row = row_of 0 ps (λ k p is.
      let on = subst (λ l. slice_get l k ≡ Some (shown_shard p)) (sym lists.closed.shards_shown)
      (get_map shown_shard ps k p is) in
      in_range 0 books.shards k p.number (subst (λ l. slice_get l k ≡ Some p.number) lists.numbered
      (get_map (λ (s : ShardList). s.number) shards k (shown_shard p) on)))

  pairs : Pairs all
  pairs = merged_pairs 0 ps row named lists.closed.one.shards_rise

  home : Each (HasHome ps) all
  home = all_merged (HasHome ps) ps (homes ps ps (λ p among. among))

  qs_long : length qs ≡ books.sessions
  qs_long = sym (length-map qs shown_session) ∙ sym (ap length lists.closed.sessions_shown)
      ∙ sessions_long books served shards sessions lists

  qs_rising : Each (λ (q : Page). EntriesRise (map entry_of q.deeds)) qs
  qs_rising = rising_shown qs (subst AreRising lists.closed.sessions_shown (rising books served shards sessions lists))

  goes_before : (x y : Ranked) → HasHome ps x → HasHome ps y → deed_session x ≡ deed_session y → Goes x y
      → IsBefore x.deed.entry y.deed.entry
  goes_before x y hx hy same goes =
      let q = session_page_of books ps qs lists.closed.one qs_long hx.page x hx.page_is hx.deed_is in
      let in_x = in_session books ps qs lists.closed.one qs_long hx.page q.found x hx.page_is q.among hx.deed_is
      (sym q.number_is) in
      let in_y = in_session books ps qs lists.closed.one qs_long hy.page q.found y hy.page_is q.among hy.deed_is
      (sym same ∙ sym q.number_is) in
      earlier 0 q.found.deeds x y (each-among (λ (r : Page). EntriesRise (map entry_of r.deeds)) qs q.found qs_rising
      q.among)
      (each-among (λ (r : Page). Rises 0 r.deeds) qs q.found lists.closed.one.sessions_rise q.among) in_x in_y goes

  later_all : (i : ℕ) (x : Ranked) (xs : List Ranked) → HasHome ps x → deed_session x ≡ i → Each (Goes x) xs
      → Each (HasHome ps) xs → AllByRecursion (λ later. IsBefore x.deed.entry later) (of_session i (map entry_of xs))
  later_all i x [] hx own goes homes = tt
  later_all i x (y ∷ ys) hx own goes homes = by (y.deed.entry.session == i) refl
      (later_all i x ys hx own goes.1 homes.1) where
        by : (b : Bool) → (y.deed.entry.session == i) ≡ b → AllByRecursion (λ later. IsBefore x.deed.entry later)
            (of_session i (map entry_of ys))
            → AllByRecursion (λ later. IsBefore x.deed.entry later)
            (cond b (y.deed.entry ∷ of_session i (map entry_of ys)) (of_session i (map entry_of ys)))
        by true is rest = (goes_before x y hx homes.0 (own ∙ sym (eqb-true y.deed.entry.session i is)) goes.0, rest)
        by false is rest = rest

  orders : (i : ℕ) (xs : List Ranked) → Pairs xs → Each (HasHome ps) xs → EntriesRise (of_session i (map entry_of xs))
  orders i [] goes homes = tt
  orders i (x ∷ xs) goes homes = by (x.deed.entry.session == i) refl (orders i xs goes.1 homes.1) where
    by : (b : Bool) → (x.deed.entry.session == i) ≡ b → EntriesRise (of_session i (map entry_of xs))
        → EntriesRise (cond b (x.deed.entry ∷ of_session i (map entry_of xs)) (of_session i (map entry_of xs)))
    by true is rest = (later_all i x xs homes.0 (eqb-true x.deed.entry.session i is) goes.0 homes.1, rest)
    by false is rest = rest

  apart_from : (x : Ranked) (xs : List Ranked) → HasHome ps x → Each (Goes x) xs → Each (HasHome ps) xs
      → AllByRecursion (λ later. x.deed.entry ≡ later → ⊥) (map entry_of xs)
  apart_from x [] hx goes homes = tt
  apart_from x (y ∷ ys) hx goes homes = (
    (λ same. before_itself x.deed.entry (subst (λ (e : Entry). IsBefore x.deed.entry e) (sym same)
        (goes_before x y hx homes.0 (ap (λ (e : Entry). e.session) same) goes.0))),
    apart_from x ys hx goes.1 homes.1,
  )

  all_apart : (xs : List Ranked) → Pairs xs → Each (HasHome ps) xs → AllApart (map entry_of xs)
  all_apart [] goes homes = tt
  all_apart (x ∷ xs) goes homes = (apart_from x xs homes.0 goes.0 homes.1, all_apart xs goes.1 homes.1)

  -- each stands for its operation, and in the shard of its key
  abbrev IsMeant : Ranked → Type 0
  IsMeant x = operation_at commands x.deed.entry ≡ Some x.deed.operation

  on_page : (xs : List Ranked) → AreMeant commands (ranked_deeds xs) → Each IsMeant xs
  on_page [] meant = tt
  on_page (x ∷ xs) meant = (meant.0, on_page xs meant.1)

  on_pages : (rs : List Page) → Each (λ (s : ShardList). AreMeant commands s.told) (map shown_shard rs)
      → Each (λ (p : Page). Each IsMeant p.deeds) rs
  on_pages [] meant = tt
  on_pages (p ∷ rs) meant = (on_page p.deeds meant.0, on_pages rs meant.1)

  meant : Each IsMeant all
  meant = all_merged IsMeant ps (on_pages ps (subst (Each (λ (s : ShardList). AreMeant commands s.told))
      lists.closed.shards_shown
      (means commands books shards sessions lists.closed (shards_long books served shards sessions lists)
      (sessions_long books served shards sessions lists) (answered books served shards sessions lists).meant)))

  stands : (xs : List Ranked) → Each IsMeant xs → AllByRecursion (Stands commands) (map step_at xs)
  stands [] each = tt
  stands (x ∷ xs) each = (each.0, stands xs each.1)

  keyed : (x : Ranked) → HasHome ps x → x.shard ≡ shard_of books.shards (key_of x.deed.operation)
  keyed x hx =
      let q = session_page_of books ps qs lists.closed.one qs_long hx.page x hx.page_is hx.deed_is in
      let in_x = in_session books ps qs lists.closed.one qs_long hx.page q.found x hx.page_is q.among hx.deed_is
      (sym q.number_is) in
      let told : Each (λ (s : SessionList). Each (IsKeyed books.shards) s.told) (map shown_session qs) =
      subst (Each (λ (s : SessionList). Each (IsKeyed books.shards) s.told)) lists.closed.sessions_shown
      (subst (Each (λ (s : SessionList). Each (IsKeyed books.shards) s.told)) (sym lists.told)
      (lists_keyed books.shards 0 (runs_in served))) in
      each-among (IsKeyed books.shards) (shard_deeds q.found.deeds) (x.shard, x.deed)
      (each-among (λ (s : SessionList). Each (IsKeyed books.shards) s.told) (map shown_session qs)
      (shown_session q.found) told (among-map shown_session qs q.found q.among))
      (among-map (λ (y : Ranked). (y.shard, y.deed)) q.found.deeds x in_x)

  abbrev journal : List (List Entry)
  journal = journal_of shards

  journal_long : length journal ≡ books.shards
  journal_long = length-map shards (λ (s : ShardList). entries_of s.told)
      ∙ shards_long books served shards sessions lists

  same_tests : (shard : ℕ) (xs : List Ranked) → Each (HasHome ps) xs
      → Each (λ x. (shard_of (length journal) (key_of x.deed.operation) == shard) ≡ (x.shard == shard)) xs
  same_tests shard [] homes = tt
  same_tests shard (x ∷ xs) homes = (
    (λ i. (ap (λ n. shard_of n (key_of x.deed.operation)) journal_long
        ∙ sym (keyed x homes.0)) i == shard),
    same_tests shard xs homes.1,
  )

  own_shard : (shard : ℕ) (p : Page) → slice_get ps shard ≡ Some p
      → in_shard (length journal) shard (map step_at all) ≡ map step_at p.deeds
  own_shard shard p is =
      let e : 0 + shard ≡ shard = omega arith in
      filter-map (λ (step : Step). shard_of (length journal) (key_of step.1) == shard) step_at all
      ∙ ap (map step_at) (filter_same (λ (x : Ranked). shard_of (length journal) (key_of x.deed.operation) == shard)
      (λ (x : Ranked). x.shard == shard) all (same_tests shard all home)
      ∙ subst (λ m. filter (λ (x : Ranked). x.shard == m) all ≡ p.deeds) e (page_left 0 ps shard p row named is))

  sharded : IsSharded (map step_at all) journal
  sharded shard history is = by (slice_get ps shard) refl where
    by : (found : Option Page) → slice_get ps shard ≡ found
        → history ≡ one_thread.entries_of (in_shard (length journal) shard (map step_at all))
    by None none =
        let gone : slice_get journal shard ≡ None = subst
        (λ l. slice_get (map (λ (s : ShardList). entries_of s.told) l) shard ≡ None) (sym lists.closed.shards_shown)
        (get_map_none (λ (s : ShardList). entries_of s.told) (map shown_shard ps) shard
        (get_map_none shown_shard ps shard none)) in
        absurd (let no : ⊥ = cc in no)
    by (Some p) there =
        let here : slice_get journal shard ≡ Some (entries_of (ranked_deeds p.deeds)) =
        subst (λ l. slice_get (map (λ (s : ShardList). entries_of s.told) l) shard
        ≡ Some (entries_of (ranked_deeds p.deeds))) (sym lists.closed.shards_shown)
        (get_map (λ (s : ShardList). entries_of s.told) (map shown_shard ps) shard (shown_shard p)
        (get_map shown_shard ps shard p there)) in
        let same : history ≡ entries_of (ranked_deeds p.deeds) = cc in
        same ∙ sym (deeds_are p.deeds) ∙ sym (entries_are p.deeds)
        ∙ ap one_thread.entries_of (sym (own_shard shard p there))

  one_store : (found : Entry × Answer) → Among (answers_from finite.empty (map step_at all)) found
      → answer_at found.0 (answers_of commands journal) ≡ Some found.1
  one_store found among =
      let steps = map step_at all in
      let n = length journal in
      let pieces : List Entry → List (Entry × Answer) =
      λ history. answers_from finite.empty (flat_map (step_of commands) history) in
      let history_is : (shard : ℕ) (history : List Entry) → slice_get journal shard ≡ Some history
      → pieces history ≡ answers_from finite.empty (in_shard n shard steps) =
      λ shard history is. ap (answers_from finite.empty) (ap (flat_map (step_of commands)) (sharded shard history is)
      ∙ steps_are commands (in_shard n shard steps) (all_filter (Stands commands) _ steps (stands all meant))) in
      let at = to_shard n some finite.empty steps found among in
      let own = get_or journal at.shard [] in
      let own_is : slice_get journal at.shard ≡ Some own = slice_get-get_or journal at.shard [] at.below in
      let stands_there : Among (pieces own) found = subst (λ answers. Among answers found)
      (sym (history_is at.shard own own_is)) (at.there finite.empty (λ key here. refl)) in
      let apart : AllApart (map (λ (a : Entry × Answer). a.0) (answers_from finite.empty steps)) =
      subst AllApart (sym (entries_of_answers finite.empty steps ∙ entries_are all)) (all_apart all pairs home) in
      is_found (answers_of commands journal) found (in_all pieces journal at.shard own found own_is stands_there)
      (λ other in_journal same.
      let from = in_a_piece pieces journal other in_journal in
      let in_one = from_shard n from.place finite.empty finite.empty steps (λ key here. refl) other
      (subst (λ answers. Among answers other) (history_is from.place from.piece from.is) from.among) in
      one_there (answers_from finite.empty steps) found other apart among in_one same)

  history : HasOneHistory commands journal
  history = record {
    steps = map step_at all;
    stand = stands all meant;
    sharded = sharded;
    in_order = λ session. subst (λ entries. EntriesRise (of_session session entries)) (sym (entries_are all))
        (orders session all pairs home);
    answers = all_of_among _ (answers_from finite.empty (map step_at all)) one_store;
  }

-- without a shard there is no part
pub one_history : (books : BookSizes) (served : List SessionRun) (shards : List ShardList) (sessions : List SessionList)
    → AreLists books (runs_in served) shards sessions
    → HasOneHistory (all_commands (map session_in served)) (journal_of shards)
one_history books served [] sessions lists = record {
  steps = [];
  stand = tt;
  sharded = λ shard history is. absurd (let no : ⊥ = cc in no);
  in_order = λ session. tt;
  answers = tt;
}
one_history books served (shard ∷ shards) sessions lists =
    history books served (shard ∷ shards) sessions lists (omega arith)
