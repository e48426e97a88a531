-- Each deed of a shard is one that its session was told, and the other way round.
use Rattle.std.proofs.Common.{◌≡◌, ℕ, zero, suc, ◌+◌, ◌<◌, inl, inr, List, [], ◌∷◌, Option, Some, None, length, map}
use Rattle.std.proofs.Common.{slice_get, unwrap_or, refl, ap, sym, ◌∙◌, subst, ⊎_elim, eqb, eq-eqb, arith}
use Rattle.std.specs.List.{AllByRecursion, flat_map}
use Rattle.std.specs.Option.{option_and_then}
use Rattle.std.proofs.lemmas.List.{length-map}
use Rattle.view_sums.specs.Total.{Each}
use Rattle.flake_base.specs.declared.journal.Entry.{Entry}
use Rattle.flake_model.specs.Store.{Operation}
use Rattle.flake_model.specs.Command.{Command, parts}
use Rattle.flake_model.specs.Deed.{Deed, entries_of, IsLegal}
use Rattle.flake_model.specs.Journal.{commands_of, operation_at}
use Rattle.flake_model.specs.Run.{all_commands}
use Rattle.flake_model.proofs.OneOrder.{Among}
use Rattle.order_book.specs.Pages.{Ranked, Page, deed_session, shard_deeds, ShardList, SessionList, shown_shard}
use Rattle.order_book.specs.Pages.{shown_session}
use Rattle.order_book.specs.Rule.{deeds_of_session, deeds_in_shard}
use Rattle.order_book.specs.Closed.{AreMeant, journal_of, own_deeds}
use Rattle.order_book.specs.declared.rule.BookSizes.{BookSizes}
use Rattle.order_book.proofs.Among.{each-among, among-append, among-filter, among-filtered, among-map, among-mapped}
use Rattle.order_book.proofs.Numbers.{all_present}
use Rattle.order_book.proofs.Ordered.{in_session, session_page_of}
use Rattle.order_book.proofs.Replayed.{means}
use Rattle.serve_model.specs.Handed.{SessionRun, session_in, runs_in}
use Rattle.serve_model.specs.Lists.{AreLists}
use Rattle.serve_model.specs.Runs.{IsRun, list_of, lists_told, run_told}
use Rattle.serve_model.proofs.Calls.{own, run_rising}
use Rattle.serve_model.proofs.Places.{each_at, below_end, get_map, get_map_none}
use Rattle.serve_model.proofs.Served.{shards_long, sessions_long, answered}
use Rattle.transcript_model.specs.Deeds.{find_deed}
use Rattle.transcript_model.specs.Transcript as transcript
use Rattle.transcript_model.specs.Sources.{IsOwnDeed, AreSources}
use Rattle.drive_told.proofs.Found.{AreOnce, found_there, same_deed, rising_once}
use Rattle.drive_told.proofs.Lists.{within, all_of_among, among_all, in_joined}
use Rattle.drive_told.proofs.Lists.{among_place}
use Rattle.drive_told.proofs.Posted.{IsPosted, run_posted}

-- what the session of a number was told; nothing where there is no such session
abbrev pub own_of : List SessionList → ℕ → List Deed
own_of lists session = unwrap_or (slice_get (map own_deeds lists) session) []

abbrev pub all_deeds : List ShardList → List (List Deed)
all_deeds shards = map (λ (shard : ShardList). shard.told) shards

-- the list of a run
record HasRunOf (shards n : ℕ) (all : List SessionRun) (list : SessionList) : Type 0 where
  place : ℕ
  ran : SessionRun
  there : slice_get all place ≡ Some ran
  is : list_of shards (n + place) ran.run ≡ list

run_behind : (shards n : ℕ) (all : List SessionRun) (list : SessionList)
    → Among (lists_told shards n (runs_in all)) list → HasRunOf shards n all list
run_behind shards n [] list among = absurd among
run_behind shards n (ran ∷ all) list (inl is) =
    let e : n + 0 ≡ n = omega arith in
    record { place = 0; ran = ran; there = refl; is = ap (λ m. list_of shards m ran.run) e ∙ is }
run_behind shards n (ran ∷ all) list (inr among) =
    let rest = run_behind shards (n + 1) all list among in
    let e : n + suc rest.place ≡ n + 1 + rest.place = omega arith in
    record {
      place = suc rest.place;
      ran = rest.ran;
      there = rest.there;
      is = ap (λ m. list_of shards m rest.ran.run) e ∙ rest.is;
    }

list_there : (shards n : ℕ) (all : List SessionRun) (k : ℕ) (ran : SessionRun) → slice_get all k ≡ Some ran
    → slice_get (lists_told shards n (runs_in all)) k ≡ Some (list_of shards (n + k) ran.run)
list_there shards n [] k ran is = absurd (let no : ⊥ = cc in no)
list_there shards n (first ∷ all) zero ran is =
    let same : first ≡ ran = cc in
    let e : n ≡ n + 0 = omega arith in
    λ i. Some (list_of shards (e i) (same i).run)
list_there shards n (first ∷ all) (suc k) ran is =
    let e : n + 1 + k ≡ n + suc k = omega arith in
    subst (λ m. slice_get (lists_told shards (n + 1) (runs_in all)) k ≡ Some (list_of shards m ran.run)) e
    (list_there shards (n + 1) all k ran is)

list_past : (shards n : ℕ) (all : List SessionRun) (k : ℕ) → slice_get all k ≡ None
    → slice_get (lists_told shards n (runs_in all)) k ≡ None
list_past shards n [] k is = refl
list_past shards n (first ∷ all) zero is = absurd (let no : ⊥ = cc in no)
list_past shards n (first ∷ all) (suc k) is = list_past shards (n + 1) all k is

-- the ranked deed of a list
record HasRanked (xs : List Ranked) (deed : Deed) : Type 0 where
  ranked : Ranked
  among : Among xs ranked
  is : ranked.deed ≡ deed

behind_own : (xs : List Ranked) (deed : Deed) → Among (own (shard_deeds xs)) deed → HasRanked xs deed
behind_own [] deed among = absurd among
behind_own (x ∷ xs) deed (inl is) = record { ranked = x; among = inl refl; is = is }
behind_own (x ∷ xs) deed (inr among) =
    let rest = behind_own xs deed among in
    record { ranked = rest.ranked; among = inr rest.among; is = rest.is }

-- an entry that stands for an operation is one of a command's part
record IsPart (sessions : List (List Command)) (entry : Entry) (operation : Operation) : Type 0 where
  command : Command
  asked : slice_get (commands_of sessions entry.session) entry.call ≡ Some command
  part : slice_get (parts command) entry.part ≡ Some operation

record Gives {A B : Type 0} (f : A → Option B) (from : Option A) (y : B) : Type 0 where
  source : A
  from_is : from ≡ Some source
  gives : f source ≡ Some y

given_by : {A B : Type 0} (f : A → Option B) (from : Option A) (y : B) → option_and_then f from ≡ Some y
    → Gives f from y
given_by f None y is = absurd (let no : ⊥ = cc in no)
given_by f (Some x) y is = record { source = x; from_is = refl; gives = is }

part_of : (sessions : List (List Command)) (entry : Entry) (operation : Operation)
    → operation_at sessions entry ≡ Some operation → IsPart sessions entry operation
part_of sessions entry operation is =
    let session = given_by _ (slice_get sessions entry.session) operation is in
    let call = given_by _ (slice_get session.source entry.call) operation session.gives in
    record {
      command = call.source;
      asked = ap (λ (found : Option (List Command)). slice_get (unwrap_or found []) entry.call) session.from_is
          ∙ call.from_is;
      part = call.gives;
    }

module _ (books : BookSizes) (all : List SessionRun) (shards : List ShardList) (lists : List SessionList)
    (are : AreLists books (runs_in all) shards lists) where
  abbrev ps : List Page
  ps = are.closed.shard_pages

  abbrev qs : List Page
  qs = are.closed.session_pages

  ps_long : length ps ≡ books.shards
  ps_long = sym (length-map ps shown_shard) ∙ sym (ap length are.closed.shards_shown)
      ∙ shards_long books all shards lists are

  qs_long : length qs ≡ books.sessions
  qs_long = sym (length-map qs shown_session) ∙ sym (ap length are.closed.sessions_shown)
      ∙ sessions_long books all shards lists are

  -- what a session was told
  abbrev told_by : ℕ → SessionRun → List Deed
  told_by session ran = own (run_told books.shards session ran.run)

  own_is : (k : ℕ) (ran : SessionRun) → slice_get all k ≡ Some ran → own_of lists k ≡ told_by k ran
  own_is k ran is =
      let e : 0 + k ≡ k = omega arith in
      let list : slice_get lists k ≡ Some (list_of books.shards k ran.run) =
      subst (λ l. slice_get l k ≡ Some (list_of books.shards k ran.run)) (sym are.told)
      (subst (λ m. slice_get (lists_told books.shards 0 (runs_in all)) k ≡ Some (list_of books.shards m ran.run)) e
      (list_there books.shards 0 all k ran is)) in
      ap (λ (found : Option (List Deed)). unwrap_or found []) (get_map own_deeds lists k _ list)

  own_past : (k : ℕ) → slice_get all k ≡ None → own_of lists k ≡ []
  own_past k is =
      let none : slice_get lists k ≡ None =
      subst (λ l. slice_get l k ≡ None) (sym are.told) (list_past books.shards 0 all k is) in
      ap (λ (found : Option (List Deed)). unwrap_or found []) (get_map_none own_deeds lists k none)

  own_once : (session : ℕ) → AreOnce (own_of lists session)
  own_once session = by (slice_get all session) refl where
    by : (found : Option SessionRun) → slice_get all session ≡ found → AreOnce (own_of lists session)
    by None is = subst AreOnce (sym (own_past session is)) (λ a b in_a in_b same. absurd in_a)
    by (Some ran) is =
        subst AreOnce (sym (own_is session ran is))
        (rising_once (told_by session ran) (run_rising books.shards session ran.run))

  -- the run that told a deed
  record IsToldDeed (deed : Deed) : Type 0 where
    ran : SessionRun
    there : slice_get all deed.entry.session ≡ Some ran
    among : Among (told_by deed.entry.session ran) deed

  among_own : (xs : List Ranked) (x : Ranked) → Among xs x → Among (own (shard_deeds xs)) x.deed
  among_own xs x among =
      among-map (λ (told : ℕ × Deed). told.1) (shard_deeds xs) (x.shard, x.deed)
      (among-map (λ (y : Ranked). (y.shard, y.deed)) xs x among)

  -- a shard's deed is one that its session was told
  shard_told : (p : Page) (x : Ranked) → Among ps p → Among p.deeds x → IsToldDeed x.deed
  shard_told p x p_is x_is =
      let home = session_page_of books ps qs are.closed.one qs_long p x p_is x_is in
      let q = home.found in
      let x_in = in_session books ps qs are.closed.one qs_long p q x p_is home.among x_is (sym home.number_is) in
      let listed : Among (lists_told books.shards 0 (runs_in all)) (shown_session q) =
      subst (λ l. Among l (shown_session q)) (sym are.closed.sessions_shown ∙ are.told)
      (among-map shown_session qs q home.among) in
      let found = run_behind books.shards 0 all (shown_session q) listed in
      let place : found.place ≡ deed_session x =
      omega (arith, ap (λ (l : SessionList). l.number) found.is, home.number_is) in
      let e : 0 + found.place ≡ deed_session x = omega (arith, place) in
      let told : told_by (deed_session x) found.ran ≡ own (shard_deeds q.deeds) =
      ap (λ m. own (run_told books.shards m found.ran.run)) (sym e) ∙ ap own_deeds found.is in
      record {
        ran = found.ran;
        there = subst (λ m. slice_get all m ≡ Some found.ran) place found.there;
        among = subst (λ l. Among l x.deed) (sym told) (among_own q.deeds x x_in);
      }

  -- what stands behind a deed of the shards
  record IsShardDeed (deed : Deed) : Type 0 where
    page : Page
    ranked : Ranked
    page_is : Among ps page
    ranked_is : Among page.deeds ranked
    is : ranked.deed ≡ deed

  behind_shard : (shard : ShardList) (deed : Deed) → Among shards shard → Among shard.told deed → IsShardDeed deed
  behind_shard shard deed shard_is deed_is =
      let from = among-mapped shown_shard ps shard (subst (λ l. Among l shard) are.closed.shards_shown shard_is) in
      let one = among-mapped (λ (x : Ranked). x.deed) from.source.deeds deed
      (subst (λ (s : ShardList). Among s.told deed) (sym from.is) deed_is) in
      record {
        page = from.source;
        ranked = one.source;
        page_is = from.among;
        ranked_is = one.among;
        is = one.is;
      }

  told_of : (shard : ShardList) (deed : Deed) → Among shards shard → Among shard.told deed → IsToldDeed deed
  told_of shard deed shard_is deed_is =
      let from = behind_shard shard deed shard_is deed_is in
      subst IsToldDeed from.is (shard_told from.page from.ranked from.page_is from.ranked_is)

  -- a session's deed stands in its shard's list
  in_shards : (q : Page) (x : Ranked) → Among qs q → Among q.deeds x
      → Among (flat_map (λ d. d) (all_deeds shards)) x.deed
  in_shards q x q_is x_is =
      let filed = each-among (λ (y : Ranked). (deed_session y ≡ q.number) × (y.shard < books.shards)) q.deeds x
      (each-among (λ (r : Page). Each (λ (y : Ranked). (deed_session y ≡ r.number) × (y.shard < books.shards)) r.deeds)
      qs q are.closed.one.filed q_is) x_is in
      let home = all_present books.shards ps are.closed.one.shards_numbered ps_long x.shard filed.1 in
      let p = home.found in
      let agree = each-among (λ (r : Page). deeds_of_session r.number p.deeds ≡ deeds_in_shard p.number r.deeds) qs q
      (each-among (λ (s : Page). Each
      (λ (r : Page). deeds_of_session r.number s.deeds ≡ deeds_in_shard s.number r.deeds) qs) ps p
      are.closed.one.agree home.among) q_is in
      let there = among-filter (λ (y : Ranked). eqb y.shard p.number) q.deeds x x_is
      (eq-eqb x.shard p.number (sym home.number_is)) in
      let x_in = among-filtered (λ (y : Ranked). eqb (deed_session y) q.number) p.deeds x
      (subst (λ l. Among l x) (sym agree) there) in
      let shard_is : Among shards (shown_shard p) =
      subst (λ l. Among l (shown_shard p)) (sym are.closed.shards_shown) (among-map shown_shard ps p home.among) in
      in_joined (all_deeds shards) (shown_shard p).told x.deed
      (among-map (λ (s : ShardList). s.told) shards (shown_shard p) shard_is)
      (among-map (λ (y : Ranked). y.deed) p.deeds x x_in)

  -- what a session was told stands in the shards
  own_shared : (session : ℕ) (deed : Deed) → Among (own_of lists session) deed
      → Among (flat_map (λ d. d) (all_deeds shards)) deed
  own_shared session deed among = by (slice_get all session) refl where
    by : (found : Option SessionRun) → slice_get all session ≡ found
        → Among (flat_map (λ d. d) (all_deeds shards)) deed
    by None is = absurd (subst (λ l. Among l deed) (own_past session is) among)
    by (Some ran) is =
        let e : 0 + session ≡ session = omega arith in
        let list : Among lists (list_of books.shards session ran.run) =
        subst (λ l. Among l (list_of books.shards session ran.run)) (sym are.told)
        (subst (λ m. Among (lists_told books.shards 0 (runs_in all)) (list_of books.shards m ran.run)) e
        (among_place (lists_told books.shards 0 (runs_in all)) session _
        (list_there books.shards 0 all session ran is)))
        in
        let from = among-mapped shown_session qs (list_of books.shards session ran.run)
        (subst (λ l. Among l (list_of books.shards session ran.run)) are.closed.sessions_shown list) in
        let q = from.source in
        let told : Among (own (shard_deeds q.deeds)) deed =
        subst (λ l. Among l deed) (own_is session ran is ∙ sym (ap own_deeds from.is)) among in
        let one = behind_own q.deeds deed told in
        subst (Among (flat_map (λ d. d) (all_deeds shards))) one.is (in_shards q one.ranked from.among one.among)

  -- a joined list has what its lists have
  shard_behind : (some : List ShardList) (deed : Deed) → Among (flat_map (λ d. d) (all_deeds some)) deed
      → ((shard : ShardList) → Among some shard → Among shards shard) → IsToldDeed deed
  shard_behind [] deed among within = absurd among
  shard_behind (shard ∷ some) deed among within = ⊎_elim
      (λ here. told_of shard deed (within shard (inl refl)) here)
      (λ more. shard_behind some deed more (λ later in_some. within later (inr in_some)))
      (among-append shard.told (flat_map (λ d. d) (all_deeds some)) deed among)

  -- at each entry the shards have what its session was told, and nothing else
  pub shared : (entry : Entry) → find_deed entry (flat_map (λ d. d) (all_deeds shards))
      ≡ find_deed entry (own_of lists entry.session)
  shared entry = same_deed entry (flat_map (λ d. d) (all_deeds shards)) (own_of lists entry.session)
      (λ deed among at.
      let told = shard_behind shards deed among (λ shard is. is) in
      subst (λ (e : Entry). Among (own_of lists e.session) deed) at
      (subst (λ l. Among l deed) (sym (own_is deed.entry.session told.ran told.there)) told.among))
      (λ deed among at. own_shared entry.session deed among)
      (own_once entry.session)

  abbrev commands : List (List Command)
  commands = all_commands (map session_in all)

  meant : Each (λ (s : ShardList). AreMeant commands s.told) shards
  meant = means commands books shards lists are.closed (shards_long books all shards lists are)
      (sessions_long books all shards lists are) (answered books all shards lists are).meant

  module _ (run : transcript.DrivenRun) (stages : List (List ℕ)) (sessions_are : run.sessions ≡ commands)
      (ends_are : run.ends ≡ map (λ (ran : SessionRun). ran.run.end) all)
      (journal_is : run.journal ≡ journal_of shards) (long : length stages ≡ length all) where
    own_deed : (shard : ShardList) (deed : Deed) → Among shards shard → Among shard.told deed
        → IsOwnDeed run (own_of lists) stages deed
    own_deed shard deed shard_is deed_is =
        let session = deed.entry.session in
        let told = told_of shard deed shard_is deed_is in
        let ran = told.ran in
        let stands : operation_at run.sessions deed.entry ≡ Some deed.operation =
        subst (λ c. operation_at c deed.entry ≡ Some deed.operation) (sym sessions_are)
        (each-among (λ (d : Deed). operation_at commands d.entry ≡ Some d.operation) shard.told deed
        (each-among (λ (s : ShardList). AreMeant commands s.told) shards shard meant shard_is) deed_is) in
        let part = part_of run.sessions deed.entry deed.operation stands in
        let stage = within stages session (omega (arith, long, below_end all session ran told.there)) in
        let is_run = each_at IsRun (runs_in all) session ran.run are.runs_are
        (get_map (λ (r : SessionRun). r.run) all session ran told.there) in
        record {
          end = ran.run.end;
          stage = stage.found;
          command = part.command;
          end_is = subst (λ l. slice_get l session ≡ Some ran.run.end) (sym ends_are)
              (get_map (λ (r : SessionRun). r.run.end) all session ran told.there);
          stage_is = stage.there;
          asked = part.asked;
          part = part.part;
          stands = stands;
          told = found_there (own_of lists session) deed (own_once session)
              (subst (λ l. Among l deed) (sym (own_is session ran told.there)) told.among);
          posted = λ write. omega (
            arith,
            is_run.replies_are,
            among_all (IsPosted (length ran.run.calls)) (told_by session ran) deed
                (run_posted books.shards session ran.run is_run) told.among write,
          );
        }

    journals : (some : List ShardList) → journal_of some ≡ map entries_of (all_deeds some)
    journals [] = refl
    journals (shard ∷ some) = ap (λ (l : List (List Entry)). entries_of shard.told ∷ l) (journals some)

    all_legal : (some : List ShardList) → Each (λ (s : ShardList). IsLegal s.told) some
        → AllByRecursion IsLegal (all_deeds some)
    all_legal [] each = tt
    all_legal (shard ∷ some) each = (each.0, all_legal some each.1)

    all_own : (some : List ShardList) → ((shard : ShardList) → Among some shard → Among shards shard)
        → AllByRecursion (λ deeds. AllByRecursion (IsOwnDeed run (own_of lists) stages) deeds) (all_deeds some)
    all_own [] within = tt
    all_own (shard ∷ some) within = (
      all_of_among (IsOwnDeed run (own_of lists) stages) shard.told
          (λ deed among. own_deed shard deed (within shard (inl refl)) among),
      all_own some (λ later in_some. within later (inr in_some)),
    )

    pub are_sources : AreSources run (all_deeds shards) (own_of lists) stages
    are_sources = record {
      journal = journal_is ∙ journals shards;
      legal = all_legal shards are.legal;
      owned = all_own shards (λ shard is. is);
      shared = shared;
    }
