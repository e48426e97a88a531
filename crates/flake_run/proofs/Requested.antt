-- What a run of generated requests comes to.
use Rattle.std.proofs.Common.{◌≡◌, ◌≢◌, ◌⊎◌, ◌≤◌, inl, inr, ℕ, ◌+◌, suc, Bool, true, false, List, [], ◌∷◌, Option, Some}
use Rattle.std.proofs.Common.{None, length, map, drop, arith, refl, sym, ap, ◌∙◌, subst}
use Rattle.std.specs.Prelude.{max, IfSome}
use Rattle.std.specs.Borrow.{Bor}
use Rattle.std.specs.List.{AllByRecursion, list_any}
use Rattle.std.proofs.lemmas.List.Elements.{All-from_recursion}
use Rattle.std.proofs.lemmas.List.FromFn.{length-map-range_with_len}
use Rattle.flake_base.specs.Causes.{Rose}
use Rattle.flake_base.specs.Told.{HostTold, WireTold}
use Rattle.flake_base.specs.declared.journal.Entry.{Entry}
use Rattle.flake_base.specs.declared.session.End.{End}
use Rattle.flake_base.specs.declared.session.End.TheVariants.{Clean, Memory}
use Rattle.flake_base.specs.declared.session.SessionEnd.{SessionEnd}
use Rattle.flake_model.specs.Command.{Command}
use Rattle.flake_model.specs.Run.{all_commands, missing_writes}
use Rattle.flake_model.specs.Session.{Session}
use Rattle.std.proofs.lemmas.List.{length-map}
use Rattle.flake_model.specs.Wire.{faults_told}
use Rattle.pin_core.specs.declared.class.Held.{Held}
use Rattle.pinned_pool.specs.Ends.{End as PoolEnd}
use Rattle.serve_model.specs.Replies.{all_replies, all_replies_from}
use Rattle.serve_inputs.specs.Whole.{SentWhole, raised}
use Rattle.run_resources.specs.Opened.{pool_sizes}
use Rattle.session_serve.specs.Ran.{AllWhole}
use Rattle.any_wire.specs.Sent.{AreTold}
use Rattle.any_wire.proofs.Sent.{sent_by_puts}
use Rattle.command_line.specs.declared.generate_task.GenTask.{GenTask}
use Rattle.serve_generated.specs.Generated.{AreFronts, IsTooMuch, RanGenerated, inputs_of, generated_sizes}
use Rattle.flake_run.specs.Causes.{highest_by, status_by, SomeWireFailed}
use Rattle.flake_run.specs.Generated.{AllInWhole, Generated, IsGeneratedRun, IsUngenerated, SentInWhole, texts_length}
use Rattle.flake_run.specs.Generated.{replies_in, sum_of}
use Rattle.flake_run.specs.Outcome.{RunOutcome, ways}
use Rattle.flake_run.specs.Outside.{Outside, LeavesFiles, outside}
use Rattle.flake_run.specs.Refusals.{RunRefused}
use Rattle.flake_run.specs.Said.{PrintsStatus}
use Rattle.report_text.specs.Report.{total_line}
use Rattle.flake_run.specs.declared.outcome.Detail.TheVariants.{Nothing}
use Rattle.flake_run.specs.declared.outcome.Refusal.{Refusal}
use Rattle.flake_run.specs.declared.outcome.Refusal.TheVariants.{BadWords, Memory as NoMemory}
use Rattle.flake_run.proofs.Highest.{any_failed, none_failed, none_is_six}
use Rattle.flake_run.proofs.RanCauses.{put_or_said}
use Rattle.flake_run.proofs.Served.{served_to, served_sessions, ends_count}

-- the exact bytes of what was sent whole, by what a wire tells
record IsExact (replies : Bool × List (List ℕ)) (shown : ℕ) (old new : WireTold) : Type 0 where
  bytes : ℕ
  sent : SentInWhole replies bytes old new
  shown_is : shown ≡ raised 0 bytes

record AreExact (replies : List (Bool × List (List ℕ))) (shown : List ℕ) (olds news : List WireTold) : Type 0 where
  counts : List ℕ
  wholes : AllInWhole replies counts olds news
  sums : raised 0 (sum_of shown) ≡ raised 0 (sum_of counts)

sums_more : (count n shown sum : ℕ) → shown ≡ raised 0 n → raised 0 count ≡ raised 0 sum → raised 0 (shown + count)
    ≡ raised 0 (n + sum)
sums_more count n shown sum is rest = omega (arith, is, rest)

-- there are as many lists of replies as sessions
as_many_replies : (commands : List (List Command)) (journal : List (List Entry)) (number : ℕ) (sessions : List Session)
    → length (all_replies_from commands journal number sessions) ≡ length sessions
as_many_replies commands journal number [] = refl
as_many_replies commands journal number (session ∷ sessions) =
    ap suc (as_many_replies commands journal (number + 1) sessions)

module _ {W : Type 0} (put_may : W → Bor (List ℕ) → (W × Bool) → Type 0) (flush_may : W → (W × Bool) → Type 0)
    (told : W → WireTold) (says : AreTold put_may flush_may told) where
  whole_told : (replies : Bool × List (List ℕ)) (shown : ℕ) (old new : W)
      → SentWhole put_may flush_may replies.0 replies.1 replies.1 shown old new → IsExact replies shown (told old)
      (told new)
  whole_told replies shown old new is =
      let before = sent_by_puts put_may flush_may told says false _ old is.grew.middle is.grew.before in
      let behind = sent_by_puts put_may flush_may told says replies.0 _ is.grew.middle new is.grew.behind in
      record {
        bytes = texts_length is.whole replies.1;
        sent = record {
          whole = is.whole;
          are_whole = is.are_whole;
          grew = record { middle = told is.grew.middle; before = before; behind = behind };
          bytes_are = refl;
        };
        shown_is = is.bytes_are;
      }

  all_told : (replies : List (Bool × List (List ℕ))) (shown : List ℕ) (olds news : List W)
      → AllWhole None put_may flush_may replies shown olds news
      → drop (length replies) news ≡ drop (length replies) olds
      → AreExact replies shown (map told olds) (map told news)
  all_told [] shown olds news is past = record {
    counts = [];
    wholes = (refl, ap (map told) past);
    sums = ap (λ ns. raised 0 (sum_of ns)) is;
  }
  all_told (replies ∷ more) [] olds news is past = absurd is
  all_told (replies ∷ more) (count ∷ shown) [] news is past = absurd is
  all_told (replies ∷ more) (count ∷ shown) (old ∷ olds) [] is past = absurd is
  all_told (replies ∷ more) (count ∷ shown) (old ∷ olds) (new ∷ news) is past =
      let this = whole_told replies count old new is.0 in
      let rest = all_told more shown olds news is.1 past in
      record {
        counts = this.bytes ∷ rest.counts;
        wholes = (this.sent, rest.wholes);
        sums = sums_more (sum_of shown) this.bytes count (sum_of rest.counts) this.shown_is rest.sums;
      }

  -- of wires whose puts and flushes tell what they do
  pub generated_to : (task : GenTask) (givens : List (List ℕ)) (endeds : List Bool) (ends : List SessionEnd)
      (shown : List ℕ) (journal : List (List Entry)) (pool : PoolEnd) (olds news : List W)
      → RanGenerated put_may flush_may task givens endeds ends shown journal pool olds news
      → IsGeneratedRun task givens endeds ends shown journal pool olds news told
  generated_to task givens endeds ends shown journal pool olds news ran =
      let z = pool_sizes task.sessions (generated_sizes task) in
      let t = (generated_sizes task).threshold in
      let run = served_to put_may flush_may told says z t givens endeds ends shown journal pool olds news ran.ran in
      let was = ran.ran.ran.served in
      let as_many : length ends ≡ length (all_replies was.sessions journal) = sym (ap length was.ends_are)
      ∙ length-map was.sessions (λ (session : Session). session.end)
      ∙ sym (as_many_replies (all_commands was.sessions) journal 0 was.sessions) in
      let exact = all_told (all_replies was.sessions journal) shown olds news ran.ran.wholes
      (subst (λ n. drop n news ≡ drop n olds) as_many run.others) in
      let same : run.run.sessions ≡ ran.ran.ran.served.sessions = served_sessions put_may flush_may told says z t
      givens endeds ends shown journal pool olds news ran.ran in
      record {
        gave = ran.gave;
        run = run;
        ways = ran.ways;
        commands = λ memory. ap all_commands same ∙ ran.commands memory;
        none_missing = λ memory. ap (λ ss. missing_writes ss journal) same ∙ ran.none_missing memory;
        counts = exact.counts;
        wholes = subst (λ ss. AllInWhole (all_replies ss journal) exact.counts (map told olds) (map told news))
            (sym same) exact.wholes;
        sums = exact.sums;
      }

-- there are as many texts that were given as inputs
as_many_fronts : (inputs givens : List (List ℕ)) (endeds : List Bool) → AreFronts inputs givens endeds
    → length givens ≡ length inputs
as_many_fronts [] givens endeds gave = ap length gave.0
as_many_fronts (input ∷ inputs) [] endeds gave = absurd gave
as_many_fronts (input ∷ inputs) (given ∷ givens) [] gave = absurd gave
as_many_fronts (input ∷ inputs) (given ∷ givens) (ended ∷ endeds) gave = ap suc
    (as_many_fronts inputs givens endeds gave.1)

-- there are as many ends as sessions
pub generated_count : {W : Type 0} (task : GenTask) (givens : List (List ℕ)) (endeds : List Bool)
    (ends : List SessionEnd) (shown : List ℕ) (journal : List (List Entry)) (pool : PoolEnd) (olds news : List W)
    (told : W → WireTold)
    → IsGeneratedRun task givens endeds ends shown journal pool olds news told → length ends ≡ task.sessions
generated_count task givens endeds ends shown journal pool olds news told r =
    ends_count (pool_sizes task.sessions (generated_sizes task)) (generated_sizes task).threshold givens endeds ends
    journal pool olds news told r.run
    ∙ as_many_fronts (inputs_of task) givens endeds r.gave ∙ length-map-range_with_len _ 0 task.sessions

-- the highest status of such ends
highest_way : (ends : List SessionEnd) → AllByRecursion (λ end. (end.end ≡ Clean) ⊎ (end.end ≡ Memory)) ends
    → (highest_by (ways ends) ≡ 0) ⊎ (highest_by (ways ends) ≡ 6)
highest_way [] each = inl refl
highest_way (end ∷ ends) each = both each.0 (highest_way ends each.1)
  where
    both : (end.end ≡ Clean) ⊎ (end.end ≡ Memory) → (highest_by (ways ends) ≡ 0) ⊎ (highest_by (ways ends) ≡ 6)
        → (max (status_by end.end) (highest_by (ways ends)) ≡ 0)
        ⊎ (max (status_by end.end) (highest_by (ways ends)) ≡ 6)
    both (inl clean) (inl none) = let s = ap status_by clean in inl (omega (arith, s, none))
    both (inl clean) (inr six) = let s = ap status_by clean in inr (omega (arith, s, six))
    both (inr memory) (inl none) = let s = ap status_by memory in inr (omega (arith, s, none))
    both (inr memory) (inr six) = let s = ap status_by memory in inr (omega (arith, s, six))

some_ends : (ends : List SessionEnd) (n : ℕ) → length ends ≡ n → 1 ≤ n → ends ≢ []
some_ends ends n count some none = omega (arith, count, some, ap length none)

-- the wires came back
pub refused_as : {W : Type 0} (refusal : Refusal) (host now : HostTold) (tells : W → WireTold)
    (wires back after : List W) (done : RunOutcome) → back ≡ wires
    → RunRefused refusal (outside host back tells) (outside now after tells) done
    → RunRefused refusal (outside host wires tells) (outside now after tells) done
refused_as refusal host now tells wires back after done is r =
    subst (λ ws. RunRefused refusal (outside host ws tells) (outside now after tells) done) is r

module _ {W : Type 0} (task : Option GenTask) (before after : Outside W) (done : RunOutcome) where
  -- nothing was served: bad words, or no pool or too few wires for them
  pub refused_all : RunRefused BadWords before after done → IsUngenerated task before → Generated task before after done
  refused_all r un = record {
    statuses = inr (inl r.status);
    served = λ some. absurd (some r.ends);
    some = λ status. absurd (not_one done.status r.status status);
    by_end = λ some. absurd (some r.ends);
    wires = λ none. r.wires;
    journal = λ none. r.journal;
    pool = λ none. (r.pool, r.held);
    files = r.files;
    sources = r.sources;
    detail = r.detail;
    bad_words = λ one. un;
    nothing = λ one. r.ends;
    refused = λ six bad. r.status;
    write_fault = λ five. absurd (omega (arith, five, r.status));
    written = λ zero. absurd (omega (arith, zero, r.status));
    whole = is_whole task un;
    said = λ one. r.said;
    no_memory = λ six. absurd (omega (arith, six, r.status));
  }
    where
      not_one : (status : ℕ) → status ≡ 1 → (status ≡ 0) ⊎ (status ≡ 5) → ⊥
      not_one status one (inl zero) = omega (arith, one, zero)
      not_one status one (inr five) = omega (arith, one, five)

      is_whole : (task : Option GenTask) → IsUngenerated task before
          → IfSome task (λ task. task.sessions ≤ length before.wires → (IsTooMuch task → ⊥) → done.status ≢ 6
          → (Rose before.host.say_faults after.host.say_faults → ⊥) → (SomeWireFailed task.sessions before after → ⊥)
          → done.status ≡ 0)
      is_whole None un = tt
      is_whole (Some task) (inl few) = λ enough fits six says puts. absurd (omega (arith, few, enough))
      is_whole (Some task) (inr much) = λ enough fits six says puts. absurd (fits much)

  -- memory was wanting before anything was served
  pub wanting_all : RunRefused NoMemory before after done → Generated task before after done
  wanting_all r = record {
    statuses = inr (inr (inr r.status));
    served = λ some. absurd (some r.ends);
    some = λ status. absurd (not_six done.status r.status status);
    by_end = λ some. absurd (some r.ends);
    wires = λ none. r.wires;
    journal = λ none. r.journal;
    pool = λ none. (r.pool, r.held);
    files = r.files;
    sources = r.sources;
    detail = r.detail;
    bad_words = λ one. absurd (omega (arith, one, r.status));
    nothing = λ one. absurd (omega (arith, one, r.status));
    refused = λ six bad. absurd (six r.status);
    write_fault = λ five. absurd (omega (arith, five, r.status));
    written = λ zero. absurd (omega (arith, zero, r.status));
    whole = is_whole task;
    said = λ one. absurd (omega (arith, one, r.status));
    no_memory = λ six none. r.said;
  }
    where
      not_six : (status : ℕ) → status ≡ 6 → (status ≡ 0) ⊎ (status ≡ 5) → ⊥
      not_six status six (inl zero) = omega (arith, six, zero)
      not_six status six (inr five) = omega (arith, six, five)

      is_whole : (task : Option GenTask)
          → IfSome task (λ task. task.sessions ≤ length before.wires → (IsTooMuch task → ⊥) → done.status ≢ 6
          → (Rose before.host.say_faults after.host.say_faults → ⊥) → (SomeWireFailed task.sessions before after → ⊥)
          → done.status ≡ 0)
      is_whole None = tt
      is_whole (Some task) = λ enough fits six says puts. absurd (six r.status)

-- what was said, and the status
pub record Reported (host now : HostTold) (status : ℕ) (ends : List SessionEnd) (bytes : ℕ) (held : Held) : Type 0 where
  pub said : PrintsStatus (total_line (replies_in ends) bytes held) host now
  pub by_end : status ≢ 5 → status ≢ 6 → (status ≡ highest_by (ways ends))
      × (list_any (λ (end : SessionEnd). end.failed) ends ≡ false) × (now.say_faults ≡ host.say_faults)
  pub failed : status ≡ 5 → (highest_by (ways ends) ≢ 6)
      × ((list_any (λ (end : SessionEnd). end.failed) ends ≡ true) ⊎ Rose host.say_faults now.say_faults)
  pub statuses : (status ≡ 0) ⊎ (status ≡ 3) ⊎ (status ≡ 4) ⊎ (status ≡ 5) ⊎ (status ≡ 6)

-- what a run that served its requests has done, and answers
pub record Answered {W : Type 0} (task : GenTask) (tells : W → WireTold) (host now : HostTold) (wires after : List W)
    (done : RunOutcome) : Type 0 where
  pub detail_is : done.detail ≡ Nothing
  pub sources : done.sources ≡ []
  pub some : 1 ≤ task.sessions
  pub enough : task.sessions ≤ length wires
  pub fits : IsTooMuch task → ⊥
  pub givens : List (List ℕ)
  pub endeds : List Bool
  pub shown : List ℕ
  pub pool : PoolEnd
  pub pool_is : done.pool ≡ Some pool
  pub held : (done.held.small ≡ pool.small) × (done.held.large ≡ pool.large)
  pub run : IsGeneratedRun task givens endeds done.ends shown done.journal pool wires after tells
  pub shards : length done.journal ≡ 8
  pub files : LeavesFiles host now
  pub reported : Reported host now done.status done.ends (raised 0 (sum_of shown)) done.held

pub answered_all : {W : Type 0} (task : GenTask) (tells : W → WireTold) (host now : HostTold) (wires after : List W)
    (done : RunOutcome)
    → Answered task tells host now wires after done → Generated (Some task) (outside host wires tells)
    (outside now after tells) done
answered_all {W} task tells host now wires after done a = record {
  statuses = four a.reported.statuses;
  served = λ some. (
    not_refused,
    record {
      givens = a.givens;
      endeds = a.endeds;
      gave = a.run.gave;
      run = a.run.run.run;
      wires = a.run.run.wires;
      pool = a.pool;
      pool_is = a.pool_is;
      shows = a.run.run.counted;
      held = a.held;
      ways = a.run.ways;
      commands = a.run.commands;
      none_missing = a.run.none_missing;
      flushed = a.run.run.flushed;
      faults = a.run.run.faults;
      others = a.run.run.others;
      sessions = count;
      shards = a.shards;
      counts = a.run.counts;
      wholes = a.run.wholes;
      said = subst (λ bytes. PrintsStatus (total_line (replies_in done.ends) bytes done.held) host now)
          a.run.sums a.reported.said;
    },
  );
  some = λ status. there;
  by_end = λ some five six. (a.reported.by_end five six).0;
  wires = λ none. absurd (there none);
  journal = λ none. absurd (there none);
  pool = λ none. absurd (there none);
  files = a.files;
  sources = a.sources;
  detail = a.detail_is;
  bad_words = λ one. absurd (not_one (four a.reported.statuses) one);
  nothing = λ one. absurd (not_one (four a.reported.statuses) one);
  refused = λ six un. absurd (not_refused un);
  write_fault = λ five.
      let why = a.reported.failed five in (
        All-from_recursion (λ (way : End). status_by way ≢ 6) (ways done.ends) (none_is_six (ways done.ends) why.0),
        put_or_said done.ends _ _ _ a.run.run.faults why.1,
      );
  written = λ zero.
      let so = a.reported.by_end (λ five. omega (arith, zero, five)) (λ six. omega (arith, zero, six)) in
      (so.2, quiet so.1);
  whole = λ enough fits six says puts. is_zero says puts six (four a.reported.statuses);
  said = λ one. absurd (not_one (four a.reported.statuses) one);
  no_memory = λ six none. absurd (there none);
} where
  count : length done.ends ≡ task.sessions
  count = generated_count task a.givens a.endeds done.ends a.shown done.journal a.pool wires after tells a.run

  there : done.ends ≢ []
  there = some_ends done.ends task.sessions count a.some

  middle : (n : ℕ) → done.status ≡ n → (n ≡ 3) ⊎ (n ≡ 4) → ⊥
  middle n is which = absurd (two which (highest_way done.ends a.run.ways))
    where
      so : (n ≡ 3) ⊎ (n ≡ 4) → done.status ≡ highest_by (ways done.ends)
      so (inl three) = (a.reported.by_end (λ five. omega (arith, is, three, five))
          (λ six. omega (arith, is, three, six))).0
      so (inr more) = (a.reported.by_end (λ five. omega (arith, is, more, five))
          (λ six. omega (arith, is, more, six))).0

      two : (n ≡ 3) ⊎ (n ≡ 4) → (highest_by (ways done.ends) ≡ 0) ⊎ (highest_by (ways done.ends) ≡ 6) → ⊥
      two (inl three) (inl zero) = omega (arith, is, three, so (inl three), zero)
      two (inl three) (inr six) = omega (arith, is, three, so (inl three), six)
      two (inr more) (inl zero) = omega (arith, is, more, so (inr more), zero)
      two (inr more) (inr six) = omega (arith, is, more, so (inr more), six)

  four : (done.status ≡ 0) ⊎ (done.status ≡ 3) ⊎ (done.status ≡ 4) ⊎ (done.status ≡ 5) ⊎ (done.status ≡ 6)
      → (done.status ≡ 0) ⊎ (done.status ≡ 1) ⊎ (done.status ≡ 5) ⊎ (done.status ≡ 6)
  four (inl zero) = inl zero
  four (inr (inl three)) = absurd (middle 3 three (inl refl))
  four (inr (inr (inl more))) = absurd (middle 4 more (inr refl))
  four (inr (inr (inr (inl five)))) = inr (inr (inl five))
  four (inr (inr (inr (inr six)))) = inr (inr (inr six))

  not_one : (done.status ≡ 0) ⊎ (done.status ≡ 1) ⊎ (done.status ≡ 5) ⊎ (done.status ≡ 6) → done.status ≡ 1 → ⊥
  not_one status one = by a.reported.statuses
    where
      by : (done.status ≡ 0) ⊎ (done.status ≡ 3) ⊎ (done.status ≡ 4) ⊎ (done.status ≡ 5) ⊎ (done.status ≡ 6) → ⊥
      by (inl n) = omega (arith, n, one)
      by (inr (inl n)) = omega (arith, n, one)
      by (inr (inr (inl n))) = omega (arith, n, one)
      by (inr (inr (inr (inl n)))) = omega (arith, n, one)
      by (inr (inr (inr (inr n)))) = omega (arith, n, one)

  not_refused : IsUngenerated (Some task) (outside host wires tells) → ⊥
  not_refused (inl few) = omega (arith, few, a.enough)
  not_refused (inr much) = a.fits much

  quiet : list_any (λ (end : SessionEnd). end.failed) done.ends ≡ false → map (λ wire. faults_told (tells wire)) after
      ≡ map (λ wire. faults_told (tells wire)) wires
  quiet none = none_failed (map (λ (end : SessionEnd). end.failed) done.ends) _ _ (sym (any_failed done.ends) ∙ none)
      a.run.run.faults

  failing : done.status ≡ 5 → (Rose host.say_faults now.say_faults → ⊥)
      → (SomeWireFailed task.sessions (outside host wires tells) (outside now after tells) → ⊥) → ⊥
  failing five says puts = by (put_or_said done.ends _ _ _ a.run.run.faults (a.reported.failed five).1)
    where
      by : Rose host.say_faults now.say_faults ⊎ SomeWireFailed (length done.ends) (outside host wires tells)
          (outside now after tells) → ⊥
      by (inl rose) = says rose
      by (inr put) = puts (subst (λ n. SomeWireFailed n (outside host wires tells) (outside now after tells)) count put)

  is_zero : (Rose host.say_faults now.say_faults → ⊥)
      → (SomeWireFailed task.sessions (outside host wires tells) (outside now after tells) → ⊥) → done.status ≢ 6
      → (done.status ≡ 0) ⊎ (done.status ≡ 1) ⊎ (done.status ≡ 5) ⊎ (done.status ≡ 6) → done.status ≡ 0
  is_zero says puts six (inl zero) = zero
  is_zero says puts six (inr (inl one)) = absurd (not_one (inr (inl one)) one)
  is_zero says puts six (inr (inr (inl five))) = absurd (failing five says puts)
  is_zero says puts six (inr (inr (inr wanting))) = absurd (six wanting)
