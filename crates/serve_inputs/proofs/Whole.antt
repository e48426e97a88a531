-- What was served, put together.
use Rattle.std.proofs.Common.{
  ◌≡◌,
  ◌≢◌,
  ℕ,
  ◌+◌,
  ◌*◌,
  Bool,
  List,
  [],
  ◌∷◌,
  ◌++◌,
  Option,
  None,
  Some,
  All,
  map,
  length,
  refl,
  ap,
  sym,
  ◌∙◌,
  subst,
  arith,
}
use Rattle.std.specs.Borrow.{Bor}
use Rattle.std.specs.List.{AllZip, range_with_len}
use Rattle.std.proofs.lemmas.List.{length-map}
use Rattle.std.proofs.lemmas.Simd.{map-map}
use Rattle.std.proofs.lemmas.List.Elements.{All-head, All-tail}
use Rattle.std.proofs.lemmas.List.FromFn.{length-range_with_len}
use Rattle.view_sums.specs.Total.{Each}
use Rattle.flake_base.specs.declared.session.End.TheVariants.{Left}
use Rattle.flake_base.specs.declared.journal.Entry.{Entry}
use Rattle.flake_model.specs.Run.{all_commands, wire_texts}
use Rattle.flake_model.specs.Session.{Session}
use Rattle.flake_base.specs.declared.session.SessionEnd.{SessionEnd}
use Rattle.pin_core.specs.declared.sizes.Sizes.{Sizes}
use Rattle.pinned_pool.specs.Ends.{End}
use Rattle.pinned_pool.specs.declared.view.View.{View}
use Rattle.order_book.specs.Pages.{SessionList}
use Rattle.command_pump.specs.Pump.{PumpState}
use Rattle.serve_model.specs.Handed.{OneRun}
use Rattle.serve_model.specs.Seats.{HasAll}
use Rattle.any_wire.specs.Texts.{joined}
use Rattle.serve_model.specs.Replies.{all_replies}
use Rattle.session_pass.specs.Views.{SessionView}
use Rattle.session_serve.specs.Forms.{all_as_sent}
use Rattle.session_serve.specs.declared.dump.DumpPlan.{DumpPlan}
use Rattle.serve_inputs.specs.declared.job.Dumped.{Dumped}
use Rattle.run_resources.specs.Opened.{session_credits}
use Rattle.session_serve.specs.Ran.{AreReads, AllSent, AllWhole}
use Rattle.run_resources.specs.Together.{AreRuns, HaveShown}
use Rattle.run_resources.proofs.SessionSlots.{number_of, HasCredits}
use Rattle.serve_inputs.specs.Dumped.{DumpTold, dump_texts}
use Rattle.serve_inputs.specs.Ran.{RanAll}
use Rattle.serve_inputs.specs.Wires.{framed_wire, sent_on_wires}
use Rattle.serve_inputs.proofs.Dumping.{CameBack}
use Rattle.serve_inputs.proofs.Runs as runs
use Rattle.serve_inputs.proofs.Runs.{WasDone}
use Rattle.serve_inputs.proofs.Told.{MakesDumps, is_sent, is_told}

-- what the wires are sent, by the sessions' texts
wires_are : (common : Option ℕ) (each : List OneRun) (sessions : List Session) (journal : List (List Entry))
    → wire_texts sessions journal ≡ map (λ (one : OneRun). (one.end.failed, joined one.texts)) each
    → all_replies sessions journal ≡ map (λ (one : OneRun). (one.end.failed, one.texts)) each
    → sent_on_wires common sessions journal
    ≡ map (λ (one : OneRun). (one.end.failed, joined (all_as_sent common one.texts))) each
wires_are None each sessions journal texts replies = texts
wires_are (Some mtu) each sessions journal texts replies =
    ap (map (framed_wire mtu)) replies
    ∙ map-map (framed_wire mtu) (λ (one : OneRun). (one.end.failed, one.texts)) each

pub ran_all : {J D P W : Type 0} (jobs : List J) (dones : List D)
    (put_may : W → Bor (List ℕ) → (W × Bool) → Type 0) (flush_may : W → (W × Bool) → Type 0) (z y : Sizes)
    (shards : ℕ) (mtu : J → Option ℕ) (session : J → SessionView) (pump : J → PumpState) (plan : J → Option (DumpPlan
    P)) (old : J → W)
    (dump_wire : J → Option W) (end : D → SessionEnd) (bytes : D → ℕ) (mine : D → SessionList) (seat : D → View)
    (left : D → PumpState) (new : D → W) (dumped : D → Option (Dumped P W)) (givens : List (List ℕ))
    (endeds : List Bool) (ends : List SessionEnd) (counts : List ℕ) (lists : List SessionList)
    (journal : List (List Entry)) (closed : End) (main last : View) (wires finals : List W) (asked : Option ℕ)
    (most : ℕ) (dump : DumpTold) (common : Option ℕ) (threshold : ℕ)
    → (is : AllZip (WasDone put_may flush_may z shards mtu session pump plan old dump_wire end bytes mine seat left new
    dumped)
    jobs dones) → z ≡ y → map number_of (map session jobs) ≡ range_with_len 0 (length jobs) → lists ≡ map mine dones
    → CameBack put_may flush_may z shards mtu session pump plan old dump_wire end bytes mine seat left new dumped
    asked most jobs dones wires finals main last dump
    → ((t : ℕ) (each : List OneRun) → AreRuns z t shards each lists last → HaveShown z t each journal closed)
    → length journal ≡ shards
    → givens ≡ map (λ (d : D). (left d).given) dones → endeds ≡ map (λ (d : D). (left d).ended) dones
    → ends ≡ map end dones → counts ≡ map bytes dones → Each (λ (j : J). mtu j ≡ common) jobs
    → Each (λ (s : SessionView). s.pass.threshold ≡ threshold) (map session jobs)
    → RanAll common put_may flush_may y threshold givens endeds ends counts journal closed asked dump wires finals
ran_all {J} {D} {P} {W} jobs dones put_may flush_may z y shards mtu session pump plan old dump_wire end bytes mine
    seat left
    new dumped givens endeds ends counts lists journal closed main last wires finals asked most dump common threshold
    is same numbers lists_is back shown long givens_is endeds_is ends_is counts_is bounds thresholds =
    let each : List OneRun = runs.runs_of put_may flush_may z shards mtu session pump plan old dump_wire end bytes
    mine seat
    left new dumped jobs dones is in
    let seats = runs.seats_are put_may flush_may z shards mtu session pump plan old dump_wire end bytes mine seat left
    new
    dumped jobs dones is in
    let lists_each = runs.lists_are put_may flush_may z shards mtu session pump plan old dump_wire end bytes mine seat
    left
    new dumped jobs dones is in
    let are : AreRuns z threshold shards each lists last = record {
      all = runs.all_ran put_may flush_may z shards mtu session pump plan old dump_wire end bytes mine seat left new
          dumped threshold 0 jobs dones is numbers thresholds;
      lists_are = lists_is ∙ sym lists_each;
      spare = back.spare;
      spare_is = back.spare_is;
      seats = subst (λ (views : List View). HasAll (back.spare ∷ views) last) (sym seats) back.seats;
    } in
    let has = shown threshold each are in
    let commands = all_commands has.ran.served.sessions in
    let makes : MakesDumps (map mine dones) commands journal =
    λ first others lists_are. has.dumps first others (lists_each ∙ lists_are) in
    let a = runs.givens_are put_may flush_may z shards mtu session pump plan old dump_wire end bytes mine seat left new
    dumped jobs dones is ∙ sym givens_is in
    let b = runs.endeds_are put_may flush_may z shards mtu session pump plan old dump_wire end bytes mine seat left new
    dumped jobs dones is ∙ sym endeds_is in
    let e = runs.ends_are put_may flush_may z shards mtu session pump plan old dump_wire end bytes mine seat left new
    dumped
    jobs dones is ∙ sym ends_is in
    let behind = is_sent put_may flush_may asked shards (map mine dones) back.olds back.news dump commands journal long
    makes back.told in
    let sent = runs.all_sent put_may flush_may z shards mtu session pump plan old dump_wire end bytes mine seat left new
    dumped common (dump_texts commands journal dump) back.olds back.news behind jobs dones is bounds in
    let whole = runs.all_whole put_may flush_may z shards mtu session pump plan old dump_wire end bytes mine seat left
    new
    dumped common back.olds back.news jobs dones is bounds in
    let own : RanAll common put_may flush_may z threshold (map (λ (one : OneRun). one.given) each)
    (map (λ (one : OneRun). one.ended) each) (map (λ (one : OneRun). one.end) each) (map bytes dones) journal closed
    asked dump (map old jobs ++ back.olds) (map new dones ++ back.news) = record {
      ran = has.ran;
      dumped = is_told put_may flush_may asked shards (map mine dones) back.olds back.news dump commands journal long
          makes back.told;
      sends = subst (λ (texts : List (Bool × List ℕ)). AllSent put_may flush_may
          (texts ++ dump_texts commands journal dump) (map old jobs ++ back.olds) (map new dones ++ back.news))
          (sym (wires_are common each has.ran.served.sessions journal has.texts_are has.replies_are)) sent;
      wholes = subst (λ (replies : List (Bool × List (List ℕ))). AllWhole common put_may flush_may replies (map bytes
          dones)
          (map old jobs ++ back.olds) (map new dones ++ back.news)) (sym has.replies_are) whole;
    } in
    subst (λ (q : Sizes × List (List ℕ) × List Bool × List SessionEnd × List ℕ × List W × List W).
    RanAll common put_may flush_may q.0 threshold q.1 q.2 q.3 q.4 journal closed asked dump q.5 q.6)
    (λ i. (same i, a i, b i, e i, sym counts_is i, back.olds_are i, sym back.news_are i)) own

pub names_kept : {J D P W : Type 0} (jobs : List J) (dones : List D)
    (put_may : W → Bor (List ℕ) → (W × Bool) → Type 0) (flush_may : W → (W × Bool) → Type 0) (z : Sizes) (shards : ℕ)
    (mtu : J → Option ℕ) (session : J → SessionView) (pump : J → PumpState) (plan : J → Option (DumpPlan P)) (old : J
    → W)
    (dump_wire : J → Option W) (end : D → SessionEnd) (bytes : D → ℕ) (mine : D → SessionList) (seat : D → View)
    (left : D → PumpState) (new : D → W) (dumped : D → Option (Dumped P W)) (befores nows : List (List ℕ))
    → AllZip (WasDone put_may flush_may z shards mtu session pump plan old dump_wire end bytes mine seat left new
    dumped)
    jobs dones
    → map (λ (j : J). (pump j).origin.name) jobs ≡ befores → nows ≡ map (λ (d : D). (left d).origin.name) dones
    → nows ≡ befores
names_kept jobs dones put_may flush_may z shards mtu session pump plan old dump_wire end bytes mine seat left new dumped
    befores nows is
    befores_are nows_are =
    nows_are ∙ runs.names_kept put_may flush_may z shards mtu session pump plan old dump_wire end bytes mine seat left
    new
    dumped jobs dones is
    ∙ befores_are

pub wholes_kept : {J D P W : Type 0} (jobs : List J) (dones : List D)
    (put_may : W → Bor (List ℕ) → (W × Bool) → Type 0) (flush_may : W → (W × Bool) → Type 0) (z : Sizes) (shards : ℕ)
    (mtu : J → Option ℕ) (session : J → SessionView) (pump : J → PumpState) (plan : J → Option (DumpPlan P)) (old : J
    → W)
    (dump_wire : J → Option W) (end : D → SessionEnd) (bytes : D → ℕ) (mine : D → SessionList) (seat : D → View)
    (left : D → PumpState) (new : D → W) (dumped : D → Option (Dumped P W)) (befores nows : List (Option (List ℕ)))
    → AllZip (WasDone put_may flush_may z shards mtu session pump plan old dump_wire end bytes mine seat left new
    dumped)
    jobs dones
    → map (λ (j : J). (pump j).origin.whole) jobs ≡ befores → nows ≡ map (λ (d : D). (left d).origin.whole) dones
    → nows ≡ befores
wholes_kept jobs dones put_may flush_may z shards mtu session pump plan old dump_wire end bytes mine seat left new
    dumped
    befores nows is
    befores_are nows_are =
    nows_are ∙ runs.wholes_kept put_may flush_may z shards mtu session pump plan old dump_wire end bytes mine seat
    left new
    dumped jobs dones is
    ∙ befores_are

pub all_reads : {J D P W : Type 0} (jobs : List J) (dones : List D)
    (put_may : W → Bor (List ℕ) → (W × Bool) → Type 0) (flush_may : W → (W × Bool) → Type 0) (z : Sizes) (shards : ℕ)
    (mtu : J → Option ℕ) (session : J → SessionView) (pump : J → PumpState) (plan : J → Option (DumpPlan P)) (old : J
    → W)
    (dump_wire : J → Option W) (end : D → SessionEnd) (bytes : D → ℕ) (mine : D → SessionList) (seat : D → View)
    (left : D → PumpState) (new : D → W) (dumped : D → Option (Dumped P W)) (befores nows : List ℕ) (ends : List
    SessionEnd)
    → AllZip (WasDone put_may flush_may z shards mtu session pump plan old dump_wire end bytes mine seat left new
    dumped)
    jobs dones
    → map (λ (j : J). (pump j).faults) jobs ≡ befores → nows ≡ map (λ (d : D). (left d).faults) dones
    → ends ≡ map end dones → AreReads ends befores nows
all_reads jobs dones put_may flush_may z shards mtu session pump plan old dump_wire end bytes mine seat left new dumped
    befores nows ends is
    befores_is nows_is ends_is =
    subst (λ (q : List SessionEnd × List ℕ × List ℕ). AreReads q.0 q.1 q.2)
    (λ i. (sym ends_is i, befores_is i, sym nows_is i))
    (runs.all_reads put_may flush_may z shards mtu session pump plan old dump_wire end bytes mine seat left new dumped
    jobs
    dones is)

pub all_ended : {J D P W : Type 0} (jobs : List J) (dones : List D)
    (put_may : W → Bor (List ℕ) → (W × Bool) → Type 0) (flush_may : W → (W × Bool) → Type 0) (z : Sizes) (shards : ℕ)
    (mtu : J → Option ℕ) (session : J → SessionView) (pump : J → PumpState) (plan : J → Option (DumpPlan P)) (old : J
    → W)
    (dump_wire : J → Option W) (end : D → SessionEnd) (bytes : D → ℕ) (mine : D → SessionList) (seat : D → View)
    (left : D → PumpState) (new : D → W) (dumped : D → Option (Dumped P W)) (ends : List SessionEnd)
    → AllZip (WasDone put_may flush_may z shards mtu session pump plan old dump_wire end bytes mine seat left new
    dumped)
    jobs dones
    → ends ≡ map end dones → All (λ (e : SessionEnd). e.end ≢ Left) ends
all_ended jobs dones put_may flush_may z shards mtu session pump plan old dump_wire end bytes mine seat left new
    dumped ends
    is ends_is =
    subst (All (λ (e : SessionEnd). e.end ≢ Left)) (sym ends_is)
    (runs.all_ended put_may flush_may z shards mtu session pump plan old dump_wire end bytes mine seat left new dumped
    jobs
    dones is)

numbers_in : {K : Type 0} (own : K → SessionView) (slots : List K)
    → map number_of (map own slots) ≡ map (λ (k : K). number_of (own k)) slots
numbers_in own [] = refl
numbers_in own (k ∷ slots) = ap (λ (ns : List ℕ). number_of (own k) ∷ ns) (numbers_in own slots)

-- the numbers and the credits of the sessions' jobs are those of their session slots
pub numbers_are : {J K : Type 0} (jobs : List J) (slots : List K) (session : J → SessionView)
    (own : K → SessionView) (count : ℕ) → map session jobs ≡ map own slots
    → map (λ (k : K). number_of (own k)) slots ≡ range_with_len 0 count
    → map number_of (map session jobs) ≡ range_with_len 0 (length jobs)
numbers_are jobs slots session own count same numbers =
    let long : count ≡ length jobs = sym (length-range_with_len 0 count) ∙ sym (ap length numbers)
    ∙ length-map slots (λ k. number_of (own k)) ∙ sym (length-map slots own) ∙ sym (ap length same)
    ∙ length-map jobs session in
    ap (map number_of) same ∙ numbers_in own slots ∙ numbers ∙ ap (range_with_len 0) long

credits_of : {K : Type 0} (P : K → Type 0) (own : K → SessionView) → ((k : K) → P k → HasCredits (own k))
    → (slots : List K) → All P slots → Each HasCredits (map own slots)
credits_of P own is [] all = tt
credits_of P own is (k ∷ slots) all =
    (is k (All-head P k slots all), credits_of P own is slots (All-tail P k slots all))

-- and so are their thresholds
thresholds_of : {K : Type 0} (own : K → SessionView) (threshold : ℕ) (slots : List K)
    → All (λ (k : K). (own k).pass.threshold ≡ threshold) slots
    → Each (λ (s : SessionView). s.pass.threshold ≡ threshold) (map own slots)
thresholds_of own threshold [] all = tt
thresholds_of {K} own threshold (k ∷ slots) all =
    let is : K → Type 0 = λ k. (own k).pass.threshold ≡ threshold in
    (All-head is k slots all, thresholds_of own threshold slots (All-tail is k slots all))

pub thresholds_are : {J K : Type 0} (jobs : List J) (slots : List K) (session : J → SessionView)
    (own : K → SessionView) (threshold : ℕ) → map session jobs ≡ map own slots
    → All (λ (k : K). (own k).pass.threshold ≡ threshold) slots
    → Each (λ (s : SessionView). s.pass.threshold ≡ threshold) (map session jobs)
thresholds_are jobs slots session own threshold same all =
    subst (Each (λ (s : SessionView). s.pass.threshold ≡ threshold)) (sym same) (thresholds_of own threshold slots all)

pub credits_are : {J D K Q W : Type 0} (jobs : List J) (dones : List D) (slots : List K) (P : K → Type 0)
    (own : K → SessionView) (put_may : W → Bor (List ℕ) → (W × Bool) → Type 0)
    (flush_may : W → (W × Bool) → Type 0) (z : Sizes) (shards : ℕ)
    (mtu : J → Option ℕ) (session : J → SessionView) (pump : J → PumpState) (plan : J → Option (DumpPlan Q)) (old : J
    → W)
    (dump_wire : J → Option W) (end : D → SessionEnd) (bytes : D → ℕ) (mine : D → SessionList) (seat : D → View)
    (left : D → PumpState) (new : D → W) (dumped : D → Option (Dumped Q W)) (spare main : View)
    → AllZip (WasDone put_may flush_may z shards mtu session pump plan old dump_wire end bytes mine seat left new
    dumped)
    jobs dones
    → ((k : K) → P k → HasCredits (own k)) → All P slots → map session jobs ≡ map own slots
    → HasAll (spare ∷ map seat dones) main → main.credits ≡ spare.credits + session_credits * length slots
credits_are jobs dones slots P own put_may flush_may z shards mtu session pump plan old dump_wire end bytes mine seat
    left
    new dumped
    spare main
    is
    each all same has =
    let credits = runs.all_credits put_may flush_may z shards mtu session pump plan old dump_wire end bytes mine seat
    left
    new dumped jobs dones
    is
    (subst (Each HasCredits) (sym same) (credits_of P own each slots all)) in
    let long : length jobs ≡ length slots =
    sym (length-map jobs session) ∙ ap length same ∙ length-map slots own in
    omega (arith, has.credits, credits, ap (λ n. session_credits * n) long)

pub as_many : {J D P W : Type 0} (jobs : List J) (dones : List D)
    (put_may : W → Bor (List ℕ) → (W × Bool) → Type 0) (flush_may : W → (W × Bool) → Type 0) (z : Sizes) (shards : ℕ)
    (mtu : J → Option ℕ) (session : J → SessionView) (pump : J → PumpState) (plan : J → Option (DumpPlan P)) (old : J
    → W)
    (dump_wire : J → Option W) (end : D → SessionEnd) (bytes : D → ℕ) (mine : D → SessionList) (seat : D → View)
    (left : D → PumpState) (new : D → W) (dumped : D → Option (Dumped P W))
    → AllZip (WasDone put_may flush_may z shards mtu session pump plan old dump_wire end bytes mine seat left new
    dumped)
    jobs dones
    → length dones ≡ length jobs
as_many jobs dones put_may flush_may z shards mtu session pump plan old dump_wire end bytes mine seat left new dumped
    is =
    runs.as_many put_may flush_may z shards mtu session pump plan old dump_wire end bytes mine seat left new dumped jobs
    dones is
