-- Jobs that were done, as runs of sessions.
use Rattle.std.proofs.Common.{
  ◌≡◌,
  ◌≢◌,
  ℕ,
  suc,
  ◌+◌,
  ◌*◌,
  Bool,
  Option,
  List,
  [],
  ◌∷◌,
  ◌++◌,
  false,
  All,
  map,
  length,
  refl,
  ap,
  subst,
  arith,
}
use Rattle.std.specs.Borrow.{Bor}
use Rattle.std.specs.List.{AllZip, range_with_len}
use Rattle.std.proofs.lemmas.List.Elements.{All-nil, All-cons}
use Rattle.view_sums.specs.Total.{total, Each}
use Rattle.flake_base.specs.declared.session.End.TheVariants.{Left}
use Rattle.flake_base.specs.declared.session.SessionEnd.{SessionEnd}
use Rattle.pin_core.specs.declared.sizes.Sizes.{Sizes}
use Rattle.pinned_pool.specs.declared.view.View.{View}
use Rattle.order_book.specs.Pages.{SessionList}
use Rattle.command_pump.specs.Pump.{PumpState}
use Rattle.serve_model.specs.Handed.{SessionHasRun, OneRun, AllRun}
use Rattle.any_wire.specs.Texts.{joined}
use Rattle.session_pass.specs.Views.{SessionView}
use Rattle.session_serve.specs.Forms.{all_as_sent}
use Rattle.session_serve.specs.Whole.{SentWhole}
use Rattle.session_serve.specs.Wires.{SendsOut}
use Rattle.session_serve.specs.declared.dump.DumpPlan.{DumpPlan}
use Rattle.serve_inputs.specs.Jobs.{IsDone}
use Rattle.serve_inputs.specs.declared.job.Dumped.{Dumped}
use Rattle.run_resources.specs.Opened.{session_credits}
use Rattle.session_serve.specs.Ran.{AreReads, AllSent, AllWhole}
use Rattle.run_resources.proofs.SessionSlots.{number_of, HasCredits}

module _ {J D P W : Type 0} (put_may : W → Bor (List ℕ) → (W × Bool) → Type 0) (flush_may : W → (W × Bool) → Type 0)
    (z : Sizes) (shards : ℕ) (mtu : J → Option ℕ) (session : J → SessionView) (pump : J → PumpState)
    (plan : J → Option (DumpPlan P))
    (old : J → W) (dump_wire : J → Option W) (end : D → SessionEnd) (bytes : D → ℕ) (mine : D → SessionList)
    (seat : D → View) (left : D → PumpState) (new : D → W) (dumped : D → Option (Dumped P W)) where
  abbrev pub WasDone : J → D → Type 0
  WasDone j d =
      IsDone (mtu j) put_may flush_may z shards (session j) (pump j) (plan j) (old j) (dump_wire j) (end d) (bytes d)
      (mine d)
      (seat d) (left d) (new d) (dumped d)

  abbrev pub runs_of : (jobs : List J) (dones : List D) → AllZip WasDone jobs dones → List OneRun
  runs_of [] [] is = []
  runs_of [] (d ∷ dones) is = []
  runs_of (j ∷ jobs) [] is = []
  runs_of (j ∷ jobs) (d ∷ dones) is =
      record {
        given = (left d).given;
        ended = (left d).ended;
        end = end d;
        list = mine d;
        seat = seat d;
        texts = is.0.served.texts;
      } ∷ runs_of jobs dones is.1

  pub givens_are : (jobs : List J) (dones : List D) (is : AllZip WasDone jobs dones)
      → map (λ (one : OneRun). one.given) (runs_of jobs dones is) ≡ map (λ (d : D). (left d).given) dones
  givens_are [] [] is = refl
  givens_are [] (d ∷ dones) is = absurd is
  givens_are (j ∷ jobs) [] is = absurd is
  givens_are (j ∷ jobs) (d ∷ dones) is = ap (λ (more : List (List ℕ)). (left d).given ∷ more)
      (givens_are jobs dones is.1)

  pub endeds_are : (jobs : List J) (dones : List D) (is : AllZip WasDone jobs dones)
      → map (λ (one : OneRun). one.ended) (runs_of jobs dones is) ≡ map (λ (d : D). (left d).ended) dones
  endeds_are [] [] is = refl
  endeds_are [] (d ∷ dones) is = absurd is
  endeds_are (j ∷ jobs) [] is = absurd is
  endeds_are (j ∷ jobs) (d ∷ dones) is = ap (λ (more : List Bool). (left d).ended ∷ more)
      (endeds_are jobs dones is.1)

  -- what a source says of itself stays
  pub names_kept : (jobs : List J) (dones : List D) → AllZip WasDone jobs dones
      → map (λ (d : D). (left d).origin.name) dones ≡ map (λ (j : J). (pump j).origin.name) jobs
  names_kept [] [] is = refl
  names_kept [] (d ∷ dones) is = absurd is
  names_kept (j ∷ jobs) [] is = absurd is
  names_kept (j ∷ jobs) (d ∷ dones) is = λ i. (is.0.origin i).name ∷ names_kept jobs dones is.1 i

  pub wholes_kept : (jobs : List J) (dones : List D) → AllZip WasDone jobs dones
      → map (λ (d : D). (left d).origin.whole) dones ≡ map (λ (j : J). (pump j).origin.whole) jobs
  wholes_kept [] [] is = refl
  wholes_kept [] (d ∷ dones) is = absurd is
  wholes_kept (j ∷ jobs) [] is = absurd is
  wholes_kept (j ∷ jobs) (d ∷ dones) is = λ i. (is.0.origin i).whole ∷ wholes_kept jobs dones is.1 i

  pub ends_are : (jobs : List J) (dones : List D) (is : AllZip WasDone jobs dones)
      → map (λ (one : OneRun). one.end) (runs_of jobs dones is) ≡ map end dones
  ends_are [] [] is = refl
  ends_are [] (d ∷ dones) is = absurd is
  ends_are (j ∷ jobs) [] is = absurd is
  ends_are (j ∷ jobs) (d ∷ dones) is = ap (λ (more : List SessionEnd). end d ∷ more) (ends_are jobs dones is.1)

  pub lists_are : (jobs : List J) (dones : List D) (is : AllZip WasDone jobs dones)
      → map (λ (one : OneRun). one.list) (runs_of jobs dones is) ≡ map mine dones
  lists_are [] [] is = refl
  lists_are [] (d ∷ dones) is = absurd is
  lists_are (j ∷ jobs) [] is = absurd is
  lists_are (j ∷ jobs) (d ∷ dones) is = ap (λ (more : List SessionList). mine d ∷ more) (lists_are jobs dones is.1)

  pub seats_are : (jobs : List J) (dones : List D) (is : AllZip WasDone jobs dones)
      → map (λ (one : OneRun). one.seat) (runs_of jobs dones is) ≡ map seat dones
  seats_are [] [] is = refl
  seats_are [] (d ∷ dones) is = absurd is
  seats_are (j ∷ jobs) [] is = absurd is
  seats_are (j ∷ jobs) (d ∷ dones) is = ap (λ (more : List View). seat d ∷ more) (seats_are jobs dones is.1)

  pub all_ran : (threshold n : ℕ) (jobs : List J) (dones : List D) (is : AllZip WasDone jobs dones)
      → map number_of (map session jobs) ≡ range_with_len n (length jobs)
      → Each (λ (s : SessionView). s.pass.threshold ≡ threshold) (map session jobs)
      → AllRun z threshold shards n (runs_of jobs dones is)
  all_ran threshold n [] [] is numbers own = tt
  all_ran threshold n [] (d ∷ dones) is numbers own = tt
  all_ran threshold n (j ∷ jobs) [] is numbers own = tt
  all_ran threshold n (j ∷ jobs) (d ∷ dones) is numbers own =
      let first : (session j).pass.list.number ≡ n = cc in
      let others : map number_of (map session jobs) ≡ range_with_len (n + 1) (length jobs) = cc in (
        subst (λ (q : ℕ × ℕ). SessionHasRun z q.0 shards q.1 (left d).given (left d).ended (end d) (mine d)
            (seat d) is.0.served.texts)
            (λ i. (own.0 i, first i)) is.0.served.ran,
        all_ran threshold (n + 1) jobs dones is.1 others own.1,
      )

  -- with more texts on the wires behind those of the sessions
  pub all_sent : (common : Option ℕ) (more : List (Bool × List ℕ)) (olds news : List W) → AllSent put_may flush_may
      more olds news
      → (jobs : List J) (dones : List D) (is : AllZip WasDone jobs dones)
      → Each (λ (j : J). mtu j ≡ common) jobs → AllSent put_may flush_may
      (map (λ (one : OneRun). (one.end.failed, joined (all_as_sent common one.texts))) (runs_of jobs dones is) ++ more)
      (map old jobs ++ olds) (map new dones ++ news)
  all_sent common more olds news sent [] [] is same = sent
  all_sent common more olds news sent [] (d ∷ dones) is same = absurd is
  all_sent common more olds news sent (j ∷ jobs) [] is same = absurd is
  all_sent common more olds news sent (j ∷ jobs) (d ∷ dones) is same = (
    subst (λ (m : Option ℕ). SendsOut put_may flush_may false (end d).failed
        (joined (all_as_sent m is.0.served.texts)) (old j) (new d)) same.0 is.0.served.sends,
    all_sent common more olds news sent jobs dones is.1 same.1,
  )

  pub all_whole : (common : Option ℕ) (olds news : List W) (jobs : List J) (dones : List D)
      (is : AllZip WasDone jobs dones) → Each (λ (j : J). mtu j ≡ common) jobs
      → AllWhole common put_may flush_may (map (λ (one : OneRun). (one.end.failed, one.texts)) (runs_of jobs dones is))
      (map bytes dones) (map old jobs ++ olds) (map new dones ++ news)
  all_whole common olds news [] [] is same = refl
  all_whole common olds news [] (d ∷ dones) is same = absurd is
  all_whole common olds news (j ∷ jobs) [] is same = absurd is
  all_whole common olds news (j ∷ jobs) (d ∷ dones) is same = (
    subst (λ (m : Option ℕ). SentWhole put_may flush_may (end d).failed (all_as_sent m is.0.served.texts)
        is.0.served.texts (bytes d) (old j) (new d)) same.0 is.0.served.whole,
    all_whole common olds news jobs dones is.1 same.1,
  )

  pub all_reads : (jobs : List J) (dones : List D) → AllZip WasDone jobs dones
      → AreReads (map end dones) (map (λ (j : J). (pump j).faults) jobs) (map (λ (d : D). (left d).faults) dones)
  all_reads [] [] is = tt
  all_reads [] (d ∷ dones) is = absurd is
  all_reads (j ∷ jobs) [] is = absurd is
  all_reads (j ∷ jobs) (d ∷ dones) is = (is.0.reads, all_reads jobs dones is.1)

  pub all_ended : (jobs : List J) (dones : List D) → AllZip WasDone jobs dones
      → All (λ (e : SessionEnd). e.end ≢ Left) (map end dones)
  all_ended [] [] is = All-nil (λ (e : SessionEnd). e.end ≢ Left)
  all_ended [] (d ∷ dones) is = absurd is
  all_ended (j ∷ jobs) [] is = absurd is
  all_ended (j ∷ jobs) (d ∷ dones) is =
      All-cons (λ (e : SessionEnd). e.end ≢ Left) (end d) (map end dones) is.0.to_the_end (all_ended jobs dones is.1)

  pub as_many : (jobs : List J) (dones : List D) → AllZip WasDone jobs dones → length dones ≡ length jobs
  as_many [] [] is = refl
  as_many [] (d ∷ dones) is = absurd is
  as_many (j ∷ jobs) [] is = absurd is
  as_many (j ∷ jobs) (d ∷ dones) is = ap (λ (n : ℕ). suc n) (as_many jobs dones is.1)

  -- the credits of all their seats
  pub all_credits : (jobs : List J) (dones : List D) → AllZip WasDone jobs dones
      → Each HasCredits (map session jobs)
      → total (λ (v : View). v.credits) (map seat dones) ≡ session_credits * length jobs
  all_credits [] [] is own = omega arith
  all_credits [] (d ∷ dones) is own = absurd is
  all_credits (j ∷ jobs) [] is own = absurd is
  all_credits (j ∷ jobs) (d ∷ dones) is own =
      let more = all_credits jobs dones is.1 own.1 in
      omega (arith, is.0.credits, own.0, more)
