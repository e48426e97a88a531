-- A run of whole requests without a fault has status 0.
use Rattle.std.proofs.Common.{◌≡◌, ◌≢◌, ◌⊎◌, ℕ, Bool, true, List, [], ◌∷◌, ◌++◌, Option, Some, None, IsSomeAnd}
use Rattle.std.proofs.Common.{length, map, arith, refl, ap, sym, ◌∙◌, subst, append-nil, ⊎_elim}
use Rattle.std.specs.List.{AllByRecursion, list_any}
use Rattle.std.proofs.lemmas.List.Elements.{recursion_from_All}
use Rattle.flake_base.specs.Causes.{Rose}
use Rattle.flake_base.specs.Reads.{IsGivenFront}
use Rattle.flake_base.specs.Told.{HostTold, WireTold}
use Rattle.flake_base.specs.declared.session.End.{End}
use Rattle.flake_base.specs.declared.session.End.TheVariants.{Clean, Protocol, Truncated, TooLong, ReadFault, Memory}
use Rattle.flake_base.specs.declared.session.End.TheVariants.{Left}
use Rattle.flake_base.specs.declared.session.SessionEnd.{SessionEnd}
use Rattle.flake_model.specs.Resp.{Words, Parses}
use Rattle.flake_model.proofs.Faults.{error_stays, long_stays}
use Rattle.flake_model.proofs.OneParse.{one_parse}
use Rattle.flake_model.specs.Session.{Session, IsSession, EndsAs, IsReadOut}
use Rattle.command_pump.specs.Pump.{EndFaults}
use Rattle.flake_run.specs.Dumping.{puts_failed}
use Rattle.flake_run.specs.Task.{Job, RunTask, wires_of}
use Rattle.flake_run.specs.Outside.{outside}
use Rattle.flake_run.specs.Outcome.{RunOutcome, SourceTold, GaveFront, ways, sources_of, wholes_of, givens_of}
use Rattle.flake_run.specs.Outcome.{endeds_of, read_faults_of}
use Rattle.flake_run.specs.Causes.{AreCountsOf, SomeWireFailed, status_by, highest_by}
use Rattle.flake_run.specs.Complete.{Complete, NothingFailed, AreRequests, MayHoldRequests}
use Rattle.flake_run.proofs.Highest.{none_is_six}
use Rattle.flake_run.proofs.Ran.{Ran, IsTask, sessions_are}
use Rattle.flake_run.proofs.RanCauses.{some_put_or_said}
use Rattle.flake_run.proofs.RanDump.{lines_are, puts_within}

-- what begins whole requests has no other end without a fault
clean_end : (e : End) (given rest : List ℕ) (ended : Bool) (n : ℕ) (requests other : List Words) (shown : End)
    → Parses given other shown → EndsAs e shown → IsReadOut e ended → (ended ≡ true → rest ≡ [])
    → Parses (given ++ rest) requests Clean
    → EndFaults e 0 n → n ≡ 0 → status_by e ≢ 6 → status_by e ≡ 0
clean_end Clean given rest ended n requests other shown parsed is out all clean faults none memory = refl
clean_end (Protocol kind place) given rest ended n requests other shown parsed is out all clean faults none memory =
    let error = error_stays given rest other kind place (subst (Parses given other) is parsed) in
    absurd (cc ((one_parse (given ++ rest) other requests (Protocol kind place) Clean error clean).1))
clean_end (Truncated place) given rest ended n requests other shown parsed is out all clean faults none memory =
    let whole = subst (λ b. Parses b requests Clean) (ap (λ l. given ++ l) (all out) ∙ append-nil given) clean in
    absurd (cc (is, (one_parse given other requests shown Clean parsed whole).1))
clean_end TooLong given rest ended n requests other shown parsed is out all clean faults none memory =
    let long = long_stays given rest other (subst (Parses given other) is parsed) in
    absurd (cc ((one_parse (given ++ rest) other requests TooLong Clean long clean).1))
clean_end ReadFault given rest ended n requests other shown parsed is out all clean faults none memory =
    absurd (omega (arith, faults, none))
clean_end Memory given rest ended n requests other shown parsed is out all clean faults none memory =
    absurd (memory refl)
clean_end Left given rest ended n requests other shown parsed is out all clean faults none memory = refl

-- the end of a session whose source is of whole requests
whole_end : (s : Session) (source : SourceTold) (end : SessionEnd) (n : ℕ) → IsSession s → s.given ≡ source.given
    → s.ended ≡ source.ended → s.end ≡ end → EndFaults end.end 0 n → n ≡ 0 → status_by end.end ≢ 6
    → MayHoldRequests source → status_by end.end ≡ 0
whole_end s source end n is given_is ended_is end_is faults none memory (bytes, held, are) =
    clean_end end.end source.given held.0 source.ended n are.0 is.requests is.shown
    (subst (λ given. Parses given is.requests is.shown) given_is is.parsed)
    (subst (λ (e : SessionEnd). EndsAs e.end is.shown) end_is is.shown_is)
    (subst (λ ended. IsReadOut end.end ended) ended_is
    (subst (λ (e : SessionEnd). IsReadOut e.end s.ended) end_is is.read_out))
    held.2 (subst (λ b. Parses b are.0 Clean) held.1 are.1) faults none memory

highest_zero : (way : End) (ways : List End) → status_by way ≡ 0 → highest_by ways ≡ 0 → highest_by (way ∷ ways) ≡ 0
highest_zero way ways here rest = omega (arith, here, rest)

-- all of them
pub whole_ends : (sessions : List Session) (sources : List SourceTold) (ends : List SessionEnd) (counts : List ℕ)
    → AllByRecursion IsSession sessions
    → map (λ (session : Session). session.given) sessions ≡ givens_of sources
    → map (λ (session : Session). session.ended) sessions ≡ endeds_of sources
    → map (λ (session : Session). session.end) sessions ≡ ends
    → AreCountsOf (ways ends) counts → AllByRecursion (λ n. n ≡ 0) counts → AllByRecursion (λ way. status_by way ≢ 6)
    (ways ends)
    → AllByRecursion MayHoldRequests sources → highest_by (ways ends) ≡ 0
whole_ends sessions sources [] counts each givens endeds are faults none memory whole = refl
whole_ends [] sources (end ∷ ends) counts each givens endeds are faults none memory whole = absurd (cc are)
whole_ends (session ∷ sessions) [] (end ∷ ends) counts each givens endeds are faults none memory whole =
    absurd (cc givens)
whole_ends (session ∷ sessions) (source ∷ sources) (end ∷ ends) [] each givens endeds are faults none memory whole =
    absurd faults
whole_ends (session ∷ sessions) (source ∷ sources) (end ∷ ends) (count ∷ counts) each givens endeds are faults none
    memory whole =
    highest_zero end.end (ways ends)
    (whole_end session source end count each.0 (cc givens) (cc endeds) (cc are) faults.0 none.0 memory.0 whole.0)
    (whole_ends sessions sources ends counts each.1 (cc givens) (cc endeds) (cc are) faults.1 none.1 memory.1 whole.1)

-- sources that hold what their files had, as far as that is told
pub told_requests : (names : List (List ℕ)) (holds : List ℕ → Option (List ℕ)) (sources : List SourceTold)
    → wholes_of sources ≡ map holds names → AllByRecursion GaveFront sources
    → AllByRecursion (λ name. IsSomeAnd (holds name) AreRequests) names → AllByRecursion MayHoldRequests sources
told_requests names holds [] wholes fronts told = tt
told_requests [] holds (source ∷ sources) wholes fronts told = absurd (cc wholes)
told_requests (name ∷ names) holds (source ∷ sources) wholes fronts told = (
  one source.whole (holds name) (cc wholes) fronts.0 told.0,
  told_requests names holds sources (cc wholes) fronts.1 told.1,
)
  where
    one : (whole held : Option (List ℕ)) → whole ≡ held → IsGivenFront whole source.given source.ended
        → IsSomeAnd held AreRequests → MayHoldRequests source
    one whole None same front told = absurd told
    one whole (Some bytes) same front told =
        (bytes, subst (λ w. IsGivenFront w source.given source.ended) same front, told)

module _ {W : Type 0} (tells : W → WireTold) (job : Job) (host now : HostTold) (wires after : List W)
    (done : RunOutcome) (r : Ran tells job host now wires after done) where
  as_many : length done.ends ≡ length job.names
  as_many = sessions_are tells job host now wires after done r

  complete_by : NothingFailed job.names (wires_of job) (outside host wires tells) (outside now after tells) done
      → AllByRecursion MayHoldRequests (sources_of done.sources) → done.status ≡ 0
  complete_by nothing whole =
      let within = puts_within done.ends (length job.names) job.sizes.dump _ _ done.dump r.run.dumped as_many in
      let lines = lines_are done.ends job.sizes.dump _ _ done.dump r.run.dumped in
      let quiet : SomeWireFailed (length (puts_failed done.ends done.dump)) (outside host wires tells)
      (outside now after tells) → ⊥ = λ put. nothing.puts (put.0, omega (arith, put.1, within), put.2) in
      let write : done.status ≢ 5 = λ five. ⊎_elim nothing.says quiet
      (some_put_or_said (puts_failed done.ends done.dump) _ _ _ r.run.faults
      (subst (λ (fs : List Bool). (list_any (λ (failed : Bool). failed) fs ≡ true)
      ⊎ Rose host.say_faults now.say_faults) lines (r.report.failed five).1)) in
      let by = (r.report.by_end write nothing.memory).0 in
      by ∙ whole_ends r.run.run.sessions (sources_of done.sources) done.ends (read_faults_of (sources_of done.sources))
      r.run.run.each_is r.run.run.given_is r.run.run.ended_is r.run.run.ends_are
      r.reads (recursion_from_All (λ (n : ℕ). n ≡ 0) (read_faults_of (sources_of done.sources)) nothing.reads)
      (none_is_six (ways done.ends) (λ six. nothing.memory (by ∙ six))) whole

pub ran_complete : {W : Type 0} (tells : W → WireTold) (task : RunTask) (job : Job) (host now : HostTold)
    (wires after : List W) (done : RunOutcome)
    → IsTask task job wires → Ran tells job host now wires after done → Complete task (outside host wires tells)
    (outside now after tells) done
ran_complete tells task job host now wires after done t r =
    subst (λ t. Complete t (outside host wires tells) (outside now after tells) done) (sym t.task_is) (record {
      whole = λ enough nothing whole. complete_by tells job host now wires after done r nothing whole;
      told = λ enough nothing distinct told. complete_by tells job host now wires after done r nothing
          (told_requests job.names host.holds (sources_of done.sources) (r.of_files.wholes_are distinct)
          r.of_files.fronts
          (recursion_from_All (λ (name : List ℕ). IsSomeAnd (host.holds name) AreRequests) job.names told));
    })
