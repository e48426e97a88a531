-- Where nothing failed, all frames of texts are put together to the texts.
use Rattle.std.proofs.Common.{◌≡◌, ◌≢◌, ◌⊎◌, inl, inr, ◌≤◌, ◌<◌, ℕ, zero, suc, ◌^◌, Bool, true, false, List, [], ◌∷◌}
use Rattle.std.proofs.Common.{◌++◌, Option, Some, None, IsSomeAnd, length, slice_index_or, arith, refl, sym, ap}
use Rattle.std.proofs.Common.{◌∙◌, subst, append-nil, ⊎_elim}
use Rattle.std.specs.Prelude.{if◌then◌else◌}
use Rattle.std.specs.List.{AllByRecursion, concat}
use Rattle.std.proofs.lemmas.List.{length-append}
use Rattle.std.proofs.lemmas.List.Elements.{recursion_from_All}
use Rattle.flake_base.specs.Causes.{Rose}
use Rattle.flake_base.specs.Reads.{IsGivenFront}
use Rattle.flake_base.specs.Told.{HostTold}
use Rattle.flake_model.specs.Wire.{FaultsAre, WiresGrew}
use Rattle.mtu_frames.specs.Joining.{IsWhole, replies}
use Rattle.join_files.specs.Cutting.{file_frames}
use Rattle.join_files.specs.Joined.{TookAll, IsFirstRefused, IsMissingOf}
use Rattle.join_files.specs.Source.{IsJoinerOf, IsUnjoined, join_limit}
use Rattle.join_files.specs.Texts.{AreFramesOf, AreJoinedTo}
use Rattle.join_files.specs.declared.error.JoinError.{JoinError}
use Rattle.join_files.specs.declared.error.JoinError.TheVariants as errors
use Rattle.join_files.proofs.Texts.{joins_frames}
use Rattle.command_line.specs.Join.{AreJoinNumbers, Join}
use Rattle.flake_run.specs.Causes.{SomeWireFailed}
use Rattle.flake_run.specs.Checked.{IsStatus}
use Rattle.flake_run.specs.Joined.{AreFramesFor, FileFailsToOpen, FileUnjoined, IsSourceOf, JoinedFile, MayJoin}
use Rattle.flake_run.specs.Joined.{NoCallFails, NonePut, PutsTexts, WhyNonePut}
use Rattle.flake_run.specs.Opening.{AreOfFiles}
use Rattle.flake_run.specs.Outcome.{RunOutcome, SourceTold, GaveFront, MayHold, sources_of, wholes_of, read_faults_of}
use Rattle.flake_run.specs.Outside.{Outside, put_on, wire_faults}
use Rattle.flake_run.specs.declared.finding.Finding.{Finding}
use Rattle.flake_run.specs.declared.finding.Finding.TheVariants.{BadWords, OpenFault, ReadFault, TooLarge, BadLine}
use Rattle.flake_run.specs.declared.finding.Finding.TheVariants.{Judged, BadFrame, Missing, Memory}

-- the only item of two lists that are one
only : {A : Type 0} (xs : List A) (a b : A) → xs ≡ a ∷ [] → xs ≡ b ∷ [] → a ≡ b
only xs a b is same = let both : a ∷ [] ≡ b ∷ [] = sym is ∙ same in cc both

-- the first wire failed
first_failed : (olds news : List (ℕ × ℕ)) → FaultsAre (true ∷ []) olds news
    → ((session : ℕ) × (session < 1)
    × (Rose (slice_index_or olds session (0, 0)).0 (slice_index_or news session (0, 0)).0
    ⊎ Rose (slice_index_or olds session (0, 0)).1 (slice_index_or news session (0, 0)).1))
first_failed [] news are = absurd are
first_failed (old ∷ olds) [] are = absurd are
first_failed (old ∷ olds) (new ∷ news) are =
    (0, omega arith, ⊎_elim (λ put. inl put.0) (λ flush. inr flush.1) are.0)

module _ {W : Type 0} (job : Join) (before after : Outside W) (done : RunOutcome)
    (numbers : AreJoinNumbers job.mtu job.calls) (none : NoCallFails job before after done) (texts : List (List ℕ))
    (can : AreOfFiles (job.file ∷ []) before.host.holds (sources_of done.sources)
    → MayJoin job texts (sources_of done.sources)) where
  -- what is known of the source that comes back
  may_of : (source : SourceTold) → IsSourceOf job.file before.host after.host done.sources source
      → MayJoin job texts (sources_of done.sources)
  may_of source of = can of.opened.of_files

  same_source : (source : SourceTold) → (of : IsSourceOf job.file before.host after.host done.sources source)
      → (may_of source of).source ≡ source
  same_source source of = only (sources_of done.sources) (may_of source of).source source (may_of source of).sources_are
      of.source_is

  held_by_it : (source : SourceTold) → (of : IsSourceOf job.file before.host after.host done.sources source)
      → MayHold (may_of source of).bytes source
  held_by_it source of = subst (MayHold (may_of source of).bytes) (same_source source of) (may_of source of).held

  gave_all : (source : SourceTold) → (of : IsSourceOf job.file before.host after.host done.sources source)
      → source.ended ≡ true → (may_of source of).bytes ≡ source.given
  gave_all source of end =
      let held = held_by_it source of in
      held.1 ∙ ap (λ rest. source.given ++ rest) (held.2 end) ∙ append-nil source.given

  joins_it : (source : SourceTold) → (of : IsSourceOf job.file before.host after.host done.sources source)
      → source.ended ≡ true → AreJoinedTo job.mtu texts (file_frames source.given)
  joins_it source of end =
      let may = may_of source of in
      joins_frames job.mtu texts source.given numbers.low numbers.high
      (omega (arith, may.frames.calls, numbers.few))
      (subst (AreFramesOf job.mtu texts) (gave_all source of end) may.frames.frames)

  no_read_fault : (source : SourceTold) → IsSourceOf job.file before.host after.host done.sources source
      → Rose 0 source.faults → ⊥
  no_read_fault source of rose =
      let zeros = subst (λ ss. AllByRecursion (λ (n : ℕ). n ≡ 0) (read_faults_of ss)) of.source_is
      (recursion_from_All (λ (n : ℕ). n ≡ 0) (read_faults_of (sources_of done.sources)) none.reads) in
      omega (arith, rose, zeros.0)

  not_unjoined : (error : JoinError) → error ≢ errors.Memory
      → FileUnjoined error job before.host after.host done.sources
      → ⊥
  not_unjoined error other was = by error other was.why
    where
      of : IsSourceOf job.file before.host after.host done.sources was.source
      of = was.of_file

      by : (error : JoinError) → error ≢ errors.Memory
          → IsUnjoined error job.mtu job.calls was.source.given was.source.ended 0 was.source.faults → ⊥
      by errors.ReadFault other why = no_read_fault was.source of why
      by errors.TooLarge other why =
          let may = may_of was.source of in
          let held = held_by_it was.source of in
          omega (
            arith,
            why.0,
            may.frames.within,
            ap length held.1,
            length-append was.source.given held.0,
          )
      by (errors.BadFrame number) other why =
          let joins = joins_it was.source of why.0.end in
          joins.none_refused number
          (subst (λ n. IsFirstRefused job.mtu n (file_frames was.source.given) number)
          (sym (may_of was.source of).frames.calls) why.1)
      by (errors.Missing call frame) other why =
          let joins = joins_it was.source of why.0.end in
          joins.none_missing (record { call = call; frame = frame })
          (subst (λ n. IsMissingOf job.mtu n (file_frames was.source.given) (record { call = call; frame = frame }))
          (sym (may_of was.source of).frames.calls) why.1)
      by errors.Memory other why = other refl

  not_refused : 0 < length before.wires → NonePut (Some job) before after done → ⊥
  not_refused enough was = by was.finding was.concluded.status was.why
    where
      by : (finding : Finding) → IsStatus finding before.host after.host done.status
          → WhyNonePut finding (Some job) before after.host done.sources → ⊥
      by BadWords status why = omega (arith, why.0, enough)
      by (OpenFault file) status why =
          let fails = why.1.1 in
          none.opens (subst (Rose (before.host.open_faults job.file)) (sym (fails.leaves.open_faults job.file))
          fails.fails.rose)
      by (ReadFault file) status why = not_unjoined errors.ReadFault (λ is. absurd (cc is)) why.1.1
      by (TooLarge file) status why = not_unjoined errors.TooLarge (λ is. absurd (cc is)) why.1.1
      by (BadLine line) status why = why
      by (Judged verdict) status why = why
      by (BadFrame number) status why = not_unjoined (errors.BadFrame number) (λ is. absurd (cc is)) why.1
      by (Missing call frame) status why = not_unjoined (errors.Missing call frame) (λ is. absurd (cc is)) why.1
      by Memory status why = none.memory status

  puts_texts : JoinedFile job before after done → PutsTexts texts before after done
  puts_texts was = by was.put.failed was.put.status was.put.wires was.put.faults
    where
      of : IsSourceOf job.file before.host after.host done.sources was.source
      of = was.of_file

      text : List ℕ
      text = replies was.put.joining.frames job.calls

      text_is : text ≡ concat texts
      text_is =
          let read = was.put.read in
          let calls = (may_of was.source of).frames.calls in
          ap (replies was.put.joining.frames) (sym calls)
          ∙ (joins_it was.source of read.read.end).joined was.put.joining.frames
          (subst (λ n. TookAll job.mtu n (file_frames was.source.given) was.put.joining.frames) (sym calls)
          read.joined.taken)
          (subst (IsWhole was.put.joining.frames) (sym calls) read.joined.whole)

      by : (failed : Bool) → done.status ≡ (if failed then 5 else 0)
          → WiresGrew ((failed, text) ∷ []) (put_on before) (put_on after)
          → FaultsAre (failed ∷ []) (wire_faults before) (wire_faults after) → PutsTexts texts before after done
      by true status wires faults = absurd (none.puts (first_failed (wire_faults before) (wire_faults after) faults))
      by false status wires faults = record {
        status = status;
        wires = subst (λ t. WiresGrew ((false, t) ∷ []) (put_on before) (put_on after)) text_is wires;
      }

-- where the host tells what it holds under the name, the source may hold that
told_may : (job : Join) (texts : List (List ℕ)) (host : HostTold) (sources : List SourceTold)
    → IsSomeAnd (host.holds job.file) (AreFramesFor job texts)
    → AreOfFiles (job.file ∷ []) host.holds sources
    → MayJoin job texts sources
told_may job texts host [] told of = let names = of.names_are in absurd (cc names)
told_may job texts host (source ∷ other ∷ more) told of = let names = of.names_are in absurd (cc names)
told_may job texts host (source ∷ []) told of =
    let wholes = of.wholes_are (tt, tt) in
    let whole : source.whole ≡ host.holds job.file = cc wholes in
    by (host.holds job.file) whole told
  where
    by : (held : Option (List ℕ)) → source.whole ≡ held → IsSomeAnd held (AreFramesFor job texts)
        → MayJoin job texts (source ∷ [])
    by None whole told = absurd told
    by (Some bytes) whole told = record {
      source = source;
      sources_are = refl;
      bytes = bytes;
      held = subst (λ w. IsGivenFront w source.given source.ended) whole of.fronts.0;
      frames = told;
    }

-- all frames of texts are put, where the words are accepted and nothing fails
pub joined_whole : {W : Type 0} (job : Join) (before after : Outside W) (done : RunOutcome)
    → (done.status ≢ 6 → AreJoinNumbers job.mtu job.calls)
    → JoinedFile job before after done ⊎ NonePut (Some job) before after done
    → 0 < length before.wires → NoCallFails job before after done → (texts : List (List ℕ))
    → MayJoin job texts (sources_of done.sources)
    → PutsTexts texts before after done
joined_whole job before after done numbers came enough none texts may =
    ⊎_elim
    (λ was. puts_texts job before after done (numbers none.memory) none texts (λ of. may) was)
    (λ was. absurd (not_refused job before after done (numbers none.memory) none texts (λ of. may) enough was))
    came

pub joined_told : {W : Type 0} (job : Join) (before after : Outside W) (done : RunOutcome)
    → (done.status ≢ 6 → AreJoinNumbers job.mtu job.calls)
    → JoinedFile job before after done ⊎ NonePut (Some job) before after done
    → 0 < length before.wires → NoCallFails job before after done → (texts : List (List ℕ))
    → IsSomeAnd (before.host.holds job.file) (AreFramesFor job texts)
    → PutsTexts texts before after done
joined_told job before after done numbers came enough none texts told =
    let can = told_may job texts before.host (sources_of done.sources) told in
    ⊎_elim
    (λ was. puts_texts job before after done (numbers none.memory) none texts can was)
    (λ was. absurd (not_refused job before after done (numbers none.memory) none texts can enough was))
    came
