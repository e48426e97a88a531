-- What a run of `join` says, by what came of the file.
use Rattle.std.proofs.Common.{◌≡◌, ◌≢◌, ◌⊎◌, inl, inr, ◌≤◌, ◌<◌, ℕ, suc, Bool, true, false, List, [], ◌∷◌, ◌++◌}
use Rattle.std.proofs.Common.{Option, Some, None, IfSome, length, map, drop, arith, refl, sym, ap, ◌∙◌, subst}
use Rattle.std.proofs.Common.{⊎_elim, get_or, set}
use Rattle.std.specs.Prelude.{if◌then◌else◌}
use Rattle.std.specs.List.{AllByRecursion}
use Rattle.flake_base.specs.Calls.{counted}
use Rattle.flake_base.specs.Told.{HostTold, WireTold}
use Rattle.flake_model.specs.Wire.{FaultsAre, KeptAre, KeptIs, WiresGrew}
use Rattle.mtu_frames.specs.Joining.{Joining, replies}
use Rattle.any_wire.specs.Sent.{WasSent}
use Rattle.join_files.specs.Source.{IsJoinerOf}
use Rattle.join_files.specs.declared.error.JoinError.{JoinError}
use Rattle.join_files.specs.declared.error.JoinError.TheVariants as errors
use Rattle.command_line.specs.Join.{AreJoinNumbers, Join}
use Rattle.flake_run.specs.Checked.{ConcludesBy, IsConcluded, IsStatus, NoneOpened}
use Rattle.flake_run.specs.Joined.{CameOfFrames, FileFailsToOpen, FileUnjoined, IsJoinable, IsJoinStatus, IsPutOnFirst}
use Rattle.flake_run.specs.Joined.{IsSourceOf}
use Rattle.flake_run.specs.Joined.{IsUnjoinable, Joined, JoinedFile, NonePut, PutsNone, PutsReplies, WhyNonePut}
use Rattle.flake_run.specs.Joined.{finding_of}
use Rattle.flake_run.specs.Opening.{AllOpened, AreOpened, AreOfFiles, IsUnopened}
use Rattle.flake_run.specs.Outcome.{RunOutcome, SourceTold, GaveFront, IsUntouched, none_held, sources_of}
use Rattle.flake_run.specs.Outside.{Outside, LeavesFiles, outside, put_on, kept_by, wire_faults}
use Rattle.flake_run.specs.Refusals.{RunRefused}
use Rattle.flake_run.specs.declared.finding.Finding.{Finding}
use Rattle.flake_run.specs.declared.finding.Finding.TheVariants.{BadWords, OpenFault, ReadFault, TooLarge, BadLine}
use Rattle.flake_run.specs.declared.finding.Finding.TheVariants.{Judged, BadFrame, Missing, Memory}
use Rattle.flake_run.specs.declared.outcome.Detail.TheVariants.{Nothing}
use Rattle.flake_run.specs.declared.outcome.Opened.{Opened}
use Rattle.flake_run.specs.declared.outcome.Refusal.TheVariants as refusal
use Rattle.flake_run.proofs.CheckedAll.{status_since}
use Rattle.flake_run.proofs.JoinedComplete.{joined_told, joined_whole}
use Rattle.flake_run.proofs.Ran.{says_since}
use Rattle.flake_run.proofs.OpenedFiles.{opened_more}
use Rattle.flake_run.proofs.Unread.{of_same_files, untouched_front}

-- with 0 and 5 replies were put
not_put : {W : Type 0} (task : Option Join) (before after : Outside W) (done : RunOutcome)
    → NonePut task before after done → (done.status ≡ 0) ⊎ (done.status ≡ 5) → ⊥
not_put task before after done was status = by was.finding was.concluded.status was.why where
  number : (n : ℕ) → done.status ≡ n → n ≢ 0 → n ≢ 5 → ⊥
  number n is zero five = ⊎_elim (λ s. zero (sym is ∙ s)) (λ s. five (sym is ∙ s)) status

  by : (finding : Finding) → IsStatus finding before.host after.host done.status
      → WhyNonePut finding task before after.host done.sources
      → ⊥
  by BadWords is why = number 1 is (omega arith) (omega arith)
  by (OpenFault file) is why = number 2 is (omega arith) (omega arith)
  by (ReadFault file) is why = number 4 is (omega arith) (omega arith)
  by (TooLarge file) is why = number 9 is (omega arith) (omega arith)
  by (BadLine line) is why = why
  by (Judged verdict) is why = why
  by (BadFrame n) is why = number 7 is (omega arith) (omega arith)
  by (Missing call frame) is why = number 8 is (omega arith) (omega arith)
  by Memory is why = number 6 is (omega arith) (omega arith)

-- a task for which there is a wire can be joined
unjoinable : {W : Type 0} (P : Join → Type 0) (task : Option Join) (before : Outside W) → IsJoinable task before P
    → IsUnjoinable task before → ⊥
unjoinable P None before can cannot = can
unjoinable P (Some job) before can cannot = omega (arith, can.0, cannot)

bad_words_are : {W : Type 0} (task : Option Join) (before after : Outside W) (done : RunOutcome)
    → NonePut task before after done → done.status ≢ 6 → IsUnjoinable task before → done.status ≡ 1
bad_words_are task before after done was six cannot = by was.finding was.concluded.status was.why where
  by : (finding : Finding) → IsStatus finding before.host after.host done.status
      → WhyNonePut finding task before after.host done.sources
      → done.status ≡ 1
  by BadWords is why = is
  by (OpenFault file) is why = absurd (unjoinable _ task before why.1 cannot)
  by (ReadFault file) is why = absurd (unjoinable _ task before why.1 cannot)
  by (TooLarge file) is why = absurd (unjoinable _ task before why.1 cannot)
  by (BadLine line) is why = absurd why
  by (Judged verdict) is why = absurd why
  by (BadFrame n) is why = absurd (unjoinable _ task before why cannot)
  by (Missing call frame) is why = absurd (unjoinable _ task before why cannot)
  by Memory is why = absurd (six is)

none_status : {W : Type 0} (task : Option Join) (before after : Outside W) (done : RunOutcome)
    → NonePut task before after done → IsJoinStatus done.status
none_status task before after done was = by was.finding was.concluded.status was.why where
  by : (finding : Finding) → IsStatus finding before.host after.host done.status
      → WhyNonePut finding task before after.host done.sources
      → IsJoinStatus done.status
  by BadWords is why = inr (inl is)
  by (OpenFault file) is why = inr (inr (inl is))
  by (ReadFault file) is why = inr (inr (inr (inl is)))
  by (TooLarge file) is why = inr (inr (inr (inr (inr (inr (inr (inr is)))))))
  by (BadLine line) is why = absurd why
  by (Judged verdict) is why = absurd why
  by (BadFrame n) is why = inr (inr (inr (inr (inr (inr (inl is))))))
  by (Missing call frame) is why = inr (inr (inr (inr (inr (inr (inr (inl is)))))))
  by Memory is why = inr (inr (inr (inr (inr (inl is)))))

put_status : (failed : Bool) (status : ℕ) → status ≡ (if failed then 5 else 0) → IsJoinStatus status
put_status true status is = inr (inr (inr (inr (inl is))))
put_status false status is = inl is

-- all that is said of a run follows from why no reply was put
none_put : {W : Type 0} (task : Option Join) (before after : Outside W) (done : RunOutcome)
    → (done.status ≢ 6 → IfSome task (λ job. AreJoinNumbers job.mtu job.calls)) → NonePut task before after done
    → Joined task before after done
none_put None before after done numbers was = record {
  statuses = none_status None before after done was;
  joined = λ status. absurd (not_put None before after done was status);
  refused = λ zero five. was;
  bad_words = bad_words_are None before after done was;
  whole = tt;
  told = tt;
}
none_put (Some job) before after done numbers was = record {
  statuses = none_status (Some job) before after done was;
  joined = λ status. absurd (not_put (Some job) before after done was status);
  refused = λ zero five. was;
  bad_words = bad_words_are (Some job) before after done was;
  whole = joined_whole job before after done numbers (inr was);
  told = joined_told job before after done numbers (inr was);
}

-- or from the file whose replies were put
file_joined : {W : Type 0} (job : Join) (before after : Outside W) (done : RunOutcome)
    → AreJoinNumbers job.mtu job.calls → 0 < length before.wires → JoinedFile job before after done
    → Joined (Some job) before after done
file_joined job before after done numbers enough was = record {
  statuses = put_status was.put.failed done.status was.put.status;
  joined = λ status. (enough, was);
  refused = λ zero five. absurd (by was.put.failed was.put.status zero five);
  bad_words = λ six cannot. absurd (omega (arith, enough, cannot));
  whole = joined_whole job before after done (λ six. numbers) (inl was);
  told = joined_told job before after done (λ six. numbers) (inl was);
} where
  by : (failed : Bool) → done.status ≡ (if failed then 5 else 0) → done.status ≢ 0 → done.status ≢ 5 → ⊥
  by true is zero five = five is
  by false is zero five = zero is

-- words that are refused, or no wire
pub join_refused : {W : Type 0} (task : Option Join) (before after : Outside W) (done : RunOutcome)
    → IfSome task (λ job. AreJoinNumbers job.mtu job.calls) → IsUnjoinable task before
    → RunRefused refusal.BadWords before after done
    → Joined task before after done
join_refused task before after done numbers cannot r = none_put task before after done (λ six. numbers) (record {
  finding = BadWords;
  concluded = record {
    status = r.status;
    detail = r.detail;
    said = r.said;
    ends = r.ends;
    journal = r.journal;
    held = r.held;
    pool = r.pool;
    wires = r.wires;
  };
  why = (cannot, record { sources_are = r.sources; files = r.files });
})

-- memory that is wanting before the file is opened
pub join_wanting : {W : Type 0} (task : Option Join) (before after : Outside W) (done : RunOutcome)
    → RunRefused refusal.Memory before after done → Joined task before after done
join_wanting task before after done r = none_put task before after done (λ six. absurd (six r.status)) (record {
  finding = Memory;
  concluded = record {
    status = r.status;
    detail = r.detail;
    said = r.said;
    ends = r.ends;
    journal = r.journal;
    held = r.held;
    pool = r.pool;
    wires = r.wires;
  };
  why = inl (record { sources_are = r.sources; files = r.files });
})

-- what is put on the first of some wires, and what these then tell
pub record ToldOnFirst {W : Type 0} (failed : Bool) (text : List ℕ) (before after : Outside W) : Type 0 where
  pub wires : WiresGrew ((failed, text) ∷ []) (put_on before) (put_on after)
  pub faults : FaultsAre (failed ∷ []) (wire_faults before) (wire_faults after)
  pub flushed : KeptAre (failed ∷ []) (kept_by before) (kept_by after)
  pub others : drop 1 after.wires ≡ drop 1 before.wires

pub told_on_first : {W : Type 0} (failed : Bool) (text : List ℕ) (olds news : List W) (tells : W → WireTold)
    (old new : HostTold) → IsPutOnFirst failed text olds news tells
    → ToldOnFirst failed text (outside old olds tells) (outside new news tells)
told_on_first failed text olds news tells old new put =
    subst (λ ws. ToldOnFirst failed text (outside old ws tells) (outside new news tells)) (sym put.olds_are)
    (subst (λ ws. ToldOnFirst failed text (outside old (put.old ∷ put.rest) tells) (outside new ws tells))
    (sym put.news_are)
    (record {
      wires = (put.sent.put, refl);
      faults = (put.sent.faults, refl);
      flushed = (put.flushed, refl);
      others = refl;
    }))

-- what was concluded is so of a run whose sources come back
pub with_sources : {W : Type 0} (finding : Finding) (before after : Outside W) (done : RunOutcome)
    (sources : List (Opened SourceTold)) → ConcludesBy finding before after done
    → ConcludesBy finding before after (record done { sources = sources })
with_sources finding before after done sources concludes =
    ⊎_elim (λ is. inl (same finding is)) (λ is. inr (same Memory is)) concludes
  where
    same : (finding : Finding) → IsConcluded finding before after done
        → IsConcluded finding before after (record done { sources = sources })
    same finding is = record {
      status = is.status;
      detail = is.detail;
      said = is.said;
      ends = is.ends;
      journal = is.journal;
      held = is.held;
      pool = is.pool;
      wires = is.wires;
    }

-- the first of some wires, once it was put a text
pub put_first : {W : Type 0} (failed : Bool) (text : List ℕ) (olds : List W) (old new : W) (tells : W → WireTold)
    → 0 < length olds → old ≡ get_or olds 0 old → WasSent failed text (tells old) (tells new)
    → KeptIs failed (tells old).kept (tells new).kept
    → IsPutOnFirst failed text olds (set olds 0 new) tells
put_first failed text [] old new tells some is sent kept = absurd (omega (arith, some))
put_first failed text (first ∷ rest) old new tells some is sent kept =
    record {
      old = old;
      new = new;
      rest = rest;
      olds_are = ap (λ w. w ∷ rest) (sym is);
      news_are = refl;
      sent = sent;
      flushed = kept;
    }

-- replies that were put on the first wire
pub puts_replies : {W : Type 0} (tells : W → WireTold) (job : Join) (source : SourceTold) (joining : Joining)
    (failed : Bool) (host : HostTold) (wires after : List W) (done : RunOutcome) → source.faults ≡ 0
    → IsJoinerOf job.mtu job.calls source.given source.ended joining
    → IsPutOnFirst failed (replies joining.frames joining.calls) wires after tells
    → done.status ≡ (if failed then 5 else 0)
    → done.detail ≡ Nothing → done.ends ≡ [] → done.journal ≡ [] → done.held ≡ none_held → done.pool ≡ None
    → PutsReplies job source (outside host wires tells) (outside host after tells) done
puts_replies tells job source joining failed host wires after done calm read put status detail ends journal held pool =
    let told = told_on_first failed (replies joining.frames job.calls) wires after tells host host
    (subst (λ n. IsPutOnFirst failed (replies joining.frames n) wires after tells) read.joined.calls_are put) in
    record {
      calm = calm;
      joining = joining;
      read = read;
      failed = failed;
      status = status;
      wires = told.wires;
      faults = told.faults;
      flushed = told.flushed;
      others = told.others;
      said = record { said = refl; none_failed = refl };
      detail = detail;
      ends = ends;
      journal = journal;
      held = held;
      pool = pool;
    }

module _ {W : Type 0} (tells : W → WireTold) (job : Join) (host mid now : HostTold) (wires after : List W)
    (numbers : AreJoinNumbers job.mtu job.calls) (enough : 0 < length wires) where
  concluded_since : (finding : Finding) (done : RunOutcome) → mid.said ≡ host.said → mid.say_faults ≡ host.say_faults
      → IsConcluded finding (outside mid wires tells) (outside now after tells) done
      → IsConcluded finding (outside host wires tells) (outside now after tells) done
  concluded_since finding done said same is = record {
    status = status_since finding host mid now done.status same is.status;
    detail = is.detail;
    said = says_since _ host mid now said same is.said;
    ends = is.ends;
    journal = is.journal;
    held = is.held;
    pool = is.pool;
    wires = is.wires;
  }

  -- the file did not open
  pub join_unopened : (done : RunOutcome) → done.sources ≡ [] → IsUnopened job.file host mid → LeavesFiles mid now
      → ConcludesBy (OpenFault 0) (outside mid wires tells) (outside now after tells) done
      → Joined (Some job) (outside host wires tells) (outside now after tells) done
  join_unopened done none fails leaves concludes =
      none_put (Some job) (outside host wires tells) (outside now after tells) done (λ six. numbers)
      (⊎_elim
      (λ is. record {
        finding = OpenFault 0;
        concluded = concluded_since (OpenFault 0) done fails.said fails.say_faults is;
        why = (refl, (enough, one));
      })
      (λ is. record {
        finding = Memory;
        concluded = concluded_since Memory done fails.said fails.say_faults is;
        why = inr (inl (enough, one));
      })
      concludes)
    where
      one : FileFailsToOpen job.file host now done.sources
      one = record { sources_are = none; between = mid; fails = fails; leaves = leaves }

  -- it did
  module _ (first : SourceTold) (opened : AreOpened (job.file ∷ []) host mid (first ∷ [])) (done : RunOutcome)
      (came : CameOfFrames job first.name first.whole (outside mid wires tells) (outside now after tells) done) where
    said : mid.said ≡ host.said
    said = opened.host.said

    same : mid.say_faults ≡ host.say_faults
    same = opened.host.say_faults

    source_is : sources_of done.sources ≡ came.source ∷ []
    source_is = ap sources_of came.sources_are

    fronts : AllByRecursion GaveFront (sources_of done.sources)
    fronts = subst (AllByRecursion GaveFront) (sym source_is) (came.front, tt)

    of_file : IsSourceOf job.file host now done.sources came.source
    of_file = record {
      opened = record {
        between = mid;
        host = opened.host;
        leaves = came.leaves;
        of_files = of_same_files (job.file ∷ []) host.holds (first ∷ []) (sources_of done.sources) opened.of_files
            (ap (map (λ (s : SourceTold). s.name)) source_is ∙ ap (λ n. n ∷ []) came.name_is)
            (ap (map (λ (s : SourceTold). s.whole)) source_is ∙ ap (λ w. w ∷ []) came.whole_is) fronts;
        files = ap (map (λ (one : Opened SourceTold). one.file)) came.sources_are;
      };
      source_is = source_is;
    }

    puts_since : PutsReplies job came.source (outside mid wires tells) (outside now after tells) done
        → PutsReplies job came.source (outside host wires tells) (outside now after tells) done
    puts_since put = record {
      calm = put.calm;
      joining = put.joining;
      read = put.read;
      failed = put.failed;
      status = put.status;
      wires = put.wires;
      faults = put.faults;
      flushed = put.flushed;
      others = put.others;
      said = record { said = put.said.said ∙ said; none_failed = put.said.none_failed ∙ same };
      detail = put.detail;
      ends = put.ends;
      journal = put.journal;
      held = put.held;
      pool = put.pool;
    }

    why_none : (error : JoinError) → FileUnjoined error job host now done.sources
        → WhyNonePut (finding_of error) (Some job) (outside host wires tells) now done.sources
    why_none errors.ReadFault was = (refl, (enough, was))
    why_none errors.TooLarge was = (refl, (enough, was))
    why_none (errors.BadFrame number) was = (enough, was)
    why_none (errors.Missing call frame) was = (enough, was)
    why_none errors.Memory was = inr (inr (errors.Memory, (enough, was)))

    puts_none : (put : PutsNone job came.source (outside mid wires tells) (outside now after tells) done)
        → NonePut (Some job) (outside host wires tells) (outside now after tells) done
    puts_none put =
        let was : FileUnjoined put.error job host now done.sources =
        record { source = came.source; of_file = of_file; why = put.why } in
        ⊎_elim
        (λ is. record {
          finding = finding_of put.error;
          concluded = concluded_since (finding_of put.error) done said same is;
          why = why_none put.error was;
        })
        (λ is. record {
          finding = Memory;
          concluded = concluded_since Memory done said same is;
          why = inr (inr (put.error, (enough, was)));
        })
        put.concluded

    pub join_opened : Joined (Some job) (outside host wires tells) (outside now after tells) done
    join_opened =
        ⊎_elim
        (λ put. file_joined job (outside host wires tells) (outside now after tells) done numbers enough
        (record { source = came.source; of_file = of_file; put = puts_since put }))
        (λ put. none_put (Some job) (outside host wires tells) (outside now after tells) done (λ six. numbers)
        (puts_none put))
        came.came

-- a file that was opened before any other
pub opened_first : (name : List ℕ) (old new : HostTold) (source : SourceTold) → source.name ≡ name
    → source.whole ≡ old.holds name → IsUntouched source
    → ((other : List ℕ) → other ≢ name → new.holds other ≡ old.holds other) → new.opens ≡ counted old.opens
    → ((other : List ℕ) → new.open_faults other ≡ old.open_faults other) → new.said ≡ old.said
    → new.say_faults ≡ old.say_faults → AreOpened (name ∷ []) old new (source ∷ [])
opened_first name old new source named whole untouched others opens counts said says =
    opened_more [] name old old new [] source
    (record {
      of_files = record { names_are = refl; wholes_are = λ distinct. refl; own = tt; fronts = tt };
      unread = tt;
      host = record {
        holds = λ other all. refl;
        opens = refl;
        open_faults = λ other. refl;
        said = refl;
        say_faults = refl;
      };
    })
    named whole (untouched_front source untouched) untouched others opens counts said says
