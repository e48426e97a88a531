use Rattle.std.proofs.Common.{◌≡◌, ◌≢◌, ◌⊎◌, inl, inr, ℕ, Bool, List, Bor, Some, IfSome, true, length, map, arith, refl}
use Rattle.std.proofs.Common.{sym, ap, ◌∙◌, subst}
use Rattle.std.specs.List.{range_with_len, list_any}
use Rattle.std.specs.Option.{option_map}
use Rattle.std.proofs.lemmas.List.{length-map}
use Rattle.std.proofs.lemmas.List.Elements.{All-map}
use Rattle.flake_base.specs.Causes.{Rose}
use Rattle.flake_base.specs.declared.session.End.{End}
use Rattle.flake_base.specs.declared.session.End.TheVariants.{Left}
use Rattle.flake_base.specs.declared.session.SessionEnd.{SessionEnd}
use Rattle.run_resources.specs.Opened.{HasRunSizes, pool_sizes}
use Rattle.session_serve.specs.Ran.{AreReads}
use Rattle.flake_base.specs.Histories.{histories}
use Rattle.serve_inputs.specs.Dumped.{dump_told}
use Rattle.flake_run.specs.declared.outcome.Detail.TheVariants.{Nothing}
use Rattle.flake_run.specs.declared.outcome.Refusal.TheVariants.{OpenFault}
use Rattle.flake_run.specs.Causes.{AreCountsOf, IsRefusable}
use Rattle.flake_run.specs.Opening.{AreOpened, FailsToOpen}
use Rattle.flake_run.specs.Dumping.{dump_line_of, lines_failed}
use Rattle.flake_run.specs.Outcome.{done_with, opened_told, source_told, sources_of, ways}
use Rattle.flake_run.specs.Outside.{outside}
use Rattle.flake_run.specs.Refusals.{RunRefused}
use Rattle.flake_run.specs.Serving.{IsDumpingRun}
use Rattle.flake_run.specs.Task.{shown_task, run_task_of}
use Rattle.flake_run.proofs.Numbers.{are_numbered, field_of}
use Rattle.flake_run.proofs.Ran.{IsTask, Reported, as_many_sources, counts_from, says_since}
use Rattle.flake_run.proofs.RanAll.{ran_all}
use Rattle.flake_run.proofs.Refused.{refused_with, serve_refused, serve_wanting}
use Rattle.flake_run.proofs.Unopened.{unopened_all}
use Rattle.flake_run.proofs.Unread.{come_back, none_given}
use Rattle.flake_run.proofs.Unserved.{unserved_all}
use Rattle.flake_run.proofs.serve.serve.Goals as goal

pub returns-in-Ok-None : goal.returns-in-Ok-None
returns-in-Ok-None g c =
    let before = outside (g.H.Host.host_told c.args.host.now) c.args.wires.items
    (λ w. (g.dyn-1.0.entry w.vtable).1.wire_told w.value) in
    serve_refused _ _ _ _
    (subst (λ t. IsRefusable t before)
    (ap (option_map shown_task) (sym c.in-Ok-None.field-0-is) ∙ c.in-Ok-None.ensures.value) (inl refl))
    (refused_with _ _ _ _ _ _ _ _ _ _ _ c.refuse.ensures.dump c.refuse.ensures.does)

pub returns-in-Err : goal.returns-in-Err
returns-in-Err g c =
    serve_wanting _ _ _ _
    (refused_with _ _ _ _ _ _ _ _ _ _ _ c.refuse-in-Err.ensures.dump c.refuse-in-Err.ensures.does)

pub returns-then-len-wires : goal.returns-then-len-wires
returns-then-len-wires g c =
    let task = c.in-Ok-Some.task in
    let job = shown_task task in
    let before = outside (g.H.Host.host_told c.args.host.now) c.args.wires.items
    (λ w. (g.dyn-1.0.entry w.vtable).1.wire_told w.value) in
    let task_is : run_task_of c.args.words.now ≡ Some job = sym c.in-Ok-Some.ensures.value
    ∙ ap (option_map shown_task) c.in-Ok-Some.field-0-is in
    let refused = c.refuse-then-len-wires in
    serve_refused _ _ _ _ (subst (λ t. IsRefusable t before) (sym task_is)
    (inr (omega (arith, c.if-len-wires.true, c.len.ensures, c.wires.ensures, c.args.wires.ok.0))))
    (refused_with _ _ _ _ _ _ _ _ _ _ _ refused.ensures.dump refused.ensures.does)

pub returns-in_default : goal.returns-in_default
returns-in_default g c =
    serve_wanting _ _ _ _
    (refused_with _ _ _ _ _ _ _ _ _ _ _ c.refuse-in_default.ensures.dump c.refuse-in_default.ensures.does)

pub returns-in-Err-open_files : goal.returns-in-Err-open_files
returns-in-Err-open_files g c =
    let task = c.in-Ok-Some.task in
    let job = shown_task task in
    let refused = c.refuse-outcome in
    let sources = c.in-Err-open_files.sources in
    let tells = source_told g.H.In.Source.name g.H.In.Source.whole g.H.In.Source.given g.H.In.Source.ended
    g.H.In.Source.read_faults in
    let sized = subst (λ o. IfSome o (λ t. HasRunSizes (length t.files.items) t.sizes)) c.in-Ok-Some.field-0-is
    c.in-Ok-Some.ensures.sized in
    let count : length job.names ≡ length task.files.items = length-map task.files.items
    (λ (file : Bor (List ℕ)). file.now) in
    let accepted : IsTask (run_task_of c.args.words.now) job c.args.wires.items = record {
      task_is = sym c.in-Ok-Some.ensures.value ∙ ap (option_map shown_task) c.in-Ok-Some.field-0-is;
      some_names = omega (arith, count, sized.count_is);
      some_wires = omega (arith, c.if-len-wires.false, c.len.ensures, c.wires.ensures);
    } in
    let numbers = are_numbered tells c.numbered.result.items sources.items c.numbered.ensures.files
    c.numbered.ensures.sources in
    let told = opened_told tells c.numbered.result.items in
    let as_many : length told ≡ length sources.items =
    length-map c.numbered.result.items (λ one. record { file = one.file; source = tells one.source })
    ∙ sym (length-map c.numbered.result.items (λ s. s.source)) ∙ ap length c.numbered.ensures.sources in
    let number : length told ≡ c.len-in-Err-open_files.result =
    omega (arith, as_many, c.len-in-Err-open_files.ensures, sources.ok.0) in
    let before = done_with (dump_told refused.result.dump) refused.result.status refused.result.detail
    refused.result.ends.items refused.result.journal.items refused.result.held refused.result.pool
    (opened_told tells refused.result.sources.items) in
    unopened_all (λ w. (g.dyn-1.0.entry w.vtable).1.wire_told w.value) (run_task_of c.args.words.now) job
    (g.H.Host.host_told c.args.host.now) (g.H.Host.host_told c.open_files.new.host)
    (g.H.Host.host_told refused.new.host)
    c.args.wires.items refused.result.wires.items before told accepted (record {
      fails = subst (λ ss. FailsToOpen job.names (g.H.Host.host_told c.args.host.now)
          (g.H.Host.host_told c.open_files.new.host) ss) (sym numbers.told_are)
          (subst (λ files. FailsToOpen (map (λ (file : Bor (List ℕ)). file.now) files)
          (g.H.Host.host_told c.args.host.now) (g.H.Host.host_told c.open_files.new.host) (map tells sources.items))
          c.as_slice.ensures.value c.in-Err-open_files.ensures.failed);
      refused = subst (λ n. RunRefused (OpenFault n)
          (outside (g.H.Host.host_told c.open_files.new.host) c.args.wires.items
          (λ w. (g.dyn-1.0.entry w.vtable).1.wire_told w.value))
          (outside (g.H.Host.host_told refused.new.host) refused.result.wires.items
          (λ w. (g.dyn-1.0.entry w.vtable).1.wire_told w.value)) before) (sym number)
          (refused_with _ _ _ _ _ _ _ _ _ _ _ refused.ensures.dump refused.ensures.does);
      files_are = numbers.files ∙ ap (range_with_len 0) (sym as_many);
    })

pub serve_sources-requires-clause-unread : goal.serve_sources-requires-clause-unread
serve_sources-requires-clause-unread g c =
    let tells = source_told g.H.In.Source.name g.H.In.Source.whole g.H.In.Source.given g.H.In.Source.ended
    g.H.In.Source.read_faults in
    λ _ _. none_given tells c.in-Ok.sources.items c.in-Ok.ensures.opened.unread

pub numbered-requires-in-Ok-serve_sources : goal.numbered-requires-in-Ok-serve_sources
numbered-requires-in-Ok-serve_sources g c =
    let sized = subst (λ o. IfSome o (λ t. HasRunSizes (length t.files.items) t.sizes)) c.in-Ok-Some.field-0-is
    c.in-Ok-Some.ensures.sized in
    let sources = c.in-Ok.sources in
    let tells = source_told g.H.In.Source.name g.H.In.Source.whole g.H.In.Source.given g.H.In.Source.ended
    g.H.In.Source.read_faults in
    let count : length sources.items ≡ length c.in-Ok-Some.task.files.items =
    sym (length-map sources.items tells) ∙ as_many_sources _ _ _ c.in-Ok.ensures.opened.of_files
    ∙ length-map c.as_slice.result.now (λ (file : Bor (List ℕ)). file.now) ∙ ap length c.as_slice.ensures.value in
    let back = c.in-Ok-serve_sources.ensures.sources in
    record {
      room = (c.in-Ok-Ok-Ok.ensures'.items, omega (arith, back, count, c.in-Ok-Ok-Ok.ensures'.capacity));
      few = omega (arith, back, count, sized.count_is);
    }

pub numbered-requires-in-Err-serve_sources-clause-room : goal.numbered-requires-in-Err-serve_sources-clause-room
numbered-requires-in-Err-serve_sources-clause-room g c =
    let sources = c.in-Ok.sources in
    let tells = source_told g.H.In.Source.name g.H.In.Source.whole g.H.In.Source.given g.H.In.Source.ended
    g.H.In.Source.read_faults in
    let count : length sources.items ≡ length c.in-Ok-Some.task.files.items =
    sym (length-map sources.items tells) ∙ as_many_sources _ _ _ c.in-Ok.ensures.opened.of_files
    ∙ length-map c.as_slice.result.now (λ (file : Bor (List ℕ)). file.now) ∙ ap length c.as_slice.ensures.value in
    let back = ap length c.in-Err-serve_sources.ensures.back.0 in
    (c.in-Ok-Ok-Ok.ensures'.items, omega (arith, back, count, c.in-Ok-Ok-Ok.ensures'.capacity))

pub report-requires-clause-few : goal.report-requires-clause-few
report-requires-clause-few g c =
    let sized = subst (λ o. IfSome o (λ t. HasRunSizes (length t.files.items) t.sizes)) c.in-Ok-Some.field-0-is
    c.in-Ok-Some.ensures.sized in
    let sources = c.in-Ok.sources in
    let tells = source_told g.H.In.Source.name g.H.In.Source.whole g.H.In.Source.given g.H.In.Source.ended
    g.H.In.Source.read_faults in
    let count : length sources.items ≡ length c.in-Ok-Some.task.files.items =
    sym (length-map sources.items tells) ∙ as_many_sources _ _ _ c.in-Ok.ensures.opened.of_files
    ∙ length-map c.as_slice.result.now (λ (file : Bor (List ℕ)). file.now) ∙ ap length c.as_slice.ensures.value in
    omega (
      arith,
      ap length c.as_slice-in-Ok-serve_sources.ensures,
      c.in-Ok-serve_sources.ensures.ends,
      count,
      sized.count_is.1,
    )

pub returns-in-Ok-serve_sources : goal.returns-in-Ok-serve_sources
returns-in-Ok-serve_sources g c =
    let task = c.in-Ok-Some.task in
    let job = shown_task task in
    let ran = c.in-Ok-serve_sources.ran in
    let said = c.in-Ok-serve_sources.ensures in
    let sources = c.in-Ok.sources in
    let tells = source_told g.H.In.Source.name g.H.In.Source.whole g.H.In.Source.given g.H.In.Source.ended
    g.H.In.Source.read_faults in
    let host = g.H.Host.host_told c.args.host.now in
    let mid = g.H.Host.host_told c.open_files.new.host in
    let now = g.H.Host.host_told c.report.new.host in
    let numbers = are_numbered tells c.numbered-in-Ok-serve_sources.result.items ran.sources.items
    c.numbered-in-Ok-serve_sources.ensures.files c.numbered-in-Ok-serve_sources.ensures.sources in
    let told = opened_told tells c.numbered-in-Ok-serve_sources.result.items in
    let sized = subst (λ o. IfSome o (λ t. HasRunSizes (length t.files.items) t.sizes)) c.in-Ok-Some.field-0-is
    c.in-Ok-Some.ensures.sized in
    let count : length job.names ≡ length task.files.items = length-map task.files.items
    (λ (file : Bor (List ℕ)). file.now) in
    let accepted : IsTask (run_task_of c.args.words.now) job c.args.wires.items = record {
      task_is = sym c.in-Ok-Some.ensures.value ∙ ap (option_map shown_task) c.in-Ok-Some.field-0-is;
      some_names = omega (arith, count, sized.count_is);
      some_wires = omega (arith, c.if-len-wires.false, c.len.ensures, c.wires.ensures);
    } in
    let opened : AreOpened job.names host mid (map tells sources.items) =
    subst (λ files. AreOpened (map (λ (file : Bor (List ℕ)). file.now) files) host mid (map tells sources.items))
    c.as_slice.ensures.value c.in-Ok.ensures.opened in
    let as_many : length sources.items ≡ length job.names = sym (length-map sources.items tells)
    ∙ as_many_sources _ _ _ opened.of_files in
    let dump = dump_told ran.dump in
    let line = dump_line_of task.sizes.dump dump in
    let reported : Reported mid now c.report.result task.journal (histories ran.journal.items) ran.ends.items line
    c.held-held.result =
    subst (λ l. Reported mid now c.report.result task.journal (histories ran.journal.items) ran.ends.items l
    c.held-held.result) c.dump_line.ensures
    (subst (λ ends. Reported mid now c.report.result task.journal (histories ran.journal.items) ends c.dump_line.result
    c.held-held.result)
    c.as_slice-in-Ok-serve_sources.ensures (record {
      said = c.report.ensures.said;
      statuses = c.report.ensures.statuses;
      by_end = c.report.ensures.by_end;
      failed = c.report.ensures.failed;
      untaken = c.report.ensures.untaken;
    })) in
    ran_all (λ w. (g.dyn-1.0.entry w.vtable).1.wire_told w.value) (run_task_of c.args.words.now) job
    host now c.args.wires.items ran.wires.items
    (done_with dump c.report.result Nothing ran.ends.items ran.journal.items c.held-held.result (Some ran.pool) told)
    accepted
    (record {
      detail_is = refl;
      between = mid;
      opened = opened.host;
      files = c.report.ensures.files;
      files_are = numbers.files ∙ ap (range_with_len 0) (said.sources ∙ as_many);
      of_files = come_back tells job.names host.holds sources.items ran.sources.items (sources_of told) opened.of_files
          numbers.told_are c.numbered-in-Ok-serve_sources.ensures.fronts said.names said.wholes;
      pool = ran.pool;
      pool_is = refl;
      held = c.held-held.ensures;
      run = subst (λ n. IsDumpingRun (pool_sizes n task.sizes) task.sizes.threshold (map (λ t. t.given)
          (sources_of told))
          (map (λ t. t.ended) (sources_of told)) ran.ends.items (histories ran.journal.items) ran.pool
          task.sizes.dump task.sizes.mtu dump c.args.wires.items ran.wires.items
          (λ w. (g.dyn-1.0.entry w.vtable).1.wire_told w.value)) as_many
          (subst (λ gs. IsDumpingRun (pool_sizes (length sources.items) task.sizes) task.sizes.threshold gs
          (map (λ t. t.ended) (sources_of told)) ran.ends.items (histories ran.journal.items) ran.pool
          task.sizes.dump task.sizes.mtu dump c.args.wires.items ran.wires.items (λ w. (g.dyn-1.0.entry
          w.vtable).1.wire_told w.value))
          (sym (field_of tells (λ t. t.given) (sources_of told) ran.sources.items numbers.told_are))
          (subst (λ es. IsDumpingRun (pool_sizes (length sources.items) task.sizes) task.sizes.threshold
          (map (λ s. g.H.In.Source.given s) ran.sources.items) es ran.ends.items (histories ran.journal.items) ran.pool
          task.sizes.dump task.sizes.mtu dump c.args.wires.items ran.wires.items (λ w. (g.dyn-1.0.entry
          w.vtable).1.wire_told w.value))
          (sym (field_of tells (λ t. t.ended) (sources_of told) ran.sources.items numbers.told_are)) said.run));
      shards = length-map ran.journal.items (λ history. history.items) ∙ said.shards;
      reads = subst (AreCountsOf (ways ran.ends.items))
          (sym (field_of tells (λ t. t.faults) (sources_of told) ran.sources.items numbers.told_are))
          (counts_from ran.ends.items (map tells sources.items) _ opened.unread
          (subst (λ ns. AreReads ran.ends.items ns (map (λ s. g.H.In.Source.read_faults s) ran.sources.items))
          (sym (field_of tells (λ t. t.faults) (map tells sources.items) sources.items refl)) said.reads));
      to_the_end = All-map (λ (way : End). way ≢ Left) (λ (end : SessionEnd). end.end) ran.ends.items said.to_the_end;
      report = record {
        said = says_since _ _ _ _ opened.host.said opened.host.say_faults reported.said;
        statuses = reported.statuses;
        by_end = λ five six. let so = reported.by_end five six in (so.0, so.1, so.2 ∙ opened.host.say_faults);
        failed = λ five.
            let why = reported.failed five in (
              why.0,
              subst (λ n. (list_any (λ (failed : Bool). failed) (lines_failed ran.ends.items line) ≡ true)
                  ⊎ Rose n now.say_faults) opened.host.say_faults why.1,
            );
        untaken = reported.untaken;
      };
    })

pub returns : goal.returns
returns g c =
    let task = c.in-Ok-Some.task in
    let job = shown_task task in
    let refused = c.refuse-outcome-in-Err-serve_sources in
    let sources = c.in-Ok.sources in
    let back = c.in-Err-serve_sources.sources in
    let tells = source_told g.H.In.Source.name g.H.In.Source.whole g.H.In.Source.given g.H.In.Source.ended
    g.H.In.Source.read_faults in
    let sized = subst (λ o. IfSome o (λ t. HasRunSizes (length t.files.items) t.sizes)) c.in-Ok-Some.field-0-is
    c.in-Ok-Some.ensures.sized in
    let count : length job.names ≡ length task.files.items = length-map task.files.items
    (λ (file : Bor (List ℕ)). file.now) in
    let accepted : IsTask (run_task_of c.args.words.now) job c.args.wires.items = record {
      task_is = sym c.in-Ok-Some.ensures.value ∙ ap (option_map shown_task) c.in-Ok-Some.field-0-is;
      some_names = omega (arith, count, sized.count_is);
      some_wires = omega (arith, c.if-len-wires.false, c.len.ensures, c.wires.ensures);
    } in
    let host = g.H.Host.host_told c.args.host.now in
    let mid = g.H.Host.host_told c.open_files.new.host in
    let opened : AreOpened job.names host mid (map tells sources.items) =
    subst (λ files. AreOpened (map (λ (file : Bor (List ℕ)). file.now) files) host mid (map tells sources.items))
    c.as_slice.ensures.value c.in-Ok.ensures.opened in
    let as_many : length sources.items ≡ length job.names = sym (length-map sources.items tells)
    ∙ as_many_sources _ _ _ opened.of_files in
    let numbers = are_numbered tells c.numbered-in-Err-serve_sources.result.items back.items
    c.numbered-in-Err-serve_sources.ensures.files c.numbered-in-Err-serve_sources.ensures.sources in
    let told = opened_told tells c.numbered-in-Err-serve_sources.result.items in
    let before = done_with (dump_told refused.result.dump) refused.result.status refused.result.detail
    refused.result.ends.items refused.result.journal.items refused.result.held refused.result.pool
    (opened_told tells refused.result.sources.items) in
    unserved_all (λ w. (g.dyn-1.0.entry w.vtable).1.wire_told w.value) (run_task_of c.args.words.now) job
    host mid (g.H.Host.host_told refused.new.host)
    c.args.wires.items refused.result.wires.items before told accepted (record {
      opened = subst (AreOpened job.names host mid)
          (ap (map tells) (sym c.in-Err-serve_sources.ensures.back.0) ∙ sym numbers.told_are) opened;
      refused = record {
        status = refused.ensures.does.status;
        detail = refused.ensures.does.detail;
        ends = refused.ensures.does.ends;
        journal = refused.ensures.does.journal;
        held = refused.ensures.does.held;
        pool = refused.ensures.does.pool;
        dump = refused.ensures.dump;
        sources = refused.ensures.does.sources;
        wires = refused.ensures.does.wires ∙ c.in-Err-serve_sources.ensures.back.1;
        said = refused.ensures.does.said;
        files = refused.ensures.does.files;
      };
      files_are = numbers.files ∙ ap (λ ss. range_with_len 0 (length ss)) c.in-Err-serve_sources.ensures.back.0
          ∙ ap (range_with_len 0) as_many;
    })
