use Rattle.std.proofs.Common.{◌≡◌, Bor, List, ℕ, Some, None, [], ◌∷◌, length, map, arith, refl, sym, ap, ◌∙◌, subst}
use Rattle.std.specs.List.{AllByRecursion, range_with_len}
use Rattle.std.specs.Option.{option_map}
use Rattle.std.proofs.lemmas.List.{length-map}
use Rattle.command_line.specs.Drive.{shown_drive}
use Rattle.flake_run.specs.Driven.{CameOf}
use Rattle.flake_run.specs.DriveTask.{IsUndrivable, drive_job, drive_job_of, shown_job}
use Rattle.flake_run.specs.Opening.{AreOpened, FailsToOpen}
use Rattle.flake_run.specs.Outcome.{IsUntouched, done, opened_told, source_told}
use Rattle.flake_run.specs.Outside.{outside}
use Rattle.flake_run.specs.Task.{run_sizes}
use Rattle.flake_run.proofs.CameTo.{behind_one, split_first}
use Rattle.flake_run.proofs.DroveAll.{drove_opened, drove_refused, drove_unopened_by, drove_wanting}
use Rattle.flake_run.proofs.Numbers.{are_numbered, field_of}
use Rattle.flake_run.proofs.drive.drive.Goals as goal

pub returns-in-Ok-None-clause-does : goal.returns-in-Ok-None-clause-does
returns-in-Ok-None-clause-does g c =
    let before = outside (g.H.Host.host_told c.args.host.now) c.args.wires.items
    (λ w. (g.dyn-1.0.entry w.vtable).1.wire_told w.value) in
    drove_refused _ _ _ _
    (subst (λ t. IsUndrivable t before)
    (ap (option_map drive_job)
    (ap (option_map shown_drive) (sym c.in-Ok-None.field-0-is) ∙ c.in-Ok-None.ensures.value)) tt) c.refuse.ensures.does

pub returns-in-Err-clause-does : goal.returns-in-Err-clause-does
returns-in-Err-clause-does g c = drove_wanting _ _ _ _ c.refuse-in-Err.ensures.does

pub returns-then-len-count-clause-does : goal.returns-then-len-count-clause-does
returns-then-len-count-clause-does g c =
    let task = c.in-Ok-Some.task in
    let job = shown_job task in
    let before = outside (g.H.Host.host_told c.args.host.now) c.args.wires.items
    (λ w. (g.dyn-1.0.entry w.vtable).1.wire_told w.value) in
    let task_is : drive_job_of c.args.words.now ≡ Some job = ap (option_map drive_job)
    (sym c.in-Ok-Some.ensures.value ∙ ap (option_map shown_drive) c.in-Ok-Some.field-0-is) in
    let count : length job.names ≡ length task.files.items = length-map task.files.items
    (λ (file : Bor (List ℕ)). file.now) in
    drove_refused _ _ _ _ (subst (λ t. IsUndrivable t before) (sym task_is)
    (omega (
      arith,
      c.if-len-count.true,
      c.len.ensures,
      c.len-count.ensures,
      count,
      behind_one job.names,
      c.args.wires.ok.0,
      task.files.ok.0,
    ))) c.refuse-then-len-count.ensures.does

pub returns-in_default-clause-does : goal.returns-in_default-clause-does
returns-in_default-clause-does g c = drove_wanting _ _ _ _ c.refuse-in_default.ensures.does

pub drive_opened-requires-clause-unread : goal.drive_opened-requires-clause-unread
drive_opened-requires-clause-unread g c =
    let sources = c.in-Ok.sources in
    let tells = source_told g.H.In.Source.name g.H.In.Source.whole g.H.In.Source.given g.H.In.Source.ended
    g.H.In.Source.read_faults in
    let split : sources.items ≡ c.remove-schedule.result ∷ c.remove-schedule.new.self.items =
    split_first sources.items c.remove-schedule.new.self.items c.remove-schedule.result
    (omega (arith, c.remove-schedule.ensures.len, sources.ok.0)) c.remove-schedule.ensures.value
    c.remove-schedule.ensures.items in
    λ _ _. subst (λ ss. AllByRecursion IsUntouched (map tells ss)) split c.in-Ok.ensures.opened.unread

pub returns-in-Ok-clause-does : goal.returns-in-Ok-clause-does
returns-in-Ok-clause-does g c =
    let task = c.in-Ok-Some.task in
    let job = shown_job task in
    let host = g.H.Host.host_told c.args.host.now in
    let mid = g.H.Host.host_told c.open_files.new.host in
    let now = g.H.Host.host_told c.drive_opened.new.host in
    let so = c.drive_opened.result in
    let sources = c.in-Ok.sources in
    let tells = source_told g.H.In.Source.name g.H.In.Source.whole g.H.In.Source.given g.H.In.Source.ended
    g.H.In.Source.read_faults in
    let told = done so.status so.detail so.ends.items so.journal.items so.held so.pool
    (opened_told tells so.sources.items) in
    let task_is : drive_job_of c.args.words.now ≡ Some job = ap (option_map drive_job)
    (sym c.in-Ok-Some.ensures.value ∙ ap (option_map shown_drive) c.in-Ok-Some.field-0-is) in
    let count : length job.names ≡ length task.files.items = length-map task.files.items
    (λ (file : Bor (List ℕ)). file.now) in
    let split : sources.items ≡ c.remove-schedule.result ∷ c.remove-schedule.new.self.items =
    split_first sources.items c.remove-schedule.new.self.items c.remove-schedule.result
    (omega (arith, c.remove-schedule.ensures.len, sources.ok.0)) c.remove-schedule.ensures.value
    c.remove-schedule.ensures.items in
    let opened : AreOpened job.names host mid (map tells sources.items) =
    subst (λ files. AreOpened (map (λ (file : Bor (List ℕ)). file.now) files) host mid (map tells sources.items))
    c.as_slice.ensures.value c.in-Ok.ensures.opened in
    let behind = c.remove-schedule.new.self.items in
    drove_opened (λ w. (g.dyn-1.0.entry w.vtable).1.wire_told w.value) (drive_job_of c.args.words.now) job host mid now
    c.args.wires.items so.wires.items
    (record {
      task_is = task_is;
      enough = omega (
        arith,
        c.if-len-count.false,
        c.len.ensures,
        c.len-count.ensures,
        count,
        behind_one job.names,
        c.args.wires.ok.0,
        task.files.ok.0,
      );
    })
    (map tells (c.remove-schedule.result ∷ behind)) told
    (subst (λ ss. AreOpened job.names host mid (map tells ss)) split opened)
    (subst (λ ns. CameOf (run_sizes None task.sizes) (g.H.In.Source.name c.remove-schedule.result ∷ ns)
    (map (λ t. t.whole) (map tells (c.remove-schedule.result ∷ behind)))
    (outside mid c.args.wires.items (λ w. (g.dyn-1.0.entry w.vtable).1.wire_told w.value))
    (outside now so.wires.items (λ w. (g.dyn-1.0.entry w.vtable).1.wire_told w.value)) told)
    (sym (field_of tells (λ t. t.name) (map tells behind) behind refl))
    (subst (λ ws. CameOf (run_sizes None task.sizes)
    (g.H.In.Source.name c.remove-schedule.result ∷ map (λ s. g.H.In.Source.name s) behind)
    (g.H.In.Source.whole c.remove-schedule.result ∷ ws)
    (outside mid c.args.wires.items (λ w. (g.dyn-1.0.entry w.vtable).1.wire_told w.value))
    (outside now so.wires.items (λ w. (g.dyn-1.0.entry w.vtable).1.wire_told w.value)) told)
    (sym (field_of tells (λ t. t.whole) (map tells behind) behind refl))
    (subst (λ sizes. CameOf sizes
    (g.H.In.Source.name c.remove-schedule.result ∷ map (λ s. g.H.In.Source.name s) behind)
    (g.H.In.Source.whole c.remove-schedule.result ∷ map (λ s. g.H.In.Source.whole s) behind)
    (outside mid c.args.wires.items (λ w. (g.dyn-1.0.entry w.vtable).1.wire_told w.value))
    (outside now so.wires.items (λ w. (g.dyn-1.0.entry w.vtable).1.wire_told w.value)) told)
    c.sizes_of-sizes.ensures c.drive_opened.ensures.does)))

pub returns-clause-does : goal.returns-clause-does
returns-clause-does g c =
    let task = c.in-Ok-Some.task in
    let job = shown_job task in
    let host = g.H.Host.host_told c.args.host.now in
    let mid = g.H.Host.host_told c.open_files.new.host in
    let now = g.H.Host.host_told c.conclude-outcome.new.host in
    let so = c.conclude-outcome.result in
    let sources = c.in-Err-open_files.sources in
    let tells = source_told g.H.In.Source.name g.H.In.Source.whole g.H.In.Source.given g.H.In.Source.ended
    g.H.In.Source.read_faults in
    let told = opened_told tells c.numbered.result.items in
    let task_is : drive_job_of c.args.words.now ≡ Some job = ap (option_map drive_job)
    (sym c.in-Ok-Some.ensures.value ∙ ap (option_map shown_drive) c.in-Ok-Some.field-0-is) in
    let count : length job.names ≡ length task.files.items = length-map task.files.items
    (λ (file : Bor (List ℕ)). file.now) in
    let numbers = are_numbered tells c.numbered.result.items sources.items c.numbered.ensures.files
    c.numbered.ensures.sources in
    let as_many : length told ≡ length sources.items =
    length-map c.numbered.result.items (λ one. record { file = one.file; source = tells one.source })
    ∙ sym (length-map c.numbered.result.items (λ s. s.source)) ∙ ap length c.numbered.ensures.sources in
    let fails : FailsToOpen job.names host mid (map tells sources.items) =
    subst (λ files. FailsToOpen (map (λ (file : Bor (List ℕ)). file.now) files) host mid (map tells sources.items))
    c.as_slice.ensures.value c.in-Err-open_files.ensures.failed in
    drove_unopened_by (λ w. (g.dyn-1.0.entry w.vtable).1.wire_told w.value) (drive_job_of c.args.words.now) job host mid
    now c.args.wires.items so.wires.items
    (record {
      task_is = task_is;
      enough = omega (
        arith,
        c.if-len-count.false,
        c.len.ensures,
        c.len-count.ensures,
        count,
        behind_one job.names,
        c.args.wires.ok.0,
        task.files.ok.0,
      );
    })
    c.len-in-Err-open_files.result (done so.status so.detail so.ends.items so.journal.items so.held so.pool [])
    told (subst (FailsToOpen job.names host mid) (sym numbers.told_are) fails)
    (omega (arith, c.len-in-Err-open_files.ensures, as_many, sources.ok.0)) c.conclude-outcome.ensures.files
    (numbers.files ∙ ap (range_with_len 0) (sym as_many)) c.conclude-outcome.ensures.concluded
