use Rattle.std.proofs.Common.{◌≡◌, inr, Some, IfSome, map, arith, refl, sym, ap, ◌∙◌, subst}
use Rattle.std.proofs.lemmas.List.{length-map}
use Rattle.serve_inputs.specs.Whole.{raised}
use Rattle.command_line.specs.Task.{word_texts}
use Rattle.command_line.specs.GenerateTask.{IsAllowedGenerated, generated_task_of}
use Rattle.flake_run.specs.declared.outcome.Detail.TheVariants.{Nothing}
use Rattle.flake_run.specs.Generated.{Generated, IsUngenerated, sum_of}
use Rattle.flake_run.specs.Outcome.{done, opened_told, source_told}
use Rattle.flake_run.specs.Outside.{outside}
use Rattle.flake_run.proofs.Requested.{Reported, answered_all, refused_all, refused_as, wanting_all}
use Rattle.flake_run.proofs.generated.generate.Goals as goal

pub returns-in-Err-clause-does : goal.returns-in-Err-clause-does
returns-in-Err-clause-does g c = wanting_all _ _ _ _ c.refuse-in-Err.ensures.does

pub returns-in_default-clause-does : goal.returns-in_default-clause-does
returns-in_default-clause-does g c = wanting_all _ _ _ _ c.refuse-in_default.ensures.does

pub returns-clause-does : goal.returns-clause-does
returns-clause-does g c =
    wanting_all _ _ _ _ (refused_as _ _ _ _ _ _ _ _ c.in-Err-Memory-default.ensures.back
    c.refuse-in-Err-Memory-default.ensures.does)

pub returns-in-Err-TooMuch-default-clause-does : goal.returns-in-Err-TooMuch-default-clause-does
returns-in-Err-TooMuch-default-clause-does g c =
    let before = outside (g.H.Host.host_told c.args.host.now) c.args.wires.items
    (λ w. (g.dyn-1.0.entry w.vtable).1.wire_told w.value) in
    let task_is : generated_task_of (word_texts c.args.words.now) ≡ Some c.in-Ok-Some.task =
    sym c.in-Ok-Some.ensures.value ∙ c.in-Ok-Some.field-0-is in
    refused_all _ _ _ _ (refused_as _ _ _ _ _ _ _ _ c.in-Err-TooMuch-default.ensures.back
    c.refuse-in-Err-TooMuch-default.ensures.does)
    (subst (λ t. IsUngenerated t before) (sym task_is)
    (inr (c.in-Err-TooMuch-default.ensures.too_much c.in-Err-TooMuch-default.field-0-0-is)))

pub returns-in-Ok-serve_requests-clause-does : goal.returns-in-Ok-serve_requests-clause-does
returns-in-Ok-serve_requests-clause-does g c =
    let task = c.in-Ok-Some.task in
    let ran = c.in-Ok-serve_requests.ran in
    let said = c.in-Ok-serve_requests.ensures in
    let host = g.H.Host.host_told c.args.host.now in
    let now = g.H.Host.host_told c.report_total.new.host in
    let task_is : generated_task_of (word_texts c.args.words.now) ≡ Some task = sym c.in-Ok-Some.ensures.value
    ∙ c.in-Ok-Some.field-0-is in
    let allowed : IsAllowedGenerated task = subst (λ o. IfSome o IsAllowedGenerated) c.in-Ok-Some.field-0-is
    c.in-Ok-Some.ensures.allowed in
    let bytes : c.sum_of-bytes.result ≡ raised 0 (sum_of ran.sent.items) = c.sum_of-bytes.ensures
    ∙ ap (λ ns. raised 0 (sum_of ns)) c.as_slice.ensures.value in
    let reported : Reported host now c.report_total.result ran.ends.items (raised 0 (sum_of ran.sent.items))
    c.held-held.result =
    subst (λ n. Reported host now c.report_total.result ran.ends.items n c.held-held.result) bytes
    (subst (λ ends. Reported host now c.report_total.result ends c.sum_of-bytes.result c.held-held.result)
    c.as_slice-in-Ok-serve_requests.ensures (record {
      said = c.report_total.ensures.said;
      by_end = c.report_total.ensures.by_end;
      failed = c.report_total.ensures.failed;
      statuses = c.report_total.ensures.statuses;
    })) in
    let tells = source_told g.H.In.Source.name g.H.In.Source.whole g.H.In.Source.given g.H.In.Source.ended
    g.H.In.Source.read_faults in
    let sources = opened_told tells c.new.result.items in
    let all = answered_all task (λ w. (g.dyn-1.0.entry w.vtable).1.wire_told w.value) host now c.args.wires.items
    ran.wires.items
    (done c.report_total.result Nothing ran.ends.items ran.journal.items c.held-held.result (Some ran.pool) sources)
    (record {
      detail_is = refl;
      sources = ap (opened_told tells) c.new.ensures.items;
      some = allowed.sessions.0;
      enough = omega (arith, c.if-len-from.false, c.len.ensures, c.from.ensures, c.args.wires.ok.0);
      fits = said.fits;
      givens = map (λ s. s.given) ran.sources.items;
      endeds = map (λ s. s.ended) ran.sources.items;
      shown = ran.sent.items;
      pool = ran.pool;
      pool_is = refl;
      held = c.held-held.ensures;
      run = said.run;
      shards = length-map ran.journal.items (λ history. history.items) ∙ said.shards;
      files = c.report_total.ensures.files;
      reported = reported;
    }) in
    subst (λ t. Generated t (outside host c.args.wires.items (λ w. (g.dyn-1.0.entry w.vtable).1.wire_told w.value))
    (outside now ran.wires.items (λ w. (g.dyn-1.0.entry w.vtable).1.wire_told w.value))
    (done c.report_total.result Nothing ran.ends.items ran.journal.items c.held-held.result (Some ran.pool) sources))
    (sym task_is) all
