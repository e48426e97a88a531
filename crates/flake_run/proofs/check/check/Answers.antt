use Rattle.std.proofs.Common.{◌≡◌, ◌≤◌, [], Some, IfSome, length, map, arith, sym, ap, ◌∙◌, subst}
use Rattle.std.specs.List.{AllByRecursion}
use Rattle.std.specs.Option.{option_map}
use Rattle.std.proofs.lemmas.List.{length-map}
use Rattle.check_files.specs.Named.{named}
use Rattle.command_line.specs.Check.{check_of, shown_check}
use Rattle.command_line.specs.Task.{word_texts}
use Rattle.flake_run.specs.Checked.{Checked, ConcludesBy}
use Rattle.flake_run.specs.Outcome.{GaveFront, done, opened_told, source_told, sources_of}
use Rattle.flake_run.specs.Outside.{outside}
use Rattle.flake_run.proofs.CheckedAll.{checked_all, refused_memory, refused_words}
use Rattle.flake_run.proofs.CheckedFiles.{as_many_files}
use Rattle.flake_run.proofs.check.check.Goals as goal

pub returns-in-Ok-None-clause-does : goal.returns-in-Ok-None-clause-does
returns-in-Ok-None-clause-does g c =
    refused_words _ _ _ _ (sym c.in-Ok-None.ensures.value ∙ ap (option_map shown_check) c.in-Ok-None.field-0-is)
    c.refuse.ensures.does

pub returns-in-Err-clause-does : goal.returns-in-Err-clause-does
returns-in-Err-clause-does g c = refused_memory _ _ _ _ c.refuse-in-Err.ensures.does

pub returns-in_default-clause-does : goal.returns-in_default-clause-does
returns-in_default-clause-does g c = refused_memory _ _ _ _ c.refuse-in_default.ensures.does

pub opened_of-requires-clause-room : goal.opened_of-requires-clause-room
opened_of-requires-clause-room g c =
    let files = c.check_named-answer.result.1.items in
    let count : length (map named c.as_slice.result.now) ≡ length c.in-Ok-Some.task.files.items =
    length-map c.as_slice.result.now named ∙ ap length c.as_slice.ensures.value in
    let said = c.check_named-answer.ensures in
    let few = as_many_files (λ s. g.H.In.Source.name s) c.check_named-answer.result.0 (map named c.as_slice.result.now)
    (g.H.Host.host_told c.args.host.now) (g.H.Host.host_told c.check_named-answer.new.host) files _ _ _ said.verdict
    said.err in
    (c.in-Ok-Ok.ensures'.items, omega (arith, few, count, c.in-Ok-Ok.ensures'.capacity))

pub opened_of-requires-clause-few : goal.opened_of-requires-clause-few
opened_of-requires-clause-few g c =
    let files = c.check_named-answer.result.1.items in
    let count : length (map named c.as_slice.result.now) ≡ length c.in-Ok-Some.task.files.items =
    length-map c.as_slice.result.now named ∙ ap length c.as_slice.ensures.value in
    let said = c.check_named-answer.ensures in
    let few = as_many_files (λ s. g.H.In.Source.name s) c.check_named-answer.result.0 (map named c.as_slice.result.now)
    (g.H.Host.host_told c.args.host.now) (g.H.Host.host_told c.check_named-answer.new.host) files _ _ _ said.verdict
    said.err in
    let most = subst (λ o. IfSome o (λ t. length t.files.items ≤ 33)) c.in-Ok-Some.field-0-is c.in-Ok-Some.ensures.few
    in
    omega (arith, few, count, most)

pub returns-clause-does : goal.returns-clause-does
returns-clause-does g c =
    let task = c.in-Ok-Some.task in
    let files = c.check_named-answer.result.1.items in
    let words : map named c.as_slice.result.now ≡ shown_check task = ap (map named) c.as_slice.ensures.value in
    let task_is : check_of (word_texts c.args.words.now) ≡ Some (map named c.as_slice.result.now) =
    sym c.in-Ok-Some.ensures.value ∙ ap (option_map shown_check) c.in-Ok-Some.field-0-is ∙ ap Some (sym words) in
    let said = c.check_named-answer.ensures in
    let so = c.conclude-outcome in
    let tells = source_told g.H.In.Source.name g.H.In.Source.whole g.H.In.Source.given g.H.In.Source.ended
    g.H.In.Source.read_faults in
    let host = g.H.Host.host_told c.args.host.now in
    let mid = g.H.Host.host_told c.check_named-answer.new.host in
    let now = g.H.Host.host_told so.new.host in
    let before = done so.result.status so.result.detail so.result.ends.items so.result.journal.items so.result.held
    so.result.pool [] in
    let concluded = subst
    (λ finding. ConcludesBy finding
    (outside mid c.args.wires.items (λ w. (g.dyn-1.0.entry w.vtable).1.wire_told w.value))
    (outside now so.result.wires.items (λ w. (g.dyn-1.0.entry w.vtable).1.wire_told w.value)) before)
    c.found_by.ensures so.ensures.concluded in
    subst (λ opened. Checked (check_of (word_texts c.args.words.now))
    (outside host c.args.wires.items (λ w. (g.dyn-1.0.entry w.vtable).1.wire_told w.value))
    (outside now so.result.wires.items (λ w. (g.dyn-1.0.entry w.vtable).1.wire_told w.value))
    (done so.result.status so.result.detail so.result.ends.items so.result.journal.items so.result.held so.result.pool
    (opened_told tells opened))) (sym c.opened_of.ensures.items)
    (checked_all tells (λ w. (g.dyn-1.0.entry w.vtable).1.wire_told w.value)
    (check_of (word_texts c.args.words.now)) (map named c.as_slice.result.now) c.check_named-answer.result.0
    host mid now c.args.wires.items so.result.wires.items before files
    task_is (subst (λ opened. AllByRecursion GaveFront (sources_of (opened_told tells opened)))
    c.opened_of.ensures.items c.opened_of.ensures.fronts) said.verdict said.none_failed said.err said.failed said.said
    said.say_faults so.ensures.files concluded)
