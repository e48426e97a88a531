use Rattle.std.proofs.Common.{◌≡◌, ◌≢◌, List, ℕ, Some, None, IfSome, [], ◌∷◌, length, map, arith, refl, sym, ap, ◌∙◌}
use Rattle.std.proofs.Common.{◌<◌, subst, vec_len}
use Rattle.std.proofs.lemmas.Bool.{eqb-false, eqb-true}
use Rattle.std.specs.Option.{option_map}
use Rattle.command_line.specs.Join.{AreJoinNumbers, join_of, shown_join}
use Rattle.command_line.specs.Task.{word_texts}
use Rattle.flake_run.specs.Joined.{IsUnjoinable, Joined}
use Rattle.flake_run.specs.Opening.{AreOpened, IsUnopened}
use Rattle.flake_run.specs.Outcome.{IsUntouched, done, opened_told, source_told}
use Rattle.flake_run.specs.Outside.{outside}
use Rattle.flake_run.proofs.JoinedAll.{join_opened, join_refused, join_unopened, join_wanting, opened_first}
use Rattle.flake_run.proofs.JoinedAll.{with_sources}
use Rattle.flake_run.proofs.OpenedFiles.{at_each}
use Rattle.flake_run.proofs.join.join.Goals as goal

pub returns-in-Ok-None-clause-does : goal.returns-in-Ok-None-clause-does
returns-in-Ok-None-clause-does g c =
    let before = outside (g.H.Host.host_told c.args.host.now) c.args.wires.items
    (λ w. (g.dyn-1.0.entry w.vtable).1.wire_told w.value) in
    let none : join_of (word_texts c.args.words.now) ≡ None =
    sym c.in-Ok-None.ensures.value ∙ ap (option_map shown_join) c.in-Ok-None.field-0-is in
    join_refused _ _ _ _ (subst (λ t. IfSome t (λ job. AreJoinNumbers job.mtu job.calls)) (sym none) tt)
    (subst (λ t. IsUnjoinable t before) (sym none) tt) c.refuse.ensures.does

pub returns-in-Err-clause-does : goal.returns-in-Err-clause-does
returns-in-Err-clause-does g c = join_wanting _ _ _ _ c.refuse-in-Err.ensures.does

pub returns-in_default-clause-does : goal.returns-in_default-clause-does
returns-in_default-clause-does g c = join_wanting _ _ _ _ c.refuse-in_default.ensures.does

pub returns-then-is_empty-clause-does : goal.returns-then-is_empty-clause-does
returns-then-is_empty-clause-does g c =
    let task = c.in-Ok-Some.task in
    let job = shown_join task in
    let before = outside (g.H.Host.host_told c.args.host.now) c.args.wires.items
    (λ w. (g.dyn-1.0.entry w.vtable).1.wire_told w.value) in
    let task_is : join_of (word_texts c.args.words.now) ≡ Some job =
    sym c.in-Ok-Some.ensures.value ∙ ap (option_map shown_join) c.in-Ok-Some.field-0-is in
    let numbers : AreJoinNumbers job.mtu job.calls =
    subst (λ o. IfSome o (λ t. AreJoinNumbers t.mtu t.calls)) c.in-Ok-Some.field-0-is c.in-Ok-Some.ensures.allowed in
    let none : length c.args.wires.items ≡ 0 =
    let empty = eqb-true (vec_len c.args.wires) 0 (sym c.is_empty.ensures ∙ c.if-is_empty.true) in
    omega (arith, empty, c.args.wires.ok.0) in
    join_refused _ _ _ _ (subst (λ t. IfSome t (λ job. AreJoinNumbers job.mtu job.calls)) (sym task_is) numbers)
    (subst (λ t. IsUnjoinable t before) (sym task_is) none) c.refuse-then-is_empty.ensures.does

pub returns-in-Ok-open-clause-does : goal.returns-in-Ok-open-clause-does
returns-in-Ok-open-clause-does g c =
    let task = c.in-Ok-Some.task in
    let job = shown_join task in
    let host = g.H.Host.host_told c.args.host.now in
    let mid = g.H.Host.host_told c.open.new.self in
    let now = g.H.Host.host_told c.join_opened.new.host in
    let so = c.join_opened.result in
    let source = c.in-Ok-open.source in
    let said = c.in-Ok-open.ensures in
    let tells = source_told g.H.In.Source.name g.H.In.Source.whole g.H.In.Source.given g.H.In.Source.ended
    g.H.In.Source.read_faults in
    let told = done so.status so.detail so.ends.items so.journal.items so.held so.pool
    (opened_told tells so.sources.items) in
    let task_is : join_of (word_texts c.args.words.now) ≡ Some job =
    sym c.in-Ok-Some.ensures.value ∙ ap (option_map shown_join) c.in-Ok-Some.field-0-is in
    let numbers : AreJoinNumbers job.mtu job.calls =
    subst (λ o. IfSome o (λ t. AreJoinNumbers t.mtu t.calls)) c.in-Ok-Some.field-0-is c.in-Ok-Some.ensures.allowed in
    let some : 0 < length c.args.wires.items =
    let filled = eqb-false (vec_len c.args.wires) 0 (sym c.is_empty.ensures ∙ c.if-is_empty.false) in
    omega (arith, filled, c.args.wires.ok.0) in
    let untouched : IsUntouched (tells source) =
    record { given = said.unread; ended = said.open; faults = said.fresh } in
    let opened = opened_first job.file host mid (tells source) said.named said.whole untouched c.open.ensures.others
    c.open.ensures.opens said.same c.open.ensures.said c.open.ensures.say_faults in
    subst (λ t. Joined t (outside host c.args.wires.items (λ w. (g.dyn-1.0.entry w.vtable).1.wire_told w.value))
    (outside now so.wires.items (λ w. (g.dyn-1.0.entry w.vtable).1.wire_told w.value)) told) (sym task_is)
    (join_opened (λ w. (g.dyn-1.0.entry w.vtable).1.wire_told w.value) job host mid now c.args.wires.items
    so.wires.items numbers some (tells source) opened told c.join_opened.ensures.does)

pub returns-in-Err-open-clause-does : goal.returns-in-Err-open-clause-does
returns-in-Err-open-clause-does g c =
    let task = c.in-Ok-Some.task in
    let job = shown_join task in
    let host = g.H.Host.host_told c.args.host.now in
    let mid = g.H.Host.host_told c.open.new.self in
    let now = g.H.Host.host_told c.conclude-outcome.new.host in
    let so = c.conclude-outcome.result in
    let task_is : join_of (word_texts c.args.words.now) ≡ Some job =
    sym c.in-Ok-Some.ensures.value ∙ ap (option_map shown_join) c.in-Ok-Some.field-0-is in
    let numbers : AreJoinNumbers job.mtu job.calls =
    subst (λ o. IfSome o (λ t. AreJoinNumbers t.mtu t.calls)) c.in-Ok-Some.field-0-is c.in-Ok-Some.ensures.allowed in
    let some : 0 < length c.args.wires.items =
    let filled = eqb-false (vec_len c.args.wires) 0 (sym c.is_empty.ensures ∙ c.if-is_empty.false) in
    omega (arith, filled, c.args.wires.ok.0) in
    let tells = source_told g.H.In.Source.name g.H.In.Source.whole g.H.In.Source.given g.H.In.Source.ended
    g.H.In.Source.read_faults in
    let told = done so.status so.detail so.ends.items so.journal.items so.held so.pool
    (opened_told tells c.in-Ok.places.items) in
    let none = ap (opened_told tells) c.in-Ok.ensures.items in
    let fails : IsUnopened job.file host mid = record {
      holds = at_each job.file _ _ c.open.ensures.others c.in-Err-open.ensures.failed;
      opens = c.open.ensures.opens;
      rose = c.in-Err-open.ensures.cause.failed;
      said = c.open.ensures.said;
      say_faults = c.open.ensures.say_faults;
    } in
    subst (λ t. Joined t (outside host c.args.wires.items (λ w. (g.dyn-1.0.entry w.vtable).1.wire_told w.value))
    (outside now so.wires.items (λ w. (g.dyn-1.0.entry w.vtable).1.wire_told w.value)) told) (sym task_is)
    (join_unopened (λ w. (g.dyn-1.0.entry w.vtable).1.wire_told w.value) job host mid now c.args.wires.items
    so.wires.items numbers some told none fails c.conclude-outcome.ensures.files
    (with_sources _ (outside mid c.args.wires.items (λ w. (g.dyn-1.0.entry w.vtable).1.wire_told w.value))
    (outside now so.wires.items (λ w. (g.dyn-1.0.entry w.vtable).1.wire_told w.value))
    (done so.status so.detail so.ends.items so.journal.items so.held so.pool []) (opened_told tells
    c.in-Ok.places.items) c.conclude-outcome.ensures.concluded))
