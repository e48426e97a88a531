use Rattle.std.proofs.Common.{◌≡◌, length, map, arith, sym, ap, ◌∙◌, subst}
use Rattle.std.proofs.lemmas.List.{length-map}
use Rattle.flake_base.specs.Histories.{histories}
use Rattle.run_resources.specs.Opened.{pool_sizes}
use Rattle.flake_run.specs.Driven.{IsDrivenRun}
use Rattle.flake_run.specs.Schedule.{HasSchedule}
use Rattle.flake_run.proofs.driving.drive_by.Goals as goal

pub returns-in-Ok-drive_sources-clause-run : goal.returns-in-Ok-drive_sources-clause-run
returns-in-Ok-drive_sources-clause-run g c =
    let driven = c.in-Ok-drive_sources.driven in
    let asked = c.schedule_in.new.source in
    let givens = map (λ s. g.S.Source.given s) driven.sources.items in
    let count : length c.args.sources.items ≡ length givens =
    sym (length-map c.args.sources.items (λ s. g.S.Source.name s))
    ∙ ap length (sym c.in-Ok-drive_sources.ensures.names)
    ∙ length-map driven.sources.items (λ s. g.S.Source.name s)
    ∙ sym (length-map driven.sources.items (λ s. g.S.Source.given s)) in
    let number : c.len.result ≡ length givens = omega (arith, c.len.ensures, c.args.sources.ok.0, count) in
    record {
      schedule = c.in-Ok.lines.items;
      lines = subst (λ n. HasSchedule n (g.S.Source.given asked) (g.S.Source.ended asked) c.in-Ok.lines.items) number
          c.in-Ok.ensures.lines;
      run = subst (λ n. IsDrivenRun (pool_sizes n c.args.sizes.now) c.args.sizes.now.ring c.args.sizes.now.threshold
          c.in-Ok.lines.items driven.failed givens (map (λ s. g.S.Source.ended s) driven.sources.items)
          driven.ends.items (histories driven.journal.items)
          driven.pool c.args.wires.items driven.wires.items (λ w. (g.dyn-1.0.entry w.vtable).1.wire_told w.value)
          (g.H.Host.host_told c.args.host.now) (g.H.Host.host_told c.drive_sources.new.host)) count
          (subst (λ lines. IsDrivenRun (pool_sizes (length c.args.sources.items) c.args.sizes.now) c.args.sizes.now.ring
          c.args.sizes.now.threshold lines driven.failed givens (map (λ s. g.S.Source.ended s) driven.sources.items)
          driven.ends.items (histories driven.journal.items)
          driven.pool c.args.wires.items driven.wires.items (λ w. (g.dyn-1.0.entry w.vtable).1.wire_told w.value)
          (g.H.Host.host_told c.args.host.now) (g.H.Host.host_told c.drive_sources.new.host)) c.as_slice.ensures
          c.in-Ok-drive_sources.ensures.run);
    }
