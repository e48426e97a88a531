use Rattle.std.proofs.Common.{◌≡◌, ◌||◌, suc, [], ◌∷◌, Some, length, map, arith, refl, sym, ap, ◌∙◌, subst}
use Rattle.std.specs.List.{range_with_len}
use Rattle.std.proofs.lemmas.List.{length-map}
use Rattle.flake_base.specs.Histories.{histories}
use Rattle.session_serve.specs.Ran.{AreReads}
use Rattle.transcript_model.specs.Lines.{held_text}
use Rattle.drive_script.specs.Says.{PrintsText}
use Rattle.flake_run.specs.Causes.{AreCountsOf, highest_by}
use Rattle.flake_run.specs.Checked.{ConcludesBy}
use Rattle.flake_run.specs.Driven.{IsDrivenBy, some_put_failed, status_with}
use Rattle.flake_run.specs.Outcome.{done, opened_told, source_told, sources_of, ways}
use Rattle.flake_run.specs.Outside.{LeavesFiles, outside}
use Rattle.flake_run.specs.Schedule.{IsUndriven}
use Rattle.flake_run.specs.declared.outcome.Detail.TheVariants.{Nothing}
use Rattle.flake_run.proofs.CameTo.{came_driven, came_refused}
use Rattle.flake_run.proofs.Numbers.{are_numbered, field_of}
use Rattle.flake_run.proofs.Ran.{counts_from}
use Rattle.flake_run.proofs.Unread.{none_given}
use Rattle.flake_run.proofs.drive.drive_opened.Goals as goal

pub drive_by-requires-clause-asked : goal.drive_by-requires-clause-asked
drive_by-requires-clause-asked g c = λ _ _. c.requires.unread.0.given

pub drive_by-requires-clause-unread : goal.drive_by-requires-clause-unread
drive_by-requires-clause-unread g c =
    let tells = source_told g.H.In.Source.name g.H.In.Source.whole g.H.In.Source.given g.H.In.Source.ended
    g.H.In.Source.read_faults in
    λ _ _. none_given tells c.args.sources.items c.requires.unread.1

pub returns-in-Ok-clause-does : goal.returns-in-Ok-clause-does
returns-in-Ok-clause-does g c =
    let driven = c.in-Ok.driven in
    let said = c.in-Ok.ensures in
    let tells = source_told g.H.In.Source.name g.H.In.Source.whole g.H.In.Source.given g.H.In.Source.ended
    g.H.In.Source.read_faults in
    let host = g.H.Host.host_told c.args.host.now in
    let mid = g.H.Host.host_told c.drive_by.new.host in
    let now = g.H.Host.host_told c.say_held-failed.new.host in
    let back = c.drive_by.new.schedule in
    let rest = map tells driven.sources.items in
    let held = c.held-held.ensures in
    let failed = c.say_held-failed.result in
    let told = opened_told tells c.numbered_behind.result.items in
    let as_many : length driven.sources.items ≡ length c.args.sources.items =
    sym (length-map driven.sources.items (λ s. g.H.In.Source.name s)) ∙ ap length said.names
    ∙ length-map c.args.sources.items (λ s. g.H.In.Source.name s) in
    let numbers = are_numbered tells c.numbered_behind.result.items (back ∷ driven.sources.items)
    c.numbered_behind.ensures.files c.numbered_behind.ensures.sources in
    came_driven (λ w. (g.dyn-1.0.entry w.vtable).1.wire_told w.value) c.args.sizes.now
    (g.H.In.Source.name c.args.schedule ∷ map (λ s. g.H.In.Source.name s) c.args.sources.items)
    (g.H.In.Source.whole c.args.schedule ∷ map (λ s. g.H.In.Source.whole s) c.args.sources.items)
    host mid now c.args.wires.items driven.wires.items
    (done c.drive_status.result Nothing driven.ends.items driven.journal.items c.held-held.result
    (Some driven.pool) told)
    driven.failed failed driven.pool (record {
      first = tells back;
      rest = rest;
      sources_are = numbers.told_are;
      by = subst (λ gs. IsDrivenBy c.args.sizes.now (g.H.In.Source.given back) (g.H.In.Source.ended back)
          driven.failed gs (map (λ t. t.ended) rest) driven.ends.items (histories driven.journal.items) driven.pool
          c.args.wires.items driven.wires.items
          (λ w. (g.dyn-1.0.entry w.vtable).1.wire_told w.value) host mid)
          (sym (field_of tells (λ t. t.given) rest driven.sources.items refl))
          (subst (λ es. IsDrivenBy c.args.sizes.now (g.H.In.Source.given back) (g.H.In.Source.ended back) driven.failed
          (map (λ s. g.H.In.Source.given s) driven.sources.items) es driven.ends.items (histories driven.journal.items)
          driven.pool c.args.wires.items
          driven.wires.items (λ w. (g.dyn-1.0.entry w.vtable).1.wire_told w.value) host mid)
          (sym (field_of tells (λ t. t.ended) rest driven.sources.items refl)) said.run);
      said = subst (λ n. PrintsText driven.failed failed (held_text n driven.pool.large) mid now) held.0
          (subst (λ n. PrintsText driven.failed failed (held_text c.held-held.result.small n) mid now) held.1
          c.say_held-failed.ensures);
      pool_is = refl;
      held = held;
      shards = length-map driven.journal.items (λ history. history.items) ∙ said.shards;
      calm = said.calm ∙ c.requires.unread.0.faults;
      reads = subst (AreCountsOf (ways driven.ends.items))
          (sym (field_of tells (λ t. t.faults) rest driven.sources.items refl))
          (counts_from driven.ends.items (map tells c.args.sources.items) _ c.requires.unread.1
          (subst (λ ns. AreReads driven.ends.items ns (map (λ s. g.H.In.Source.read_faults s) driven.sources.items))
          (sym (field_of tells (λ t. t.faults) (map tells c.args.sources.items) c.args.sources.items refl))
          said.reads));
      status = c.drive_status.ensures
          ∙ ap (λ ends. status_with (failed || some_put_failed ends) (highest_by (ways ends))) c.as_slice.ensures;
      detail = refl;
      back = record {
        files = numbers.files ∙ ap (λ n. range_with_len 0 (suc n))
            (as_many ∙ sym (length-map c.args.sources.items (λ s. g.H.In.Source.name s)));
        names_are = field_of tells (λ t. t.name) (sources_of told) (back ∷ driven.sources.items) numbers.told_are
            ∙ ap (λ n. n ∷ map (λ s. g.H.In.Source.name s) driven.sources.items) said.name
            ∙ ap (λ ns. g.H.In.Source.name c.args.schedule ∷ ns) said.names;
        wholes_are = field_of tells (λ t. t.whole) (sources_of told) (back ∷ driven.sources.items) numbers.told_are
            ∙ ap (λ w. w ∷ map (λ s. g.H.In.Source.whole s) driven.sources.items) said.whole
            ∙ ap (λ ws. g.H.In.Source.whole c.args.schedule ∷ ws) said.wholes;
        fronts = c.numbered_behind.ensures.fronts;
      };
      some = omega (arith, c.requires.sized.count_is.0, as_many, length-map driven.sources.items tells);
    })

pub returns-in-Err-clause-does : goal.returns-in-Err-clause-does
returns-in-Err-clause-does g c =
    let said = c.in-Err.ensures in
    let so = c.conclude-outcome.result in
    let tells = source_told g.H.In.Source.name g.H.In.Source.whole g.H.In.Source.given g.H.In.Source.ended
    g.H.In.Source.read_faults in
    let host = g.H.Host.host_told c.args.host.now in
    let now = g.H.Host.host_told c.conclude-outcome.new.host in
    let back = c.drive_by.new.schedule in
    let rest = map tells c.args.sources.items in
    let told = opened_told tells c.numbered_behind-in-Err.result.items in
    let count : length c.args.sources.items ≡ length rest = sym (length-map c.args.sources.items tells) in
    let numbers = are_numbered tells c.numbered_behind-in-Err.result.items (back ∷ c.in-Err.sources.items)
    c.numbered_behind-in-Err.ensures.files c.numbered_behind-in-Err.ensures.sources in
    let told_are : sources_of told ≡ tells back ∷ rest =
    numbers.told_are ∙ ap (λ ss. tells back ∷ map tells ss) said.back.0 in
    let before = done so.status so.detail so.ends.items so.journal.items so.held so.pool [] in
    came_refused (λ w. (g.dyn-1.0.entry w.vtable).1.wire_told w.value) c.args.sizes.now
    (g.H.In.Source.name c.args.schedule ∷ map (λ s. g.H.In.Source.name s) c.args.sources.items)
    (g.H.In.Source.whole c.args.schedule ∷ map (λ s. g.H.In.Source.whole s) c.args.sources.items)
    host host now c.args.wires.items so.wires.items c.in-Err.finding before told (tells back) rest
    (subst (λ m. ConcludesBy c.in-Err.finding
    (outside m c.args.wires.items (λ w. (g.dyn-1.0.entry w.vtable).1.wire_told w.value))
    (outside now so.wires.items (λ w. (g.dyn-1.0.entry w.vtable).1.wire_told w.value)) before) said.silent
    (subst (λ ws. ConcludesBy c.in-Err.finding
    (outside (g.H.Host.host_told c.drive_by.new.host) ws (λ w. (g.dyn-1.0.entry w.vtable).1.wire_told w.value))
    (outside now so.wires.items (λ w. (g.dyn-1.0.entry w.vtable).1.wire_told w.value)) before) said.back.1
    c.conclude-outcome.ensures.concluded))
    (subst (λ m. LeavesFiles m now) said.silent c.conclude-outcome.ensures.files)
    told_are c.requires.unread.1
    (subst (λ n. IsUndriven c.in-Err.finding (length rest) (g.H.In.Source.given back) (g.H.In.Source.ended back) n
    (g.H.In.Source.read_faults back)) c.requires.unread.0.faults
    (subst (λ n. IsUndriven c.in-Err.finding n (g.H.In.Source.given back) (g.H.In.Source.ended back)
    (g.H.In.Source.read_faults c.args.schedule) (g.H.In.Source.read_faults back)) count said.undriven))
    (record {
      files = numbers.files ∙ ap (λ ss. range_with_len 0 (suc (length ss))) said.back.0
          ∙ ap (λ n. range_with_len 0 (suc n)) (sym (length-map c.args.sources.items (λ s. g.H.In.Source.name s)));
      names_are = field_of tells (λ t. t.name) (sources_of told) (back ∷ c.args.sources.items) told_are
          ∙ ap (λ n. n ∷ map (λ s. g.H.In.Source.name s) c.args.sources.items) said.name;
      wholes_are = field_of tells (λ t. t.whole) (sources_of told) (back ∷ c.args.sources.items) told_are
          ∙ ap (λ w. w ∷ map (λ s. g.H.In.Source.whole s) c.args.sources.items) said.whole;
      fronts = c.numbered_behind-in-Err.ensures.fronts;
    })
