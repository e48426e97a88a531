use Rattle.std.proofs.Common.{◌≡◌, inl, inr, [], ◌∷◌, refl, sym, ap, ◌∙◌, subst}
use Rattle.std.specs.List.{AllByRecursion}
use Rattle.flake_base.specs.Histories.{histories}
use Rattle.mtu_frames.specs.Joining.{IsWhole, replies}
use Rattle.command_line.specs.Join.{shown_join}
use Rattle.join_files.specs.Source.{IsUnjoined}
use Rattle.flake_run.specs.Checked.{ConcludesBy}
use Rattle.flake_run.specs.Joined.{IsPutOnFirst}
use Rattle.flake_run.specs.Outcome.{GaveFront, done, opened_told, source_told, sources_of}
use Rattle.flake_run.specs.Outside.{outside}
use Rattle.flake_run.proofs.JoinedAll.{puts_replies, with_sources}
use Rattle.flake_run.proofs.join.join_opened.Goals as goal

pub join_source-requires-clause-unread : goal.join_source-requires-clause-unread
join_source-requires-clause-unread g c = c.requires.unread.given

pub put_on_first-failed-requires-clause-whole : goal.put_on_first-failed-requires-clause-whole
put_on_first-failed-requires-clause-whole g c =
    let joined = c.in-Ok.ensures.joined.joined in
    subst (IsWhole c.in-Ok.joiner.frames) (sym joined.calls_are) joined.whole

pub returns-in-Ok-clause-does : goal.returns-in-Ok-clause-does
returns-in-Ok-clause-does g c =
    let tells = source_told g.H.In.Source.name g.H.In.Source.whole g.H.In.Source.given g.H.In.Source.ended
    g.H.In.Source.read_faults in
    let host = g.H.Host.host_told c.args.host.now in
    let back = c.join_source.new.source in
    let so = c.unserved-outcome.result in
    let only = c.only_source.ensures in
    let told = opened_told tells c.only_source.result.items in
    let told_are : told ≡ record { file = 0; source = tells back } ∷ [] = ap (opened_told tells) only.items in
    let said = c.unserved-outcome.ensures in
    record {
      source = tells back;
      sources_are = told_are;
      name_is = c.in-Ok.ensures.name;
      whole_is = c.in-Ok.ensures.whole;
      front = (subst (AllByRecursion GaveFront) (ap sources_of told_are) only.fronts).0;
      leaves = record { holds = λ name. refl; opens = refl; open_faults = λ name. refl };
      came = inl (puts_replies (λ w. (g.dyn-1.0.entry w.vtable).1.wire_told w.value) (shown_join c.args.task.now)
          (tells back) c.in-Ok.joiner c.put_on_first-failed.result host c.args.wires.items so.wires.items
          (done so.status so.detail so.ends.items so.journal.items so.held so.pool told)
          (c.in-Ok.ensures.calm ∙ c.requires.unread.faults) c.in-Ok.ensures.joined
          (subst (λ (ws : _). IsPutOnFirst c.put_on_first-failed.result
          (replies c.in-Ok.joiner.frames c.in-Ok.joiner.calls) c.args.wires.items ws
          (λ w. (g.dyn-1.0.entry w.vtable).1.wire_told w.value)) (ap (λ v. v.items) (sym said.wires))
          c.put_on_first-failed.ensures)
          (said.status ∙ c.put_status.ensures) said.detail said.ends (ap histories said.journal) said.held said.pool);
    }

pub returns-in-Err-clause-does : goal.returns-in-Err-clause-does
returns-in-Err-clause-does g c =
    let tells = source_told g.H.In.Source.name g.H.In.Source.whole g.H.In.Source.given g.H.In.Source.ended
    g.H.In.Source.read_faults in
    let host = g.H.Host.host_told c.args.host.now in
    let now = g.H.Host.host_told c.conclude-outcome.new.host in
    let back = c.join_source.new.source in
    let so = c.conclude-outcome.result in
    let only = c.only_source-in-Err.ensures in
    let told = opened_told tells c.only_source-in-Err.result.items in
    let told_are : told ≡ record { file = 0; source = tells back } ∷ [] = ap (opened_told tells) only.items in
    record {
      source = tells back;
      sources_are = told_are;
      name_is = c.in-Err.ensures.name;
      whole_is = c.in-Err.ensures.whole;
      front = (subst (AllByRecursion GaveFront) (ap sources_of told_are) only.fronts).0;
      leaves = c.conclude-outcome.ensures.files;
      came = inr (record {
        error = c.in-Err.error;
        why = subst (λ n. IsUnjoined c.in-Err.error c.args.task.now.mtu c.args.task.now.calls
            (g.H.In.Source.given back) (g.H.In.Source.ended back) n (g.H.In.Source.read_faults back))
            c.requires.unread.faults c.in-Err.ensures.unjoined;
        concluded = with_sources _ (outside host c.args.wires.items
            (λ w. (g.dyn-1.0.entry w.vtable).1.wire_told w.value))
            (outside now so.wires.items (λ w. (g.dyn-1.0.entry w.vtable).1.wire_told w.value))
            (done so.status so.detail so.ends.items so.journal.items so.held so.pool []) told
            (subst (λ f. ConcludesBy f (outside host c.args.wires.items
            (λ w. (g.dyn-1.0.entry w.vtable).1.wire_told w.value))
            (outside now so.wires.items (λ w. (g.dyn-1.0.entry w.vtable).1.wire_told w.value))
            (done so.status so.detail so.ends.items so.journal.items so.held so.pool [])) c.finding_of.ensures
            c.conclude-outcome.ensures.concluded);
      });
    }
