use Rattle.std.proofs.Common.{◌≡◌, ◌<◌, ◌++◌, ◌∷◌, [], ℕ, List, Bor, length, map, take, slice_get, get_or, vec_len}
use Rattle.std.proofs.Common.{vec_capacity, arith, sym, ap, ◌∙◌}
use Rattle.std.proofs.lemmas.Grind.{common_steps}
use Rattle.std.proofs.lemmas.List.{length-map, length-take-le}
use Rattle.flake_run.specs.Outcome.{IsUntouched, source_told}
use Rattle.flake_run.proofs.OpenedFiles.{at_each, fails_to_open, front, got, opened_more, one_more}
use Rattle.flake_run.proofs.Ran.{as_many_sources}
use Rattle.flake_run.proofs.Unread.{untouched_front}
use Rattle.flake_run.proofs.opening.open_files.Goals as goal

pub returns-in_default-clause-failed : goal.returns-in_default-clause-failed
returns-in_default-clause-failed g c =
    let before = c.loop-file.invariant.opened in
    let tells = source_told g.H.In.Source.name g.H.In.Source.whole g.H.In.Source.given g.H.In.Source.ended
    g.H.In.Source.read_faults in
    let file = get_or c.args.files.now c.loop-file.file-index (record { ref_ptr = (0, 0); now = [] }) in
    let names = map (λ (f : Bor (List ℕ)). f.now) (take c.loop-file.file-index c.args.files.now) in
    let index : length (map tells c.loop-file.sources.items) ≡ c.loop-file.file-index =
    as_many_sources _ _ _ before.of_files
    ∙ length-map (take c.loop-file.file-index c.args.files.now) (λ (f : Bor (List ℕ)). f.now)
    ∙ length-take-le c.loop-file.file-index c.args.files.now (omega arith) in
    fails_to_open (map (λ (f : Bor (List ℕ)). f.now) c.args.files.now) names file.now _ _ _ _
    (front (λ (f : Bor (List ℕ)). f.now) c.args.files.now c.loop-file.file-index _ (omega arith)
    (as_many_sources _ _ _ before.of_files))
    (ap (slice_get (map (λ (f : Bor (List ℕ)). f.now) c.args.files.now)) index
    ∙ got (λ (f : Bor (List ℕ)). f.now) c.args.files.now c.loop-file.file-index
    (record { ref_ptr = (0, 0); now = [] }) c.loop-file-test.true)
    before
    (record {
      holds = at_each file.now _ _ c.open.ensures.others c.in_default.ensures.failed;
      opens = c.open.ensures.opens;
      rose = c.in_default.ensures.cause.failed;
      said = c.open.ensures.said;
      say_faults = c.open.ensures.say_faults;
    })

pub loop-file-preserved : goal.loop-file-preserved
loop-file-preserved g c =
    let before = c.loop-file.invariant.opened in
    let tells = source_told g.H.In.Source.name g.H.In.Source.whole g.H.In.Source.given g.H.In.Source.ended
    g.H.In.Source.read_faults in
    let file = get_or c.args.files.now c.loop-file.file-index (record { ref_ptr = (0, 0); now = [] }) in
    let names = map (λ (f : Bor (List ℕ)). f.now) (take c.loop-file.file-index c.args.files.now) in
    let index : length c.loop-file.sources.items ≡ c.loop-file.file-index =
    sym (length-map c.loop-file.sources.items tells) ∙ as_many_sources _ _ _ before.of_files
    ∙ length-map (take c.loop-file.file-index c.args.files.now) (λ (f : Bor (List ℕ)). f.now)
    ∙ length-take-le c.loop-file.file-index c.args.files.now (omega arith) in
    let room : vec_len c.loop-file.sources < vec_capacity c.loop-file.sources =
    omega (arith, index, c.loop-file.sources.ok.0) in
    let pushed : c.push.new.self.items ≡ c.loop-file.sources.items ++ c.in-Ok.source ∷ [] =
    grind (arith, common_steps) in
    let said = c.in-Ok.ensures in
    let untouched : IsUntouched (tells c.in-Ok.source) =
    record { given = said.unread; ended = said.open; faults = said.fresh } in
    let more = opened_more names file.now (g.H.Host.host_told c.args.host.now) (g.H.Host.host_told c.loop-file.host)
    (g.H.Host.host_told c.open.new.self) (map tells c.loop-file.sources.items) (tells c.in-Ok.source) before said.named
    said.whole (untouched_front (tells c.in-Ok.source) untouched) untouched c.open.ensures.others c.open.ensures.opens
    said.same c.open.ensures.said c.open.ensures.say_faults in
    record {
      opened = one_more tells c.args.files.now c.loop-file.file-index (record { ref_ptr = (0, 0); now = [] })
          c.loop-file.sources.items c.push.new.self.items c.in-Ok.source _ _ c.loop-file-test.true pushed more;
      room = omega arith;
    }
