use Rattle.std.proofs.Common.{◌≡◌, ◌<◌, ◌++◌, ◌∷◌, [], None, length, vec_len, vec_capacity, arith, sym, ap, subst}
use Rattle.std.proofs.Common.{length-append}
use Rattle.std.proofs.lemmas.Grind.{common_steps}
use Rattle.check_files.specs.File.{file_givens, file_endeds}
use Rattle.check_files.specs.Named.{AreUnread}
use Rattle.check_files.proofs.OpenedFiles.{file_more, file_fails, front_is}
use Rattle.check_files.proofs.opening.open_named.Goals as goal

pub returns-in_default-clause-failed : goal.returns-in_default-clause-failed
returns-in_default-clause-failed g c =
    let before = c.loop-name.invariant in
    file_fails c.args.names.now c.loop-name.name-index (length c.loop-name.files.items) None _ _ _ _ _
    c.loop-name-test.true before.count before.so_far.opened c.in_default.ensures.failed

pub returns-in_default-clause-failed_unread : goal.returns-in_default-clause-failed_unread
returns-in_default-clause-failed_unread g c =
    let before = c.loop-name.invariant in
    subst (λ ws. AreUnread ws (file_givens (λ s. g.H.In.Source.given s) c.loop-name.files.items)
    (file_endeds (λ s. g.H.In.Source.ended s) c.loop-name.files.items))
    (sym (front_is c.args.names.now c.loop-name.name-index (length c.loop-name.files.items)
    (omega (arith, c.loop-name-test.true)) before.count)) before.so_far.unread

pub loop-name-preserved : goal.loop-name-preserved
loop-name-preserved g c =
    let before = c.loop-name.invariant in
    let room : vec_len c.loop-name.files < vec_capacity c.loop-name.files =
    omega (arith, before.count, before.room, c.requires.1, c.loop-name-test.true, c.loop-name.files.ok.0) in
    let pushed : c.push.new.self.items ≡ c.loop-name.files.items ++ c.in-Ok.file ∷ [] = grind (arith, common_steps) in
    record {
      so_far = file_more (λ s. g.H.In.Source.name s) (λ s. g.H.In.Source.whole s) (λ s. g.H.In.Source.given s)
          (λ s. g.H.In.Source.ended s) (λ s. g.H.In.Source.read_faults s) c.args.names.now c.loop-name.name-index None
          c.loop-name.files.items c.push.new.self.items c.in-Ok.file _ _ _ c.loop-name-test.true pushed before.so_far
          c.in-Ok.ensures.opens c.in-Ok.ensures.name c.in-Ok.ensures.unread c.in-Ok.ensures.ended c.in-Ok.ensures.fresh;
      count = omega (arith, ap length pushed, length-append c.loop-name.files.items (c.in-Ok.file ∷ []), before.count);
      room = omega arith;
    }
