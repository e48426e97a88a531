use Rattle.std.proofs.Common.{◌≡◌, ◌<◌, ◌≤◌, ◌++◌, ◌∷◌, [], length, vec_len, append_assoc, arith, sym, ap, ◌∙◌}
use Rattle.std.proofs.lemmas.List.{length-append}
use Rattle.flake_run.specs.Files.{opened_from}
use Rattle.flake_run.proofs.CheckedFiles.{few_opened, opened_more}
use Rattle.flake_run.proofs.Numbers.{all_given, none_left}
use Rattle.flake_run.specs.Outcome.{GaveFront, source_told}
use Rattle.flake_run.proofs.Unread.{all_opened_tell}
use Rattle.flake_run.proofs.files.opened_of.Goals as goal

pub put_opened-requires : goal.put_opened-requires
put_opened-requires g c =
    let before = c.loop-file.invariant in
    let all : (c.loop-file.yielded ++ c.in-Some.file ∷ []) ++ c.next.new.self.rest.items ≡ c.args.files.items =
    append_assoc c.loop-file.yielded (c.in-Some.file ∷ []) c.next.new.self.rest.items
    ∙ ap (λ rest. c.loop-file.yielded ++ rest) (sym c.in-Some.ensures.steps.0) ∙ before.all in
    let within : length c.loop-file.yielded < length c.args.files.items =
    omega (
      arith,
      ap length all,
      length-append (c.loop-file.yielded ++ c.in-Some.file ∷ [])
          c.next.new.self.rest.items,
      length-append c.loop-file.yielded (c.in-Some.file ∷ []),
    ) in
    let few : vec_len c.loop-file.opened ≤ length c.loop-file.yielded =
    omega (arith, c.loop-file.opened.ok.0, ap length before.items, few_opened 0 c.loop-file.yielded) in
    omega (arith, within, few, before.room, c.requires.room.1)

pub overflow_add-place : goal.overflow_add-place
overflow_add-place g c =
    let before = c.loop-file.invariant in
    let all : (c.loop-file.yielded ++ c.in-Some.file ∷ []) ++ c.next.new.self.rest.items ≡ c.args.files.items =
    append_assoc c.loop-file.yielded (c.in-Some.file ∷ []) c.next.new.self.rest.items
    ∙ ap (λ rest. c.loop-file.yielded ++ rest) (sym c.in-Some.ensures.steps.0) ∙ before.all in
    omega (
      arith,
      before.place,
      c.requires.few,
      ap length all,
      length-append
          (c.loop-file.yielded ++ c.in-Some.file ∷ []) c.next.new.self.rest.items,
      length-append c.loop-file.yielded
          (c.in-Some.file ∷ []),
    )

pub loop-file-preserved : goal.loop-file-preserved
loop-file-preserved g c =
    let before = c.loop-file.invariant in
    record {
      items = c.put_opened.ensures.items ∙ ap (λ ss. ss ++ opened_from c.loop-file.place (c.in-Some.file ∷ []))
          before.items
          ∙ sym (opened_more 0 c.loop-file.place c.loop-file.yielded c.in-Some.file (omega (arith, before.place)));
      place = omega (arith, before.place, length-append c.loop-file.yielded (c.in-Some.file ∷ []));
      room = omega (arith, before.room, c.put_opened.ensures.room);
      all = append_assoc c.loop-file.yielded (c.in-Some.file ∷ []) c.next.new.self.rest.items
          ∙ ap (λ rest. c.loop-file.yielded ++ rest) (sym c.in-Some.ensures.steps.0) ∙ before.all;
      len = omega (arith, c.in-Some.ensures.steps.1, ap length c.in-Some.ensures.steps.0, before.len);
    }

pub returns-clause-items : goal.returns-clause-items
returns-clause-items g c =
    c.loop-file.invariant.items
    ∙ ap (opened_from 0) (all_given _ _ _ c.loop-file.invariant.all
    (none_left _ _ c.loop-file.invariant.len c.in-None.ensures.steps.0))

pub returns-clause-fronts : goal.returns-clause-fronts
returns-clause-fronts g c =
    let tells = source_told g.S.Source.name g.S.Source.whole g.S.Source.given g.S.Source.ended g.S.Source.read_faults in
    all_opened_tell GaveFront tells (λ s. g.met.S.Source.front s) c.loop-file.opened.items
