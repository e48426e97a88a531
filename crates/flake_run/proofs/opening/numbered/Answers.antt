use Rattle.std.proofs.Common.{◌≡◌, ◌<◌, ◌++◌, ◌∷◌, [], length, map, vec_len, append_assoc, arith, sym, ap, ap₂, ◌∙◌}
use Rattle.std.specs.List.{range_with_len}
use Rattle.std.proofs.lemmas.Grind.{common_steps}
use Rattle.std.proofs.lemmas.List.{length-append, length-map, map-append}
use Rattle.flake_run.proofs.Numbers.{one_number, all_given, none_left}
use Rattle.flake_run.specs.Outcome.{GaveFront, source_told}
use Rattle.flake_run.proofs.Unread.{all_opened_tell}
use Rattle.flake_run.proofs.opening.numbered.Goals as goal

pub loop-source-preserved : goal.loop-source-preserved
loop-source-preserved g c =
    let before = c.loop-source.invariant in
    let as_many : vec_len c.loop-source.opened ≡ length c.loop-source.yielded =
    omega (
      arith,
      c.loop-source.opened.ok.0,
      length-map c.loop-source.opened.items (λ s. s.source),
      ap length
          before.sources,
    ) in
    let all : (c.loop-source.yielded ++ c.in-Some.source ∷ []) ++ c.next.new.self.rest.items ≡ c.args.sources.items =
    append_assoc c.loop-source.yielded (c.in-Some.source ∷ []) c.next.new.self.rest.items
    ∙ ap (λ rest. c.loop-source.yielded ++ rest) (sym c.in-Some.ensures.steps.0) ∙ before.all in
    let within : length c.loop-source.yielded < length c.args.sources.items =
    omega (
      arith,
      ap length all,
      length-append (c.loop-source.yielded ++ c.in-Some.source ∷ [])
          c.next.new.self.rest.items,
      length-append c.loop-source.yielded (c.in-Some.source ∷ []),
    ) in
    let pushed : c.push.new.self.items ≡ c.loop-source.opened.items
    ++ record { file = c.len-file.result; source = c.in-Some.source } ∷ [] = grind (arith, common_steps) in
    record {
      files = ap (map (λ s. s.file)) pushed ∙ map-append (λ s. s.file) c.loop-source.opened.items
          (record { file = c.len-file.result; source = c.in-Some.source } ∷ [])
          ∙ ap₂ (λ ns n. ns ++ n ∷ []) before.files (c.len-file.ensures ∙ as_many)
          ∙ sym (one_number c.loop-source.yielded c.in-Some.source);
      sources = ap (map (λ s. s.source)) pushed ∙ map-append (λ s. s.source) c.loop-source.opened.items
          (record { file = c.len-file.result; source = c.in-Some.source } ∷ [])
          ∙ ap (λ ss. ss ++ c.in-Some.source ∷ []) before.sources;
      room = omega arith;
      all = all;
      len = omega (arith, c.in-Some.ensures.steps.1, ap length c.in-Some.ensures.steps.0, before.len);
    }

pub overflow_cast-file : goal.overflow_cast-file
overflow_cast-file g c =
    let before = c.loop-source.invariant in
    let as_many : vec_len c.loop-source.opened ≡ length c.loop-source.yielded =
    omega (
      arith,
      c.loop-source.opened.ok.0,
      length-map c.loop-source.opened.items (λ s. s.source),
      ap length
          before.sources,
    ) in
    omega (
      arith,
      as_many,
      ap length before.all,
      length-append c.loop-source.yielded
          c.loop-source.source-iterator.rest.items,
    )

pub returns-clause-files : goal.returns-clause-files
returns-clause-files g c = c.loop-source.invariant.files ∙ ap (λ ss. range_with_len 0 (length ss))
    (all_given _ _ _ c.loop-source.invariant.all (none_left _ _ c.loop-source.invariant.len c.in-None.ensures.steps.0))

pub returns-clause-sources : goal.returns-clause-sources
returns-clause-sources g c = c.loop-source.invariant.sources ∙ all_given _ _ _ c.loop-source.invariant.all
    (none_left _ _ c.loop-source.invariant.len c.in-None.ensures.steps.0)

pub returns-clause-fronts : goal.returns-clause-fronts
returns-clause-fronts g c =
    let tells = source_told g.S.Source.name g.S.Source.whole g.S.Source.given g.S.Source.ended g.S.Source.read_faults in
    all_opened_tell GaveFront tells (λ s. g.met.S.Source.front s) c.loop-source.opened.items
