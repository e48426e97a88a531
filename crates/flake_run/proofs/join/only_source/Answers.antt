use Rattle.std.proofs.Common.{◌≡◌, ◌++◌, ◌∷◌, [], arith, ap, ◌∙◌}
use Rattle.std.proofs.lemmas.Grind.{common_steps}
use Rattle.flake_run.specs.Outcome.{GaveFront, source_told}
use Rattle.flake_run.proofs.Unread.{all_opened_tell}
use Rattle.flake_run.proofs.join.only_source.Goals as goal

pub returns-clause-items : goal.returns-clause-items
returns-clause-items g c =
    let pushed : c.push.new.self.items ≡ c.args.room.items ++ record { file = 0; source = c.args.source } ∷ [] =
    grind (arith, common_steps) in
    pushed ∙ ap (λ xs. xs ++ record { file = 0; source = c.args.source } ∷ []) c.requires.0

pub returns-clause-fronts : goal.returns-clause-fronts
returns-clause-fronts g c =
    let tells = source_told g.S.Source.name g.S.Source.whole g.S.Source.given g.S.Source.ended g.S.Source.read_faults in
    all_opened_tell GaveFront tells (λ s. g.met.S.Source.front s) c.push.new.self.items
