use Rattle.std.proofs.Common.{◌∙◌, ap, [], map}
use Rattle.std.specs.Prelude.{unwrap_or}
use Rattle.std.proofs.lemmas.Result.{IfOk-weaker}
use Rattle.clap.specs.Matches.{found_of}
use Rattle.clap.proofs.WalkLemmas.{raw_values-rows}
use Rattle.std.specs.Prelude.{codes}
use Rattle.command_line.proofs.task.files_in.Goals as goal

pub returns-in-Some : goal.returns-in-Some
returns-in-Some c =
    let found = found_of c.args.matches.now in
    let all = c.in-Some.ensures ∙ raw_values-rows found (codes "file") in
    IfOk-weaker c.from_slice.result _ _
    (λ files is. ap (map (λ file. file.now)) is ∙ ap (λ o. unwrap_or o []) all) c.from_slice.ensures.items

pub returns-in-None : goal.returns-in-None
returns-in-None c =
    let found = found_of c.args.matches.now in
    let all = c.in-None.ensures ∙ raw_values-rows found (codes "file") in
    ap (map (λ file. file.now)) c.new.ensures.items ∙ ap (λ o. unwrap_or o []) all
