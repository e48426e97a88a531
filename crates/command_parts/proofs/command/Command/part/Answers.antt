use Rattle.std.proofs.Common.{◌≡◌, ◌∙◌, sym, ap}
use Rattle.shard_part.specs.declared.part.Part.{Part}
use Rattle.command_parts.specs.declared.op.Op.{Op}
use Rattle.command_parts.specs.declared.op.Op.TheVariants.{One, MGet, Del, Exists}
use Rattle.command_parts.specs.Meaning.{value_by}
use Rattle.command_parts.proofs.Parts.{part_op, part_is, value_taken, no_value}
use Rattle.command_parts.proofs.command.Command.part.Goals as goal
use Rattle.command_parts.proofs.command.Command.part.Goals.{in-One, in-MGet, in-Del, in-Exists}
use Rattle.command_parts.proofs.command.Command.part.Goals.{then-takes_value, else-takes_value}

pub returns-clause-operation : goal.returns-clause-operation
returns-clause-operation c =
    let words = c.in-Some.request in
    let op = c.match-self-2.op in
    let value = c.if-takes_value.value in
    let found : Part = record { op = op; key = c.word-key.result; value = value } in
    let value_is : value.now ≡ value_by op words = elim c.if-takes_value.branch [
      | then-takes_value w ↦ value_taken op words value.now (sym c.takes_value.ensures ∙ w.if-takes_value.true)
          (ap (λ v. v.now) w.value-is ∙ w.word-value.ensures)
      | else-takes_value w ↦ no_value op words value.now (sym c.takes_value.ensures ∙ w.if-takes_value.false)
          (ap (λ v. v.now) w.value-is)
    ] in
    let known = λ (code : Op) (is : c.self.inside.op ≡ code) (op_is : op ≡ part_op code).
    part_is c.args.self.now c.self.inside.op code c.self.inside.request words c.args.j found c.self.view_is
    c.in-Some.is c.requires c.word-key.ensures is op_is (value_is ∙ ap (λ o. value_by o words) op_is) in
    elim c.match-self-2.branch [
      | in-One w ↦ known (One w.in-One.op) w.in-One.is w.op-is
      | in-MGet w ↦ known MGet w.in-MGet.is w.op-is
      | in-Del w ↦ known Del w.in-Del.is w.op-is
      | in-Exists w ↦ known Exists w.in-Exists.is w.op-is
    ]
