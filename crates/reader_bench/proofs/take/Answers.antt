use Rattle.std.proofs.Common.{◌++◌, List, subst}
use Rattle.std.specs.Option.{option_to_list}
use Rattle.std.proofs.lemmas.List.{append_assoc}
use Rattle.flake_model.specs.Resp.{Words}
use Rattle.resp_reader.specs.Reader.{ReadsRequests}
use Rattle.reader_bench.proofs.take.Goals as goal

pub returns-clause-fed : goal.returns-clause-fed
returns-clause-fed c bytes given read =
    let before = c.loop-request.invariant.fed bytes given read in (
      before.0 ++ option_to_list c.next.result,
      subst (λ (all : List Words). ReadsRequests bytes all c.next.new.self)
          (append_assoc given before.0 (option_to_list c.next.result))
          (c.next.ensures.fed bytes (given ++ before.0) before.1),
    )
