use Rattle.std.proofs.Common.{◌≡◌, IfOk, ◌∙◌, sym, subst}
use Rattle.std.proofs.lemmas.Result.{on_ok_weaker, on_err_weaker}
use Rattle.flake_model.specs.Store.{Store}
use Rattle.shard_part.specs.Parts.{operation_of}
use Rattle.byte_store.specs.Store.{HoldsStore, answer_meant}
use Rattle.byte_store.proofs.Held.{run_answers, run_holds}
use Rattle.shard_part.proofs.Keys.{key_is}
use Rattle.byte_store.proofs.store.ByteStore.run.Goals as goal

pub returns-clause-answer : goal.returns-clause-answer
returns-clause-answer c = λ store holds.
    let part = c.args.part.now in
    let old = c.self.inside.table.entries in
    let held : HoldsStore old store = subst (λ entries. HoldsStore entries store) (sym c.self.view_is) holds in
    subst (λ answer. IfOk c.run_on.result (λ a. answer_meant a ≡ answer))
    (run_answers old c.run_on.new.table.entries store (operation_of part) part.key.now held
    (key_is part.op part.key.now part.value.now)) c.run_on.ensures.answer

pub returns-clause-after : goal.returns-clause-after
returns-clause-after c = λ store holds.
    let part = c.args.part.now in
    let old = c.self.inside.table.entries in
    let held : HoldsStore old store = subst (λ entries. HoldsStore entries store) (sym c.self.view_is) holds in
    on_ok_weaker c.run_on.result
    (run_holds old c.run_on.new.table.entries store (operation_of part) part.key.now held
    (key_is part.op part.key.now part.value.now)) c.run_on.ensures.after

pub returns-clause-memory : goal.returns-clause-memory
returns-clause-memory c = λ store holds.
    let old = c.self.inside.table.entries in
    let held : HoldsStore old store = subst (λ entries. HoldsStore entries store) (sym c.self.view_is) holds in
    on_err_weaker c.run_on.result (λ same key. same key ∙ held key) c.run_on.ensures.memory
