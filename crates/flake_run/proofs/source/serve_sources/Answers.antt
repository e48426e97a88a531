use Rattle.std.proofs.Common.{Result, Ok, Err, IfOk, length, sym, ap, ◌∙◌}
use Rattle.std.proofs.lemmas.List.{length-map}
use Rattle.std.proofs.lemmas.Result.{IfOk-weaker}
use Rattle.flake_run.proofs.Served.{dumping_to, ends_served}
use Rattle.flake_run.proofs.source.serve_sources.Goals as goal

pub returns-clause-run : goal.returns-clause-run
returns-clause-run g c = IfOk-weaker c.serve_inputs.result _ _
    (λ r ran. dumping_to _ _ (λ w. (g.dyn-1.0.entry w.vtable).1.wire_told w.value)
    (record { put = λ w p r some post. post some; flush = λ w r post. post })
    c.args.sizes.now.mtu _ _ _ _ _ _ _ _ _ _ _ _ ran) c.serve_inputs.ensures.ran

pub returns-clause-sources : goal.returns-clause-sources
returns-clause-sources g c = IfOk-weaker c.serve_inputs.result _ _
    (λ r names. sym (length-map r.sources.items (λ s. g.S.Source.name s)) ∙ ap length names
    ∙ length-map c.args.sources.items (λ s. g.S.Source.name s)) c.serve_inputs.ensures.names

-- a success of which two facts are told
both_told : {T E : Type 0} (r : Result T E) (P Q S : T → Type 0) → ((x : T) → P x → Q x → S x) → IfOk r P → IfOk r Q
    → IfOk r S
both_told (Ok x) P Q S so p q = so x p q
both_told (Err e) P Q S so p q = tt

pub returns-clause-ends : goal.returns-clause-ends
returns-clause-ends g c = both_told c.serve_inputs.result _ _ _
    (λ r run sources. ends_served _ _ _ _ run.run ∙ length-map r.sources.items (λ s. g.S.Source.given s) ∙ sources)
    (returns-clause-run g c) (returns-clause-sources g c)
