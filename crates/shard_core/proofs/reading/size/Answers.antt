use Rattle.std.proofs.Common.{◌≡◌, Some, length, sym, ap, ◌∙◌}
use Rattle.std.specs.Option.{option_map}
use Rattle.std.specs.FinMap as finite
use Rattle.flake_model.specs.Store.{bytes_of}
use Rattle.frag_value.specs.Values.{value_bytes}
use Rattle.shard_core.specs.Kept.{value_at}
use Rattle.shard_core.proofs.Holds.{has_found}
use Rattle.shard_core.proofs.Runs.{size-text}
use Rattle.shard_core.proofs.reading.size.Goals as goal

pub returns-in-Some : goal.returns-in-Some
returns-in-Some g c = λ s p a.
    let z = g.P.PoolName.sizes in
    let es = c.args.kept.now.values.entries in
    let hs = c.args.kept.now.own.holds in
    let key = c.args.key.now in
    let v = c.value.result.now in
    let there : value_at key es ≡ Some v = sym c.in-Some.ensures.value ∙ ap Some (sym c.value.ensures) in
    let bytes : Some (value_bytes hs v) ≡ finite.get s key = sym (ap (option_map (value_bytes hs)) there)
    ∙ a.bytes key in
    c.len.ensures.size ∙ size-text z hs v c.len.ensures.value
    (has_found z es _ hs c.requires.kept.held key v there).filled ∙ ap (λ o. length (bytes_of o)) bytes
