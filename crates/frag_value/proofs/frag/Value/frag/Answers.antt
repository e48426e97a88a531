use Rattle.std.proofs.Common.{◌≡◌, ℕ, suc, ◌+◌, ◌%◌, ◌≤◌, ◌∷◌, length, map, slice_get, ap, sym, ◌∙◌, subst, arith}
use Rattle.std.specs.List.{cons_option}
use Rattle.frag_value.specs.Values.{IsValue}
use Rattle.frag_value.specs.declared.frag.Frag.{Frag}
use Rattle.frag_value.proofs.Lists.{got, got-map}
use Rattle.frag_value.proofs.Ends.{length-value, length-map}
use Rattle.frag_value.proofs.frag.Value.frag.Goals as goal

pub returns-in-Some-get-clause-part : goal.returns-in-Some-get-clause-part
returns-in-Some-get-clause-part g c =
    let z = g.N.PoolName.sizes in
    let v = c.args.self.now in
    let pair : Frag g.row.N.Denot → ℕ × ℕ = λ f. (f.hold.buffer, f.len) in
    let rest = c.deref.result.now in
    let k = (c.args.i + 18446744073709551615) % 18446744073709551616 in
    let look = c.in-Some-get.ensures.lookup in
    let whole : v ≡ pair c.in-Some.first ∷ map pair rest = sym c.self.view_is
    ∙ (λ t. map pair (cons_option (c.in-Some.is t) (sym c.deref.ensures.value t))) in
    let few : length v ≤ 16 = length-value z v (subst (IsValue z) c.self.view_is c.self.invariant.1.value) in
    let next : c.args.i ≡ suc k = omega (arith, few, ap length whole, length-map pair rest, look.3.0, c.requires) in
    (λ t. slice_get (whole t) (next t)) ∙ got-map pair rest k c.in-Some-get.frag.now
    (got rest k c.in-Some-get.frag.now look.3.0 look.1)
