use Rattle.std.proofs.Common.{List, ℕ, Ok, Err, arith, sym, ap, ◌∙◌, subst}
use Rattle.tx_descriptor.specs.Bytes.{IsInProfile, IsFirstForeign}
use Rattle.tx_descriptor.proofs.Spelling.{in-profile, one-spelling, first-alike, same-byte}
use Rattle.tx_descriptor.proofs.Reading.{read-back}
use Rattle.tx_descriptor.proofs.legacy.Legacy.of_bytes.Goals as goal

pub returns-clause-ok : goal.returns-clause-ok
returns-clause-ok c = read-back _ _ _ c.type_inv.bytes.1.1.0.1 c.fits-bytes
    (λ i h. let e = c.loop-byte-test.false in c.loop-byte.invariant i (omega arith)) c.from_le_bytes.ensures
    c.from_le_bytes-2.ensures

pub returns-clause-round_trip : goal.returns-clause-round_trip
returns-clause-round_trip c = λ v fits e.
    let spelled = read-back _ _ _ c.type_inv.bytes.1.1.0.1 c.fits-bytes
    (λ i h. let e = c.loop-byte-test.false in c.loop-byte.invariant i (omega arith)) c.from_le_bytes.ensures
    c.from_le_bytes-2.ensures in
    ap (λ l. Ok l) (sym (one-spelling v _ fits (c.from_le_bytes.type_inv, c.from_le_bytes-2.type_inv)
    (e ∙ sym spelled)))

pub returns-clause-unsupported : goal.returns-clause-unsupported
returns-clause-unsupported c =
    λ byte. (
      λ e. absurd (cc),
      λ first. absurd
          (first.foreign (let far = c.loop-byte-test.false in let near = first.in_range in c.loop-byte.invariant byte
          (omega (arith, near)))),
    )

pub returns-then-bytes-byte-ne0-clause-round_trip : goal.returns-then-bytes-byte-ne0-clause-round_trip
returns-then-bytes-byte-ne0-clause-round_trip c =
    λ v fits e. absurd (c.if-bytes-byte-ne0.true
    (subst (λ (b : List ℕ). IsInProfile b c.loop-byte.byte) e (in-profile v c.loop-byte.byte)))

pub returns-then-bytes-byte-ne0-clause-unsupported : goal.returns-then-bytes-byte-ne0-clause-unsupported
returns-then-bytes-byte-ne0-clause-unsupported c =
    let found : IsFirstForeign c.loop-byte.byte c.args.bytes.now =
    record { in_range = c.loop-byte-test.true; foreign = c.if-bytes-byte-ne0.true; before = c.loop-byte.invariant }
    in
    λ byte. (
      λ e. subst (λ (i : ℕ). IsFirstForeign i c.args.bytes.now) (same-byte c.loop-byte.byte byte e) found,
      λ first. ap (λ (i : ℕ). Err (record { byte = i }))
          (first-alike c.args.bytes.now c.loop-byte.byte byte found first),
    )
