-- What is told of a wire is sent in parts.
use Rattle.std.proofs.Common.{Bool, true, false, ℕ, List, [], ◌++◌, refl, ap, sym, ◌∙◌, subst, append_assoc, append-nil}
use Rattle.flake_base.specs.Growth.{Grew}
use Rattle.any_wire.specs.Texts.{IsSending}

told_nothing : (wire : List ℕ) → Grew false [] wire wire
told_nothing wire = ([], refl, sym (append-nil wire))

told_more : (failed : Bool) (text piece old mid new : List ℕ) → Grew false text old mid → Grew failed piece mid new
    → Grew failed (text ++ piece) old new
told_more false text piece old mid new first next =
    let at : Grew false piece (old ++ first.0) new = subst (λ was. Grew false piece was new) first.2 next in
    (first.0 ++ at.0, (λ i. first.1 i ++ at.1 i), at.2 ∙ append_assoc old first.0 at.0)
told_more true text piece old mid new first next =
    let at : Grew true piece (old ++ first.0) new = subst (λ was. Grew true piece was new) first.2 next in (
      first.0 ++ at.0,
      (at.1.0, (λ i. sym first.1 i ++ at.1.1 i) ∙ sym (append_assoc first.0 at.0 at.1.0)),
      at.2 ∙ append_assoc old first.0 at.0,
    )

-- after a failure it is a front of the longer text too
told_longer : (text piece old new : List ℕ) → Grew true text old new → Grew true (text ++ piece) old new
told_longer text piece old new grew =
    (grew.0, (grew.1.0 ++ piece, ap (λ front. front ++ piece) grew.1.1 ∙ append_assoc grew.0 grew.1.0 piece), grew.2)

pub told_sends : IsSending Grew
told_sends = record { nothing = told_nothing; joins = told_more; longer = told_longer }
