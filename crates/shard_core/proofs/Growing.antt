-- One part more of a call.
use Rattle.std.proofs.Common.{◌≡◌, ℕ, suc, ◌+◌, List, [], ◌∷◌, ◌++◌, Option, Some, None, length, slice_get}
use Rattle.std.proofs.Common.{refl, ap, sym, ◌∙◌, subst, append-nil, arith}
use Rattle.std.proofs.lemmas.List.{append_assoc}
use Rattle.flake_base.specs.declared.segment.Seg.{Seg}
use Rattle.flake_model.specs.Store.{Operation}
use Rattle.flake_model.specs.Deed.{Deed}
use Rattle.shard_core.specs.Outcomes.{PartOutcome, Outcomes, SessionDeeds, entry_at, part_told, IsOutcome, AreOutcomes}
use Rattle.shard_core.specs.Outcomes.{call_told, call_deeds, HasPutNothing, HavePutNothing}
use Rattle.shard_core.specs.Parts.{segs_told, call_segs}
use Rattle.shard_core.specs.Steps.{deed_told, PartsAdd}

-- one part, whatever came of it
one_is : (operation : Operation) (operations : List Operation) (outcome : Option PartOutcome)
    → IsOutcome operation outcome → AreOutcomes (operation ∷ operations) (outcome ∷ [])
one_is operation operations None is = (is, tt)
one_is operation operations (Some done) is = tt

pub more_are : (operations : List Operation) (outcomes : Outcomes) (operation : Operation)
    (outcome : Option PartOutcome)
    → slice_get operations (length outcomes) ≡ Some operation → AreOutcomes operations outcomes
    → IsOutcome operation outcome → AreOutcomes operations (outcomes ++ outcome ∷ [])
more_are [] [] operation outcome is are one = absurd (let no : ⊥ = cc in no)
more_are [] (o ∷ outcomes) operation outcome is are one = absurd are
more_are (first ∷ operations) [] operation outcome is are one =
    let same : operation ≡ first = cc in
    one_is first operations outcome (subst (λ o. IsOutcome o outcome) same one)
more_are (first ∷ operations) (None ∷ outcomes) operation outcome is are one =
    (are.0, more_are operations outcomes operation outcome is are.1 one)
more_are (first ∷ operations) (Some done ∷ outcomes) operation outcome is are one =
    more_are operations outcomes operation outcome is are one

-- where all parts put nothing, so do those before the last one, and so does it
pub nothing_more : (operations : List Operation) (outcomes : Outcomes) (operation : Operation)
    (outcome : Option PartOutcome) → slice_get operations (length outcomes) ≡ Some operation
    → HavePutNothing operations (outcomes ++ outcome ∷ [])
    → HavePutNothing operations outcomes × HasPutNothing operation outcome
nothing_more [] [] operation outcome is none = absurd (let no : ⊥ = cc in no)
nothing_more [] (o ∷ outcomes) operation outcome is none = absurd (let no : ⊥ = cc in no)
nothing_more (first ∷ operations) [] operation outcome is none =
    let same : first ≡ operation = cc in
    (tt, subst (λ o. HasPutNothing o outcome) same none.0)
nothing_more (first ∷ operations) (o ∷ outcomes) operation outcome is none =
    let rest = nothing_more operations outcomes operation outcome is none.1 in
    ((none.0, rest.0), rest.1)

module _ (shards session call : ℕ) where
  one_told : (part : ℕ) (operation : Operation) (operations : List Operation) (outcome : Option PartOutcome)
      → call_told shards session call part (operation ∷ operations) (outcome ∷ [])
      ≡ part_told shards (entry_at session call part) operation outcome
  one_told part operation operations None = refl
  one_told part operation operations (Some done) = refl

  pub more_told : (part : ℕ) (operations : List Operation) (outcomes : Outcomes) (operation : Operation)
      (outcome : Option PartOutcome) → slice_get operations (length outcomes) ≡ Some operation
      → call_told shards session call part operations (outcomes ++ outcome ∷ [])
      ≡ call_told shards session call part operations outcomes
      ++ part_told shards (entry_at session call (part + length outcomes)) operation outcome
  more_told part [] [] operation outcome is = absurd (let no : ⊥ = cc in no)
  more_told part [] (o ∷ outcomes) operation outcome is = absurd (let no : ⊥ = cc in no)
  more_told part (first ∷ operations) [] operation outcome is =
      let same : first ≡ operation = cc in
      let e : part ≡ part + 0 = omega arith in
      one_told part first operations outcome ∙ (λ i. part_told shards (entry_at session call (e i)) (same i) outcome)
  more_told part (first ∷ operations) (None ∷ outcomes) operation outcome is =
      let rest = call_told shards session call (part + 1) operations outcomes in
      let e : part + 1 + length outcomes ≡ part + suc (length outcomes) = omega arith in
      more_told (part + 1) operations outcomes operation outcome is
      ∙ ap (λ n. rest ++ part_told shards (entry_at session call n) operation outcome) e
  more_told part (first ∷ operations) (Some done ∷ outcomes) operation outcome is =
      let rest = call_told shards session call (part + 1) operations outcomes in
      let e : part + 1 + length outcomes ≡ part + suc (length outcomes) = omega arith in
      let next = more_told (part + 1) operations outcomes operation outcome is
      ∙ ap (λ n. rest ++ part_told shards (entry_at session call n) operation outcome) e in
      ap (λ (told : SessionDeeds). part_told shards (entry_at session call part) first (Some done) ++ told) next

module _ (session call : ℕ) where
  one_deed : (part : ℕ) (operation : Operation) (operations : List Operation) (outcome : Option PartOutcome)
      → call_deeds session call part (operation ∷ operations) (outcome ∷ [])
      ≡ deed_told (entry_at session call part) operation outcome ∷ []
  one_deed part operation operations None = refl
  one_deed part operation operations (Some done) = refl

  pub more_deeds : (part : ℕ) (operations : List Operation) (outcomes : Outcomes) (operation : Operation)
      (outcome : Option PartOutcome) → slice_get operations (length outcomes) ≡ Some operation
      → call_deeds session call part operations (outcomes ++ outcome ∷ [])
      ≡ call_deeds session call part operations outcomes
      ++ deed_told (entry_at session call (part + length outcomes)) operation outcome ∷ []
  more_deeds part [] [] operation outcome is = absurd (let no : ⊥ = cc in no)
  more_deeds part [] (o ∷ outcomes) operation outcome is = absurd (let no : ⊥ = cc in no)
  more_deeds part (first ∷ operations) [] operation outcome is =
      let same : first ≡ operation = cc in
      let e : part ≡ part + 0 = omega arith in
      one_deed part first operations outcome
      ∙ (λ i. deed_told (entry_at session call (e i)) (same i) outcome ∷ [])
  more_deeds part (first ∷ operations) (None ∷ outcomes) operation outcome is =
      let rest = call_deeds session call (part + 1) operations outcomes in
      let e : part + 1 + length outcomes ≡ part + suc (length outcomes) = omega arith in
      let next = more_deeds (part + 1) operations outcomes operation outcome is
      ∙ ap (λ n. rest ++ deed_told (entry_at session call n) operation outcome ∷ []) e in
      ap (λ (deeds : List (Option Deed)). None ∷ deeds) next
  more_deeds part (first ∷ operations) (Some done ∷ outcomes) operation outcome is =
      let rest = call_deeds session call (part + 1) operations outcomes in
      let e : part + 1 + length outcomes ≡ part + suc (length outcomes) = omega arith in
      let next = more_deeds (part + 1) operations outcomes operation outcome is
      ∙ ap (λ n. rest ++ deed_told (entry_at session call n) operation outcome ∷ []) e in
      ap (λ (deeds : List (Option Deed)). deed_told (entry_at session call part) first (Some done) ∷ deeds) next

pub more_segs : (operations : List Operation) (outcomes : Outcomes) (operation : Operation)
    (outcome : Option PartOutcome)
    → slice_get operations (length outcomes) ≡ Some operation
    → call_segs operations (outcomes ++ outcome ∷ []) ≡ call_segs operations outcomes ++ segs_told operation outcome
more_segs [] [] operation outcome is = absurd (let no : ⊥ = cc in no)
more_segs [] (o ∷ outcomes) operation outcome is = absurd (let no : ⊥ = cc in no)
more_segs (first ∷ operations) [] operation outcome is =
    let same : first ≡ operation = cc in
    append-nil (segs_told first outcome) ∙ ap (λ o. segs_told o outcome) same
more_segs (first ∷ operations) (o ∷ outcomes) operation outcome is =
    let here = segs_told first o in
    ap (λ (segs : List Seg). here ++ segs) (more_segs operations outcomes operation outcome is)
    ∙ sym (append_assoc here (call_segs operations outcomes) (segs_told operation outcome))

pub parts_add : PartsAdd
parts_add shards session call operations outcomes operation outcome is =
    let e : 0 + length outcomes ≡ length outcomes = omega arith in
    let told = call_told shards session call 0 operations outcomes in
    let deeds = call_deeds session call 0 operations outcomes in
    record {
      are = more_are operations outcomes operation outcome is;
      told = more_told shards session call 0 operations outcomes operation outcome is
          ∙ ap (λ n. told ++ part_told shards (entry_at session call n) operation outcome) e;
      deeds = more_deeds session call 0 operations outcomes operation outcome is
          ∙ ap (λ n. deeds ++ deed_told (entry_at session call n) operation outcome ∷ []) e;
      segs = more_segs operations outcomes operation outcome is;
    }
