-- A text of one fragment, and the buffer that is claimed for it.
use Rattle.std.proofs.Common.{◌≡◌, ℕ, ◌-◌, ◌*◌, ◌<◌, ◌≤◌, min, List, [], ◌∷◌, Bool, true, false, cond, eqb, length, sym}
use Rattle.std.proofs.Common.{refl, ap, ◌∙◌, subst, arith}
use Rattle.std.proofs.lemmas.List.{take_all}
use Rattle.pin_core.specs.Holding.{Key}
use Rattle.pin_core.specs.declared.sizes.Sizes.{Sizes}
use Rattle.pin_core.specs.declared.class.Class.{Class}
use Rattle.pinned_pool.specs.Starts.{ClaimsOne, ClaimsNone}
use Rattle.pinned_pool.specs.Moves.{HasHolds}
use Rattle.pinned_pool.specs.declared.pool.NoBuffer.{NoBuffer}
use Rattle.pinned_pool.specs.declared.view.View.{View}
use Rattle.frag_value.specs.Fragments.{stored_fragments, class_for}
use Rattle.frag_value.specs.Values.{IsCut, keys_of}
use Rattle.frag_value.specs.Filled.{Fills, FillsAll}
use Rattle.frag_value.specs.Claimed.{ClaimsFor, ClaimsFront, NoneLeft, NoneLeftFor}
use Rattle.frag_value.specs.Changes.{IsWritten}
use Rattle.frag_value.proofs.FilledEach.{WrittenTo, written_more, filled_all}
use Rattle.frag_value.proofs.Placed.{all_ready, filled_stays, same_stays, claims_for, none_left_of, is_written}

module _ (z : Sizes) (class : Class) (bytes : List ℕ) (some : 0 < length bytes) (short : length bytes ≤ 4096)
    (is : class ≡ class_for (length bytes)) where
  class_is : (m : ℕ) → m ≡ length bytes → class ≡ class_for m
  class_is m e = is ∙ ap class_for (sym e)

  -- it was claimed
  module _ (k : Key) (u v : View) (won : ClaimsOne z class k u v) where
    front_one : ClaimsFront z (length bytes) (k ∷ [])
    front_one =
        let here = won.class_is in
        (some, here.0, here.1 ∙ class_is (min 4096 (length bytes)) (omega (arith, short)), tt)

    -- and filled
    module _ (w : View) (fills : Fills k.buffer bytes v w) where
      filled_one : FillsAll (k ∷ []) bytes ((k.buffer, length bytes) ∷ []) v w
      filled_one =
          let p : ℕ × ℕ = (k.buffer, length bytes) in
          let key : keys_of (p ∷ []) ≡ k ∷ [] = ap (λ (j : Key). j ∷ []) (sym won.claims.loose.0) in
          let ready = all_ready z (length bytes) (k ∷ []) u v won.claims front_one
          (omega (arith, short)) in
          let cut : IsCut (length bytes) (p ∷ []) = (some, omega (arith, short), omega (arith, short)) in
          let none : WrittenTo (p ∷ []) bytes v 0 v = record {
            has = record { held = λ b. omega arith; filled = tt };
            text = refl;
            fronts = [];
            fronts_are = refl;
            seat = refl;
          } in
          let all : WrittenTo (p ∷ []) bytes v 1 w = written_more (p ∷ []) bytes v v 0 p refl none w bytes cut
          (λ b. omega (arith, one_bit (eqb k.buffer b))) (subst (λ js. HasHolds js v.holds) (sym key) ready.held)
          (sym (take_all (length bytes) bytes (omega arith))) fills in
          subst (λ js. FillsAll js bytes (p ∷ []) v w) key (filled_all (p ∷ []) bytes v w 1 (omega arith) cut all)
        where
          one_bit : (t : Bool) → cond t 1 0 ≤ 1
          one_bit true = omega arith
          one_bit false = omega arith

      pub claims_filled : ClaimsFor z (stored_fragments bytes) u w
      claims_filled =
          claims_for z (k ∷ []) (length bytes) bytes u v w refl won.claims front_one
          (filled_stays (k ∷ []) bytes ((k.buffer, length bytes) ∷ []) v w filled_one)

      pub written_one : (x : List (ℕ × ℕ)) → x ≡ (k.buffer, length bytes) ∷ [] → IsWritten bytes x u w
      written_one x e = subst (λ y. IsWritten bytes y u w) (sym e)
          (is_written (k ∷ []) bytes ((k.buffer, length bytes) ∷ []) u v w won.claims filled_one)

  -- there was none
  module _ (e : NoBuffer) (u w : View) (none : ClaimsNone z class e u w) where
    pub claims_missed : ClaimsFor z (stored_fragments bytes) u w
    claims_missed = claims_for z [] (length bytes) bytes u w w refl none.claims tt (same_stays w w refl)

    pub none_one : NoneLeft z (stored_fragments bytes) e u w
    none_one =
        let left : NoneLeftFor z (length bytes) 0 e u w = record {
          more = omega (arith, some);
          class = none.of_class ∙ class_is (min 4096 (length bytes - 4096 * 0)) (omega (arith, short));
          looked = none.free.looked;
          found = none.free.found;
        } in
        none_left_of z [] (length bytes) bytes e u w w refl none.claims tt left (same_stays w w refl)
