-- A value that got longer at the seat that pays.
use Rattle.std.proofs.Common.{◌≡◌, ℕ, zero, suc, ◌+◌, ◌*◌, ◌/◌, ◌<◌, ◌≤◌, ◌⊎◌, inl, inr, ⊎_elim, Bool, true, false}
use Rattle.std.proofs.Common.{cond, List, [], ◌∷◌, ◌++◌, length, take, drop, Result, Ok, Err, refl, sym, ap, ◌∙◌, subst}
use Rattle.std.proofs.Common.{arith}
use Rattle.std.proofs.lemmas.List.{length-append, length-take-le, length-drop}
use Rattle.view_sums.specs.Total.{Each}
use Rattle.view_sums.proofs.Eachs.{each-back}
use Rattle.pin_core.specs.Holding.{Holding, Key}
use Rattle.pinned_pool.specs.Views.{looked_at}
use Rattle.pin_core.specs.declared.sizes.Sizes.{Sizes}
use Rattle.pin_core.specs.declared.class.Class.{Class}
use Rattle.pin_core.specs.declared.class.Class.TheVariants.{Small, Large}
use Rattle.pinned_pool.specs.Classes.{same_class, buffers_in}
use Rattle.pinned_pool.specs.Moves.{holds_for, without_keys, HasHolds, losing, gaining}
use Rattle.pinned_pool.specs.Sought.{Sought}
use Rattle.pinned_pool.proofs.SoughtLaws.{sought_within, sought_still}
use Rattle.pinned_pool.specs.Named.{IsSeat}
use Rattle.pinned_pool.specs.declared.view.View.{View}
use Rattle.flake_model.specs.Store.{append}
use Rattle.flake_model.specs.Fragments.{full_fragments}
use Rattle.frag_value.specs.Fragments.{pieces, stored_fragments, class_for, fragments_in}
use Rattle.frag_value.specs.Values.{IsValue, IsFilled, keys_of, value_bytes, HasValue, whole_fragments, partial_of}
use Rattle.frag_value.specs.Values.{size_of}
use Rattle.frag_value.specs.Claimed.{ClaimsFor}
use Rattle.frag_value.specs.Changes.{IsAppended, WhyUnappended, anew}
use Rattle.frag_value.specs.declared.error.AppendError.{AppendError}
use Rattle.frag_value.specs.declared.error.AppendError.TheVariants as error
use Rattle.frag_value.proofs.Cuts.{parts, size-append, length-bytes-value}
use Rattle.frag_value.specs.Values.{Frags}
use Rattle.shard_core.specs.Moved.{IsLonger}
use Rattle.shard_core.specs.Demand.{part_row}
use Rattle.shard_core.specs.Paid.{IsPaid, LacksBehind, WhyUnadded}
use Rattle.shard_core.proofs.Carried.{back-again, back-longer}
use Rattle.shard_core.proofs.Needs.{behind_full}

none_or_some : (bytes : List ℕ) → (bytes ≡ []) ⊎ (0 < length bytes)
none_or_some [] = inl refl
none_or_some (b ∷ bytes) = inr (omega arith)

-- how many buffers of each class some bytes take
bit : Class → List ℕ → ℕ
bit class f = cond (same_class (class_for (length f)) class) 1 0

count-pieces : (class : Class) (k : ℕ) (bytes : List ℕ) → fragments_in class (pieces k bytes) ≤ k
count-pieces class zero bytes = omega arith
count-pieces class (suc k) bytes = one (same_class (class_for (length (take 4096 bytes))) class)
    (count-pieces class k (drop 4096 bytes))
  where
    one : (t : Bool) → fragments_in class (pieces k (drop 4096 bytes)) ≤ k
        → cond t 1 0 + fragments_in class (pieces k (drop 4096 bytes)) ≤ suc k
    one true rest = omega (arith, rest)
    one false rest = omega (arith, rest)

small-pieces : (k : ℕ) (bytes : List ℕ) → 4096 * k < length bytes + 4096 → fragments_in Small (pieces k bytes) ≤ 1
small-pieces zero bytes few = omega arith
small-pieces (suc zero) bytes few = count-pieces Small 1 bytes
small-pieces (suc (suc k)) bytes few =
    let whole : length (take 4096 bytes) ≡ 4096 = length-take-le 4096 bytes (omega (arith, few)) in
    let none : cond (same_class (class_for (length (take 4096 bytes))) Small) 1 0 ≡ 0 =
    ap {B = ℕ} (λ n. cond (same_class (class_for n) Small) 1 0) whole in
    omega (arith, none, small-pieces (suc k) (drop 4096 bytes) (omega (arith, few, length-drop 4096 bytes)))

pub demand-row : (class : Class) (key tail bytes : List ℕ) → length tail < 4096 → 0 < length bytes
    → fragments_in class (stored_fragments (tail ++ bytes)) ≤ part_row class (append key bytes)
demand-row class key tail [] less some = absurd (omega arith)
demand-row Small key tail (b ∷ bytes) less some =
    small-pieces ((length (tail ++ b ∷ bytes) + 4095) / 4096) (tail ++ b ∷ bytes)
    (omega (arith, length-append tail (b ∷ bytes)))
demand-row Large key tail (b ∷ bytes) less some =
    omega (
      arith,
      count-pieces Large ((length (tail ++ b ∷ bytes) + 4095) / 4096) (tail ++ b ∷ bytes),
      length-append
          tail (b ∷ bytes),
      less,
    )

-- the partial fragment of a value
pub tail-short : (z : Sizes) (hs : List Holding) (v : Frags) → IsValue z v → HasValue hs v
    → length (value_bytes hs (partial_of v)) < 4096
tail-short z hs v is has =
    let all = parts (size_of v) v is.cut in
    let filled = each-back (IsFilled hs) (whole_fragments v) (partial_of v)
    (subst (Each (IsFilled hs)) all.whole has.filled) in
    omega (
      arith,
      length-bytes-value hs (partial_of v) filled,
      all.size,
      ap size_of all.whole,
      size-append
          (whole_fragments v) (partial_of v),
    )

pub same_ok : {E : Type 0} (w v : Frags) (a b : Result Frags E) → a ≡ Ok w → b ≡ Ok v → a ≡ b → w ≡ v
same_ok w v a b is iz e = let both : Ok w ≡ Ok v = sym is ∙ e ∙ iz in cc

pub not_err : {E : Type 0} (x : E) (v : Frags) (a b : Result Frags E) → a ≡ Err x → b ≡ Ok v → a ≡ b → ⊥
not_err x v a b is iz e = let both : Err x ≡ Ok v = sym is ∙ e ∙ iz in cc

-- the seats of an append between two moves
module _ (z : Sizes) (v : Frags) (bytes : List ℕ) (hs : List Holding) (payer payer1 payer2 payer3 : View)
    (is : IsValue z v) (has : HasHolds (keys_of v) hs) (has1 : HasValue payer1.holds v) (seat : IsSeat z payer1)
    (came : payer1 ≡ gaining (holds_for (keys_of v) hs) payer) where
  pub back-same : without_keys (keys_of v) payer1.holds ≡ payer.holds
  back-same = back-again z v payer.holds hs payer1.holds payer1 seat refl (ap (λ (x : View). x.holds) came) has

  anew-few : (class : Class) → 0 < length bytes → fragments_in class (anew payer1.holds v bytes) ≤ part_row class
      (append [] bytes)
  anew-few class some = demand-row class [] (value_bytes payer1.holds (partial_of v)) bytes
      (tail-short z payer1.holds v is has1) some

  module _ (w : Frags) (appended : IsAppended v bytes w payer1 payer2)
      (empty : bytes ≡ [] → (w ≡ v) × (payer2 ≡ payer1)) where
    pub back-whole : without_keys (keys_of w) payer2.holds ≡ payer.holds
    back-whole = by (none_or_some bytes)
      where
        by : (bytes ≡ []) ⊎ (0 < length bytes) → without_keys (keys_of w) payer2.holds ≡ payer.holds
        by (inl none) = let e = empty none in (λ i. without_keys (keys_of (e.0 i)) (e.1 i).holds) ∙ back-same
        by (inr some) = let m = appended.moved some in back-longer v w m.added payer1.holds payer2.holds payer.holds
            (parts (size_of v) v is.cut).whole m.parts m.holds back-same

    pub longer : (own new : List Holding) → value_bytes new w ≡ value_bytes payer2.holds w → value_bytes payer1.holds v
        ≡ value_bytes own v → IsLonger v w bytes own new
    longer own new after before = by (none_or_some bytes)
      where
        text : value_bytes new w ≡ value_bytes own v ++ bytes
        text = after ∙ appended.bytes_are ∙ ap (λ l. l ++ bytes) before

        by : (bytes ≡ []) ⊎ (0 < length bytes) → IsLonger v w bytes own new
        by (inl none) = record {
          bytes_are = text;
          few = appended.few;
          added = partial_of v;
          parts = (empty none).0 ∙ (parts (size_of v) v is.cut).whole;
          same = λ none. (empty none).0;
        }
        by (inr some) = let m = appended.moved some in record {
          bytes_are = text;
          few = appended.few;
          added = m.added;
          parts = m.parts;
          same = λ none. (empty none).0;
        }

  -- what was claimed and looked at
  module _ (ks : List Key) (left : payer3 ≡ losing ks payer2)
      (claims : ClaimsFor z (anew payer1.holds v bytes) payer1 payer2) where
    anew-sought : (n : ℕ) → 0 < length bytes → Sought z (λ class. fragments_in class (anew payer1.holds v bytes)) n
        payer1 payer2 → Sought z (λ class. part_row class (append [] bytes)) n payer1 payer2
    anew-sought n some sought = sought_within z (λ class. fragments_in class (anew payer1.holds v bytes))
        (λ class. part_row class (append [] bytes)) n payer1 payer2 sought (λ class. anew-few class some)

    nothing-sought : (n : ℕ) → n ≡ 0 → payer2 ≡ payer1 → Sought z (λ class. part_row class (append [] bytes)) n payer1
        payer2
    nothing-sought n none same = record {
      missed = λ class. 0;
      missed_are = sym none;
      claims = λ class. omega (arith, ap (λ (x : View). buffers_in z class x.claims) same);
      looks = λ b near. omega (arith, ap (λ (x : View). looked_at b x.looks) same);
    }

    pub paid : (n : ℕ) → without_keys ks payer2.holds ≡ payer.holds → (bytes ≡ [] → (n ≡ 0) × (payer2 ≡ payer1))
        → Sought z (λ class. fragments_in class (anew payer1.holds v bytes)) n payer1 payer2
        → IsPaid z (λ class. part_row class (append [] bytes)) n payer payer3
    paid n back empty sought =
        let rows : Class → ℕ = λ class. part_row class (append [] bytes) in
        let inner : Sought z rows n payer1 payer2 = ⊎_elim (λ none. nothing-sought n (empty none).0 (empty none).1)
        (λ some. anew-sought n some sought) (none_or_some bytes) in
        let outer = sought_still z rows n payer1 payer2 payer3 inner (ap (λ (x : View). x.claims) left)
        (ap (λ (x : View). x.looks) left) in
        record {
          holds = ap (λ (x : View). x.holds) left ∙ back;
          credits = ap (λ (x : View). x.credits) left ∙ claims.keeps.credits ∙ ap (λ (x : View). x.credits) came;
          returns = ap (λ (x : View). x.returns) left ∙ claims.keeps.returns ∙ ap (λ (x : View). x.returns) came;
          claims = (
            claims.claims.0,
            ap (λ (x : View). x.claims) left ∙ claims.claims.1
                ∙ ap (λ (x : View). x.claims ++ claims.claims.0) came,
          );
          looks = (
            claims.keeps.looks.0,
            ap (λ (x : View). x.looks) left ∙ claims.keeps.looks.1
                ∙ ap (λ (x : View). x.looks ++ claims.keeps.looks.0) came,
          );
          sought = record {
            missed = outer.missed;
            missed_are = outer.missed_are;
            claims = λ class. omega (arith, outer.claims class, ap (λ (x : View). buffers_in z class x.claims) came);
            looks = λ b near. omega (arith, outer.looks b near, ap (λ (x : View). looked_at b x.looks) came);
          };
        }

    pub lacks : (e : AppendError) → (bytes ≡ [] → ⊥) → WhyUnappended z v bytes e payer1 payer2 → (text : List ℕ)
        → value_bytes payer1.holds v ≡ text → LacksBehind z text bytes e payer payer3
    lacks (error.TooLong n) some reason text same = tt
    lacks (error.NoBuffer none) some reason text same = (
      ⊎_elim (λ e. absurd (some e)) (λ more. more) (none_or_some bytes),
      omega (
        arith,
        reason.1.fewer,
        ap (λ (x : View). buffers_in z none.class x.claims) left,
        ap (λ (x : View). buffers_in z none.class x.claims) came,
        ap (λ (l : List ℕ). fragments_in none.class (stored_fragments (l ++ bytes)))
            (behind_full z payer1.holds v is has1.filled
            ∙ ap (λ (l : List ℕ). drop (4096 * full_fragments l) l) same),
      ),
    )
    lacks error.Memory some reason text same = tt

    pub why : (e : AppendError) → (bytes ≡ [] → ⊥) → WhyUnappended z v bytes e payer1 payer2
        → WhyUnadded z v bytes e payer payer3
    why (error.TooLong n) some reason = (
      omega (arith, reason.0, reason.1),
      ap (λ (x : View). x.claims) left ∙ ap (λ (x : View). x.claims) reason.2 ∙ ap (λ (x : View). x.claims) came,
      ap (λ (x : View). x.looks) left ∙ ap (λ (x : View). x.looks) reason.2 ∙ ap (λ (x : View). x.looks) came,
    )
    why (error.NoBuffer none) some reason = (
      reason.0,
      record {
        looked = reason.1.looked;
        found = λ b near class. omega (
          arith,
          reason.1.found b near class,
          ap (λ (x : View). looked_at b x.looks) left,
          ap
              (λ (x : View). looked_at b x.looks) came,
        );
        fewer = ⊎_elim (λ e. absurd (some e))
            (λ more. omega (
              arith,
              reason.1.fewer,
              ap (λ (x : View). buffers_in z none.class x.claims) left,
              ap
                  (λ (x : View). buffers_in z none.class x.claims) came,
              anew-few none.class more,
            )) (none_or_some bytes);
      },
    )
    why error.Memory some reason = reason
