-- Claims that begin at any buffer of a class.
use Rattle.std.proofs.Common.{◌≡◌, ℕ, ◌+◌, ◌-◌, ◌<◌, ◌≤◌, ⊎_elim, [], ◌∷◌, refl, ap, ◌∙◌, sym, subst, arith}
use Rattle.std.proofs.Common.{inl, inr, lt_of_not-le}
use Rattle.std.specs.Prelude.{nat_lt, if◌then◌else◌}
use mathlib.Core.Logic.{dite}
use native.Mathlib.Decide.{dec_le}
use Rattle.pin_core.specs.Buffers.{buffers}
use Rattle.pin_core.specs.Holding.{Key}
use Rattle.pin_core.specs.declared.sizes.Sizes.{Sizes}
use Rattle.pin_core.specs.declared.class.Class.{Class}
use Rattle.pinned_pool.specs.Views.{looked_at}
use Rattle.pinned_pool.specs.Claims.{class_start, count_of, Passed, WinsIn}
use Rattle.pinned_pool.specs.Claimed.{Claims}
use Rattle.pinned_pool.specs.Classes.{class_at, just, buffers_in}
use Rattle.pinned_pool.specs.Sought.{Sought}
use Rattle.pinned_pool.specs.Starts.{start_in, tried_last, PassedBehind, WinsAround, ClaimsOne, ClaimsNone}
use Rattle.pinned_pool.specs.declared.pool.NoBuffer.{NoBuffer}
use Rattle.pinned_pool.specs.declared.start.ClaimStart.{ClaimStart}
use Rattle.pinned_pool.specs.declared.view.View.{View}
use Rattle.pinned_pool.proofs.Still.{won-class}
use Rattle.pinned_pool.proofs.InClasses.{in_class, in_range, found_in, looked-more, buffers-append, decide, just-else}
use Rattle.pinned_pool.proofs.InClasses.{just-both, just-most}
use Rattle.pinned_pool.proofs.ManyClaims.{claims_then, claims_one, claims_passed}

-- the buffer that was won is one of the class
one_in : (z : Sizes) (class : Class) (first count : ℕ) (k : Key) (v w : View) → class_start z class ≤ first
    → first + count ≤ class_start z class + count_of z class → WinsIn first count k v w → ClaimsOne z class k v w
one_in z class first count k v w low high won =
    let range = won-class first count k v w won in
    record {
      class_is = in_class z class k.buffer (omega (arith, low, range.0)) (omega (arith, high, range.1));
      claims = claims_one first count k v w won;
    }

-- also behind others that were found held
one_behind : (z : Sizes) (class : Class) (k : Key) (u v w : View) → Claims [] u v → ClaimsOne z class k v w
    → ClaimsOne z class k u w
one_behind z class k u v w none one = record {
  class_is = one.class_is;
  claims = claims_then [] (k ∷ []) u v w none one.claims;
}

pub claimed_around : (z : Sizes) (class : Class) (n : ℕ) (k : Key) (u w : View) → n ≤ count_of z class
    → WinsAround z class n k u w → ClaimsOne z class k u w
claimed_around z class n k u w few won =
    ⊎_elim
    (λ behind. one_in z class (class_start z class + n) (count_of z class - n) k u w (omega arith) (omega (arith, few))
    behind)
    (λ front. one_behind z class k u front.0 w
    (claims_passed (class_start z class + n) (count_of z class - n) u front.0 front.1)
    (one_in z class (class_start z class) n k front.0 w (omega arith) (omega (arith, few)) front.2))
    won

-- all were found held, those behind the first n ones first
pub none_around : (z : Sizes) (class : Class) (n : ℕ) (none : NoBuffer) (u v w : View) → n ≤ count_of z class
    → none.class ≡ class → none.looked ≡ count_of z class → PassedBehind z class n u v
    → Passed (class_start z class) n v w → ClaimsNone z class none u w
none_around z class n none u v w few of_class looked behind front = record {
  of_class = of_class;
  free = record { looked = looked ∙ ap (count_of z) (sym of_class); found = found };
  claims = claims_then [] [] u v w one two;
}
  where
    one : Claims [] u v
    one = claims_passed (class_start z class + n) (count_of z class - n) u v behind

    two : Claims [] v w
    two = claims_passed (class_start z class) n v w front

    found : (b : ℕ) → b < buffers z → class_at z b ≡ none.class → looked_at b u.looks < looked_at b w.looks
    found b near at =
        let range = in_range z class b near (at ∙ of_class) in
        let more = looked-more b u v one.keeps.looks.0 one.keeps.looks.1 in
        let too = looked-more b v w two.keeps.looks.0 two.keeps.looks.1 in
        dite (dec_le (class_start z class + n) b)
        (λ low. omega (
          arith,
          too,
          found_in (class_start z class + n) (count_of z class - n) u v behind b low (omega (arith, range.1, few)),
        ))
        (λ high. omega (
          arith,
          more,
          found_in (class_start z class) n v w front b range.0 (lt_of_not-le high),
        ))

pub sought_one : (z : Sizes) (class : Class) (k : Key) (v w : View) → ClaimsOne z class k v w
    → Sought z (just class 1) 0 v w
sought_one z class k v w one = record {
  missed = λ other. 0;
  missed_are = refl;
  claims = λ other. omega (
    arith,
    ap (λ c. just c 1 other) one.class_is.1,
    ap (buffers_in z other) one.claims.claims,
    buffers-append z other v.claims (k.buffer ∷ []),
  );
  looks = λ b near. omega (arith, looked-more b v w one.claims.keeps.looks.0 one.claims.keeps.looks.1);
}

pub sought_none : (z : Sizes) (class : Class) (e : NoBuffer) (v w : View) → ClaimsNone z class e v w
    → Sought z (just class 1) 1 v w
sought_none z class e v w none = record {
  missed = just class 1;
  missed_are = just-both class 1;
  claims = λ other. omega (
    arith,
    ap (buffers_in z other) none.claims.claims,
    buffers-append z other v.claims [],
  );
  looks = λ b near. at_class b near (class_at z b) refl;
}
  where
    at_class : (b : ℕ) → b < buffers z → (here : Class) → class_at z b ≡ here → looked_at b v.looks + just class 1 here
        ≤ looked_at b w.looks
    at_class b near here is =
        ⊎_elim
        (λ same. omega (
          arith,
          just-most class here 1,
          none.free.found b near (is ∙ same ∙ sym none.of_class),
        ))
        (λ away. omega (
          arith,
          just-else class here 1 away,
          looked-more b v w none.claims.keeps.looks.0 none.claims.keeps.looks.1,
        ))
        (decide class here)

-- the class's buffers, as a claim finds them
module _ (z : Sizes) (class : Class) (s : ClaimStart) (first count last : ℕ) (first_is : first ≡ class_start z class)
    (count_is : count ≡ count_of z class)
    (last_is : last ≡ (if nat_lt (start_in class s) count then start_in class s else 0)) where
  pub last_tried : last ≡ tried_last z class s
  last_tried = last_is ∙ ap (λ n. if nat_lt (start_in class s) n then start_in class s else 0) count_is

  pub wins_behind : (k : Key) (v w : View) → WinsIn (first + last) (count - last) k v w
      → WinsAround z class (tried_last z class s) k v w
  wins_behind k v w won = inl
      (subst (λ n. WinsIn (class_start z class + tried_last z class s) n k v w) (λ i. count_is i - last_tried i)
      (subst (λ b. WinsIn b (count - last) k v w) (λ i. first_is i + last_tried i) won))

  held_behind : (v w : View) → Passed (first + last) (count - last) v w
      → PassedBehind z class (tried_last z class s) v w
  held_behind v w passed =
      subst (λ n. Passed (class_start z class + tried_last z class s) n v w) (λ i. count_is i - last_tried i)
      (subst (λ b. Passed b (count - last) v w) (λ i. first_is i + last_tried i) passed)

  pub wins_front : (k : Key) (u v w : View) → Passed (first + last) (count - last) u v → WinsIn first last k v w
      → WinsAround z class (tried_last z class s) k u w
  wins_front k u v w passed won = inr (
    v,
    held_behind u v passed,
    subst (λ n. WinsIn (class_start z class) n k v w) last_tried (subst (λ b. WinsIn b last k v w) first_is won),
  )

  pub none_found : (none : NoBuffer) (u v w : View) → last ≤ count → none.class ≡ class → none.looked ≡ count
      → Passed (first + last) (count - last) u v → Passed first last v w → ClaimsNone z class none u w
  none_found none u v w few of_class looked behind front =
      none_around z class (tried_last z class s) none u v w (omega (arith, few, last_tried, count_is)) of_class
      (looked ∙ count_is) (held_behind u v behind)
      (subst (λ n. Passed (class_start z class) n v w) last_tried (subst (λ b. Passed b last v w) first_is front))

pub ruleset from_start = (claimed_around, none_around, sought_one, sought_none)
