-- What takes a place in a list, and seats that become one.
use Rattle.std.proofs.Common.{◌≡◌, ℕ, ◌+◌, ◌*◌, ◌<◌, List, [], ◌∷◌, ◌++◌, Option, Some, None, All}
use Rattle.std.proofs.Common.{map, length, IfSome, refl, ap, sym, ◌∙◌, subst, arith, length-append}
use Rattle.std.specs.Prelude.{slice_index_or, slice_set}
use Rattle.std.specs.List.{insert}
use Rattle.std.proofs.lemmas.List.Elements.{All-head, All-tail, All-cons}
use Rattle.view_sums.specs.Total.{same, Each}
use Rattle.view_sums.proofs.Sums.{total-append}
use Rattle.std.proofs.lemmas.List.{length-map}
use Rattle.pin_core.specs.declared.sizes.Sizes as pool
use Rattle.pinned_pool.specs.Moves.{joined_views}
use Rattle.pinned_pool.specs.declared.view.View.{View}
use Rattle.serve_model.specs.Seats.{HasAll, IsSpare}
use Rattle.serve_model.proofs.Seats.{joins_add}
use Rattle.run_resources.specs.Opened.{credits_of_dump, dump_credits, pool_sizes}
use Rattle.run_resources.specs.declared.sizes.RunSizes.{RunSizes}
use Rattle.session_serve.specs.Dumps.{CanKeepAll}
use Rattle.serve_inputs.specs.Orders.{DumpRequest, IsUnasked, IsFirstAsked}
use Rattle.serve_inputs.specs.declared.orders.Order.{Order}

module _ {X : Type 0} where
  pub insert_behind : (xs ys : List X) (x : X) → insert (xs ++ ys) (length xs) x ≡ xs ++ x ∷ ys
  insert_behind [] ys x = refl
  insert_behind (y ∷ xs) ys x = ap (λ (l : List X). y ∷ l) (insert_behind xs ys x)

  -- what holds of all holds still, where it holds of the one that is put in the first's place
  pub first_all : (xs : List X) (x z : X) (Q : X → Type 0) → 0 < length xs → x ≡ slice_index_or xs 0 x → All Q xs
      → (Q x → Q z) → All Q (slice_set xs 0 z)
  first_all [] x z Q less is all each = absurd (omega (arith, less))
  first_all (y ∷ xs) x z Q less is all each =
      All-cons Q z xs (each (subst Q (sym is) (All-head Q y xs all))) (All-tail Q y xs all)

  module _ {P W : Type 0} (f : X → DumpRequest P W) where
    each_unasked : (xs : List X) → All (λ (x : X). (f x).0 ≡ None) xs → Each IsUnasked (map f xs)
    each_unasked [] all = tt
    each_unasked (x ∷ xs) all = (
      All-head (λ (x : X). (f x).0 ≡ None) x xs all,
      each_unasked xs (All-tail (λ (x : X). (f x).0 ≡ None) x xs all),
    )

    pub none_asked : (order : Option (Order P W)) (xs : List X) → order ≡ None
        → All (λ (x : X). (f x).0 ≡ None) xs → IsFirstAsked order (map f xs)
    none_asked order xs none all =
        subst (λ (o : Option (Order P W)). IsFirstAsked o (map f xs)) (sym none) (each_unasked xs all)

    pub first_asked : (order : Option (Order P W)) (own : Order P W) (xs : List X) (z : X) → order ≡ Some own
        → 0 < length xs → All (λ (x : X). (f x).0 ≡ None) xs → f z ≡ (Some own.plan, Some own.wire)
        → IsFirstAsked order (map f (slice_set xs 0 z))
    first_asked order own [] z order_is less all asked = absurd (omega (arith, less))
    first_asked order own (y ∷ xs) z order_is less all asked =
        subst (λ (o : Option (Order P W)). IsFirstAsked o (map f (z ∷ xs))) (sym order_is)
        (asked, each_unasked xs (All-tail (λ (x : X). (f x).0 ≡ None) y xs all))

  module _ {Y : Type 0} where
    through : {Z : Type 0} (h : X → Y) (f : Y → Z) (xs : List X) → map (λ (x : X). f (h x)) xs ≡ map f (map h xs)
    through h f [] = refl
    through {Z} h f (x ∷ xs) = ap (λ (l : List Z). f (h x) ∷ l) (through h f xs)

    -- what is said of a part that stays
    pub stays : {Z : Type 0} (xs ys : List X) (h : X → Y) (f : Y → Z) → map h xs ≡ map h ys
        → map (λ (x : X). f (h x)) xs ≡ map (λ (x : X). f (h x)) ys
    stays xs ys h f is = through h f xs ∙ ap (map f) is ∙ sym (through h f ys)

-- a seat that was split off for a dump can keep the values of a pool of these sizes
pub can_keep : {P W : Type 0} (order : Option (Order P W)) (count : ℕ) (sizes : RunSizes) (z : pool.Sizes) (shards : ℕ)
    → IfSome order (λ o. sizes.dump ≡ Some o.plan.before)
    → IfSome order (λ o. IsSpare o.plan.seat × (o.plan.seat.credits ≡ dump_credits sizes))
    → z ≡ pool_sizes count sizes → shards ≡ sizes.shards
    → IfSome order (λ o. CanKeepAll z shards o.plan.seat)
can_keep None count sizes z shards before seat z_is shards_are = tt
can_keep (Some order) count sizes z shards before seat z_is shards_are =
    let most = sizes.shards * (sizes.small + sizes.large) in
    let own : CanKeepAll (pool_sizes count sizes) sizes.shards order.plan.seat =
    (seat.0.holds, omega (arith, seat.1, ap (λ (a : Option ℕ). credits_of_dump a (most + 4)) before)) in
    subst (λ (q : pool.Sizes × ℕ). CanKeepAll q.0 q.1 order.plan.seat) (λ i. (sym z_is i, sym shards_are i)) own

-- how many items there are of two parts
pub length_behind : {X Y : Type 0} (xs : List X) (f : X → Y) (past whole : List Y) → whole ≡ map f xs ++ past
    → length whole ≡ length xs + length past
length_behind xs f past whole is = omega (arith, ap length is, length-append (map f xs) past, length-map xs f)

-- two seats that have nothing are one
pub spare_both : (one two : View) → IsSpare one → IsSpare two → IsSpare (joined_views one two)
spare_both one two a b = record {
  holds = λ i. a.holds i ++ b.holds i;
  idle = record { claims = λ i. a.idle.claims i ++ b.idle.claims i; looks = λ i. a.idle.looks i ++ b.idle.looks i };
}

pub all_with_both : (seats : List View) (one two main : View) → HasAll (one ∷ seats) main
    → HasAll (joined_views one two ∷ seats) (joined_views main two)
all_with_both seats one two main is = let has = joins_add (one ∷ seats) main two is in record {
  holds = λ weight. omega (arith, has.holds weight, total-append weight one.holds two.holds);
  credits = omega (arith, has.credits);
  claims = λ weight. omega (arith, has.claims weight, total-append weight one.claims two.claims);
  looks = λ b. omega (arith, has.looks b, total-append (λ (l : ℕ × ℕ). same l.0 b) one.looks two.looks);
  returns = omega (arith, has.returns);
}

-- what all of some have at a field, those have that have the same fields
pub each_as : {X Y : Type 0} (xs ys : List X) (field : X → Y) (common : Y) → map field xs ≡ map field ys
    → All (λ (y : X). field y ≡ common) ys → Each (λ (x : X). field x ≡ common) xs
each_as [] ys field common same all = tt
each_as (x ∷ xs) [] field common same all = absurd (cc)
each_as {X} (x ∷ xs) (y ∷ ys) field common same all =
    let first : field x ≡ field y = cc in
    let rest : map field xs ≡ map field ys = cc in (
      first ∙ All-head (λ (z : X). field z ≡ common) y ys all,
      each_as xs ys field common rest (All-tail (λ (z : X). field z ≡ common) y ys all),
    )
