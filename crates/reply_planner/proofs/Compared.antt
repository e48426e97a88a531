-- Staging buffers that another seat is lent for a while.
use Rattle.std.proofs.Common.{◌≡◌, ℕ, ◌+◌, ◌<◌, ◌≤◌, List, [], ◌∷◌, ◌++◌, Bool, true, false, map, reverse, length}
use Rattle.std.proofs.Common.{zero, suc, ◌⊎◌, ⊎_elim, inl, inr, Some, sym, refl, ap, ◌∙◌, arith}
use Rattle.std.specs.List.{slice_get}
use Rattle.view_sums.specs.Total.{total, same, Each}
use Rattle.view_sums.proofs.Sums.{total-append, total-map}
use Rattle.pin_core.specs.Holding.{Holding, Key, loose_at}
use Rattle.pinned_pool.specs.Views.{view, among, IsLoose}
use Rattle.pinned_pool.specs.Moves.{hold_key, loose_key, holds_for, without_keys, meant_count, times_asked, HasHolds}
use Rattle.pinned_pool.specs.Moves.{losing, gaining}
use Rattle.pinned_pool.specs.declared.view.View.{View}
use Rattle.pinned_pool.proofs.Keys.{taken_by-keys, total-left_by}
use Rattle.pinned_pool.proofs.AfterSteps.{times-append, times-loose, times-taken_by}
use Rattle.frag_value.proofs.Carried.{left_by-behind}
use Rattle.frag_value.proofs.Hands.{each-at}
use Rattle.frag_value.proofs.Sames.{same-yes}
use Rattle.reply_planner.specs.Owned.{AreOwn, keys_for, key_buffers}
use Rattle.reply_planner.specs.Stages.{IsReordered, NoneInBoth, StagesAreApart}
use Rattle.reply_planner.proofs.Owned.{asked-own, asked-pinned, own_held, own-loose}
use Rattle.reply_planner.proofs.Kept.{reverse-cons}

pub each_among : (P : ℕ → Type 0) (bs : List ℕ) → ((b : ℕ) → 0 < among b bs → P b) → Each P bs
each_among P [] all = tt
each_among P (b ∷ bs) all =
    (all b (omega (arith, same-yes b b refl)), each_among P bs (λ c some. all c (omega (arith, some))))

-- the order of a list makes no difference
pub among-reverse : (b : ℕ) (ks : List Key) → among b (key_buffers (reverse ks)) ≡ among b (key_buffers ks)
among-reverse b ks = total-map (λ c. same c b) (λ (k : Key). k.buffer) (reverse ks) ∙ turned ks
    ∙ sym (total-map (λ c. same c b) (λ (k : Key). k.buffer) ks) where
      weight : Key → ℕ
      weight k = same k.buffer b

      turned : (js : List Key) → total weight (reverse js) ≡ total weight js
      turned [] = refl
      turned (j ∷ js) = ap (total weight) (reverse-cons j js)
          ∙ omega (arith, total-append weight (reverse js) (j ∷ []), turned js)

pub own_turned : (hs : List Holding) (ks : List Key) (bs : List ℕ) → bs ≡ key_buffers (reverse ks) → AreOwn hs bs
    → AreOwn hs (key_buffers ks)
own_turned hs ks bs is own = λ b. omega (arith, own b, ap (among b) is, among-reverse b ks)

pub each_turned : (P : ℕ → Type 0) (ks : List Key) (bs : List ℕ) → bs ≡ key_buffers (reverse ks)
    → ((b : ℕ) → 0 < among b (key_buffers ks) → P b) → Each P bs
each_turned P ks bs is all =
    each_among P bs (λ b some. all b (omega (arith, some, ap (among b) is, among-reverse b ks)))

module _ (bs : List ℕ) (mine other : View) (own : AreOwn mine.holds bs) where
  abbrev pub lent : List Holding
  lent = holds_for (keys_for bs) mine.holds

  abbrev pub middle : View
  middle = gaining lent other

  has : HasHolds (keys_for bs) mine.holds
  has = own_held mine.holds bs own

  keys_are : map hold_key lent ≡ keys_for bs
  keys_are = taken_by-keys (keys_for bs) mine.holds has

  pub has_lent : HasHolds (keys_for bs) middle.holds
  has_lent = λ k.
      omega (arith, times-append k other.holds lent, times-taken_by k (keys_for bs) mine.holds has)

  module _ (loose : IsLoose middle) where
    pub none_there : (b : ℕ) → 0 < among b bs → total (loose_at b) other.holds ≡ 0
    none_there b some =
        omega (
          arith,
          some,
          loose b,
          total-append (loose_at b) other.holds lent,
          times-loose b lent,
          times-taken_by (loose_key b) (keys_for bs) mine.holds has,
          asked-own b bs,
        )

    not_before : (c : ℕ) (t : Bool) → 0 < times_asked (record { buffer = c; pinned = t }) (keys_for bs)
        → meant_count (record { buffer = c; pinned = t }) other.holds ≡ 0
    not_before c true some = absurd (omega (arith, some, asked-pinned c bs))
    not_before c false some =
        omega (arith, times-loose c other.holds, none_there c (omega (arith, some, asked-own c bs)))

    others_stay : without_keys (keys_for bs) middle.holds ≡ other.holds
    others_stay =
        ap (λ ks. without_keys ks (other.holds ++ lent)) (sym keys_are)
        ∙ left_by-behind other.holds lent
        (λ k some. not_before k.buffer k.pinned (omega (arith, some, ap (times_asked k) keys_are)))

    pub other_again : losing (keys_for bs) middle ≡ other
    other_again = ap (λ hs. view hs other.credits other.claims other.looks other.returns other.lasts) others_stay

    pub mine_again : IsReordered mine (gaining (holds_for (keys_for bs) middle.holds) (losing (keys_for bs) mine))
    mine_again = record {
      holds = λ weight.
          omega (
            arith,
            total-append weight (without_keys (keys_for bs) mine.holds) (holds_for (keys_for bs) middle.holds),
            total-left_by weight (keys_for bs) middle.holds,
            ap (total weight) others_stay,
            total-append weight other.holds lent,
            total-left_by weight (keys_for bs) mine.holds,
          );
      credits = refl;
      claims = refl;
      looks = refl;
      returns = refl;
      lasts = refl;
    }

-- no hold of one's own, no buffer among one's own
pub apart_from : (bs cs : List ℕ) (hs : List Holding) → Each (λ b. total (loose_at b) hs ≡ 0) bs → AreOwn hs cs
    → NoneInBoth bs cs
apart_from bs cs hs none own k l n here there =
    absurd (omega (
      arith,
      each-at (λ b. total (loose_at b) hs ≡ 0) bs k n here none,
      own n,
      own-loose n hs,
      found cs l there,
    ))
  where
    found : (xs : List ℕ) (i : ℕ) → slice_get xs i ≡ Some n → 0 < among n xs
    found [] i e = absurd (cc)
    found (x ∷ xs) zero e = let same : x ≡ n = cc in omega (arith, same-yes x n same)
    found (x ∷ xs) (suc i) e = omega (arith, found xs i e)

pub apart_again : (bs cs : List ℕ) → NoneInBoth bs cs → NoneInBoth cs bs
apart_again bs cs apart k l n here there = apart l k n there here

-- an item of a list with one more at its end
at_end : {A : Type 0} (xs : List A) (last : A) (i : ℕ) (x : A) → slice_get (xs ++ last ∷ []) i ≡ Some x
    → (slice_get xs i ≡ Some x) ⊎ ((i ≡ length xs) × (last ≡ x))
at_end [] last zero x e = inr (refl, (let same : last ≡ x = cc in same))
at_end [] last (suc i) x e = absurd (cc)
at_end (y ∷ xs) last zero x e = inl e
at_end (y ∷ xs) last (suc i) x e =
    elim (at_end xs last i x e)
    [ inl before ↦ inl before | inr here ↦ inr (ap suc here.0, here.1) ]

-- one list more, which is apart from all of them
pub apart_more : (stages : List (List ℕ)) (last : List ℕ) → StagesAreApart stages
    → Each (λ stage. NoneInBoth last stage) stages → StagesAreApart (stages ++ last ∷ [])
apart_more stages last all apart i j k l n one other first second here there =
    elim (at_end stages last i one first) [
      | inl at ↦ elim (at_end stages last j other second) [
        | inl at' ↦ all i j k l n one other at at' here there
        | inr end ↦ absurd (with_last i k l one other at end.1 here there)
      ]
      | inr end ↦ elim (at_end stages last j other second)
          [ inl at ↦ absurd (with_last j l k other one at end.1 there here) | inr end' ↦ end.0 ∙ sym end'.0 ]
    ]
  where
    with_last : (place m m' : ℕ) (stage stage' : List ℕ) → slice_get stages place ≡ Some stage → last ≡ stage'
        → slice_get stage m ≡ Some n → slice_get stage' m' ≡ Some n → ⊥
    with_last place m m' stage stage' at same in_it in_last =
        each-at (λ x. NoneInBoth last x) stages place stage at apart m' m n
        (ap (λ x. slice_get x m') same ∙ in_last) in_it
