-- What accounts of credits add up to, as credits come and go.
use Rattle.std.proofs.Common.{◌≡◌, ℕ, zero, suc, ◌+◌, ◌-◌, ◌≤◌, List, [], ◌∷◌, ◌++◌, Bool, true, false, cond, eqb}
use Rattle.std.proofs.Common.{length, get_or, set, replicate, sym, refl, ap, ◌∙◌, subst, arith}
use Rattle.std.proofs.lemmas.Bool.{eqb-true, eq-eqb, and_parts, and_from}
use Rattle.std.specs.Prelude.{None, Some, find, position}
use Rattle.view_sums.specs.Total.{total, SameItems}
use Rattle.view_sums.proofs.Sums.{total-append}
use Rattle.view_sums.proofs.Items.{length-total, total-replicate_one, total-replicate-add}
use Rattle.pin_core.specs.Answers.{same_holder, credits_of}
use Rattle.pin_core.specs.Accounts.{is_of, account_credits, AreSingle}
use Rattle.pin_core.specs.declared.holder.Holder.{Holder}
use Rattle.pin_core.specs.declared.holder.Holder.TheVariants.{Shard, Session, Parcel}
use Rattle.pin_core.specs.declared.credits.Account.{Account}
use Rattle.pin_core.proofs.Found.{IsFirst, is_first, count_none}

pub same_holder-true : (p q : Holder) → same_holder p q ≡ true → p ≡ q
same_holder-true (Shard a) (Shard b) e = ap Shard (eqb-true a b e)
same_holder-true (Session a) (Session b) e = ap Session (eqb-true a b e)
same_holder-true (Parcel a k) (Parcel b n) e = let t = and_parts (eqb a b) (eqb k n) e in
    ap (λ x. Parcel x k) (eqb-true a b t.0) ∙ ap (λ y. Parcel b y) (eqb-true k n t.1)
same_holder-true (Shard a) (Session b) e = absurd (cc)
same_holder-true (Shard a) (Parcel b n) e = absurd (cc)
same_holder-true (Session a) (Shard b) e = absurd (cc)
same_holder-true (Session a) (Parcel b n) e = absurd (cc)
same_holder-true (Parcel a k) (Shard b) e = absurd (cc)
same_holder-true (Parcel a k) (Session b) e = absurd (cc)

pub same_holder-refl : (p : Holder) → same_holder p p ≡ true
same_holder-refl (Shard a) = eq-eqb a a refl
same_holder-refl (Session a) = eq-eqb a a refl
same_holder-refl (Parcel a k) = and_from (eqb a a) (eqb k k) (eq-eqb a a refl) (eq-eqb k k refl)

-- 1 for the holder
abbrev pub one_of : Holder → Holder → ℕ
one_of p q = cond (same_holder q p) 1 0

pub one_of-true : (p q : Holder) → same_holder q p ≡ true → one_of p q ≡ 1
one_of-true p q e = ap {B = ℕ} (λ t. cond t 1 0) e

-- 1 for an account of the holder
abbrev pub account_of : Holder → Account → ℕ
account_of p a = cond (is_of p a) 1 0

module _ (weight : Holder → ℕ) where
  pub total-credits_in-append : (xs ys : List Account) → total weight (account_credits (xs ++ ys))
      ≡ total weight (account_credits xs) + total weight (account_credits ys)
  total-credits_in-append [] ys = omega arith
  total-credits_in-append (a ∷ xs) ys =
      omega (
        arith,
        total-append weight (replicate a.credits a.holder) (account_credits (xs ++ ys)),
        total-append weight
            (replicate a.credits a.holder) (account_credits xs),
        total-credits_in-append xs ys,
      )

  pub total-credits_in-cons : (a : Account) (ys : List Account) → total weight (account_credits (a ∷ ys))
      ≡ total weight (replicate a.credits a.holder) + total weight (account_credits ys)
  total-credits_in-cons a ys = total-append weight (replicate a.credits a.holder) (account_credits ys)

  -- the credits round one account
  pub credits_round : (before behind : List Account) (a : Account)
      → total weight (account_credits (before ++ a ∷ behind)) ≡ total weight (account_credits before)
      + (total weight (replicate a.credits a.holder) + total weight (account_credits behind))
  credits_round before behind a =
      omega (arith, total-credits_in-append before (a ∷ behind), total-credits_in-cons a behind)

none_bit : (t : Bool) (n : ℕ) → cond t 1 0 + n ≡ 0 → t ≡ false
none_bit true n e = absurd (omega arith)
none_bit false n e = refl

zero_copies : (p q : Holder) (n : ℕ) → same_holder q p ≡ false → total (one_of p) (replicate n q) ≡ 0
zero_copies p q zero e = refl
zero_copies p q (suc n) e = omega (arith, ap {B = ℕ} (λ t. cond t 1 0) e, zero_copies p q n e)

-- a holder without an account has no credit
pub no_account : (p : Holder) (accounts : List Account) → total (account_of p) accounts ≡ 0
    → credits_of p (account_credits accounts) ≡ 0
no_account p [] none = refl
no_account p (a ∷ rest) none =
    let other = none_bit (same_holder a.holder p) (total (account_of p) rest) none in
    omega (
      arith,
      total-credits_in-cons (one_of p) a rest,
      zero_copies p a.holder a.credits other,
      no_account p rest
          (omega (arith, none)),
    )

-- the one account of a holder has its credits
pub credits_of-first : (p : Holder) (accounts : List Account) (k : ℕ) (f : IsFirst (is_of p) accounts k)
    → AreSingle accounts → credits_of p (account_credits accounts) ≡ f.item.credits
credits_of-first p accounts k f single =
    let all = ap (total (account_of p)) f.whole in
    let parts = total-append (account_of p) f.before (f.item ∷ f.behind) in
    let mine = one_of-true p f.item.holder f.passes in
    let front = no_account p f.before (omega (arith, single p, all, parts, mine)) in
    let back = no_account p f.behind (omega (arith, single p, all, parts, mine)) in
    let copies = total-replicate_one (one_of p) f.item.credits f.item.holder mine in
    ap (λ (as' : List Account). credits_of p (account_credits as')) f.whole
    ∙ omega (arith, credits_round (one_of p) f.before f.behind f.item, front, back, copies)

pub credits_of-none : (p : Holder) (accounts : List Account) → find (is_of p) accounts ≡ None
    → credits_of p (account_credits accounts) ≡ 0
credits_of-none p accounts none = no_account p accounts (count_none (is_of p) accounts none)

-- no account has more than all credits
pub account-le : (p : Holder) (accounts : List Account) (k : ℕ) (f : IsFirst (is_of p) accounts k)
    → f.item.credits ≤ length (account_credits accounts)
account-le p accounts k f =
    let all = ap (λ (as' : List Account). total (λ _. 1) (account_credits as')) f.whole in
    omega (
      arith,
      all,
      credits_round (λ _. 1) f.before f.behind f.item,
      total-replicate_one (λ _. 1) f.item.credits
          f.item.holder refl,
      length-total (account_credits accounts),
    )

-- another number of credits in a holder's account
module _ (p : Holder) (accounts : List Account) (k : ℕ) (f : IsFirst (is_of p) accounts k) where
  abbrev pub with_credits : ℕ → Account
  with_credits n = record f.item { credits = n }

  pub single-set : (n : ℕ) → AreSingle accounts → AreSingle (set accounts k (with_credits n))
  single-set n single q =
      omega (
        arith,
        single q,
        ap (total (account_of q)) f.whole,
        ap (total (account_of q)) (f.changed (with_credits n)),
        total-append (account_of q) f.before (f.item ∷ f.behind),
        total-append (account_of q) f.before (with_credits n ∷ f.behind),
      )

  holder_is : f.item.holder ≡ p
  holder_is = same_holder-true f.item.holder p f.passes

  pub credits-more : (n : ℕ) → SameItems (account_credits (set accounts k (with_credits (f.item.credits + n))))
      (replicate n p ++ account_credits accounts)
  credits-more n = λ weight.
      omega (
        arith,
        ap (λ (as' : List Account). total weight (account_credits as')) (f.changed (with_credits (f.item.credits + n))),
        ap (λ (as' : List Account). total weight (account_credits as')) f.whole,
        credits_round weight f.before f.behind (with_credits (f.item.credits + n)),
        credits_round weight f.before f.behind f.item,
        total-replicate-add weight f.item.credits n f.item.holder,
        ap (λ (q : Holder). total weight (replicate n q)) holder_is,
        total-append weight (replicate n p) (account_credits accounts),
      )

  pub credits-fewer : (n : ℕ) → n ≤ f.item.credits → SameItems (account_credits accounts)
      (replicate n p ++ account_credits (set accounts k (with_credits (f.item.credits - n))))
  credits-fewer n le = λ weight.
      let split : f.item.credits - n + n ≡ f.item.credits = omega (arith, le) in
      omega (
        arith,
        ap (λ (as' : List Account). total weight (account_credits as')) (f.changed (with_credits (f.item.credits - n))),
        ap (λ (as' : List Account). total weight (account_credits as')) f.whole,
        credits_round weight f.before f.behind (with_credits (f.item.credits - n)),
        credits_round weight f.before f.behind f.item,
        total-replicate-add weight (f.item.credits - n) n f.item.holder,
        ap (λ (m : ℕ). total weight (replicate m f.item.holder)) split,
        ap (λ (q : Holder). total weight (replicate n q)) holder_is,
        total-append weight (replicate n p) (account_credits (set accounts k (with_credits (f.item.credits - n)))),
      )

-- the same for the account that was read at the place
module _ (p : Holder) (accounts : List Account) (k : ℕ) (a : Account) (found : Some k ≡ position (is_of p) accounts)
    (read : a ≡ get_or accounts k a) where
  there : IsFirst (is_of p) accounts k
  there = is_first (is_of p) accounts k found

  item_is : there.item ≡ a
  item_is = sym (read ∙ there.here a)

  pub read_credits : AreSingle accounts → a.credits ≡ credits_of p (account_credits accounts)
  read_credits single = ap (λ (x : Account). x.credits) (sym item_is) ∙ sym (credits_of-first p accounts k there single)

  pub read-le : a.credits ≤ length (account_credits accounts)
  read-le = let P : Account → Type 0 = λ x. x.credits ≤ length (account_credits accounts) in
      subst P item_is (account-le p accounts k there)

  pub read_single : (n : ℕ) → AreSingle accounts
      → AreSingle (set accounts k (record { holder = a.holder; credits = n }))
  read_single n single =
      let P : Account → Type 0 = λ x. AreSingle (set accounts k (record { holder = x.holder; credits = n })) in
      subst P item_is (single-set p accounts k there n single)

  pub read_more : (n : ℕ)
      → SameItems (account_credits (set accounts k (record { holder = a.holder; credits = a.credits + n })))
      (replicate n p ++ account_credits accounts)
  read_more n =
      let P : Account → Type 0 =
      λ x. SameItems (account_credits (set accounts k (record { holder = x.holder; credits = x.credits + n })))
      (replicate n p ++ account_credits accounts) in
      subst P item_is (credits-more p accounts k there n)

  pub read_fewer : (n : ℕ) → n ≤ a.credits → SameItems (account_credits accounts)
      (replicate n p ++ account_credits (set accounts k (record { holder = a.holder; credits = a.credits - n })))
  read_fewer n le =
      let P : Account → Type 0 = λ x. n ≤ x.credits → SameItems (account_credits accounts)
      (replicate n p ++ account_credits (set accounts k (record { holder = x.holder; credits = x.credits - n }))) in
      subst P item_is (credits-fewer p accounts k there n) le

-- an account for a holder that had none
module _ (p : Holder) (n : ℕ) (accounts : List Account) where
  abbrev pub account : Account
  account = record { holder = p; credits = n }

  pub credits-added : SameItems (account_credits (accounts ++ account ∷ [])) (replicate n p ++ account_credits accounts)
  credits-added = λ weight. omega (
    arith,
    total-credits_in-append weight accounts (account ∷ []),
    total-credits_in-cons weight account [],
    total-append weight (replicate n p) (account_credits accounts),
  )

  single_case : (q : Holder) (t : Bool) → same_holder p q ≡ t → AreSingle accounts → find (is_of p) accounts ≡ None
      → total (account_of q) accounts + cond t 1 0 ≤ 1
  single_case q true e single none = let none' = count_none (is_of p) accounts none in
      omega (arith, none', ap (λ (r : Holder). total (account_of r) accounts) (same_holder-true p q e))
  single_case q false e single none = omega (arith, single q)

  pub single-added : AreSingle accounts → find (is_of p) accounts ≡ None → AreSingle (accounts ++ account ∷ [])
  single-added single none q =
      omega (
        arith,
        total-append (account_of q) accounts (account ∷ []),
        single_case q (same_holder p q) refl single
            none,
      )

-- no holder has more credits than there are
pub credits_of-le : (p : Holder) (credits : List Holder) → credits_of p credits ≤ length credits
credits_of-le p [] = omega arith
credits_of-le p (q ∷ rest) = omega (arith, one_bit (same_holder q p), credits_of-le p rest)
  where
    one_bit : (t : Bool) → cond t 1 0 ≤ 1
    one_bit true = omega arith
    one_bit false = omega arith

-- the credits without n of the holder's
abbrev pub fewer : ℕ → Holder → List Holder → List Holder
fewer zero p credits = credits
fewer (suc n) p [] = []
fewer (suc n) p (q ∷ rest) = cond (same_holder q p) (fewer n p rest) (q ∷ fewer (suc n) p rest)

fewer_cons : (n : ℕ) (p q : Holder) (rest : List Holder) (t : Bool) → same_holder q p ≡ t
    → (n ≤ credits_of p rest → SameItems rest (replicate n p ++ fewer n p rest))
    → (suc n ≤ credits_of p rest → SameItems rest (replicate (suc n) p ++ fewer (suc n) p rest)) → suc n ≤ cond t 1 0
    + credits_of p rest
    → SameItems (q ∷ rest) (replicate (suc n) p ++ cond t (fewer n p rest) (q ∷ fewer (suc n) p rest))
fewer_cons n p q rest true e here later enough =
    λ weight. omega (
      arith,
      here (omega (arith, enough)) weight,
      total-append weight (replicate n p)
          (fewer n p rest),
      total-append weight (replicate (suc n) p) (fewer n p rest),
      ap weight
          (same_holder-true q p e),
    )
fewer_cons n p q rest false e here later enough =
    λ weight. omega (
      arith,
      later (omega (arith, enough)) weight,
      total-append weight (replicate (suc n) p)
          (fewer (suc n) p rest),
      total-append weight (replicate (suc n) p) (q ∷ fewer (suc n) p rest),
    )

pub fewer-same : (n : ℕ) (p : Holder) (credits : List Holder) → n ≤ credits_of p credits
    → SameItems credits (replicate n p ++ fewer n p credits)
fewer-same zero p credits enough = λ weight. refl
fewer-same (suc n) p [] enough = absurd (omega arith)
fewer-same (suc n) p (q ∷ rest) enough = fewer_cons n p q rest (same_holder q p) refl (fewer-same n p rest)
    (fewer-same (suc n) p rest) enough

-- the credit that a pinned hold gives back
pub paid_back : (t : Bool) (n : ℕ) (p : Holder) (credits after : List Holder) → n ≡ cond t 1 0
    → SameItems after (replicate n p ++ credits) → SameItems after (cond t (p ∷ credits) credits)
paid_back true n p credits after e same weight = same weight ∙ ap (λ (k : ℕ). total weight (replicate k p ++ credits)) e
paid_back false n p credits after e same weight = same weight ∙ ap (λ (k : ℕ). total weight (replicate k p ++ credits))
    e
