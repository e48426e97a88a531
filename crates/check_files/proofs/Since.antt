-- What files gave since they had given other bytes.
use Rattle.std.proofs.Common.{◌≡◌, ◌≤◌, ℕ, zero, suc, List, [], ◌∷◌, ◌++◌, Option, Some, None, IsSomeAnd, length, drop}
use Rattle.std.proofs.Common.{slice_get, arith, refl, ap, ap₂, ◌∙◌, subst, sym}
use Rattle.std.proofs.Math.Seq.{drop-append_seam}
use Rattle.check_files.specs.Files.{texts_since, AllGaveMore}
use Rattle.check_files.specs.Named.{Named, givens_unread}
use Rattle.check_files.specs.Whole.{GaveMore}
use Rattle.check_files.proofs.Given.{gave_nothing, gave_through}

between : Option (List ℕ) → Option (List ℕ) → Option (List ℕ)
between None new = None
between (Some old) None = None
between (Some old) (Some new) = Some (drop (length old) new)

none_between : (old : Option (List ℕ)) → None ≡ between old None
unfolding between
none_between None = refl
none_between (Some old) = refl

since_at : (olds news : List (List ℕ)) (k : ℕ) → slice_get (texts_since olds news) k
    ≡ between (slice_get olds k) (slice_get news k)
unfolding between
since_at [] news k = refl
since_at (old ∷ olds) [] zero = refl
since_at (old ∷ olds) [] (suc k) = none_between (slice_get olds k)
since_at (old ∷ olds) (new ∷ news) zero = refl
since_at (old ∷ olds) (new ∷ news) (suc k) = since_at olds news k

-- at each place it depends on what that file gave alone
pub same_since : (olds mids nows news : List (List ℕ)) (k : ℕ) → slice_get mids k ≡ slice_get olds k → slice_get news k
    ≡ slice_get nows k → slice_get (texts_since mids news) k ≡ slice_get (texts_since olds nows) k
same_since olds mids nows news k old new = since_at mids news k ∙ ap₂ between old new ∙ sym (since_at olds nows k)

pub since_here : (olds news : List (List ℕ)) (k : ℕ) (old new : List ℕ) → slice_get olds k ≡ Some old
    → slice_get news k ≡ Some new → slice_get (texts_since olds news) k ≡ Some (drop (length old) new)
unfolding between
since_here olds news k old new old_is new_is = since_at olds news k ∙ ap₂ between old_is new_is

pub since_bytes : (olds news : List (List ℕ)) (k : ℕ) (old new bytes : List ℕ) → slice_get olds k ≡ Some old
    → slice_get news k ≡ Some new → new ≡ old ++ bytes → slice_get (texts_since olds news) k ≡ Some bytes
since_bytes olds news k old new bytes old_is new_is is =
    since_here olds news k old new old_is new_is
    ∙ ap Some (ap (drop (length old)) is ∙ drop-append_seam old bytes)

pub since_count : (olds news : List (List ℕ)) → length news ≡ length olds → length (texts_since olds news) ≡ length olds
since_count [] news same = refl
since_count (old ∷ olds) [] same = absurd (cc same)
since_count (old ∷ olds) (new ∷ news) same = ap suc (since_count olds news (omega (arith, same)))

pub few_since : (olds news : List (List ℕ)) → length (texts_since olds news) ≤ length olds
few_since [] news = omega arith
few_since (old ∷ olds) [] = omega arith
few_since (old ∷ olds) (new ∷ news) = omega (arith, few_since olds news)

-- files that were not read before gave all since
pub since_unread : (words : List Named) (news : List (List ℕ)) → length news ≡ length words
    → texts_since (givens_unread words) news ≡ news
since_unread [] [] same = refl
since_unread [] (new ∷ news) same = absurd (cc same)
since_unread (word ∷ words) [] same = absurd (cc same)
since_unread (word ∷ words) (new ∷ news) same = ap (λ rest. new ∷ rest)
    (since_unread words news (omega (arith, same)))

-- all gave more, or nothing
pub all_gave_nothing : (olds : List (List ℕ)) → AllGaveMore olds olds
all_gave_nothing olds k old is =
    subst (λ at. IsSomeAnd at (λ new. GaveMore old new)) (sym is) (gave_nothing old old refl)

gave_then : (old mid : List ℕ) (at : Option (List ℕ)) → GaveMore old mid → IsSomeAnd at (λ new. GaveMore mid new)
    → IsSomeAnd at (λ new. GaveMore old new)
gave_then old mid None first second = second
gave_then old mid (Some new) first second = gave_through old mid new first second

gave_between : (old : List ℕ) (news : List (List ℕ)) (k : ℕ) (at : Option (List ℕ))
    → IsSomeAnd at (λ mid. GaveMore old mid)
    → ((mid : List ℕ) → at ≡ Some mid → IsSomeAnd (slice_get news k) (λ new. GaveMore mid new))
    → IsSomeAnd (slice_get news k) (λ new. GaveMore old new)
gave_between old news k None first second = absurd first
gave_between old news k (Some mid) first second = gave_then old mid (slice_get news k) first (second mid refl)

pub all_gave_through : (olds mids news : List (List ℕ)) → AllGaveMore olds mids → AllGaveMore mids news
    → AllGaveMore olds news
all_gave_through olds mids news first second k old is =
    gave_between old news k (slice_get mids k) (first k old is) (λ mid at. second k mid at)
