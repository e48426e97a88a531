-- Bytes grow by one text, and then by another.
use Rattle.std.proofs.Common.{◌≡◌, ℕ, Bool, true, false, List, [], ◌++◌, refl, ap, sym, ◌∙◌, append_assoc, append-nil}
use Rattle.flake_base.specs.Growth.{Grew}

-- what was sent, and more behind it
grew_by : (old mid front bytes : List ℕ) → bytes ≡ front → mid ≡ old ++ bytes → (more : List ℕ)
    → mid ++ more ≡ old ++ (front ++ more)
grew_by old mid front bytes is sent more = let mid_is : mid ≡ old ++ front = cc in ap (λ a. a ++ more) mid_is
    ∙ append_assoc old front more

-- the whole text was put behind what was sent, or after a failure a front of it
pub grew_more : (failed : Bool) (old mid new front text : List ℕ) → Grew false front old mid
    → Grew failed text mid new → Grew failed (front ++ text) old new
grew_more false old mid new front text first second = (
  front ++ text,
  refl,
  second.2 ∙ grew_by old mid front first.0 first.1 first.2 second.0 ∙ ap (λ t. old ++ (front ++ t)) second.1,
)
grew_more true old mid new front text first second = (
  front ++ second.0,
  (second.1.0, ap (λ t. front ++ t) second.1.1 ∙ sym (append_assoc front second.0 second.1.0)),
  second.2 ∙ grew_by old mid front first.0 first.1 first.2 second.0,
)

-- nothing more was put after a failure
pub grew_no_more : (old new front text : List ℕ) → Grew true front old new → Grew true (front ++ text) old new
grew_no_more old new front text first =
    (first.0, (first.1.0 ++ text, ap (λ t. t ++ text) first.1.1 ∙ append_assoc first.0 first.1.0 text), first.2)

-- what was put whole is a front
pub grew_so : (failed : Bool) (old new text : List ℕ) → Grew false text old new → Grew failed text old new
grew_so false old new text grew = grew
grew_so true old new text grew = (grew.0, ([], sym grew.1 ∙ sym (append-nil grew.0)), grew.2)

-- nothing was sent yet
pub nothing_grew : (old : List ℕ) → Grew false [] old old
nothing_grew old = ([], refl, sym (append-nil old))
