-- Files of which those in front of a place were read whole.
use Rattle.std.proofs.Common.{◌≡◌, ◌≢◌, ◌<◌, ◌≤◌, ℕ, ◌+◌, zero, suc, ◌⊎◌, ⊎_elim, inl, inr, Bool, true, List, [], ◌∷◌}
use Rattle.std.proofs.Common.{Some, length, slice_get, arith, refl, sym, ap, ◌∙◌, subst, IsSomeAnd}
use Rattle.check_files.specs.Files.{file_limit, texts_since, AllReadToEnd, AllGaveMore, AreWithin, IsTextOf}
use Rattle.check_files.specs.Stopped.{IsStoppedAt, ReadsBy, WhyStopped}
use Rattle.check_files.specs.declared.error.CheckError.{CheckError}
use Rattle.check_files.specs.declared.error.CheckError.TheVariants.{OpenFault, ReadFault, TooLarge, BadLine, Memory}
use Rattle.check_files.proofs.Since.{all_gave_nothing, all_gave_through, same_since, since_count}

-- what they gave since, and which are at their ends
pub record ReadTo (place : ℕ) (olds news : List (List ℕ)) (were are : List Bool) : Type 0 where
  pub within : AreWithin (texts_since olds news) place
  pub front : (k : ℕ) (ended : Bool) → k < place → slice_get are k ≡ Some ended → ended ≡ true
  pub behind : (k : ℕ) → place ≤ k → slice_get news k ≡ slice_get olds k
  pub behind_ended : (k : ℕ) → place ≤ k → slice_get are k ≡ slice_get were k
  pub more : AllGaveMore olds news

pub none_read : (olds : List (List ℕ)) (were : List Bool) → ReadTo 0 olds olds were were
none_read olds were = record {
  within = λ k text below is. absurd (omega (arith, below));
  front = λ k ended below is. absurd (omega (arith, below));
  behind = λ k above. refl;
  behind_ended = λ k above. refl;
  more = all_gave_nothing olds;
}

below_or_at : (k place : ℕ) → k < place + 1 → (k < place) ⊎ (k ≡ place)
below_or_at zero zero below = inr refl
below_or_at zero (suc place) below = inl (omega arith)
below_or_at (suc k) zero below = absurd (omega (arith, below))
below_or_at (suc k) (suc place) below =
    elim (below_or_at k place (omega (arith, below)))
    [ inl earlier ↦ inl (omega (arith, earlier)) | inr here ↦ inr (ap suc here) ]

pub text_there : (texts nows : List (List ℕ)) (place : ℕ) (bytes : List ℕ) → slice_get nows place
    ≡ slice_get texts place → IsTextOf texts place bytes → IsTextOf nows place bytes
text_there texts nows place bytes same text = record { text_is = same ∙ text.text_is; within = text.within }

-- the file at the place was read after those in front
module _ (place : ℕ) (olds mids news : List (List ℕ)) (were mid are : List Bool)
    (before : ReadTo place olds mids were mid)
    (others : (k : ℕ) → k ≢ place → slice_get news k ≡ slice_get mids k) where
  -- those in front gave nothing more
  pub kept : (k : ℕ) → k < place → slice_get (texts_since olds news) k ≡ slice_get (texts_since olds mids) k
  kept k below = same_since olds olds mids news k refl (others k (λ at. omega (arith, at, below)))

  here : slice_get (texts_since olds news) place ≡ slice_get (texts_since mids news) place
  here = same_since mids olds news news place (sym (before.behind place (omega arith))) refl

  pub text_here : (bytes : List ℕ) → IsTextOf (texts_since mids news) place bytes
      → IsTextOf (texts_since olds news) place bytes
  text_here bytes text = text_there (texts_since mids news) (texts_since olds news) place bytes here text

  front_within : AreWithin (texts_since olds news) place
  front_within k text below is = before.within k text below (sym (kept k below) ∙ is)

  pub read_on : AllGaveMore mids news
      → ((k : ℕ) → k ≢ place → slice_get are k ≡ slice_get mid k) → (bytes : List ℕ)
      → IsTextOf (texts_since mids news) place bytes → slice_get are place ≡ Some true
      → ReadTo (place + 1) olds news were are
  read_on more others_ended bytes text ended = record {
    within = λ k found below is. ⊎_elim
        (λ earlier. front_within k found earlier is)
        (λ at.
        let own = text_here bytes text in
        let same : Some found ≡ Some bytes = sym is ∙ ap (slice_get (texts_since olds news)) at ∙ own.text_is in
        let found_is : found ≡ bytes = cc same in
        subst (λ n. length found ≤ file_limit n) (sym at)
        (subst (λ t. length t ≤ file_limit place) (sym found_is) own.within))
        (below_or_at k place below);
    front = λ k is_ended below is. ⊎_elim
        (λ earlier. before.front k is_ended earlier
        (sym (others_ended k (λ at. omega (arith, at, earlier))) ∙ is))
        (λ at. let same : Some is_ended ≡ Some true = sym is ∙ ap (slice_get are) at ∙ ended in cc same)
        (below_or_at k place below);
    behind = λ k above. others k (λ at. omega (arith, at, above)) ∙ before.behind k (omega (arith, above));
    behind_ended = λ k above. others_ended k (λ at. omega (arith, at, above))
        ∙ before.behind_ended k (omega (arith, above));
    more = all_gave_through olds mids news before.more more;
  }

  -- or it was not, and the files are within their limits up to it
  pub stopped_here : (e : CheckError) → place < length olds → length news ≡ length olds
      → IsStoppedAt (texts_since mids news) place e → WhyStopped (texts_since olds news) e
  stopped_here (OpenFault file) within same is = absurd is
  stopped_here (ReadFault file) within same is = (
    omega (arith, is, within, since_count olds news same),
    subst (AreWithin (texts_since olds news)) (sym is)
        front_within,
  )
  stopped_here (TooLarge file) within same is = (
    subst (λ n. IsSomeAnd (slice_get (texts_since olds news) n) (λ text. file_limit n < length text)) (sym is.0)
        (subst (λ at. IsSomeAnd at (λ text. file_limit place < length text)) (sym here) is.1),
    subst (AreWithin (texts_since olds news)) (sym is.0) front_within,
  )
  stopped_here (BadLine line) within same is = absurd is
  stopped_here Memory within same is = tt

  pub reads_here : (e : CheckError) → ((k : ℕ) → k ≢ place → slice_get are k ≡ slice_get mid k)
      → IsStoppedAt (texts_since mids news) place e → ReadsBy e olds news were are
  reads_here (OpenFault file) others_ended is = absurd is
  reads_here (ReadFault file) others_ended is = record {
    front = λ k ended below at. before.front k ended (omega (arith, below, is))
        (sym (others_ended k (λ same. omega (arith, same, below, is))) ∙ at);
    behind = λ k above. others k (λ same. omega (arith, same, above, is)) ∙ before.behind k (omega (arith, above, is));
    behind_ended = λ k above. others_ended k (λ same. omega (arith, same, above, is))
        ∙ before.behind_ended k (omega (arith, above, is));
  }
  reads_here (TooLarge file) others_ended is = record {
    front = λ k ended below at. before.front k ended (omega (arith, below, is.0))
        (sym (others_ended k (λ same. omega (arith, same, below, is.0))) ∙ at);
    behind = λ k above. others k (λ same. omega (arith, same, above, is.0))
        ∙ before.behind k (omega (arith, above, is.0));
    behind_ended = λ k above. others_ended k (λ same. omega (arith, same, above, is.0))
        ∙ before.behind_ended k (omega (arith, above, is.0));
  }
  reads_here (BadLine line) others_ended is = absurd is
  reads_here Memory others_ended is = tt

-- each is at its end that is in front of their number
pub all_ended : (endeds : List Bool) → ((k : ℕ) (ended : Bool) → slice_get endeds k ≡ Some ended → ended ≡ true)
    → AllReadToEnd endeds
all_ended [] all = tt
all_ended (ended ∷ endeds) all = (all 0 ended refl, all_ended endeds (λ k. all (suc k)))
