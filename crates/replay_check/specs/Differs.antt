-- Where replies differ from those that a journal gives.
use Rattle.std.specs.Prelude.{◌≡◌, ◌≢◌, ℕ, ◌<◌, List, Option, Some, slice_get}
use Rattle.flake_base.specs.declared.journal.Entry.{Entry}
use Rattle.replay_check.specs.Answered.{AreAnswers, IsBadJournal}
use Rattle.replay_check.specs.declared.verdict.Verdict.{Verdict}
use Rattle.replay_check.specs.declared.verdict.Verdict.TheVariants.{Same, Differs, BadJournal}

-- the first place where two texts differ; behind a text's last byte stands its end
pub record IsFirstPlace (expected found : List ℕ) (place : ℕ) : Type 0 where
  pub same_before : (k : ℕ) → k < place → slice_get expected k ≡ slice_get found k
  pub other : slice_get expected place ≢ slice_get found place

-- these texts differ first in this session, and there at this place, in these bytes
pub record DifferFirst (expected found : List (List ℕ)) (session place : ℕ) (wanted given : Option ℕ) : Type 0 where
  pub same_before : (k : ℕ) → k < session → slice_get expected k ≡ slice_get found k
  pub text : List ℕ
  pub reply : List ℕ
  pub text_is : slice_get expected session ≡ Some text
  pub reply_is : slice_get found session ≡ Some reply
  pub first : IsFirstPlace text reply place
  pub wanted_is : wanted ≡ slice_get text place
  pub given_is : given ≡ slice_get reply place

-- what is said of replies, by the texts that the journal gives
abbrev pub IsVerdict : List (List ℕ) → List (List Entry) → List (List ℕ) → Verdict → Type 0
IsVerdict inputs journal replies Same = AreAnswers inputs journal replies
IsVerdict inputs journal replies (Differs session place wanted given) =
    (texts : List (List ℕ)) × AreAnswers inputs journal texts
    × DifferFirst texts replies session place wanted given
IsVerdict inputs journal replies (BadJournal shard place) = IsBadJournal inputs journal shard place

-- what is said of replies, by those that are expected
abbrev pub IsComparison : List (List ℕ) → List (List ℕ) → Verdict → Type 0
IsComparison expected replies Same = expected ≡ replies
IsComparison expected replies (Differs session place wanted given) =
    DifferFirst expected replies session place wanted given
IsComparison expected replies (BadJournal shard place) = ⊥
