-- Where nothing is put, nothing is stored.
use Rattle.std.proofs.Common.{◌≡◌, ℕ, List, [], Option, Some, None, refl, sym, subst}
use Rattle.std.specs.FinMap as finite
use Rattle.flake_model.specs.Deed.{AreStored}
use Rattle.flake_model.specs.Store.{Answer, value, missing, done, length_is, did, too_long}
use Rattle.flake_model.specs.Store.{Store, Operation, Change, keeps, puts, removes, bytes_put, key_of, stored_value}
use Rattle.shard_core.specs.Answers.{answer_shown}
use Rattle.shard_core.specs.declared.answer.PartAnswer.{PartAnswer}
use Rattle.shard_core.specs.Outcomes.{WouldPut}
use Rattle.shard_store.specs.Shards.{HasAnswer}

pub unstored : (change : Change) (kept : ℕ) (were stored : List ℕ) → AreStored change kept were stored
    → bytes_put change ≡ None → stored ≡ []
unstored keeps kept were stored are none = are
unstored (puts bytes) kept were stored are none = absurd (let no : ⊥ = cc in no)
unstored removes kept were stored are none = are

-- a part that isn't free of cost puts bytes
pub would_put : (s : Store) (operation : Operation) → (stored_value s operation ≡ None → ⊥) → WouldPut operation None
would_put s operation not = by (stored_value s operation) refl
  where
    by : (o : Option (List ℕ)) → stored_value s operation ≡ o → WouldPut operation None
    by None is = absurd (not is)
    by (Some bytes) is = (finite.get s (key_of operation), bytes, is)

-- what shows an answer is no refusal
pub shown_answer : (a : Answer) (said : PartAnswer) → said ≡ answer_shown a → HasAnswer said
shown_answer a said is = subst HasAnswer (sym is) (by a)
  where
    by : (a : Answer) → HasAnswer (answer_shown a)
    by (value bytes) = tt
    by missing = tt
    by done = tt
    by (length_is n) = tt
    by (did happened) = tt
    by too_long = tt
