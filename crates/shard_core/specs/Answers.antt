-- What a part's answer shows.
use Rattle.std.specs.Prelude.{ℕ, List, Bool, Option, Result, Ok, Err, if◌then◌else◌}
use Rattle.flake_model.specs.Store.{Answer, value, missing, done, length_is, did, too_long, found}
use Rattle.frag_value.specs.declared.error.AppendError.{AppendError}
use Rattle.frag_value.specs.declared.error.AppendError.TheVariants as unadded
use Rattle.frag_value.specs.declared.error.PlaceError.{PlaceError}
use Rattle.frag_value.specs.declared.error.PlaceError.TheVariants as unplaced
use Rattle.shard_core.specs.declared.answer.PartAnswer.{PartAnswer}
use Rattle.shard_core.specs.declared.answer.PartAnswer.TheVariants as say

-- an answer as the call gives it: bytes went to the taker
abbrev pub answer_shown : Answer → PartAnswer
answer_shown (value bytes) = say.Bulk
answer_shown missing = say.Null
answer_shown done = say.Done
answer_shown (length_is n) = say.Length n
answer_shown (did happened) = say.Did happened
answer_shown too_long = say.TooLong

-- what a set answers where it stores: the old value, if it was asked for
abbrev pub old_answer : Bool → Option (List ℕ) → Answer
old_answer asks old = if asks then found old else done

-- an append that would be too long is answered; else its refusal is the part's
abbrev pub outcome_of : AppendError → Result PartAnswer PlaceError
outcome_of (unadded.TooLong n) = Ok say.TooLong
outcome_of (unadded.NoBuffer none) = Err (unplaced.NoBuffer none)
outcome_of unadded.Memory = Err unplaced.Memory
