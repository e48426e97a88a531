-- Replies of one line, as a plan takes them.
use Rattle.std.specs.Prelude.{ℕ, List, [], ◌∷◌, ◌++◌, if◌then◌else◌, ⊤}
use Rattle.std.specs.Fmt.{decimal}
use Rattle.flake_base.specs.declared.reply.ErrorKind.{ErrorKind}
use Rattle.flake_base.specs.declared.reply.ErrorKind.TheVariants.{ValueTooLong, NoBuffer}
use Rattle.flake_model.specs.Resp.{crlf}
use Rattle.flake_model.specs.Reply.{reply_text, error_text, null_text, ok, int}
use Rattle.frag_value.specs.Taken.{TakenPiece, copied}
use Rattle.shard_core.specs.declared.answer.PartAnswer.{PartAnswer}
use Rattle.shard_core.specs.declared.answer.PartAnswer.TheVariants as say

-- a mark, a number and the line end
abbrev pub number_line : ℕ → ℕ → List ℕ
number_line mark n = mark ∷ decimal n ++ crlf

abbrev pub error_line : ErrorKind → List TakenPiece
error_line kind = copied (45 ∷ []) ∷ copied (error_text kind) ∷ copied crlf ∷ []

-- the line that an answer makes; bytes that were answered are taken already
abbrev pub line_for : PartAnswer → List TakenPiece
line_for say.Bulk = []
line_for say.Null = copied null_text ∷ []
line_for say.Done = copied (reply_text ok) ∷ []
line_for (say.Length n) = copied (reply_text (int n)) ∷ []
line_for (say.Did happened) = copied (reply_text (int (if happened then 1 else 0))) ∷ []
line_for say.TooLong = error_line ValueTooLong
line_for (say.NoBuffer none) = error_line NoBuffer

-- an answer that makes a line
abbrev pub HasLine : PartAnswer → Type 0
HasLine say.Bulk = ⊥
HasLine answer = ⊤

-- an item of an array: any answer but bytes is null
abbrev pub item_for : PartAnswer → List TakenPiece
item_for say.Bulk = []
item_for answer = copied null_text ∷ []
