-- What an error of a piece says, before all that was fed is regarded.
use Rattle.std.specs.Prelude.{◌≡◌, ℕ, ◌+◌, List}
use Rattle.resp_reader.specs.declared.error.ReadError.{ReadError}
use Rattle.resp_reader.specs.declared.parser.Parser.{Parser}
use Rattle.resp_reader.specs.Parser.{HasFault}
use Rattle.resp_reader.specs.Reader.{error_at}

-- the error of a kind at a place of the piece
pub record HasError (old new : Parser) (piece : List ℕ) (error : ReadError) : Type 0 where
  pub kind : ℕ
  pub place : ℕ
  pub fault : HasFault old new piece kind place
  pub error_is : error ≡ error_at kind (old.taken + place)
