-- What was taken, as the pieces of a reply's text.
use Rattle.std.specs.Prelude.{ℕ, List, [], ◌∷◌, ◌++◌, ◌+◌, Option, None, Some, map}
use Rattle.std.specs.Fmt.{decimal}
use Rattle.flake_model.specs.Resp.{crlf}
use Rattle.frag_value.specs.Taken.{PlacedRun, Begun, copied, whole}
use Rattle.frag_value.specs.Taken as taken
use Rattle.reply_layout.specs.Pieces.{Piece, plain, stored}

-- the head of a bulk string of n bytes
abbrev pub head_text : ℕ → List ℕ
head_text n = 36 ∷ decimal n ++ crlf

abbrev pub stored_run : PlacedRun → Piece
stored_run f = stored (f.address + f.offset) f.bytes

-- a value, as far as it was taken
abbrev pub begun_pieces : Begun → List Piece
begun_pieces b = plain (head_text b.size) ∷ map stored_run b.frags

abbrev pub pieces_in : List taken.TakenPiece → List Piece
pieces_in [] = []
pieces_in (copied bytes ∷ ps) = plain bytes ∷ pieces_in ps
pieces_in (whole b ∷ ps) = begun_pieces b ++ plain crlf ∷ pieces_in ps

abbrev pub open_pieces : Option Begun → List Piece
open_pieces None = []
open_pieces (Some b) = begun_pieces b

abbrev pub pieces_so_far : List taken.TakenPiece → Option Begun → List Piece
pieces_so_far ps o = pieces_in ps ++ open_pieces o
