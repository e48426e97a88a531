-- A reply's text in pieces: bytes of its own, and bytes that lie in stored fragments.
use Rattle.std.specs.Prelude.{ℕ, ◌+◌, ◌-◌, ◌/◌, ◌%◌, List, [], ◌∷◌, ◌++◌, length, map, take, drop, Option, None, Some}
use Rattle.std.specs.Fmt.{decimal}
use Rattle.std.specs.Option.{option_map_or}
use Rattle.flake_model.specs.Resp.{crlf, array_head}
use Rattle.flake_model.specs.Command.{Command}
use Rattle.flake_model.specs.Reply.{Reply, bulk, array, reply_of, reply_text, null_text}
use Rattle.flake_model.specs.Deed.{Deed}
use Rattle.flake_model.specs.Fragments.{fragment_limit}

-- `stored` has the address of its first byte
pub data Piece : Type 0 where
  plain : List ℕ → Piece
  stored : ℕ → List ℕ → Piece

abbrev pub piece_bytes : Piece → List ℕ
piece_bytes (plain bytes) = bytes
piece_bytes (stored address bytes) = bytes

-- bytes that begin at this offset of the first of these fragments: a piece for each fragment that they touch; bytes in
-- no fragment are plain
abbrev pub pieces_over : List ℕ → ℕ → List ℕ → List Piece
pieces_over [] offset bytes = plain bytes ∷ []
pieces_over (address ∷ addresses) offset [] = []
pieces_over (address ∷ addresses) offset (byte ∷ bytes) =
    stored (address + offset) (take (fragment_limit - offset) (byte ∷ bytes))
    ∷ pieces_over addresses 0 (drop (fragment_limit - offset) (byte ∷ bytes))

-- the bytes that a part answered: they begin at the deed's first place in the value that it found
abbrev pub value_pieces : Option Deed → List ℕ → List Piece
value_pieces None bytes = plain bytes ∷ []
value_pieces (Some deed) bytes =
    pieces_over (drop (deed.first / fragment_limit) deed.found) (deed.first % fragment_limit) bytes

-- a bulk string: its head, its bytes and its line end
abbrev pub bulk_pieces : Option Deed → List ℕ → List Piece
bulk_pieces deed bytes =
    plain (36 ∷ decimal (length bytes) ++ crlf) ∷ value_pieces deed bytes ++ plain crlf ∷ []

-- the deed of the first part
abbrev pub first_deed : List (Option Deed) → Option Deed
first_deed [] = None
first_deed (deed ∷ deeds) = deed

-- the items of an array, each from its part's deed
abbrev pub item_pieces : List (Option (List ℕ)) → List (Option Deed) → List Piece
item_pieces [] deeds = []
item_pieces (None ∷ items) deeds = plain null_text ∷ item_pieces items (drop 1 deeds)
item_pieces (Some bytes ∷ items) deeds = bulk_pieces (first_deed deeds) bytes ++ item_pieces items (drop 1 deeds)

-- the pieces of a reply that was made from these deeds, of which a part that found no buffer has none
abbrev pub reply_pieces : Reply → List (Option Deed) → List Piece
reply_pieces (bulk bytes) deeds = bulk_pieces (first_deed deeds) bytes
reply_pieces (array items) deeds = plain (array_head (length items)) ∷ item_pieces items deeds
reply_pieces reply deeds = plain (reply_text reply) ∷ []

-- the reply that these deeds answer
abbrev pub reply_from : Command → List (Option Deed) → Reply
reply_from command deeds =
    reply_of command (map (λ found. option_map_or (λ (deed : Deed). Some deed.answer) found None) deeds)

abbrev pub pieces_of : Command → List (Option Deed) → List Piece
pieces_of command deeds = reply_pieces (reply_from command deeds) deeds
