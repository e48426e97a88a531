-- What a part's answer gives a taker, and the segments that it stores.
use Rattle.std.specs.Prelude.{ℕ, ◌-◌, ◌/◌, ◌%◌, min, Bool, true, false, List, [], ◌∷◌, length, take, drop}
use Rattle.flake_base.specs.declared.segment.Seg.{Seg}
use Rattle.flake_model.specs.Store.{Operation, get, set, append, del, exists, str_len, get_range}
use Rattle.flake_model.specs.Store.{Answer, value, missing, done, length_is, did, too_long}
use Rattle.flake_model.specs.Store.{always, if_missing, if_present}
use Rattle.flake_model.specs.Fragments.{fragment_limit}
use Rattle.frag_value.specs.Taken.{PlacedRun, Extent, entire, ranged, TakenPiece, whole}

-- bytes that begin at this offset of the first of these fragments: a run in each fragment that they touch
abbrev pub runs_over : Bool → List ℕ → ℕ → List ℕ → List PlacedRun
runs_over over [] offset bytes = []
runs_over over (address ∷ addresses) offset [] = []
runs_over over (address ∷ addresses) offset (byte ∷ bytes) =
    record {
      address = address;
      offset = offset;
      bytes = take (fragment_limit - offset) (byte ∷ bytes);
      over = over;
    } ∷ runs_over over addresses 0 (drop (fragment_limit - offset) (byte ∷ bytes))

-- bytes from a place on of a value whose fragments have these addresses
abbrev pub runs_at : Bool → List ℕ → ℕ → List ℕ → List PlacedRun
runs_at over found first bytes =
    runs_over over (drop (first / fragment_limit) found) (first % fragment_limit) bytes

-- what the taker has more: the bytes of the answer, at the found addresses
abbrev pub pieces_at : Extent → Bool → Answer → List ℕ → ℕ → List TakenPiece
pieces_at extent over (value bytes) found first =
    whole (record { extent = extent; size = length bytes; frags = runs_at over found first bytes }) ∷ []
pieces_at extent over missing found first = []
pieces_at extent over done found first = []
pieces_at extent over (length_is n) found first = []
pieces_at extent over (did happened) found first = []
pieces_at extent over too_long found first = []

abbrev pub extent_of : Operation → Extent
extent_of (get key) = entire
extent_of (set when asks key bytes) = entire
extent_of (append key bytes) = entire
extent_of (del key) = entire
extent_of (exists key) = entire
extent_of (str_len key) = entire
extent_of (get_range key first last) = ranged

-- whether a part that answers bytes hands the shard's own holds over: a set that stores over them
abbrev pub is_over : Operation → Bool
is_over (get key) = false
is_over (set always asks key bytes) = true
is_over (set if_missing asks key bytes) = false
is_over (set if_present asks key bytes) = true
is_over (append key bytes) = false
is_over (del key) = false
is_over (exists key) = false
is_over (str_len key) = false
is_over (get_range key first last) = false

abbrev pub answer_pieces : Operation → Answer → List ℕ → ℕ → List TakenPiece
answer_pieces operation answer found first = pieces_at (extent_of operation) (is_over operation) answer found first

-- the segments of n stored bytes at these addresses
abbrev pub segs_at : List ℕ → ℕ → List Seg
segs_at [] n = []
segs_at (address ∷ stored) n =
    record { address = address; len = min fragment_limit n } ∷ segs_at stored (n - fragment_limit)

-- how many bytes an append stores, by its answer
abbrev pub length_told : Answer → ℕ
length_told (value bytes) = 0
length_told missing = 0
length_told done = 0
length_told (length_is n) = n
length_told (did happened) = 0
length_told too_long = 0

-- how many bytes a part stores, where it does
abbrev pub size_stored : Operation → Answer → ℕ
size_stored (get key) said = 0
size_stored (set when asks key bytes) said = length bytes
size_stored (append key bytes) said = length_told said
size_stored (del key) said = 0
size_stored (exists key) said = 0
size_stored (str_len key) said = 0
size_stored (get_range key first last) said = 0
