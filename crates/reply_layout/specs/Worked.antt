-- Worked layouts: what a reply's segments are, by numbers.
use Rattle.std.specs.Prelude.{ℕ, pos, true, List, [], ◌∷◌, replicate, Option, Some}
use Rattle.flake_base.specs.declared.segment.Seg.{Seg}
use Rattle.flake_model.specs.Store as part
use Rattle.flake_model.specs.Store.{Operation, Answer, value, missing, always}
use Rattle.flake_model.specs.Command.{Command, get, set, mget, get_range}
use Rattle.flake_model.specs.Deed.{Deed, deed_at}
use Rattle.reply_layout.specs.Layout.{segment}

pub record Row : Type 0 where
  pub threshold : ℕ
  -- the addresses of the free staging buffers
  pub free : List ℕ
  pub command : Command
  -- what its parts did
  pub deeds : List (Option Deed)
  pub segments : List Seg

abbrev pub row : ℕ → List ℕ → Command → List (Option Deed) → List Seg → Row
row threshold free command deeds segments =
    record { threshold = threshold; free = free; command = command; deeds = deeds; segments = segments }

abbrev key : List ℕ
key = 107 ∷ []

abbrev did : Operation → Answer → List ℕ → ℕ → Option Deed
did operation answer found_deed first =
    Some (deed_at (record { session = 0; call = 1; part = 0 }) operation answer found_deed first [])

-- so many bytes `A`
abbrev letters : ℕ → List ℕ
letters n = replicate n 65

-- a GET of so many bytes in the fragments at these addresses
abbrev found_deed : ℕ → List ℕ → Option Deed
found_deed n addresses = did (part.get key) (value (letters n)) addresses 0

abbrev pub rows : List Row
rows =
    row 512 (1050112 ∷ 1050624 ∷ []) (get key) (found_deed 511 (1114112 ∷ []) ∷ [])
    (segment 1050112 512 ∷ segment 1050624 7 ∷ [])
    ∷ row 512 (1051136 ∷ []) (get key) (found_deed 512 (1114624 ∷ []) ∷ [])
    (segment 1051136 6 ∷ segment 1114624 512 ∷ segment 1051142 2 ∷ [])
    ∷ row 512 (1049088 ∷ []) (get key) (found_deed 600 (3145728 ∷ []) ∷ [])
    (segment 1049088 6 ∷ segment 3145728 600 ∷ segment 1049094 2 ∷ [])
    ∷ row 512 (1049088 ∷ []) (mget (key ∷ key ∷ (120 ∷ []) ∷ []))
    (found_deed 600 (3145728 ∷ []) ∷ found_deed 600 (3145728 ∷ []) ∷ did (part.get (120 ∷ [])) missing [] 0 ∷ [])
    (segment 1049088 10 ∷ segment 3145728 600 ∷ segment 1049098 8 ∷ segment 3145728 600 ∷ segment 1049106 7 ∷ [])
    ∷ row 512 (1050112 ∷ []) (get key) (found_deed 4100 (3149824 ∷ 1114112 ∷ []) ∷ [])
    (segment 1050112 7 ∷ segment 3149824 4096 ∷ segment 1050119 6 ∷ [])
    ∷ row 512 (1049088 ∷ []) (set always true key (letters 1))
    (did (part.set always true key (letters 1)) (value (letters 600)) (3145728 ∷ []) 0 ∷ [])
    (segment 1049088 6 ∷ segment 3145728 600 ∷ segment 1049094 2 ∷ [])
    ∷ row 512 (1049088 ∷ []) (get key) (found_deed 16385 (3145728 ∷ 3149824 ∷ 3153920 ∷ 3158016 ∷ 1114112 ∷ []) ∷ [])
    (segment 1049088 8 ∷ segment 3145728 4096 ∷ segment 3149824 4096 ∷ segment 3153920 4096
    ∷ segment 3158016 4096 ∷ segment 1049096 3 ∷ [])
    ∷ row 1 (1049088 ∷ []) (get key) (found_deed 1 (1114112 ∷ []) ∷ [])
    (segment 1049088 4 ∷ segment 1114112 1 ∷ segment 1049092 2 ∷ [])
    ∷ row 512 (1049088 ∷ []) (get_range key (pos 100) (pos 4999))
    (did (part.get_range key (pos 100) (pos 4999)) (value (letters 4900)) (3145728 ∷ 3149824 ∷ []) 100 ∷ [])
    (segment 1049088 7 ∷ segment 3145828 3996 ∷ segment 3149824 904 ∷ segment 1049095 2 ∷ [])
    ∷ []
