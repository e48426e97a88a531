-- The runs of a value that was taken are the pieces of its bytes.
use Rattle.std.proofs.Common.{◌≡◌, ℕ, zero, suc, ◌+◌, ◌-◌, ◌*◌, ◌/◌, ◌%◌, ◌<◌, ◌≤◌, Bool, true, false, cond, List, []}
use Rattle.std.proofs.Common.{◌∷◌, ◌++◌, length, map, take, drop, Some, refl, arith, rules, length-drop}
use Rattle.view_sums.specs.Total.{total}
use Rattle.flake_model.specs.Resp.{crlf}
use Rattle.flake_model.specs.Deed.{Deed}
use Rattle.flake_model.specs.Fragments.{fragment_limit, cuts}
use Rattle.frag_value.specs.Taken.{Extent, whole}
use Rattle.shard_core.specs.Pieces.{runs_over, runs_at}
use Rattle.reply_layout.specs.Pieces.{Piece, plain, stored, pieces_over, value_pieces, bulk_pieces}
use Rattle.reply_planner.specs.Laid.{stored_run, head_text, pieces_in}
use Rattle.reply_planner.specs.Planned.{paid_of}
use Rattle.shard_core.specs.CallDemand.{pieces_from, stay_in}
use Rattle.command_exec.specs.Alike.{Alike}
use Rattle.command_exec.proofs.AlikePieces.{alike_same, alike_then, alike_empty}

runs_alike : (t : ℕ) (over : Bool) (found : List ℕ) (offset : ℕ) (bytes : List ℕ)
    → (0 < length bytes → offset + length bytes ≤ fragment_limit * length found)
    → Alike t (map stored_run (runs_over over found offset bytes)) (pieces_over found offset bytes)
runs_alike t over [] offset [] reach = alike_empty t
runs_alike t over [] offset (byte ∷ bytes) reach = absurd (let no = reach (omega arith) in omega (arith, no))
runs_alike t over (address ∷ found) offset [] reach = alike_same t [] [] refl
runs_alike t over (address ∷ found) offset (byte ∷ bytes) reach =
    let rest = drop (fragment_limit - offset) (byte ∷ bytes) in
    let here : List Piece = stored (address + offset) (take (fragment_limit - offset) (byte ∷ bytes)) ∷ [] in
    let all : offset + length (byte ∷ bytes) ≤ fragment_limit * length (address ∷ found) = reach (omega arith) in
    alike_then t here here (map stored_run (runs_over over found 0 rest)) (pieces_over found 0 rest)
    (alike_same t here here refl)
    (runs_alike t over found 0 rest (λ some. omega (arith, all, length-drop (fragment_limit - offset) (byte ∷ bytes))))

-- in the fragments from the first that has one of the bytes on
within : (found : List ℕ) (first n : ℕ) → first + n ≤ fragment_limit * length found → first % fragment_limit
    + n ≤ fragment_limit * length (drop (first / fragment_limit) found)
within found first n reach = omega (arith, reach, length-drop (first / fragment_limit) found)

pub bulk_alike : (t : ℕ) (extent : Extent) (over : Bool) (deed : Deed) (bytes : List ℕ)
    → (0 < length bytes → deed.first + length bytes ≤ fragment_limit * length deed.found)
    → Alike t (pieces_in (whole
    (record { extent = extent; size = length bytes; frags = runs_at over deed.found deed.first bytes }) ∷ []))
    (bulk_pieces (Some deed) bytes)
bulk_alike t extent over deed bytes reach =
    let head : List Piece = plain (head_text (length bytes)) ∷ [] in
    let end : List Piece = plain crlf ∷ [] in
    let runs = runs_at over deed.found deed.first bytes in
    alike_then t (head ++ map stored_run runs) (head ++ value_pieces (Some deed) bytes) end end
    (alike_then t head head (map stored_run runs) (value_pieces (Some deed) bytes) (alike_same t head head refl)
    (runs_alike t over (drop (deed.first / fragment_limit) deed.found) (deed.first % fragment_limit) bytes
    (λ some. within deed.found deed.first (length bytes) (reach some))))
    (alike_same t end end refl)

-- a run of each piece that stays is paid for
cuts_paid : (t n : ℕ) (found bytes : List ℕ) → (0 < length bytes → length bytes ≤ fragment_limit * length found)
    → stay_in t (cuts n bytes) ≤ total (paid_of t) (runs_over false found 0 bytes)
cuts_paid t zero found bytes reach = omega arith
cuts_paid t (suc n) found [] reach = omega arith
cuts_paid t (suc n) [] (byte ∷ bytes) reach = absurd (let no = reach (omega arith) in omega (arith, no))
cuts_paid t (suc n) (address ∷ found) (byte ∷ bytes) reach =
    let rest = drop fragment_limit (byte ∷ bytes) in
    let all : length (byte ∷ bytes) ≤ fragment_limit * length (address ∷ found) = reach (omega arith) in
    omega (
      arith,
      cuts_paid t n found rest (λ some. omega (arith, all, length-drop fragment_limit (byte ∷ bytes))),
    )

from_paid : (t first : ℕ) (found bytes : List ℕ)
    → (0 < length bytes → first % fragment_limit + length bytes ≤ fragment_limit * length found)
    → stay_in t (pieces_from first bytes) ≤ total (paid_of t) (runs_over false found (first % fragment_limit) bytes)
from_paid t first found [] reach = omega arith
from_paid t first [] (byte ∷ bytes) reach = absurd (let no = reach (omega arith) in omega (arith, no))
from_paid t first (address ∷ found) (byte ∷ bytes) reach =
    let room = fragment_limit - first % fragment_limit in
    let rest = drop room (byte ∷ bytes) in
    let all = reach (omega arith) in
    omega (
      arith,
      cuts_paid t (length rest) found rest (λ some. omega (arith, all, length-drop room (byte ∷ bytes))),
    )

pub pieces_paid : (t : ℕ) (found bytes : List ℕ) (first : ℕ)
    → (0 < length bytes → first + length bytes ≤ fragment_limit * length found)
    → stay_in t (pieces_from first bytes) ≤ total (paid_of t) (runs_at false found first bytes)
pieces_paid t found bytes first reach =
    from_paid t first (drop (first / fragment_limit) found) bytes
    (λ some. within found first (length bytes) (reach some))
