-- Which parts a command has.
use Rattle.std.proofs.Common.{◌≡◌, ℕ, zero, suc, ◌<◌, List, [], ◌∷◌, Some, length, map, slice_get, get_or, refl, arith}
use Rattle.std.proofs.Common.{sym, subst}
use Rattle.std.specs.Prelude.{Result, Ok, Err, OnErr, ⊤}
use Rattle.std.proofs.lemmas.Option.{slice_get-get_or}
use Rattle.flake_model.specs.Store as part
use Rattle.flake_model.specs.Store.{Operation}
use Rattle.flake_model.specs.Command.{Command, ping, ping_with, mget, del, exists, fault, parts}
use Rattle.command_exec.specs.Kinds.{HasOnePart, AsksValues, Counts, part_at}

pub on_err : {T E P : Type 0} (result : Result T E) → P → OnErr result P
on_err (Ok x) p = tt
on_err (Err e) p = p

-- the part of a number is there
pub part_there : (command : Command) (j : ℕ) → j < length (parts command) → slice_get (parts command) j
    ≡ Some (part_at command j)
part_there command j near = slice_get-get_or (parts command) j (part.get []) near

pub one_part : (command : Command) → HasOnePart command → length (parts command) ≡ 1
one_part ping one = absurd one
one_part (ping_with bytes) one = absurd one
one_part (mget keys) one = absurd one
one_part (del keys) one = absurd one
one_part (exists keys) one = absurd one
one_part (fault kind) one = absurd one
one_part command one = refl

-- the keys that are asked for
abbrev pub keys_of : Command → List (List ℕ)
keys_of (mget keys) = keys
keys_of (del keys) = keys
keys_of (exists keys) = keys
keys_of command = []

get_at : (keys : List (List ℕ)) (j : ℕ) → get_or (map part.get keys) j (part.get []) ≡ part.get (get_or keys j [])
get_at [] j = refl
get_at (key ∷ keys) zero = refl
get_at (key ∷ keys) (suc j) = get_at keys j

pub value_part : (command : Command) → AsksValues command → (j : ℕ) → part_at command j
    ≡ part.get (get_or (keys_of command) j [])
value_part (mget keys) asks j = get_at keys j
value_part command asks j = absurd asks

del_at : (keys : List (List ℕ)) (j : ℕ) → j < length (map part.del keys) → get_or (map part.del keys) j (part.get [])
    ≡ part.del (get_or keys j [])
del_at [] j near = absurd (omega (arith, near))
del_at (key ∷ keys) zero near = refl
del_at (key ∷ keys) (suc j) near = del_at keys j (omega (arith, near))

exists_at : (keys : List (List ℕ)) (j : ℕ) → j < length (map part.exists keys)
    → get_or (map part.exists keys) j (part.get []) ≡ part.exists (get_or keys j [])
exists_at [] j near = absurd (omega (arith, near))
exists_at (key ∷ keys) zero near = refl
exists_at (key ∷ keys) (suc j) near = exists_at keys j (omega (arith, near))

-- a part that is counted
abbrev pub IsCounting : Operation → Type 0
IsCounting (part.del key) = ⊤
IsCounting (part.exists key) = ⊤
IsCounting operation = ⊥

pub count_part : (command : Command) → Counts command → (j : ℕ) → j < length (parts command)
    → IsCounting (part_at command j)
count_part (del keys) counts j near = subst IsCounting (sym (del_at keys j near)) tt
count_part (exists keys) counts j near = subst IsCounting (sym (exists_at keys j near)) tt
count_part command counts j near = absurd counts
