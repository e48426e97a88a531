-- What a taker was given.
use Rattle.std.specs.Prelude.{◌≡◌, ℕ, ◌+◌, ◌*◌, ◌-◌, ◌<◌, ◌≤◌, min, zero, suc, List, [], ◌∷◌, ◌++◌, ◌⊎◌, Bool, true}
use Rattle.std.specs.Prelude.{false, length, map, take, drop}
use Rattle.view_sums.specs.Total.{total, Each}
use Rattle.pin_core.specs.Holding.{Holding, Key}
use Rattle.pin_core.specs.declared.sizes.Sizes.{Sizes}
use Rattle.pinned_pool.specs.Addresses.{address_of}
use Rattle.pinned_pool.specs.Moves.{sharing, without, without_keys, front_of}
use Rattle.pinned_pool.specs.declared.view.View.{View}
use Rattle.pinned_pool.specs.Bytes.{bytes_of_words}
use Rattle.frag_value.specs.Fragments.{frag_limit, frags_limit}
use Rattle.frag_value.specs.Values.{keys_of, size_of, IsCut, IsFilled}

-- a run of bytes of one stored fragment, as a device finds it
pub record PlacedRun : Type 0 where
  -- of the fragment's first byte
  pub address : ℕ
  -- where the run begins in the fragment
  pub offset : ℕ
  pub bytes : List ℕ
  -- whether the fragment's hold came with it
  pub over : Bool

-- a value is taken whole, or a range of it
pub data Extent : Type 0 where
  entire : Extent
  ranged : Extent

-- so many bytes of a value, with the runs that were taken of it so far
pub record Begun : Type 0 where
  pub extent : Extent
  pub size : ℕ
  pub frags : List PlacedRun

abbrev pub begun_with : Extent → ℕ → Begun
begun_with e n = record { extent = e; size = n; frags = [] }

pub data TakenPiece : Type 0 where
  copied : List ℕ → TakenPiece
  whole : Begun → TakenPiece

-- n bytes of the buffer b, from an offset on
abbrev pub placed_part : Sizes → List Holding → ℕ → ℕ → ℕ → PlacedRun
placed_part z hs b from n =
    record {
      address = address_of z b;
      offset = from;
      bytes = take n (drop from (bytes_of_words (front_of b hs)));
      over = false;
    }

abbrev pub placed_fragment : Sizes → List Holding → ℕ × ℕ → PlacedRun
placed_fragment z hs p = placed_part z hs p.0 0 p.1

abbrev pub placed_all : Sizes → List Holding → List (ℕ × ℕ) → List PlacedRun
placed_all z hs v = map (placed_fragment z hs) v

-- n bytes of the buffer b as a run, unless there are none
abbrev pub placed_run : Sizes → List Holding → ℕ → ℕ → ℕ → List PlacedRun
placed_run z hs b from zero = []
placed_run z hs b from (suc n) = placed_part z hs b from (suc n) ∷ []

-- n bytes of a value, from a place on: a run of each fragment that they touch
abbrev pub placed_range : Sizes → List Holding → List (ℕ × ℕ) → ℕ → ℕ → List PlacedRun
placed_range z hs [] from n = []
placed_range z hs (p ∷ v) from n =
    placed_run z hs p.0 from (min n (p.1 - from)) ++ placed_range z hs v (from - p.1) (n - (p.1 - from))

-- the bytes of runs, one behind the other
abbrev pub bytes_along : List PlacedRun → List ℕ
bytes_along [] = []
bytes_along (f ∷ fs) = f.bytes ++ bytes_along fs

abbrev pub with_hold_taken : PlacedRun → PlacedRun
with_hold_taken f = record f { over = true }

abbrev pub placed_over : Sizes → List Holding → ℕ × ℕ → PlacedRun
placed_over z hs p = with_hold_taken (placed_fragment z hs p)

abbrev pub over_all : Sizes → List Holding → List (ℕ × ℕ) → List PlacedRun
over_all z hs v = map (placed_over z hs) v

abbrev pub more : PlacedRun → Begun → Begun
more f b = record b { frags = b.frags ++ f ∷ [] }

abbrev pub IsFull : PlacedRun → Type 0
IsFull f = length f.bytes ≡ frag_limit

abbrev pub behind_first : {A : Type 0} → List A → List A
behind_first [] = []
behind_first (f ∷ fs) = fs

abbrev pub placed_length : List PlacedRun → ℕ
placed_length fs = total (λ (f : PlacedRun). length f.bytes) fs

abbrev pub MayFollow : Extent → ℕ → ℕ → ℕ → List PlacedRun → Type 0
MayFollow entire from n size fs = (from ≡ 0) × Each IsFull fs × (frag_limit * length fs + n ≤ size)
MayFollow ranged from n size fs = (length fs < frags_limit) × Each IsFull (behind_first fs)
    × (placed_length fs + n ≤ size)

-- n bytes from this offset of a fragment on may come next
abbrev pub MayComeNext : ℕ → ℕ → Begun → Type 0
MayComeNext from n b = MayFollow b.extent from n b.size b.frags

abbrev pub taken_bytes : Begun → ℕ
taken_bytes b = placed_length b.frags

-- there is a first fragment, and this is true of it
abbrev pub IfFirst : (ℕ × ℕ → Type 0) → List (ℕ × ℕ) → Type 0
IfFirst P [] = ⊥
IfFirst P (p ∷ v) = P p

-- the owner is as before, but its holds of the buffer may have become shared
abbrev pub MayShare : ℕ → View → View → Type 0
MayShare b v w = (w ≡ v) ⊎ (w ≡ sharing b v)

-- the owner lost this hold, which may have been its buffer's last, and nothing else
pub record Loses (k : Key) (old new : View) : Type 0 where
  pub holds : new.holds ≡ without k old.holds
  pub credits : new.credits ≡ old.credits
  pub claims : new.claims ≡ old.claims
  pub looks : new.looks ≡ old.looks
  pub returns : new.returns ≡ old.returns
  pub lasts : (more : List ℕ) × (new.lasts ≡ old.lasts ++ more)

-- the owner lost all holds of the value, and nothing else
pub record HandsOver (v : List (ℕ × ℕ)) (old new : View) : Type 0 where
  pub holds : new.holds ≡ without_keys (keys_of v) old.holds
  pub credits : new.credits ≡ old.credits
  pub claims : new.claims ≡ old.claims
  pub looks : new.looks ≡ old.looks
  pub returns : new.returns ≡ old.returns
  pub lasts : (more : List ℕ) × (new.lasts ≡ old.lasts ++ more)

-- so many of a value's fragments were handed over, and these are left
pub record OverSoFar {B : Type 0} (z : Sizes) (v rest : List (ℕ × ℕ)) (old now : View) (begun : B)
    (some : Begun → B) : Type 0 where
  pub over : List (ℕ × ℕ)
  pub parts : v ≡ over ++ rest
  pub begun_is : begun ≡ some (record { extent = entire; size = size_of v; frags = over_all z old.holds over })
  pub owner : HandsOver over old now

-- some runs of a range were handed, and so many bytes are left, from a place on in these fragments
pub record RangeSoFar {B : Type 0} (z : Sizes) (hs : List Holding) (v rest : List (ℕ × ℕ)) (from n skip left : ℕ)
    (begun : B) (some : Begun → B) : Type 0 where
  pub runs : List PlacedRun
  pub begun_is : begun ≡ some (record { extent = ranged; size = n; frags = runs })
  pub all : runs ++ placed_range z hs rest skip left ≡ placed_range z hs v from n
  pub bytes : placed_length runs + left ≡ n
  pub within : skip + left ≤ size_of rest
  pub few : length runs + length rest ≤ frags_limit
  pub first : 0 < length runs → skip ≡ 0
  pub full : 0 < left → Each IsFull (behind_first runs)
  pub cut : IsCut (size_of rest) rest
  pub filled : Each (IsFilled hs) rest
