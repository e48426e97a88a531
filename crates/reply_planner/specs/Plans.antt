-- What a plan keeps.
use Rattle.std.specs.Prelude.{◌≡◌, ℕ, zero, suc, ◌+◌, ◌-◌, ◌*◌, ◌/◌, ◌^◌, ◌<◌, ◌≤◌, List, [], ◌∷◌, ◌++◌, Bool, true, ⊤}
use Rattle.std.specs.Prelude.{false, nat_le, Option, None, Some, length, map}
use Rattle.std.specs.List.{AllByRecursion}
use Rattle.view_sums.specs.Total.{total, Each}
use Rattle.pin_core.specs.Holding.{Holding, Key}
use Rattle.pin_core.specs.declared.sizes.Sizes.{Sizes}
use Rattle.pinned_pool.specs.Moves.{hold_key}
use Rattle.pinned_pool.specs.declared.view.View.{View}
use Rattle.flake_base.specs.declared.segment.Seg.{Seg}
use Rattle.frag_value.specs.Taken.{PlacedRun, Begun}
use Rattle.frag_value.specs.Fragments.{frags_limit}
use Rattle.flake_base.specs.Limits.{value_limit}
use Rattle.reply_layout.specs.Pieces.{Piece, plain, stored}
use Rattle.reply_layout.specs.Layout.{Placing, placings_of, layout_of, segments_from, runs, staging_limit}
use Rattle.reply_layout.specs.Gathered.{copied_text}
use Rattle.reply_planner.specs.Owned.{OnlyTookHolds, IsStaging}
use Rattle.reply_planner.specs.Parcels as parcel
use Rattle.reply_planner.specs.Places.{reading, buffer_addresses, IsHeld}
use Rattle.reply_planner.specs.Laid.{pieces_so_far}
use Rattle.reply_planner.specs.Planned.{Planned, one_value, short_of, long_of, copied_of_extent, bytes_aside}
use Rattle.reply_planner.specs.Planned.{pins_aside, values_in, pinned_in, paid_in}

-- bytes that these holds keep at an address
pub record LiesAt (z : Sizes) (hs : List Holding) (address : ℕ) (bytes : List ℕ) : Type 0 where
  pub held : IsHeld z hs address (length bytes)
  pub bytes_are : reading z hs address (length bytes) ≡ bytes

-- a piece that stays is kept
abbrev pub StaysReadable : Sizes → ℕ → List Holding → Piece → Type 0
StaysReadable z threshold hs (plain bytes) = ⊤
StaysReadable z threshold hs (stored address bytes) = nat_le threshold (length bytes) ≡ true → LiesAt z hs address bytes

-- whether the last run stays
abbrev pub ends_long : ℕ → List PlacedRun → Bool
ends_long threshold [] = false
ends_long threshold (f ∷ []) = nat_le threshold (length f.bytes)
ends_long threshold (f ∷ g ∷ fs) = ends_long threshold (g ∷ fs)

abbrev pub one_if : ℕ → ℕ
one_if zero = 0
one_if (suc n) = 1

-- 1 once a run of the value stays
abbrev pub stays_of : ℕ → Option Begun → ℕ
stays_of threshold None = 0
stays_of threshold (Some b) = one_if (total (long_of threshold) b.frags)

-- of the value that was begun, there is still room for the line end
abbrev pub IsSmall : ℕ → Option Begun → Type 0
IsSmall threshold None = ⊤
IsSmall threshold (Some b) = (b.size ≤ value_limit) × (length b.frags ≤ frags_limit)
    × (total (short_of threshold) b.frags + 2 ≤ copied_of_extent b.extent)

-- the last run of the value, where there is one, is short, or no byte was copied behind it
abbrev pub IsClosed : ℕ → ℕ → Option Begun → Type 0
IsClosed threshold since None = ⊤
IsClosed threshold since (Some b) = ends_long threshold b.frags ≡ true → since ≡ 0

-- these pieces' bytes are copied or stay, and segments are laid out for all but the last copied bytes
pub record Lies (z : Sizes) (threshold : ℕ) (stage : List ℕ) (pieces : List Piece)
    (text : List ℕ) (segments : List Seg) (run : ℕ) (hs : List Holding) : Type 0 where
  pub text_is : text ≡ copied_text threshold pieces
  pub run_is : run ≤ length text
  -- whatever may still come
  pub laid : (rest : List Placing) → layout_of (buffer_addresses z stage) (placings_of threshold pieces ++ rest)
      ≡ segments ++ segments_from (buffer_addresses z stage) run (runs (length text - run) rest)
  pub kept : AllByRecursion (StaysReadable z threshold hs) pieces

-- the need is enough for what was taken and for what was begun; so many bytes were copied, the first of them in so many
-- segments
pub record Fits (p : Planned) (text run segments : ℕ) : Type 0 where
  pub bytes : text + bytes_aside p.base.threshold p.begun ≤ staging_limit * length p.base.stage
  pub slots : length p.base.stage + values_in p + pinned_in p + pins_aside p.base.threshold p.begun ≤ p.base.descriptors
  -- a value's runs that stay stand together, so each value closes one run of copied bytes at most
  pub segments_few : segments
      ≤ pinned_in p + (total one_value p.taken + stays_of p.base.threshold p.begun) + run / staging_limit
  pub closed : IsClosed p.base.threshold (text - run) p.begun
  pub small : IsSmall p.base.threshold p.begun

-- the plan's seat has a hold for each run that stays
pub record Has (p : Planned) (pins : List Key) (paid : ℕ) (seat : View) : Type 0 where
  pub keys : map hold_key seat.holds ≡ pins
  pub pins_are : length pins ≡ pinned_in p
  pub paid_are : parcel.pinned_keys pins ≡ paid_in p
  pub paid_is : paid ≡ paid_in p
  pub credits : seat.credits + paid ≡ p.base.descriptors + 3
  pub idle : OnlyTookHolds seat

pub record IsPlan (z : Sizes) (p : Planned) (text : List ℕ) (segments : List Seg) (pins staged : List Key)
    (run paid : ℕ) (seat : View) : Type 0 where
  pub lies : Lies z p.base.threshold p.base.stage (pieces_so_far p.taken p.begun) text segments run seat.holds
  pub fits : Fits p (length text) run (length segments)
  pub has : Has p pins paid seat
  pub staging : Each (IsStaging z) staged
  pub threshold : (0 < p.base.threshold) × (p.base.threshold ≤ 512)
  pub few : p.base.descriptors < 2 ^ 32

-- the lists have room for all that the need allows
pub record HasRoom (descriptors stage bytes places holds : ℕ) : Type 0 where
  pub text : staging_limit * stage ≤ bytes
  pub segments : descriptors ≤ places
  pub pins : descriptors ≤ holds
