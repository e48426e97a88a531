-- How many runs of copied bytes a text has, and which values a reply may have.
use Rattle.std.specs.Prelude.{◌≡◌, ℕ, zero, suc, ◌+◌, ◌*◌, ◌^◌, ◌<◌, ◌≤◌, List, [], ◌∷◌, length, Option, None, Some, ⊤}
use Rattle.flake_model.specs.Deed.{Deed}
use Rattle.flake_model.specs.Fragments.{fragment_limit}
use Rattle.flake_base.specs.Limits.{value_limit}
use Rattle.flake_model.specs.Reply.{Reply, ok, pong, error, int, bulk, null, array}
use Rattle.reply_layout.specs.Layout.{Placing, copied, pinned, copied_of, layout_of, staging_buffers_for}
use Rattle.reply_layout.specs.declared.need.Need.{Need}

abbrev pub one_if : ℕ → ℕ
one_if zero = 0
one_if (suc n) = 1

-- the runs that aren't empty; the first argument is the run so far
abbrev pub run_count : ℕ → List Placing → ℕ
run_count run [] = one_if run
run_count run (copied n ∷ placings) = run_count (run + n) placings
run_count run (pinned seg ∷ placings) = one_if run + run_count 0 placings

-- a whole value of the store: within the limit, and with an address for each fragment
pub record IsWholeValue (deed : Deed) (bytes : List ℕ) : Type 0 where
  pub within : length bytes ≤ value_limit
  pub addressed : length bytes ≤ fragment_limit * length deed.found
  pub from_first : deed.first ≡ 0

-- the values of a list of items
abbrev pub AreWholeValues : List (Option (List ℕ)) → List (Option Deed) → Type 0
AreWholeValues [] deeds = ⊤
AreWholeValues (None ∷ items) [] = AreWholeValues items []
AreWholeValues (None ∷ items) (deed ∷ deeds) = AreWholeValues items deeds
AreWholeValues (Some bytes ∷ items) [] = ⊥
AreWholeValues (Some bytes ∷ items) (None ∷ deeds) = ⊥
AreWholeValues (Some bytes ∷ items) (Some deed ∷ deeds) = IsWholeValue deed bytes × AreWholeValues items deeds

-- a part of a value of the store
pub record IsPartValue (deed : Deed) (bytes : List ℕ) : Type 0 where
  pub within : 0 < length bytes → deed.first + length bytes ≤ value_limit
  pub addressed : 0 < length bytes → deed.first + length bytes ≤ fragment_limit * length deed.found

-- a layout takes no more than is asked for
pub record IsWithinNeed (need : Need) (stage : List ℕ) (placings : List Placing) : Type 0 where
  pub segments : length (layout_of stage placings) ≤ need.descriptors
  pub buffers : staging_buffers_for (copied_of placings) ≤ need.stage

-- a reply that is one short line, in no stored fragment
abbrev pub IsLine : Reply → Type 0
IsLine ok = ⊤
IsLine pong = ⊤
IsLine (error kind) = ⊤
IsLine (int n) = n < 2 ^ 64
IsLine (bulk bytes) = ⊥
IsLine null = ⊤
IsLine (array items) = ⊥
