-- Frames over buffers that are held.
use Rattle.std.specs.Prelude.{◌≡◌, ℕ, ◌+◌, ◌*◌, ◌%◌, ◌^◌, ◌<◌, ◌≤◌, ◌⊎◌, List, ◌++◌, if◌then◌else◌, Some, length, map}
use Rattle.std.specs.List.{slice_get}
use Rattle.view_sums.specs.Total.{total, Each}
use Rattle.pin_core.specs.Holding.{Holding, Key}
use Rattle.pin_core.specs.declared.sizes.Sizes.{Sizes}
use Rattle.pinned_pool.specs.Moves.{without_keys}
use Rattle.pinned_pool.specs.declared.view.View.{View}
use Rattle.frag_value.specs.Fragments.{frag_limit}
use Rattle.flake_base.specs.declared.segment.Seg.{Seg}
use Rattle.reply_layout.specs.Gathered.{read_all}
use Rattle.reply_layout.specs.Layout.{copied_address, staging_limit}
use Rattle.reply_planner.specs.Places.{place_of, reading, buffer_addresses, IsReadable}
use Rattle.reply_planner.specs.Owned.{bare_all, keys_for, fresh_all, key_buffers, IsStaging, HasParts, OnlyTookHolds}

-- how many of the keys are of pinned holds
abbrev pub pinned_keys : List Key → ℕ
pinned_keys ks = total (λ (k : Key). if k.pinned then 1 else 0) ks

-- what contracts see of a parcel
pub record Sent : Type 0 where
  pub segments : List Seg
  pub text : List ℕ
  pub call : ℕ
  -- its staging buffers
  pub staged : List ℕ
  -- how many of its segments lie in stored fragments, and how many of these take a credit
  pub pinned : ℕ
  pub paid : ℕ
  pub holds : List Holding

-- the texts of some parcels, in their order
abbrev pub texts_in : List Sent → List (List ℕ)
texts_in parcels = map (λ (parcel : Sent). parcel.text) parcels

-- the addresses of its staging buffers
abbrev pub lent : Sizes → Sent → List ℕ
lent z p = buffer_addresses z p.staged

-- its segments' bytes, joined, are its text
abbrev pub sent : Sizes → List Seg → ℕ → List Key → List Key → List Holding → Sent
sent z segments call pins staged hs = record {
  segments = segments;
  text = read_all (reading z hs) segments;
  call = call;
  staged = key_buffers staged;
  pinned = length pins;
  paid = pinned_keys pins;
  holds = hs;
}

-- what its fields keep
pub record IsParcelOf (z : Sizes) (segments : List Seg) (pins staged : List Key) (seat : View) : Type 0 where
  pub some : 0 < length segments
  pub few : length segments < 2 ^ 32
  pub readable : Each (IsReadable z seat.holds) segments
  pub parts : HasParts pins (key_buffers staged) seat.holds
  pub staging : Each (IsStaging z) staged
  pub credit : seat.credits ≡ 1
  pub idle : OnlyTookHolds seat

-- what is true of every parcel
pub record IsSent (z : Sizes) (p : Sent) : Type 0 where
  pub some : 0 < length p.segments
  pub few : length p.segments < 2 ^ 32
  pub short : Each (λ (seg : Seg). (0 < seg.len) × (seg.len ≤ frag_limit)) p.segments
  pub readable : Each (IsReadable z p.holds) p.segments
  pub text_is : p.text ≡ read_all (reading z p.holds) p.segments
  pub small : Each (λ b. b < z.small) p.staged

-- one of the segments has so many bytes of the buffer from an offset on
pub record HasBytes (z : Sizes) (segments : List Seg) (b from n : ℕ) : Type 0 where
  pub place : ℕ
  pub segment : Seg
  pub found : slice_get segments place ≡ Some segment
  pub buffer : (place_of z segment.address).0 ≡ b
  pub within : ((place_of z segment.address).1 ≤ from) × (from + n ≤ (place_of z segment.address).1 + segment.len)

-- one of them has a byte of the buffer's word
pub record HasWord (z : Sizes) (segments : List Seg) (b index : ℕ) : Type 0 where
  pub from : ℕ
  pub byte : HasBytes z segments b from 1
  pub of_word : (8 * index ≤ from) × (from < 8 * index + 8)

-- a run of copied bytes, in one staging buffer
pub record IsCopied (stage : List ℕ) (bytes : ℕ) (seg : Seg) : Type 0 where
  pub place : ℕ
  pub address_is : seg.address ≡ copied_address stage place
  pub some : 0 < seg.len
  pub in_buffer : place % staging_limit + seg.len ≤ staging_limit
  pub in_text : place + seg.len ≤ bytes

-- the segment lies in a fragment that is held, or in a staging buffer
abbrev pub IsLaid : Sizes → List Holding → List ℕ → ℕ → Seg → Type 0
IsLaid z hs stage bytes seg = IsReadable z hs seg ⊎ IsCopied (buffer_addresses z stage) bytes seg

-- what a seat is left with, once staging buffers and a credit went to a parcel
pub record Hands (staged : List ℕ) (own : View) (old new : View) : Type 0 where
  pub holds : bare_all new.holds ≡ without_keys (keys_for staged) (bare_all old.holds)
  pub credits : new.credits + 1 ≡ old.credits + own.credits
  pub claims : new.claims ≡ old.claims
  pub looks : new.looks ≡ old.looks
  pub returns : new.returns ≡ old.returns
  pub lasts : new.lasts ≡ old.lasts

-- these holds were given back, so many of them the last of their buffers
pub record Unpins (keys : List Key) (n : ℕ) (old new : View) : Type 0 where
  pub holds : new.holds ≡ without_keys keys old.holds
  pub credits : new.credits ≡ old.credits + pinned_keys keys
  pub claims : new.claims ≡ old.claims
  pub looks : new.looks ≡ old.looks
  pub returns : new.returns ≡ old.returns + pinned_keys keys
  pub ended : List ℕ
  pub lasts : new.lasts ≡ old.lasts ++ ended
  pub count : length ended ≡ n
  pub few : n ≤ length keys

-- what it has again, once the parcel is given back, so many of whose holds were the last of their buffers
pub record TakesBack (p : Sent) (n : ℕ) (old new : View) : Type 0 where
  pub holds : bare_all new.holds ≡ bare_all old.holds ++ fresh_all p.staged
  pub credits : new.credits ≡ old.credits + 1 + p.paid
  pub claims : new.claims ≡ old.claims
  pub looks : new.looks ≡ old.looks
  pub returns : new.returns ≡ old.returns + p.paid
  pub ended : List ℕ
  pub lasts : new.lasts ≡ old.lasts ++ ended
  pub count : length ended ≡ n
  pub few : n ≤ p.pinned
