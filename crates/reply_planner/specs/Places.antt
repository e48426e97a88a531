-- What lies at an address, as a device reads it.
use Rattle.std.specs.Prelude.{ℕ, ◌+◌, ◌-◌, ◌*◌, ◌/◌, ◌%◌, ◌<◌, ◌≤◌, List, nat_lt, if◌then◌else◌, length, take}
use Rattle.std.specs.Prelude.{drop, map}
use Rattle.view_sums.specs.Total.{total}
use Rattle.pin_core.specs.Holding.{Holding, at}
use Rattle.pin_core.specs.declared.sizes.Sizes.{Sizes}
use Rattle.pinned_pool.specs.Addresses.{address_of, Covers}
use Rattle.pinned_pool.specs.Bytes.{bytes_of_words}
use Rattle.pinned_pool.specs.Moves.{front_of}
use Rattle.flake_base.specs.declared.segment.Seg.{Seg}
use Rattle.reply_layout.specs.Gathered.{Reading}

-- the buffer of an address, and the offset in it
abbrev pub place_of : Sizes → ℕ → ℕ × ℕ
place_of z address =
    let place = address - 1048576 in
    if nat_lt place (512 * z.small) then (place / 512, place % 512)
    else (z.small + (place - 512 * z.small) / 4096, (place - 512 * z.small) % 4096)

-- n bytes of a buffer from an offset on, in the front that these holds have of it
abbrev pub buffer_bytes : List Holding → ℕ → ℕ → ℕ → List ℕ
buffer_bytes hs b offset n = take n (drop offset (bytes_of_words (front_of b hs)))

-- the bytes at an address, read under these holds
abbrev pub reading : Sizes → List Holding → Reading
reading z hs address n = buffer_bytes hs (place_of z address).0 (place_of z address).1 n

abbrev pub buffer_addresses : Sizes → List ℕ → List ℕ
buffer_addresses z bs = map (address_of z) bs

-- n bytes at the address lie in the front of a buffer that is held
pub record IsHeld (z : Sizes) (hs : List Holding) (address n : ℕ) : Type 0 where
  pub covered : Covers z (place_of z address).0 (place_of z address).1 address
  pub held : 0 < total (at (place_of z address).0) hs
  pub within : (place_of z address).1 + n ≤ 8 * length (front_of (place_of z address).0 hs)

-- the segment isn't empty, and may be read
pub record IsReadable (z : Sizes) (hs : List Holding) (seg : Seg) : Type 0 where
  pub some : 0 < seg.len
  pub held : IsHeld z hs seg.address seg.len
