-- The numbers that the options ask for.
use Rattle.std.specs.Prelude.{◌≡◌, ◌≤◌, ℕ, ℤ, List, Option, Some, None, codes, if◌then◌else◌, pos, ◌==◌, ◌&&◌, ◌%◌}
use Rattle.std.specs.Prelude.{◌^◌, ◌-◌, nat_le}
use Rattle.std.specs.Option.{option_map, option_map_or}
use Rattle.flake_model.specs.Range.{signed_of}
use Rattle.clap.specs.Walk.{Row, first_of}
use Rattle.command_line.specs.declared.sizes.Limits.{Limits}
use Rattle.command_line.specs.declared.sizes.SizeOptions.{SizeOptions}

-- a plain decimal between these
abbrev pub number_between : ℕ → ℕ → Option ℤ → Option ℕ
number_between least most (Some (pos n)) = if nat_le least n && nat_le n most then Some n else None
number_between least most _ = None

-- the size that an option gives: a plain decimal within its limits, or the usual one where the option isn't there
abbrev pub size_in : List ℕ → Limits → List Row → Option ℕ
size_in name limits rows = option_map_or (λ text. number_between limits.least limits.most (signed_of text))
    (first_of name rows) (Some limits.usual)

-- the call before which a dump is taken: no call where the option isn't there, and none at all where its text is no
-- number of a call
abbrev pub dump_in : List Row → Option (Option ℕ)
dump_in rows = option_map_or (λ text. option_map (λ call. Some call) (number_between 0 (2 ^ 32 - 1) (signed_of text)))
    (first_of (codes "dump") rows) (Some None)

abbrev pub shards_limits : Limits
shards_limits = record { least = 1; most = 16; usual = 8 }

abbrev pub small_limits : Limits
small_limits = record { least = 128; most = 65_536; usual = 4096 }

abbrev pub large_limits : Limits
large_limits = record { least = 1; most = 16_384; usual = 1024 }

abbrev pub ring_limits : Limits
ring_limits = record { least = 1160; most = 4096; usual = 1160 }

abbrev pub threshold_limits : Limits
threshold_limits = record { least = 1; most = 512; usual = 512 }

-- without a word for it, there are as many workers as files
abbrev pub workers_limits : ℕ → Limits
workers_limits files = record { least = 1; most = 16; usual = files }

-- all sizes; a ring is a multiple of 8
abbrev pub all_sizes : Option ℕ → Option ℕ → Option ℕ → Option ℕ → Option ℕ → Option SizeOptions
all_sizes (Some shards) (Some small) (Some large) (Some ring) (Some threshold) =
    if ring % 8 == 0 then Some (record {
      shards = shards;
      small = small;
      large = large;
      ring = ring;
      threshold = threshold;
    }) else None
all_sizes _ _ _ _ _ = None

abbrev pub sizes_in : List Row → Option SizeOptions
sizes_in rows = all_sizes (size_in (codes "shards") shards_limits rows) (size_in (codes "small") small_limits rows)
    (size_in (codes "large") large_limits rows) (size_in (codes "ring") ring_limits rows)
    (size_in (codes "threshold") threshold_limits rows)

-- sizes that a run can be given
pub record AreAllowed (sizes : SizeOptions) : Type 0 where
  pub shards : (1 ≤ sizes.shards) × (sizes.shards ≤ 16)
  pub small : (128 ≤ sizes.small) × (sizes.small ≤ 65_536)
  pub large : (1 ≤ sizes.large) × (sizes.large ≤ 16_384)
  pub ring : (sizes.ring % 8 ≡ 0) × (1160 ≤ sizes.ring) × (sizes.ring ≤ 4096)
  pub threshold : (1 ≤ sizes.threshold) × (sizes.threshold ≤ 512)
