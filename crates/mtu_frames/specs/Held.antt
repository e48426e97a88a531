-- Frames as they are held: by call and index, each with its count and its bytes.
use Rattle.std.specs.Prelude.{ℕ, List, map}
use Rattle.mtu_frames.specs.Frames.{MtuFrame}
use Rattle.mtu_frames.specs.declared.held.Cut.{Cut}

abbrev pub Entry : Type 0
Entry = (ℕ × ℕ) × Cut

abbrev pub frame_in : Entry → MtuFrame
frame_in entry = record {
  call = entry.0.0;
  index = entry.0.1;
  count = entry.1.count;
  bytes = entry.1.bytes.items;
}

abbrev pub frames_in : List Entry → List MtuFrame
frames_in entries = map frame_in entries

-- a cut as the frame of its place
abbrev pub frame_with : ℕ → ℕ → Cut → MtuFrame
frame_with call index cut = record {
  call = call;
  index = index;
  count = cut.count;
  bytes = cut.bytes.items;
}
