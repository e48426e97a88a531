-- A value is cut alike where it is stored and where a run is judged.
use Rattle.std.specs.Prelude.{◌≡◌, ℕ, List}
use Rattle.frag_value.specs.Fragments as stored
use Rattle.flake_model.specs.Fragments as judged

abbrev pub CutsAgree : Type 0
CutsAgree = (bytes : List ℕ) → stored.stored_fragments bytes ≡ judged.fragments_of bytes
