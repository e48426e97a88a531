-- The room of the line of what is held.
use Rattle.std.specs.Prelude.{ℕ}

abbrev pub held_room : ℕ
held_room = 47
