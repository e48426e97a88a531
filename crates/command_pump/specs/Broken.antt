-- The bytes that break the protocol, by the number that an end names them by.
use Rattle.std.specs.Prelude.{ℕ}
use Rattle.command_pump.specs.declared.pump.Broken.{Broken}
use Rattle.command_pump.specs.declared.pump.Broken.TheVariants.{Count, Mark, Length, Start}

abbrev pub kind_of : Broken → ℕ
kind_of Count = 1
kind_of Mark = 2
kind_of Length = 3
kind_of Start = 4
