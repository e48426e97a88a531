-- How many buffers of a class a generated request may claim.
use Rattle.std.specs.Prelude.{ℕ}
use Rattle.pin_core.specs.declared.class.Class.{Class}
use Rattle.pin_core.specs.declared.class.Class.TheVariants.{Small, Large}
use Rattle.frag_value.specs.Counts.{class_buffers_for}
use Rattle.request_gen.specs.declared.request.DrawnRequest.{DrawnRequest}
use Rattle.request_gen.specs.declared.request.DrawnRequest.TheVariants.{Get, GetFour, Set, Append, Del}

abbrev pub request_row : Class → DrawnRequest → ℕ
request_row class (Set key len) = class_buffers_for class len
request_row Small (Append n) = 1
request_row Large (Append n) = 2
request_row class (Get key) = 0
request_row class (GetFour n) = 0
request_row class (Del n) = 0
