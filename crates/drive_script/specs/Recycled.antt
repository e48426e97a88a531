-- How many buffers the line of a reap counts.
use Rattle.std.specs.Prelude.{◌≡◌, ℕ, List, ◌++◌, length, ⊤}
use Rattle.session_pass.specs.Views.{SessionView}
use Rattle.drive_script.specs.declared.happened.Happened.{Happened}
use Rattle.drive_script.specs.declared.happened.Happened.TheVariants.{Posted, RingFull, StageFull, AtEnd, Sent, Dropped}
use Rattle.drive_script.specs.declared.happened.Happened.TheVariants.{NothingPosted, Reaped, NothingReaped}

-- where a reply was given back, as many as were said are the buffers whose last hold the seat gave back with it
abbrev pub Recycles : Happened → SessionView → SessionView → Type 0
Recycles (Posted call reaped) old new = ⊤
Recycles (RingFull need room) old new = ⊤
Recycles (StageFull need free) old new = ⊤
Recycles AtEnd old new = ⊤
Recycles (Sent call bytes) old new = ⊤
Recycles (Dropped call bytes) old new = ⊤
Recycles NothingPosted old new = ⊤
Recycles (Reaped call recycled) old new =
    (ended : List ℕ) × (new.pass.seat.lasts ≡ old.pass.seat.lasts ++ ended) × (length ended ≡ recycled)
Recycles NothingReaped old new = ⊤
