-- What happened at a line, as a transcript has it.
use Rattle.std.specs.Prelude.{List}
use Rattle.flake_base.specs.declared.segment.Seg.{Seg}
use Rattle.transcript_model.specs.Lines as event
use Rattle.transcript_model.specs.Lines.{LineEvent}
use Rattle.drive_script.specs.declared.happened.Happened.{Happened}
use Rattle.drive_script.specs.declared.happened.Happened.TheVariants.{Posted, RingFull, StageFull, AtEnd, Sent, Dropped}
use Rattle.drive_script.specs.declared.happened.Happened.TheVariants.{NothingPosted, Reaped, NothingReaped}

-- where a call was posted, these are its segments and the fragments that it stored
abbrev pub line_event : Happened → List Seg → List Seg → LineEvent
line_event (Posted call reaped) sent stored = event.posted call reaped sent stored
line_event (RingFull need room) sent stored = event.ring_full need room
line_event (StageFull need free) sent stored = event.stage_full need free
line_event AtEnd sent stored = event.at_end
line_event (Sent call bytes) sent stored = event.sent call bytes
line_event (Dropped call bytes) sent stored = event.dropped call bytes
line_event NothingPosted sent stored = event.nothing_posted
line_event (Reaped call recycled) sent stored = event.reaped call recycled
line_event NothingReaped sent stored = event.nothing_reaped
