-- The lines of a transcript: what happened at each line of a schedule, and its text.
use Rattle.std.specs.Prelude.{ℕ, zero, suc, List, [], ◌∷◌, ◌++◌, codes}
use Rattle.std.specs.Fmt.{decimal}
use Rattle.std.specs.List.{flat_map}
use Rattle.flake_base.specs.declared.segment.Seg.{Seg}
use Rattle.schedule_text.specs.declared.line.Line.{Line}
use Rattle.schedule_text.specs.declared.line.Line.TheVariants.{Call, Gather, Reap}

-- what happened to a session at a line
pub data LineEvent : Type 0 where
  -- its next call was posted: its number, how many frames it reaped, its segments, and the fragments that it stored
  posted : ℕ → ℕ → List Seg → List Seg → LineEvent
  -- the call needs so many descriptors, or staging buffers, and there are so many
  ring_full : ℕ → ℕ → LineEvent
  stage_full : ℕ → ℕ → LineEvent
  -- there is no further call
  at_end : LineEvent
  -- the frame with this number, of so many bytes, was sent, or dropped
  sent : ℕ → ℕ → LineEvent
  dropped : ℕ → ℕ → LineEvent
  nothing_posted : LineEvent
  -- the frame with this number was reaped, and so many of its unpins were the last
  reaped : ℕ → ℕ → LineEvent
  nothing_reaped : LineEvent

pub record EventLine : Type 0 where
  pub session : ℕ
  pub event : LineEvent

-- which line of a schedule an event answers
abbrev pub line_of : EventLine → Line
line_of said = asked said.event where
  asked : LineEvent → Line
  asked (posted call freed segments fragments) = Call said.session
  asked (ring_full need room) = Call said.session
  asked (stage_full need free) = Call said.session
  asked at_end = Call said.session
  asked (sent call bytes) = Gather said.session
  asked (dropped call bytes) = Gather said.session
  asked nothing_posted = Gather said.session
  asked (reaped call recycled) = Reap said.session
  asked nothing_reaped = Reap said.session

-- a blank before each number
abbrev pub numbers_text : List ℕ → List ℕ
numbers_text numbers = flat_map (λ n. 32 ∷ decimal n) numbers

abbrev pub segment_text : Seg → List ℕ
segment_text seg = 32 ∷ decimal seg.address ++ 58 ∷ decimal seg.len

abbrev pub reaped_text : ℕ → List ℕ
reaped_text n = if_not_zero n where
  if_not_zero : ℕ → List ℕ
  if_not_zero zero = []
  if_not_zero (suc more) = codes " reaped " ++ decimal n

abbrev pub stored_text : List Seg → List ℕ
stored_text [] = []
stored_text (seg ∷ segs) = codes " store" ++ flat_map segment_text (seg ∷ segs)

abbrev pub event_text : ℕ → LineEvent → List ℕ
event_text i (posted call freed segments fragments) =
    codes "call" ++ numbers_text (i ∷ call ∷ []) ++ reaped_text freed ++ codes " send"
    ++ flat_map segment_text segments ++ stored_text fragments
event_text i (ring_full need room) =
    codes "call" ++ numbers_text (i ∷ []) ++ codes " ring" ++ numbers_text (need ∷ room ∷ [])
event_text i (stage_full need free) =
    codes "call" ++ numbers_text (i ∷ []) ++ codes " stage" ++ numbers_text (need ∷ free ∷ [])
event_text i at_end = codes "call" ++ numbers_text (i ∷ []) ++ codes " end"
event_text i (sent call bytes) = codes "gather" ++ numbers_text (i ∷ call ∷ bytes ∷ [])
event_text i (dropped call bytes) =
    codes "gather" ++ numbers_text (i ∷ call ∷ []) ++ codes " dropped" ++ numbers_text (bytes ∷ [])
event_text i nothing_posted = codes "gather" ++ numbers_text (i ∷ []) ++ codes " empty"
event_text i (reaped call recycled) = codes "reap" ++ numbers_text (i ∷ call ∷ recycled ∷ [])
event_text i nothing_reaped = codes "reap" ++ numbers_text (i ∷ []) ++ codes " none"

-- each line ends in LF
abbrev pub transcript_line : EventLine → List ℕ
transcript_line said = event_text said.session said.event ++ 10 ∷ []

abbrev pub held_text : ℕ → ℕ → List ℕ
held_text small large = codes "held" ++ numbers_text (small ∷ large ∷ []) ++ 10 ∷ []

abbrev pub transcript_text : List EventLine → ℕ → ℕ → List ℕ
transcript_text lines small large = flat_map transcript_line lines ++ held_text small large
