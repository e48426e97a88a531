-- What is written of a line, and the room that it takes.
use Rattle.std.specs.Prelude.{ℕ, List, [], ◌∷◌, ◌++◌, codes}
use Rattle.transcript_model.specs.Lines.{LineEvent, EventLine, numbers_text, reaped_text}

abbrev pub said : ℕ → LineEvent → EventLine
said session event = record { session = session; event = event }

-- all of a line but its segments, with the LF
abbrev pub line_room : ℕ
line_room = 101

-- a posted call's line, up to its segments
abbrev pub front_text : ℕ → ℕ → ℕ → List ℕ
front_text session call freed =
    codes "call" ++ numbers_text (session ∷ call ∷ []) ++ reaped_text freed ++ codes " send"
