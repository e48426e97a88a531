-- A whole transcript of two sessions: one stores a value, the other finds it at the address that was shown.
use Rattle.std.specs.Prelude.{ℕ, ◌+◌, ◌*◌, true, false, List, [], ◌∷◌, map, codes}
use Rattle.std.specs.List.{range_with_len}
use Rattle.flake_base.specs.declared.session.End.TheVariants.{Left}
use Rattle.flake_base.specs.declared.session.SessionEnd.{SessionEnd}
use Rattle.flake_base.specs.declared.journal.Entry.{Entry}
use Rattle.flake_base.specs.Told.{WireTold}
use Rattle.flake_model.specs.Store.{always}
use Rattle.flake_model.specs.Command.{ping, get, set}
use Rattle.schedule_text.specs.declared.line.Line.{Line}
use Rattle.schedule_text.specs.declared.line.Line.TheVariants.{Call, Gather}
use Rattle.reply_layout.specs.Layout.{segment}
use Rattle.transcript_model.specs.Lines.{EventLine, LineEvent, posted, sent, dropped}
use Rattle.transcript_model.specs.Transcript.{DrivenRun, Wires, IsTranscript}
use Rattle.transcript_model.specs.Worked.{one, default_sizes}

abbrev pub left_after : ℕ → SessionEnd
left_after replies = record { end = Left; taken = 0; replies = replies; failed = false }

abbrev pub entry_of : ℕ → Entry
entry_of session = record { session = session; call = 0; part = 0 }

-- [SET a x] and [GET a], with a threshold of one byte
abbrev pub two_sessions : DrivenRun
two_sessions = record {
  sizes = default_sizes;
  ring = 1160;
  threshold = 1;
  sessions = (set always false (codes "a") (codes "x") ∷ []) ∷ (get (codes "a") ∷ []) ∷ [];
  ends = left_after 1 ∷ left_after 1 ∷ [];
  journal = [] ∷ [] ∷ [] ∷ [] ∷ (entry_of 0 ∷ entry_of 1 ∷ []) ∷ [] ∷ [] ∷ [] ∷ [];
  small_held = 1;
  large_held = 0;
}

abbrev pub schedule_of_two : List Line
schedule_of_two = Call 0 ∷ Call 1 ∷ []

abbrev pub lines_of_two : List EventLine
lines_of_two =
    record { session = 0; event = posted 0 0 (one 1048576 5) (one 1179648 1) }
    ∷ record {
      session = 1;
      event = posted 0 0 (segment 1114112 4 ∷ segment 1179648 1 ∷ segment 1114116 2 ∷ []) [];
    } ∷ []

-- a wire that was put these bytes, where so many puts failed
abbrev pub wire_of : List ℕ → ℕ → WireTold
wire_of bytes put_faults = record { put = bytes; kept = 0; put_faults = put_faults; flush_faults = 0 }

-- nothing was put on the wires before, and both replies then
abbrev pub no_bytes_of_two : Wires
no_bytes_of_two = wire_of [] 0 ∷ wire_of [] 0 ∷ []

abbrev pub replies_of_two : Wires
replies_of_two = wire_of (codes "+OK\r\n") 0 ∷ wire_of (codes "$1\r\nx\r\n") 0 ∷ []

-- The wire of a session kept its one reply whole, though the put of it failed.
abbrev pub cut_session : DrivenRun
cut_session = record {
  sizes = default_sizes;
  ring = 1160;
  threshold = 512;
  sessions = (ping ∷ []) ∷ [];
  ends = record { end = Left; taken = 14; replies = 1; failed = true } ∷ [];
  journal = [] ∷ [];
  small_held = 0;
  large_held = 0;
}

abbrev pub cut_before : Wires
cut_before = wire_of [] 0 ∷ []

abbrev pub cut_after : Wires
cut_after = wire_of (codes "+PONG\r\n") 1 ∷ []

-- its reply is gathered
abbrev pub cut_lines : LineEvent → List EventLine
cut_lines gathered =
    record { session = 0; event = posted 0 0 (one 1048576 7) [] } ∷ record { session = 0; event = gathered } ∷ []

-- so the line that says so says that it was dropped: it wasn't sent
pub record CutIsDropped : Type 0 where
  pub right : IsTranscript cut_session cut_before cut_after (Call 0 ∷ Gather 0 ∷ []) (cut_lines (dropped 0 7))
  pub wrong : IsTranscript cut_session cut_before cut_after (Call 0 ∷ Gather 0 ∷ []) (cut_lines (sent 0 7)) → ⊥

-- two sessions, each of which is answered once
abbrev pub two_pings : DrivenRun
two_pings = record {
  sizes = default_sizes;
  ring = 1160;
  threshold = 512;
  sessions = (ping ∷ []) ∷ (ping ∷ []) ∷ [];
  ends = left_after 1 ∷ left_after 1 ∷ [];
  journal = [] ∷ [];
  small_held = 0;
  large_held = 0;
}

-- both replies lie in one staging buffer
abbrev pub shared_lines : List EventLine
shared_lines =
    record { session = 0; event = posted 0 0 (one 1048576 7) [] }
    ∷ record { session = 1; event = posted 0 0 (one 1048576 7) [] } ∷ []

-- which is no transcript, whatever the wires tell
abbrev pub SharedStageIsWrong : Type 0
SharedStageIsWrong = (olds news : Wires) → IsTranscript two_pings olds news (Call 0 ∷ Call 1 ∷ []) shared_lines → ⊥

abbrev pub stage_from : ℕ → List ℕ
stage_from first = map (λ n. 1048576 + 512 * n) (range_with_len first 128)
