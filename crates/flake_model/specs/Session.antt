-- One session of a run: its input, its commands, and how it ended.
use Rattle.std.specs.Prelude.{◌≡◌, ℕ, ◌+◌, ◌<◌, ◌≤◌, ◌⊎◌, Bool, true, false, List, ◌++◌, length, ⊤}
use Rattle.flake_base.specs.declared.session.End.{End}
use Rattle.flake_base.specs.declared.session.End.TheVariants.{Clean, Protocol, Truncated, TooLong, ReadFault, Memory}
use Rattle.flake_base.specs.declared.session.End.TheVariants.{Left}
use Rattle.flake_base.specs.declared.session.SessionEnd.{SessionEnd}
use Rattle.flake_model.specs.Resp.{Words, Parses, judged_bytes}
use Rattle.flake_model.specs.Command.{Command}
use Rattle.flake_model.specs.Input.{commands_in}
use Rattle.flake_model.specs.Journal.{next_parts}

pub record Session : Type 0 where
  -- what its source gave, and whether it gave none at last
  pub given : List ℕ
  pub ended : Bool
  pub commands : List Command
  pub end : SessionEnd
  -- how many parts it ran of the call behind its last reply
  pub begun : ℕ

-- a failed read, want of memory or a schedule stopped the session, whatever its input is
abbrev pub is_stopped : End → Bool
is_stopped ReadFault = true
is_stopped Memory = true
is_stopped Left = true
is_stopped end = false

-- bytes that are whole requests, and perhaps the front of one
abbrev pub HasNoError : End → Type 0
HasNoError shown = (shown ≡ Clean) ⊎ ((place : ℕ) × (shown ≡ Truncated place))

-- How the bytes that a source gave end: as the session does. Before a failed read there was no error, since it would
-- have been answered. Where memory was wanting, or a schedule ended, the bytes end as they may.
abbrev pub EndsAs : End → End → Type 0
EndsAs ReadFault shown = HasNoError shown
EndsAs Memory shown = ⊤
EndsAs Left shown = ⊤
EndsAs end shown = shown ≡ end

-- such an input was read to its end
abbrev pub IsReadOut : End → Bool → Type 0
IsReadOut Clean ended = ended ≡ true
IsReadOut (Truncated place) ended = ended ≡ true
IsReadOut end ended = ⊤

-- How many bytes a session took, of so many that its source gave: up to an error, or as many as are judged; else all.
abbrev pub taken_of : End → ℕ → ℕ
taken_of (Protocol kind place) given = place + 1
taken_of TooLong given = judged_bytes
taken_of end given = given

-- How many commands have their reply: all, unless memory or the schedule ended first. Where memory was wanting, the
-- error behind the requests was not answered.
abbrev pub IsReplied : End → ℕ → ℕ → ℕ → Type 0
IsReplied Memory replies requests commands = replies ≤ requests
IsReplied Left replies requests commands = replies ≤ commands
IsReplied end replies requests commands = replies ≡ commands

-- How many parts of the call behind its last reply a session ran: none, unless memory was wanting in that call, and
-- then not its last.
abbrev pub IsBegun : End → ℕ → ℕ → Type 0
IsBegun Memory begun parts = (begun ≡ 0) ⊎ (begun < parts)
IsBegun end begun parts = begun ≡ 0

-- a read gives at most so many bytes
abbrev pub most_read : ℕ
most_read = 4096

-- No read is ahead of the replies: each whole request in front of the piece that was read last has one. Where nothing
-- was read, both are empty.
pub record IsReadInTurn (given : List ℕ) (replies : ℕ) : Type 0 where
  pub before : List ℕ
  pub piece : List ℕ
  pub given_is : given ≡ before ++ piece
  pub short : length piece ≤ most_read
  pub answered : (requests : List Words) (shown : End) → Parses before requests shown → length requests ≤ replies

-- What a session has done with what its source gave.
pub record IsSession (session : Session) : Type 0 where
  -- what the given bytes mean
  pub requests : List Words
  pub shown : End
  pub parsed : Parses session.given requests shown
  pub commands_are : session.commands ≡ commands_in requests shown
  -- how the session ended on them
  pub shown_is : EndsAs session.end.end shown
  pub read_out : IsReadOut session.end.end session.ended
  pub taken_is : session.end.taken ≡ taken_of session.end.end (length session.given)
  pub replied : IsReplied session.end.end session.end.replies (length requests) (length session.commands)
  pub begun_is : IsBegun session.end.end session.begun (length (next_parts session.end.replies session.commands))
  pub in_turn : IsReadInTurn session.given session.end.replies
