-- A pump: what its source gave, and which commands it has given of that.
use Rattle.std.specs.Prelude.{◌≡◌, ◌≢◌, ℕ, ◌+◌, ◌-◌, ◌^◌, ◌≤◌, min, Bool, true, List, [], ◌∷◌, ◌++◌, length, map}
use Rattle.std.specs.Prelude.{Option, None}
use Rattle.flake_base.specs.Causes.{Rose}
use Rattle.flake_base.specs.declared.session.End.{End}
use Rattle.flake_base.specs.declared.session.End.TheVariants.{Clean, Protocol, Truncated, TooLong, ReadFault, Memory}
use Rattle.flake_base.specs.declared.session.End.TheVariants.{Left}
use Rattle.flake_model.specs.Resp.{Words, Parses, judged_bytes}
use Rattle.flake_model.specs.Command.{Command, fault, command_of}
use Rattle.flake_base.specs.declared.session.SessionEnd.{SessionEnd}
use Rattle.flake_model.specs.Input.{protocol_error, commands_in}
use Rattle.flake_model.specs.Session.{Session, IsSession, IsReadInTurn, HasNoError}
use Rattle.resp_reader.specs.declared.error.ReadError.{ReadError}
use Rattle.resp_reader.specs.declared.error.ReadError.TheVariants as errors
use Rattle.resp_reader.specs.Reader.{Progress, ReadsRequests, fed_to}
use Rattle.command_pump.specs.declared.pump.Broken.TheVariants.{Count, Mark, Length, Start}
use Rattle.command_pump.specs.declared.pump.Stage.{Stage}
use Rattle.command_pump.specs.declared.pump.Stage.TheVariants.{Reading, Refused, Ended}
use Rattle.command_pump.specs.Broken.{kind_of}

-- where bytes come from: the name, and what is held under it, where that is told
pub record Origin : Type 0 where
  pub name : List ℕ
  pub whole : Option (List ℕ)

abbrev pub origin_of : List ℕ → Option (List ℕ) → Origin
origin_of name whole = record { name = name; whole = whole }

pub record PumpState : Type 0 where
  -- the source's origin, what it gave, whether it gave none at last, and how often its reads failed
  pub origin : Origin
  pub given : List ℕ
  pub ended : Bool
  pub faults : ℕ
  pub reader : Progress
  pub stage : Stage
  pub taken : ℕ

-- the reader takes pieces, and has so many bytes
pub record TakesPieces (reader : Progress) (taken : ℕ) : Type 0 where
  pub closed : reader.closed ≡ None
  pub fed : fed_to reader ≡ taken
  pub judged : taken ≤ judged_bytes

abbrev pub stage_after : ReadError → Stage
stage_after (errors.BadCount place) = Refused Count place
stage_after (errors.ExpectedBulk place) = Refused Mark place
stage_after (errors.BadLength place) = Refused Length place
stage_after (errors.Inline place) = Refused Start place
stage_after (errors.TooLong taken) = Ended TooLong
stage_after errors.Memory = Ended Memory

-- how many bytes a session took by its end, of those that its source gave
abbrev pub bytes_taken : End → ℕ → ℕ
bytes_taken Clean given = given
bytes_taken (Protocol kind place) given = min (place + 1) (2 ^ 64 - 1)
bytes_taken (Truncated place) given = given
bytes_taken TooLong given = judged_bytes
bytes_taken ReadFault given = given
bytes_taken Memory given = given
bytes_taken Left given = given

-- the source's count of faults rose where a read failed, and else is as it was
abbrev pub EndFaults : End → ℕ → ℕ → Type 0
EndFaults Clean before now = now ≡ before
EndFaults (Protocol kind place) before now = now ≡ before
EndFaults (Truncated place) before now = now ≡ before
EndFaults TooLong before now = now ≡ before
EndFaults ReadFault before now = Rose before now
EndFaults Memory before now = now ≡ before
EndFaults Left before now = now ≡ before

abbrev pub FaultsSo : Stage → ℕ → ℕ → Type 0
FaultsSo Reading before now = now ≡ before
FaultsSo (Refused broken place) before now = now ≡ before
FaultsSo (Ended end) before now = EndFaults end before now

-- whole requests, and perhaps the front of one
pub record AreRead (bytes : List ℕ) (requests : List Words) : Type 0 where
  pub shown : End
  pub parsed : Parses bytes requests shown
  pub no_error : (all : List Words) → commands_in all shown ≡ map command_of all
  pub whole : HasNoError shown

-- the bytes mean something, and these are the first of their requests
pub record AreFirst (bytes : List ℕ) (requests : List Words) : Type 0 where
  pub all : List Words
  pub shown : End
  pub parsed : Parses bytes all shown
  pub rest : List Words
  pub all_are : all ≡ requests ++ rest

-- What the bytes of an ended input mean: the requests that were given and those that are still to be given are theirs.
abbrev pub IsEnded : End → Bool → List ℕ → List Words → List Command → Progress → Type 0
IsEnded Clean ended bytes requests given reader =
    (ended ≡ true) × Parses bytes (requests ++ reader.requests) Clean × (given ≡ map command_of requests)
IsEnded (Protocol kind place) ended bytes requests given reader =
    Parses bytes requests (Protocol kind place) × (reader.requests ≡ [])
    × (given ≡ map command_of requests ++ fault (protocol_error kind) ∷ [])
IsEnded (Truncated place) ended bytes requests given reader =
    (ended ≡ true) × Parses bytes (requests ++ reader.requests) (Truncated place) × (given ≡ map command_of requests)
IsEnded TooLong ended bytes requests given reader =
    Parses bytes (requests ++ reader.requests) TooLong × (given ≡ map command_of requests)
IsEnded ReadFault ended bytes requests given reader =
    AreRead bytes (requests ++ reader.requests) × (reader.requests ≡ []) × (given ≡ map command_of requests)
IsEnded Memory ended bytes requests given reader =
    AreFirst bytes (requests ++ reader.requests) × (given ≡ map command_of requests)
IsEnded Left ended bytes requests given reader = ⊥

abbrev pub IsAtStage : Stage → Bool → List ℕ → List Words → List Command → Progress → Type 0
IsAtStage Reading ended bytes requests given reader =
    ReadsRequests bytes requests reader × (reader.closed ≡ None) × (given ≡ map command_of requests)
IsAtStage (Refused broken place) ended bytes requests given reader =
    Parses bytes (requests ++ reader.requests) (Protocol (kind_of broken) place) × (given ≡ map command_of requests)
IsAtStage (Ended end) ended bytes requests given reader = IsEnded end ended bytes requests given reader

-- Of a source with this origin, and from a count of faults on, these commands were given; its last piece was read when
-- it had given at most so many.
pub record HasGiven (input : Origin) (before : ℕ) (given : List Command) (most : ℕ) (pump : PumpState) : Type 0 where
  pub requests : List Words
  -- all that the source gave was taken
  pub taken_is : pump.taken ≡ length pump.given
  pub origin_is : pump.origin ≡ input
  pub faults_are : FaultsSo pump.stage before pump.faults
  pub at : IsAtStage pump.stage pump.ended pump.given requests given pump.reader
  pub in_turn : IsReadInTurn pump.given most

-- between its calls: the last piece was read before the last command was given
abbrev pub IsPump : Origin → ℕ → List Command → PumpState → Type 0
IsPump input before given pump = HasGiven input before given (length given - 1) pump

-- while it seeks the next command: or behind that one
abbrev pub SeeksNext : Origin → ℕ → List Command → PumpState → Type 0
SeeksNext input before given pump = HasGiven input before given (length given) pump

-- An end was answered: it is answered again, and nothing changes.
pub record AnswersEnd (end : End) (pump : PumpState) : Type 0 where
  pub stage : pump.stage ≡ Ended end
  pub none : pump.reader.requests ≡ []
  pub taken : pump.taken ≡ bytes_taken end pump.taken

-- a session that ended so
abbrev pub ended_at : End → ℕ → ℕ → Bool → SessionEnd
ended_at end taken replies failed = record { end = end; taken = taken; replies = replies; failed = failed }

abbrev pub session_at : List ℕ → Bool → List Command → SessionEnd → ℕ → Session
session_at bytes ended commands end begun =
    record { given = bytes; ended = ended; commands = commands; end = end; begun = begun }

-- Of an input, these commands were given, and it ended so; where memory was wanting there may be more.
pub record HasEnded (input : Origin) (before : ℕ) (given : List Command) (end : End)
    (pump : PumpState) : Type 0 where
  pub origin_is : pump.origin ≡ input
  pub faults_are : EndFaults end before pump.faults
  pub to_the_end : end ≢ Left
  pub more : List Command
  pub session : (failed : Bool)
      → IsSession (session_at pump.given pump.ended (given ++ more) (ended_at end pump.taken (length given) failed) 0)
