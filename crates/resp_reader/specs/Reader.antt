-- What was fed to a reader, and what it gives.
use Rattle.std.specs.Prelude.{◌≡◌, ℕ, ◌+◌, ◌≤◌, ◌==◌, if◌then◌else◌, List, ◌++◌, length, Option, MatchOption, ⊤}
use Rattle.flake_base.specs.declared.session.End.{End}
use Rattle.flake_base.specs.declared.session.End.TheVariants as ends
use Rattle.flake_model.specs.Resp.{Words, Element, AllElements, stream, requests_of, IsElementFront, judged_bytes}
use Rattle.flake_model.specs.Resp.{Parses}
use Rattle.resp_reader.specs.declared.error.ReadError.{ReadError}
use Rattle.resp_reader.specs.declared.error.ReadError.TheVariants.{BadCount, ExpectedBulk, BadLength}
use Rattle.resp_reader.specs.declared.error.ReadError.TheVariants.{Inline, TooLong, Memory}
use Rattle.resp_reader.specs.declared.error.Ended.{Ended}
use Rattle.resp_reader.specs.declared.error.Ended.TheVariants.{Clean, Truncated}
use Rattle.resp_reader.specs.declared.parser.Parser.{Parser}
use Rattle.resp_reader.specs.Begun.{begun_front}

-- what contracts see of a reader
pub record Progress : Type 0 where
  -- whole requests that weren't given yet
  pub requests : List Words
  -- what came of an element that isn't whole, and where that begins
  pub front : List ℕ
  pub place : ℕ
  -- the error that closed it
  pub closed : Option ReadError

-- how many bytes an open reader was fed
abbrev pub fed_to : Progress → ℕ
fed_to reader = reader.place + length reader.front

-- the end that an error is
abbrev pub error_end : ReadError → End
error_end (BadCount place) = ends.Protocol 1 place
error_end (ExpectedBulk place) = ends.Protocol 2 place
error_end (BadLength place) = ends.Protocol 3 place
error_end (Inline place) = ends.Protocol 4 place
error_end (TooLong taken) = ends.TooLong
error_end Memory = ends.Memory

-- an input that is too long is so behind all bytes that are judged
abbrev pub IsErrorTaken : ReadError → Type 0
IsErrorTaken (BadCount place) = ⊤
IsErrorTaken (ExpectedBulk place) = ⊤
IsErrorTaken (BadLength place) = ⊤
IsErrorTaken (Inline place) = ⊤
IsErrorTaken (TooLong taken) = taken ≡ judged_bytes
IsErrorTaken Memory = ⊥

-- the error of a kind
abbrev pub error_at : ℕ → ℕ → ReadError
error_at kind place =
    if kind == 1 then BadCount place else
    if kind == 2 then ExpectedBulk place else
    if kind == 3 then BadLength place else Inline place

-- the end of an input that was fed whole
abbrev pub input_end : Ended → End
input_end Clean = ends.Clean
input_end (Truncated place) = ends.Truncated place

-- the bytes are whole elements, with these requests, and a front of one that begins at this place
pub record IsReadTo (bytes : List ℕ) (requests : List Words) (place : ℕ) (front : List ℕ) : Type 0 where
  pub elements : List Element
  pub allowed : AllElements elements
  pub judged : length bytes ≤ judged_bytes
  pub bytes_are : bytes ≡ stream elements ++ front
  pub requests_are : requests ≡ requests_of elements
  pub place_is : place ≡ length (stream elements)
  pub cut_short : IsElementFront front

-- The bytes that were fed in all mean the requests that were given, those that are still to be given, and, where the
-- reader is closed, its error.
abbrev pub ReadsRequests : List ℕ → List Words → Progress → Type 0
ReadsRequests bytes given reader =
    MatchOption reader.closed (IsReadTo bytes (given ++ reader.requests) reader.place reader.front)
    (λ error. IsErrorTaken error × Parses bytes (given ++ reader.requests) (error_end error))

abbrev pub progress : Parser → Option ReadError → Progress
progress parser closed =
    record { requests = parser.ready.items; front = begun_front parser.begun; place = parser.place; closed = closed }
