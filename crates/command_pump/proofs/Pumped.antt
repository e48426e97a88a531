-- What a pump comes to, step by step.
use Rattle.std.proofs.Common.{◌≡◌, ◌≢◌, ℕ, ◌+◌, ◌-◌, ◌<◌, ◌≤◌, inl, inr, Bool, List, [], ◌∷◌, ◌++◌, Option, Some}
use Rattle.std.proofs.Common.{None, MatchOption, length, map, arith, refl, ap, sym, ◌∙◌, subst}
use Rattle.std.proofs.Common.{append_assoc, append-nil}
use Rattle.std.proofs.lemmas.List.{map-append, length-append, length-map, length-take}
use Rattle.flake_base.specs.Causes.{Rose}
use Rattle.flake_base.specs.declared.session.End.{End}
use Rattle.flake_base.specs.declared.session.End.TheVariants.{Clean, Protocol, Truncated, TooLong, ReadFault, Memory}
use Rattle.flake_base.specs.declared.session.End.TheVariants.{Left}
use Rattle.flake_model.specs.Resp.{Words, judged_bytes, Parses, stream}
use Rattle.flake_model.specs.Command.{Command, fault, command_of}
use Rattle.flake_model.specs.Input.{protocol_error, commands_in}
use Rattle.flake_model.specs.Session.{IsSession, IsReadInTurn, most_read}
use Rattle.flake_base.specs.declared.session.SessionEnd.{SessionEnd}
use Rattle.flake_model.proofs.InTurn.{read_at_once, piece_in_turn, more_replies}
use Rattle.flake_model.proofs.OneParse.{goes_on}
use Rattle.flake_model.proofs.SomeParse.{some_parse}
use Rattle.resp_reader.specs.declared.error.ReadError.{ReadError}
use Rattle.resp_reader.specs.declared.error.ReadError.TheVariants.{BadCount, ExpectedBulk, BadLength, Inline}
use Rattle.resp_reader.specs.declared.error.ReadError.TheVariants as errors
use Rattle.resp_reader.specs.Reader.{Progress, ReadsRequests, IsReadTo, IsErrorTaken as IsJudged, error_end}
use Rattle.resp_reader.proofs.Fed.{read_ends}
use Rattle.command_pump.specs.Pump.{Origin, origin_of, AreRead, AreFirst, IsEnded, IsAtStage, IsPump}
use Rattle.command_pump.specs.Pump.{SeeksNext, AnswersEnd}
use Rattle.command_pump.specs.Pump.{PumpState, HasEnded, FaultsSo, ended_at, session_at, bytes_taken, stage_after}
use Rattle.command_pump.specs.declared.pump.Broken.{Broken}
use Rattle.command_pump.specs.declared.pump.Stage.{Stage}
use Rattle.command_pump.specs.declared.pump.Stage.TheVariants.{Reading, Refused, Ended}
use Rattle.command_pump.specs.Broken.{kind_of}

opened : (bytes : List ℕ) (requests : List Words) (reader : Progress) → reader.closed ≡ None
    → ReadsRequests bytes requests reader → IsReadTo bytes (requests ++ reader.requests) reader.place reader.front
opened bytes requests reader is reads =
    subst (λ (c : Option ReadError). MatchOption c
    (IsReadTo bytes (requests ++ reader.requests) reader.place reader.front)
    (λ error. IsJudged error × Parses bytes (requests ++ reader.requests) (error_end error))) is reads

closed_by : (bytes : List ℕ) (requests : List Words) (reader : Progress) (error : ReadError) → reader.closed
    ≡ Some error → ReadsRequests bytes requests reader → IsJudged error × Parses bytes (requests ++ reader.requests)
    (error_end error)
closed_by bytes requests reader error is reads =
    subst (λ (c : Option ReadError). MatchOption c
    (IsReadTo bytes (requests ++ reader.requests) reader.place reader.front)
    (λ error. IsJudged error × Parses bytes (requests ++ reader.requests) (error_end error))) is reads

read_so_far : (bytes : List ℕ) (requests : List Words) (place : ℕ) (front : List ℕ)
    → IsReadTo bytes requests place front → AreRead bytes requests
read_so_far bytes requests place front read = elim (read_ends bytes requests place front read) [
  | inl whole ↦ record { shown = Clean; parsed = (read.judged, whole.1); no_error = λ all. refl; whole = inl refl }
  | inr cut ↦ record {
    shown = Truncated place;
    parsed = (read.judged, cut.1);
    no_error = λ all. refl;
    whole = inr (place, refl);
  }
]

-- what an open reader was fed is whole requests, and perhaps the front of one
pub open_are_read : (bytes : List ℕ) (requests : List Words) (reader : Progress) → reader.closed ≡ None
    → ReadsRequests bytes requests reader → AreRead bytes (requests ++ reader.requests)
open_are_read bytes requests reader is reads = read_so_far bytes (requests ++ reader.requests) reader.place reader.front
    (opened bytes requests reader is reads)

-- a pump, of its parts
abbrev pub pump_at : Origin → List ℕ → Bool → ℕ → Progress → Stage → ℕ → PumpState
pump_at origin given ended faults reader stage taken = record {
  origin = origin;
  given = given;
  ended = ended;
  faults = faults;
  reader = reader;
  stage = stage;
  taken = taken;
}

pub same_origin : (name old_name : List ℕ) (whole old_whole : Option (List ℕ)) → name ≡ old_name → whole ≡ old_whole
    → origin_of name whole ≡ origin_of old_name old_whole
same_origin name old_name whole old_whole names wholes = λ i. record { name = names i; whole = wholes i }

-- a source that gave nothing yet
pub at_start : (origin : Origin) (bytes : List ℕ) (ended : Bool) (faults : ℕ) (reader : Progress) → bytes ≡ []
    → ReadsRequests [] [] reader → reader.closed ≡ None
    → IsPump origin faults [] (pump_at origin bytes ended faults reader Reading 0)
at_start origin bytes ended faults reader none reads still = record {
  requests = [];
  taken_is = ap length (sym none);
  origin_is = refl;
  faults_are = refl;
  at = (subst (λ b. ReadsRequests b [] reader) (sym none) reads, still, refl);
  in_turn = read_at_once bytes 0 (omega (arith, ap length none));
}

-- the pump as it is while it reads
record WhileReading (input : Origin) (before : ℕ) (given : List Command) (pump : PumpState) : Type 0 where
  requests : List Words
  taken_is : pump.taken ≡ length pump.given
  faults_are : pump.faults ≡ before
  origin_is : pump.origin ≡ input
  reads : ReadsRequests pump.given requests pump.reader
  closed : pump.reader.closed ≡ None
  given_is : given ≡ map command_of requests
  in_turn : IsReadInTurn pump.given (length given)

while_reading : (input : Origin) (before : ℕ) (given : List Command) (pump : PumpState) → pump.stage ≡ Reading
    → SeeksNext input before given pump → WhileReading input before given pump
while_reading input before given pump is p =
    let at = subst (λ s. IsAtStage s pump.ended pump.given p.requests given pump.reader) is p.at in
    record {
      requests = p.requests;
      taken_is = p.taken_is;
      faults_are = subst (λ s. FaultsSo s before pump.faults) is p.faults_are;
      origin_is = p.origin_is;
      reads = at.0;
      closed = at.1;
      given_is = at.2;
      in_turn = p.in_turn;
    }

-- a piece was read, and no whole request was left
pub record IsPieceMore (pump : PumpState) (bytes : List ℕ) (n : ℕ) (piece : List ℕ) : Type 0 where
  pub none : pump.reader.requests ≡ []
  pub grew : bytes ≡ pump.given ++ piece
  pub count : length piece ≡ n
  pub few : length piece ≤ most_read

-- so all requests of the bytes before it were given
piece_more : (input : Origin) (before : ℕ) (given : List Command) (pump : PumpState) (bytes : List ℕ) (n : ℕ)
    (piece : List ℕ) → IsPieceMore pump bytes n piece → WhileReading input before given pump
    → IsReadInTurn bytes (length given)
piece_more input before given pump bytes n piece came r =
    let all = r.requests ++ pump.reader.requests in
    let read = open_are_read pump.given r.requests pump.reader r.closed r.reads in
    let many : length all ≤ length given = omega (
      arith,
      ap length r.given_is,
      length-map r.requests command_of,
      length-append r.requests pump.reader.requests,
      ap length came.none,
    ) in
    piece_in_turn pump.given piece bytes all read.shown (length given) came.grew came.few read.parsed many

-- a read fault
pub at_fault : (input : Origin) (before : ℕ) (given : List Command) (pump : PumpState) (origin : Origin)
    (bytes : List ℕ) (ended : Bool) (faults : ℕ) → pump.stage ≡ Reading → pump.reader.requests ≡ []
    → origin ≡ pump.origin
    → bytes ≡ pump.given → Rose pump.faults faults → SeeksNext input before given pump
    → SeeksNext input before given (pump_at origin bytes ended faults pump.reader (Ended ReadFault) pump.taken)
at_fault input before given pump origin bytes ended faults is none from same rose p =
    let r = while_reading input before given pump is p in
    let read = open_are_read pump.given r.requests pump.reader r.closed r.reads in
    record {
      requests = r.requests;
      taken_is = r.taken_is ∙ ap length (sym same);
      origin_is = from ∙ r.origin_is;
      faults_are = subst (λ n. Rose n faults) r.faults_are rose;
      at = (subst (λ b. AreRead b (r.requests ++ pump.reader.requests)) (sym same) read, none, r.given_is);
      in_turn = subst (λ b. IsReadInTurn b (length given)) (sym same) r.in_turn;
    }

-- a piece that was taken
pub at_piece : (input : Origin) (before : ℕ) (given : List Command) (pump : PumpState) (origin : Origin)
    (bytes : List ℕ) (ended : Bool) (faults n : ℕ) (reader : Progress) (piece : List ℕ) → pump.stage ≡ Reading
    → faults ≡ pump.faults → origin ≡ pump.origin → IsPieceMore pump bytes n piece
    → reader.closed ≡ None
    → ((bytes : List ℕ) (given : List Words) → ReadsRequests bytes given pump.reader
    → ReadsRequests (bytes ++ piece) given reader) → SeeksNext input before given pump
    → SeeksNext input before given (pump_at origin bytes ended faults reader Reading (pump.taken + n))
at_piece input before given pump origin bytes ended faults n reader piece is same from came still fed p =
    let r = while_reading input before given pump is p in
    record {
      requests = r.requests;
      taken_is = omega (arith, r.taken_is, length-append pump.given piece, came.count, ap length came.grew);
      origin_is = from ∙ r.origin_is;
      faults_are = same ∙ r.faults_are;
      at = (
        subst (λ b. ReadsRequests b r.requests reader) (sym came.grew) (fed pump.given r.requests r.reads),
        still,
        r.given_is,
      );
      in_turn = piece_more input before given pump bytes n piece came r;
    }

-- what a piece more means, of which the reader holds nothing
first_of : (bytes piece : List ℕ) (requests : List Words) → AreRead bytes requests → AreFirst (bytes ++ piece) requests
first_of bytes piece requests read =
    let some = some_parse (bytes ++ piece) in
    let more = goes_on bytes piece requests some.0 read.shown some.1 read.whole read.parsed some.2 in
    record { all = some.0; shown = some.1; parsed = some.2; rest = more.0; all_are = more.1 }

-- want of memory in the reader, which is as it was
at_memory : (input : Origin) (before : ℕ) (given : List Command) (pump : PumpState) (origin : Origin) (bytes : List ℕ)
    (ended : Bool) (faults n : ℕ) (reader : Progress) (piece : List ℕ) → pump.stage ≡ Reading
    → faults ≡ pump.faults → origin ≡ pump.origin → IsPieceMore pump bytes n piece
    → reader ≡ pump.reader → SeeksNext input before given pump
    → SeeksNext input before given (pump_at origin bytes ended faults reader (Ended Memory) (pump.taken + n))
at_memory input before given pump origin bytes ended faults n reader piece is quiet from came same p =
    let r = while_reading input before given pump is p in
    record {
      requests = r.requests;
      taken_is = omega (arith, r.taken_is, length-append pump.given piece, came.count, ap length came.grew);
      origin_is = from ∙ r.origin_is;
      faults_are = quiet ∙ r.faults_are;
      at = (
        subst (λ b. AreFirst b (r.requests ++ reader.requests)) (sym came.grew)
            (first_of pump.given piece (r.requests ++ reader.requests)
            (subst (λ (n : Progress). AreRead pump.given (r.requests ++ n.requests)) (sym same)
            (open_are_read pump.given r.requests pump.reader r.closed r.reads))),
        r.given_is,
      );
      in_turn = piece_more input before given pump bytes n piece came r;
    }

stops_so : (error : ReadError) (ended : Bool) (bytes : List ℕ) (requests : List Words) (given : List Command)
    (reader : Progress) (before : ℕ)
    → IsJudged error × Parses bytes (requests ++ reader.requests) (error_end error) → given ≡ map command_of requests
    → FaultsSo (stage_after error) before before × IsAtStage (stage_after error) ended bytes requests given reader
stops_so (BadCount place) ended bytes requests given reader before parsed is = (refl, (parsed.1, is))
stops_so (ExpectedBulk place) ended bytes requests given reader before parsed is = (refl, (parsed.1, is))
stops_so (BadLength place) ended bytes requests given reader before parsed is = (refl, (parsed.1, is))
stops_so (Inline place) ended bytes requests given reader before parsed is = (refl, (parsed.1, is))
stops_so (errors.TooLong taken) ended bytes requests given reader before parsed is = (refl, (parsed.1, is))
stops_so errors.Memory ended bytes requests given reader before parsed is = absurd parsed.0

-- a piece that the reader refused
at_error : (input : Origin) (before : ℕ) (given : List Command) (pump : PumpState) (origin : Origin) (bytes : List ℕ)
    (ended : Bool) (faults n : ℕ) (reader : Progress) (error : ReadError) (piece : List ℕ) → pump.stage ≡ Reading
    → faults ≡ pump.faults → origin ≡ pump.origin → IsPieceMore pump bytes n piece
    → reader.closed ≡ Some error
    → ((bytes : List ℕ) (given : List Words) → ReadsRequests bytes given pump.reader
    → ReadsRequests (bytes ++ piece) given reader) → SeeksNext input before given pump
    → SeeksNext input before given (pump_at origin bytes ended faults reader (stage_after error) (pump.taken + n))
at_error input before given pump origin bytes ended faults n reader error piece is same from came closed fed p =
    let r = while_reading input before given pump is p in
    let reads = subst (λ b. ReadsRequests b r.requests reader) (sym came.grew) (fed pump.given r.requests r.reads) in
    let so = stops_so error ended bytes r.requests given reader before
    (closed_by bytes r.requests reader error closed reads) r.given_is in
    record {
      requests = r.requests;
      taken_is = omega (arith, r.taken_is, length-append pump.given piece, came.count, ap length came.grew);
      origin_is = from ∙ r.origin_is;
      faults_are = subst (λ m. FaultsSo (stage_after error) before m) (sym (same ∙ r.faults_are)) so.0;
      at = so.1;
      in_turn = piece_more input before given pump bytes n piece came r;
    }

-- an error of any kind
pub at_stop : (input : Origin) (before : ℕ) (given : List Command) (pump : PumpState) (origin : Origin) (bytes : List ℕ)
    (ended : Bool) (faults n : ℕ) (reader : Progress) (error : ReadError) (piece : List ℕ) → pump.stage ≡ Reading
    → faults ≡ pump.faults → origin ≡ pump.origin → IsPieceMore pump bytes n piece
    → (error ≢ errors.Memory → reader.closed ≡ Some error)
    → (error ≢ errors.Memory → (bytes : List ℕ) (given : List Words) → ReadsRequests bytes given pump.reader
    → ReadsRequests (bytes ++ piece) given reader) → (error ≡ errors.Memory → reader ≡ pump.reader)
    → SeeksNext input before given pump → SeeksNext input before given
    (pump_at origin bytes ended faults reader (stage_after error) (pump.taken + n))
at_stop input before given pump origin bytes ended faults n reader (BadCount place) piece is quiet from came
    closed fed same p =
    at_error input before given pump origin bytes ended faults n reader (BadCount place) piece is quiet from came
    (closed (λ e. cc e)) (fed (λ e. cc e)) p
at_stop input before given pump origin bytes ended faults n reader (ExpectedBulk place) piece is quiet from came
    closed fed same p =
    at_error input before given pump origin bytes ended faults n reader (ExpectedBulk place) piece is quiet from came
    (closed (λ e. cc e)) (fed (λ e. cc e)) p
at_stop input before given pump origin bytes ended faults n reader (BadLength place) piece is quiet from came
    closed fed same p =
    at_error input before given pump origin bytes ended faults n reader (BadLength place) piece is quiet from came
    (closed (λ e. cc e)) (fed (λ e. cc e)) p
at_stop input before given pump origin bytes ended faults n reader (Inline place) piece is quiet from came closed
    fed same p =
    at_error input before given pump origin bytes ended faults n reader (Inline place) piece is quiet from came
    (closed (λ e. cc e)) (fed (λ e. cc e)) p
at_stop input before given pump origin bytes ended faults n reader (errors.TooLong taken) piece is quiet from came
    closed fed same p =
    at_error input before given pump origin bytes ended faults n reader (errors.TooLong taken) piece is quiet from came
    (closed (λ e. cc e)) (fed (λ e. cc e)) p
at_stop input before given pump origin bytes ended faults n reader errors.Memory piece is quiet from came closed
    fed same p =
    at_memory input before given pump origin bytes ended faults n reader piece is quiet from came
    (same refl) p

-- how many reads a pump can still make
abbrev pub reads_left : PumpState → ℕ
reads_left pump = left_at pump.stage pump.taken where
  left_at : Stage → ℕ → ℕ
  left_at Reading taken = judged_bytes + 1 - taken
  left_at (Refused broken place) taken = 0
  left_at (Ended end) taken = 0

-- a request that was given is no longer held
one_more : (requests more rest : List Words) (request : Words) → more ≡ request ∷ rest → requests ++ more
    ≡ (requests ++ request ∷ []) ++ rest
one_more requests more rest request is = ap (λ m. requests ++ m) is ∙ sym (append_assoc requests (request ∷ []) rest)

given_more : (given : List Command) (requests : List Words) (request : Words) → given ≡ map command_of requests
    → given ++ command_of request ∷ [] ≡ map command_of (requests ++ request ∷ [])
given_more given requests request is = ap (λ g. g ++ command_of request ∷ []) is
    ∙ sym (map-append command_of requests (request ∷ []))

took_last : (end : End) (ended : Bool) (bytes : List ℕ) (requests : List Words) (given : List Command)
    (reader new : Progress) (request : Words) → reader.requests ≡ request ∷ new.requests
    → IsEnded end ended bytes requests given reader
    → IsEnded end ended bytes (requests ++ request ∷ []) (given ++ command_of request ∷ []) new
took_last Clean ended bytes requests given reader new request is at = (
  at.0,
  subst (λ r. Parses bytes r Clean) (one_more requests reader.requests new.requests request is) at.1,
  given_more given requests request at.2,
)
took_last (Protocol kind place) ended bytes requests given reader new request is at = absurd (cc (is, at.1))
took_last (Truncated place) ended bytes requests given reader new request is at = (
  at.0,
  subst (λ r. Parses bytes r (Truncated place)) (one_more requests reader.requests new.requests request is)
      at.1,
  given_more given requests request at.2,
)
took_last TooLong ended bytes requests given reader new request is at = (
  subst (λ r. Parses bytes r TooLong) (one_more requests reader.requests new.requests request is) at.0,
  given_more given requests request at.1,
)
took_last ReadFault ended bytes requests given reader new request is at = absurd (cc (is, at.1))
took_last Memory ended bytes requests given reader new request is at = (
  subst (AreFirst bytes) (one_more requests reader.requests new.requests request is) at.0,
  given_more given requests request at.1,
)
took_last Left ended bytes requests given reader new request is at = absurd at

took : (stage : Stage) (ended : Bool) (bytes : List ℕ) (requests : List Words) (given : List Command)
    (reader new : Progress) (request : Words) → reader.requests ≡ request ∷ new.requests
    → new.closed ≡ reader.closed
    → ((bytes : List ℕ) (given : List Words) → ReadsRequests bytes given reader
    → ReadsRequests bytes (given ++ request ∷ []) new)
    → IsAtStage stage ended bytes requests given reader
    → IsAtStage stage ended bytes (requests ++ request ∷ []) (given ++ command_of request ∷ []) new
took Reading ended bytes requests given reader new request is closed fed at = (
  fed bytes requests at.0,
  closed ∙ at.1,
  given_more given requests request at.2,
)
took (Refused broken place) ended bytes requests given reader new request is closed fed at = (
  subst (λ r. Parses bytes r (Protocol (kind_of broken) place))
      (one_more requests reader.requests new.requests request is) at.0,
  given_more given requests request at.1,
)
took (Ended end) ended bytes requests given reader new request is closed fed at =
    took_last end ended bytes requests given reader new request is at

-- no read failed before the last command was given
no_fault : (stage : Stage) (ended : Bool) (bytes : List ℕ) (requests : List Words) (given : List Command)
    (reader new : Progress) (request : Words) (before now : ℕ) → reader.requests ≡ request ∷ new.requests
    → IsAtStage stage ended bytes requests given reader → FaultsSo stage before now → now ≡ before
no_fault Reading ended bytes requests given reader new request before now is at faults = faults
no_fault (Refused broken place) ended bytes requests given reader new request before now is at faults = faults
no_fault (Ended Clean) ended bytes requests given reader new request before now is at faults = faults
no_fault (Ended (Protocol kind place)) ended bytes requests given reader new request before now is at faults = faults
no_fault (Ended (Truncated place)) ended bytes requests given reader new request before now is at faults = faults
no_fault (Ended TooLong) ended bytes requests given reader new request before now is at faults = faults
no_fault (Ended ReadFault) ended bytes requests given reader new request before now is at faults =
    absurd (cc (is, at.1))
no_fault (Ended Memory) ended bytes requests given reader new request before now is at faults = faults
no_fault (Ended Left) ended bytes requests given reader new request before now is at faults = faults

pub quiet_request : (input : Origin) (before : ℕ) (given : List Command) (pump : PumpState) (reader : Progress)
    (request : Words) → pump.reader.requests ≡ request ∷ reader.requests → SeeksNext input before given pump
    → pump.faults ≡ before
quiet_request input before given pump reader request is p = no_fault pump.stage pump.ended pump.given p.requests given
    pump.reader reader request before pump.faults is p.at p.faults_are

pub quiet_refusal : (input : Origin) (before : ℕ) (given : List Command) (pump : PumpState) (broken : Broken)
    (place : ℕ) → pump.stage ≡ Refused broken place → SeeksNext input before given pump → pump.faults ≡ before
quiet_refusal input before given pump broken place is p = subst (λ s. FaultsSo s before pump.faults) is p.faults_are

-- all pieces were read before this command was given
behind_one : (given : List Command) (command : Command) (bytes : List ℕ) → IsReadInTurn bytes (length given)
    → IsReadInTurn bytes (length (given ++ command ∷ []) - 1)
behind_one given command bytes turn = more_replies bytes (length given) (length (given ++ command ∷ []) - 1)
    (omega (arith, length-append given (command ∷ []))) turn

-- what is so between calls is so when the next command is sought
pub seeks : (input : Origin) (before : ℕ) (given : List Command) (pump : PumpState) → IsPump input before given pump
    → SeeksNext input before given pump
seeks input before given pump p = record {
  requests = p.requests;
  taken_is = p.taken_is;
  origin_is = p.origin_is;
  faults_are = p.faults_are;
  at = p.at;
  in_turn = more_replies pump.given (length given - 1) (length given) (omega arith) p.in_turn;
}

-- a request that the reader had
pub at_request : (input : Origin) (before : ℕ) (given : List Command) (pump : PumpState) (reader : Progress)
    (request : Words) (command : Command) → pump.reader.requests ≡ request ∷ reader.requests
    → reader.closed ≡ pump.reader.closed
    → ((bytes : List ℕ) (given : List Words) → ReadsRequests bytes given pump.reader
    → ReadsRequests bytes (given ++ request ∷ []) reader) → command ≡ command_of request
    → SeeksNext input before given pump → IsPump input before (given ++ command ∷ [])
    (pump_at pump.origin pump.given pump.ended pump.faults reader pump.stage pump.taken)
at_request input before given pump reader request command is closed fed is_command p = record {
  requests = p.requests ++ request ∷ [];
  taken_is = p.taken_is;
  origin_is = p.origin_is;
  faults_are = p.faults_are;
  at = subst (λ c. IsAtStage pump.stage pump.ended pump.given (p.requests ++ request ∷ []) (given ++ c ∷ []) reader)
      (sym is_command)
      (took pump.stage pump.ended pump.given p.requests given pump.reader reader request is closed fed p.at);
  in_turn = behind_one given command pump.given p.in_turn;
}

-- the command of an error
pub at_refusal : (input : Origin) (before : ℕ) (given : List Command) (pump : PumpState) (broken : Broken)
    (kind place : ℕ) (command : Command) (reader : Progress) → kind ≡ kind_of broken
    → pump.stage ≡ Refused broken place → pump.reader.requests ≡ []
    → reader.requests ≡ [] → command ≡ fault (protocol_error (kind_of broken)) → SeeksNext input before given pump
    → IsPump input before (given ++ command ∷ [])
    (pump_at pump.origin pump.given pump.ended pump.faults reader (Ended (Protocol kind place)) pump.taken)
at_refusal input before given pump broken kind place command reader kind_is is none still is_command p =
    let at = subst (λ s. IsAtStage s pump.ended pump.given p.requests given pump.reader) is p.at in
    let error : command ≡ fault (protocol_error kind) = is_command ∙ ap (λ k. fault (protocol_error k)) (sym kind_is) in
    let parsed : Parses pump.given (p.requests ++ pump.reader.requests) (Protocol kind place) =
    subst (λ k. Parses pump.given (p.requests ++ pump.reader.requests) (Protocol k place)) (sym kind_is) at.0 in
    record {
      requests = p.requests;
      taken_is = p.taken_is;
      origin_is = p.origin_is;
      faults_are = subst (λ s. FaultsSo s before pump.faults) is p.faults_are;
      at = (
        subst (λ r. Parses pump.given r (Protocol kind place)) (ap (λ m. p.requests ++ m) none
            ∙ append-nil p.requests) parsed,
        still,
        ap (λ g. g ++ command ∷ []) at.1 ∙ ap (λ c. map command_of p.requests ++ c ∷ []) error,
      );
      in_turn = behind_one given command pump.given p.in_turn;
    }

-- the place of an error is among the bytes that are judged
error_place : (bytes : List ℕ) (requests : List Words) (kind place : ℕ) → Parses bytes requests (Protocol kind place)
    → place < judged_bytes
error_place bytes requests kind place faulty =
    omega (
      arith,
      faulty.place_is,
      ap length faulty.bytes_are,
      length-append (stream faulty.elements ++ faulty.front) (faulty.byte ∷ faulty.more),
      length-take judged_bytes bytes,
    )

-- the first requests of an input make its first commands
pub commands_first : (all requests rest : List Words) (shown : End) → all ≡ requests ++ rest → (more : List Command)
    × (commands_in all shown ≡ map command_of requests ++ more)
commands_first all requests rest Clean is =
    (map command_of rest, ap (map command_of) is ∙ map-append command_of requests rest)
commands_first all requests rest (Protocol kind place) is = (
  map command_of rest ++ fault (protocol_error kind) ∷ [],
  ap (λ a. map command_of a ++ fault (protocol_error kind) ∷ []) is ∙ ap (λ c. c ++ fault (protocol_error kind) ∷ [])
      (map-append command_of requests rest)
      ∙ append_assoc (map command_of requests) (map command_of rest) (fault (protocol_error kind) ∷ []),
)
commands_first all requests rest (Truncated place) is =
    (map command_of rest, ap (map command_of) is ∙ map-append command_of requests rest)
commands_first all requests rest TooLong is =
    (map command_of rest, ap (map command_of) is ∙ map-append command_of requests rest)
commands_first all requests rest ReadFault is =
    (map command_of rest, ap (map command_of) is ∙ map-append command_of requests rest)
commands_first all requests rest Memory is =
    (map command_of rest, ap (map command_of) is ∙ map-append command_of requests rest)
commands_first all requests rest Left is =
    (map command_of rest, ap (map command_of) is ∙ map-append command_of requests rest)

-- no command is behind those that were given
alone : (bytes : List ℕ) (ended : Bool) (given : List Command) (end : Bool → SessionEnd)
    → ((failed : Bool) → IsSession (session_at bytes ended given (end failed) 0))
    → (more : List Command) × ((failed : Bool) → IsSession (session_at bytes ended (given ++ more) (end failed) 0))
alone bytes ended given end session = (
  [],
  λ failed. subst (λ c. IsSession (session_at bytes ended c (end failed) 0)) (sym (append-nil given)) (session failed),
)

none_held : (P : List Words → Type 0) (requests held : List Words) → held ≡ [] → P (requests ++ held) → P requests
none_held P requests held none p = subst P (ap (λ m. requests ++ m) none ∙ append-nil requests) p

-- the session, by its end
session_of : (end : End) (bytes : List ℕ) (ended : Bool) (requests : List Words) (given : List Command)
    (reader : Progress) (taken : ℕ) → taken ≡ length bytes → reader.requests ≡ []
    → IsEnded end ended bytes requests given reader → IsReadInTurn bytes (length given)
    → (more : List Command) × ((failed : Bool) → IsSession
    (session_at bytes ended (given ++ more) (ended_at end (bytes_taken end taken) (length given) failed) 0))
session_of Clean bytes ended requests given reader taken count none at turn =
    alone bytes ended given _ (λ failed. record {
      requests = requests;
      shown = Clean;
      parsed = none_held (λ r. Parses bytes r Clean) requests reader.requests none at.1;
      commands_are = at.2;
      shown_is = refl;
      read_out = at.0;
      taken_is = count;
      replied = refl;
      begun_is = refl;
      in_turn = turn;
    })
session_of (Truncated place) bytes ended requests given reader taken count none at turn =
    alone bytes ended given _ (λ failed. record {
      requests = requests;
      shown = Truncated place;
      parsed = none_held (λ r. Parses bytes r (Truncated place)) requests reader.requests none at.1;
      commands_are = at.2;
      shown_is = refl;
      read_out = at.0;
      taken_is = count;
      replied = refl;
      begun_is = refl;
      in_turn = turn;
    })
session_of (Protocol kind place) bytes ended requests given reader taken count none at turn =
    alone bytes ended given _ (λ failed. record {
      requests = requests;
      shown = Protocol kind place;
      parsed = at.0;
      commands_are = at.2;
      shown_is = refl;
      read_out = tt;
      taken_is = omega (arith, error_place bytes requests kind place at.0);
      replied = refl;
      begun_is = refl;
      in_turn = turn;
    })
session_of TooLong bytes ended requests given reader taken count none at turn =
    alone bytes ended given _ (λ failed. record {
      requests = requests;
      shown = TooLong;
      parsed = none_held (λ r. Parses bytes r TooLong) requests reader.requests none at.0;
      commands_are = at.1;
      shown_is = refl;
      read_out = tt;
      taken_is = refl;
      replied = refl;
      begun_is = refl;
      in_turn = turn;
    })
session_of ReadFault bytes ended requests given reader taken count none at turn =
    let read = none_held (AreRead bytes) requests reader.requests none at.0 in
    alone bytes ended given _ (λ failed. record {
      requests = requests;
      shown = read.shown;
      parsed = read.parsed;
      commands_are = at.2 ∙ sym (read.no_error requests);
      shown_is = read.whole;
      read_out = tt;
      taken_is = count;
      replied = refl;
      begun_is = refl;
      in_turn = turn;
    })
session_of Memory bytes ended requests given reader taken count none at turn =
    let first = none_held (AreFirst bytes) requests reader.requests none at.0 in
    let more = commands_first first.all requests first.rest first.shown first.all_are in (
      more.0,
      λ failed. record {
        requests = first.all;
        shown = first.shown;
        parsed = first.parsed;
        commands_are = ap (λ g. g ++ more.0) at.1 ∙ sym more.1;
        shown_is = tt;
        read_out = tt;
        taken_is = count;
        replied = omega (
          arith,
          ap length at.1,
          length-map requests command_of,
          ap length first.all_are,
          length-append
              requests first.rest,
        );
        begun_is = inl refl;
        in_turn = turn;
      },
    )
session_of Left bytes ended requests given reader taken count none at turn = absurd at

-- all commands were given
to_the_end : (end : End) (ended : Bool) (bytes : List ℕ) (requests : List Words) (given : List Command)
    (reader : Progress) → IsEnded end ended bytes requests given reader → end ≢ Left
to_the_end end ended bytes requests given reader at is = subst (λ e. IsEnded e ended bytes requests given reader) is at

pub at_last : (input : Origin) (before : ℕ) (given : List Command) (pump : PumpState) (end : End) (taken : ℕ)
    (reader : Progress) → pump.stage ≡ Ended end → pump.reader.requests ≡ [] → taken ≡ bytes_taken end pump.taken
    → SeeksNext input before given pump → HasEnded input before given end
    (pump_at pump.origin pump.given pump.ended pump.faults reader pump.stage taken)
at_last input before given pump end taken reader is none by p =
    let at = subst (λ s. IsAtStage s pump.ended pump.given p.requests given pump.reader) is p.at in
    let session = session_of end pump.given pump.ended p.requests given pump.reader pump.taken p.taken_is none at
    p.in_turn in
    record {
      origin_is = p.origin_is;
      faults_are = subst (λ s. FaultsSo s before pump.faults) is p.faults_are;
      to_the_end = to_the_end end pump.ended pump.given p.requests given pump.reader at;
      more = session.0;
      session = subst (λ t. (failed : Bool)
          → IsSession (session_at pump.given pump.ended (given ++ session.0) (ended_at end t (length given) failed) 0))
          (sym by) session.1;
    }

-- the count of what was taken at an end stays so
pub taken_again : (end : End) (taken : ℕ) → bytes_taken end (bytes_taken end taken) ≡ bytes_taken end taken
taken_again Clean taken = refl
taken_again (Protocol kind place) taken = refl
taken_again (Truncated place) taken = refl
taken_again TooLong taken = refl
taken_again ReadFault taken = refl
taken_again Memory taken = refl
taken_again Left taken = refl

pub unchanged_reader : (old new : Progress) → (new.front ≡ old.front) × (new.place ≡ old.place) → new.closed
    ≡ old.closed → old.requests ≡ new.requests → new ≡ old
unchanged_reader old new front closed requests = λ i. record {
  requests = sym requests i;
  front = front.0 i;
  place = front.1 i;
  closed = closed i;
}

-- a pump whose end was answered is as it was
pub same_again : (end other : End) (pump : PumpState) (reader : Progress) (taken : ℕ) → AnswersEnd end pump
    → pump.stage ≡ Ended other → reader ≡ pump.reader → taken ≡ bytes_taken other pump.taken
    → pump_at pump.origin pump.given pump.ended pump.faults reader pump.stage taken ≡ pump
same_again end other pump reader taken over at same by =
    let is : other ≡ end = cc (at, over.stage) in
    let stays : taken ≡ pump.taken = by ∙ ap (λ e. bytes_taken e pump.taken) is ∙ sym over.taken in
    λ i. pump_at pump.origin pump.given pump.ended pump.faults (same i) pump.stage (stays i)
