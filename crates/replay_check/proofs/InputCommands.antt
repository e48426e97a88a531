-- The commands of an input that was fed whole.
use Rattle.std.proofs.Common.{◌≡◌, ℕ, ◌+◌, ◌≤◌, ◌⊎◌, ⊎_elim, inl, inr, List, [], ◌∷◌, ◌++◌, Option, Some, None, length}
use Rattle.std.proofs.Common.{map, take, arith, refl, ap, subst, append-nil, length-append}
use Rattle.std.proofs.lemmas.List.{length-map, length-take}
use Rattle.std.specs.Prelude.{MatchOption}
use Rattle.flake_base.specs.declared.session.End.{End}
use Rattle.flake_base.specs.declared.session.End.TheVariants as ends
use Rattle.flake_base.specs.declared.session.End.TheVariants.{Clean, Protocol, Truncated, ReadFault, Left}
use Rattle.flake_model.specs.Resp.{Words, stream, IsClean, IsTruncated, Parses, judged_bytes}
use Rattle.flake_model.specs.Command.{Command, command_of, fault}
use Rattle.flake_model.specs.Input.{commands_in, protocol_error}
use Rattle.flake_model.proofs.Streams.{requests_fit}
use Rattle.resp_reader.specs.declared.error.ReadError.{ReadError}
use Rattle.resp_reader.specs.declared.error.ReadError.TheVariants.{BadCount, ExpectedBulk, BadLength, Inline, TooLong}
use Rattle.resp_reader.specs.declared.error.ReadError.TheVariants.{Memory}
use Rattle.resp_reader.specs.Reader.{Progress, ReadsRequests, IsReadTo, IsErrorTaken, error_end}
use Rattle.resp_reader.proofs.Fed.{read_ends}
use Rattle.flake_base.specs.declared.reply.ErrorKind.{ErrorKind}
use Rattle.replay_check.specs.Refused.{error_kind_of}
use Rattle.replay_check.specs.Inputs.{AreCommands}

-- the commands behind those of the requests
abbrev pub refused : Option ErrorKind → List Command
refused None = []
refused (Some kind) = fault kind ∷ []

-- an input without an error
pub whole : (bytes : List ℕ) (reader : Progress) → reader.closed ≡ None → ReadsRequests bytes [] reader
    → AreCommands bytes (map command_of reader.requests)
whole bytes reader is reads =
    let read : IsReadTo bytes reader.requests reader.place reader.front =
    subst (λ (c : Option ReadError). MatchOption c (IsReadTo bytes reader.requests reader.place reader.front)
    (λ error. IsErrorTaken error × Parses bytes reader.requests (error_end error))) is reads in
    ⊎_elim (λ clean. record {
      requests = reader.requests;
      end = Clean;
      parsed = (read.judged, clean.1);
      commands_are = refl;
    })
    (λ cut. record {
      requests = reader.requests;
      end = Truncated reader.place;
      parsed = (read.judged, cut.1);
      commands_are = refl;
    })
    (read_ends bytes reader.requests reader.place reader.front read)

-- what an error says of the requests before it
of_error : (error : ReadError) (bytes : List ℕ) (requests : List Words) → IsErrorTaken error
    → Parses bytes requests (error_end error)
    → AreCommands bytes (map command_of requests ++ refused (error_kind_of error))
of_error (BadCount place) bytes requests taken parsed = record {
  requests = requests;
  end = Protocol 1 place;
  parsed = parsed;
  commands_are = refl;
}
of_error (ExpectedBulk place) bytes requests taken parsed = record {
  requests = requests;
  end = Protocol 2 place;
  parsed = parsed;
  commands_are = refl;
}
of_error (BadLength place) bytes requests taken parsed = record {
  requests = requests;
  end = Protocol 3 place;
  parsed = parsed;
  commands_are = refl;
}
of_error (Inline place) bytes requests taken parsed = record {
  requests = requests;
  end = Protocol 4 place;
  parsed = parsed;
  commands_are = refl;
}
of_error (TooLong bytes_taken) bytes requests taken parsed = record {
  requests = requests;
  end = ends.TooLong;
  parsed = parsed;
  commands_are = append-nil (map command_of requests);
}
of_error Memory bytes requests taken parsed = absurd taken

-- an input with an error
pub with_error : (bytes : List ℕ) (reader : Progress) (error : ReadError) → reader.closed ≡ Some error
    → ReadsRequests bytes [] reader
    → AreCommands bytes (map command_of reader.requests ++ refused (error_kind_of error))
with_error bytes reader error is reads =
    let said : IsErrorTaken error × Parses bytes reader.requests (error_end error) =
    subst (λ (c : Option ReadError). MatchOption c (IsReadTo bytes reader.requests reader.place reader.front)
    (λ error. IsErrorTaken error × Parses bytes reader.requests (error_end error))) is reads in
    of_error error bytes reader.requests said.0 said.1

-- an input has few commands, since at most so many bytes are judged
clean_fits : (bytes : List ℕ) (requests : List Words) → IsClean bytes requests → length requests ≤ length bytes
clean_fits bytes requests clean =
    omega (arith, ap length clean.requests_are, requests_fit clean.elements, ap length clean.bytes_are)

cut_fits : (bytes : List ℕ) (requests : List Words) (place : ℕ) → IsTruncated bytes requests place
    → length requests ≤ length bytes
cut_fits bytes requests place cut =
    omega (
      arith,
      ap length cut.requests_are,
      requests_fit cut.elements,
      ap length cut.bytes_are,
      length-append
          (stream cut.elements) cut.front,
    )

few_requests : (bytes : List ℕ) (requests : List Words) (end : End) → Parses bytes requests end
    → length requests ≤ judged_bytes
few_requests bytes requests Clean parsed = omega (arith, parsed.0, clean_fits bytes requests parsed.1)
few_requests bytes requests (Truncated place) parsed = omega (arith, parsed.0, cut_fits bytes requests place parsed.1)
few_requests bytes requests (Protocol kind place) faulty =
    omega (
      arith,
      ap length faulty.requests_are,
      requests_fit faulty.elements,
      ap length faulty.bytes_are,
      length-append (stream faulty.elements ++ faulty.front) (faulty.byte ∷ faulty.more),
      length-append (stream faulty.elements) faulty.front,
      length-take judged_bytes bytes,
    )
few_requests bytes requests ends.TooLong (long, inl clean) =
    omega (arith, clean_fits (take judged_bytes bytes) requests clean, length-take judged_bytes bytes)
few_requests bytes requests ends.TooLong (long, inr cut) =
    omega (arith, cut_fits (take judged_bytes bytes) requests cut.0 cut.1, length-take judged_bytes bytes)
few_requests bytes requests ReadFault parsed = absurd parsed
few_requests bytes requests ends.Memory parsed = absurd parsed
few_requests bytes requests Left parsed = absurd parsed

one_more : (requests : List Words) (end : End) → length (commands_in requests end) ≤ length requests + 1
one_more requests Clean = omega (arith, length-map requests command_of)
one_more requests (Protocol kind place) =
    omega (
      arith,
      length-map requests command_of,
      length-append (map command_of requests)
          (fault (protocol_error kind) ∷ []),
    )
one_more requests (Truncated place) = omega (arith, length-map requests command_of)
one_more requests ends.TooLong = omega (arith, length-map requests command_of)
one_more requests ReadFault = omega (arith, length-map requests command_of)
one_more requests ends.Memory = omega (arith, length-map requests command_of)
one_more requests Left = omega (arith, length-map requests command_of)

pub few_commands : (bytes : List ℕ) (commands : List Command) → AreCommands bytes commands
    → length commands ≤ judged_bytes + 1
few_commands bytes commands are =
    omega (
      arith,
      ap length are.commands_are,
      one_more are.requests are.end,
      few_requests bytes are.requests are.end
          are.parsed,
    )
