-- A driven session makes few calls, since few bytes of its input are judged.
use Rattle.std.proofs.Common.{ℕ, ◌+◌, ◌≤◌, false, List, [], ◌∷◌, ◌++◌, length, take, Option, Some, None, inl, inr, ap}
use Rattle.std.proofs.Common.{arith, length-append, map}
use Rattle.std.proofs.lemmas.List.{length-map, length-take}
use Rattle.flake_base.specs.declared.session.End.{End}
use Rattle.flake_base.specs.declared.session.End.TheVariants.{Clean, Protocol, Truncated, TooLong, ReadFault, Memory}
use Rattle.flake_base.specs.declared.session.End.TheVariants.{Left}
use Rattle.flake_model.specs.Command.{Command, fault, command_of}
use Rattle.flake_model.specs.Input.{commands_in, protocol_error}
use Rattle.flake_model.specs.Resp.{Words, stream, IsClean, IsTruncated, Parses, judged_bytes}
use Rattle.flake_model.proofs.Streams.{requests_fit}
use Rattle.command_pump.specs.Pump.{Origin, PumpState, HasEnded}
use Rattle.command_pump.proofs.Meant.{bounded}
use Rattle.drive_script.specs.Asked.{IsAsked}

clean_fits : (bytes : List ℕ) (requests : List Words) → IsClean bytes requests → length requests ≤ length bytes
clean_fits bytes requests clean =
    omega (arith, ap length clean.requests_are, requests_fit clean.elements, ap length clean.bytes_are)

cut_fits : (bytes : List ℕ) (requests : List Words) (place : ℕ) → IsTruncated bytes requests place
    → length requests ≤ length bytes
cut_fits bytes requests place cut =
    omega (
      arith,
      ap length cut.requests_are,
      requests_fit cut.elements,
      ap length cut.bytes_are,
      length-append
          (stream cut.elements) cut.front,
    )

few_requests : (bytes : List ℕ) (requests : List Words) (end : End) → Parses bytes requests end
    → length requests ≤ judged_bytes
few_requests bytes requests Clean parsed = omega (arith, parsed.0, clean_fits bytes requests parsed.1)
few_requests bytes requests (Truncated place) parsed = omega (arith, parsed.0, cut_fits bytes requests place parsed.1)
few_requests bytes requests (Protocol kind place) faulty =
    omega (
      arith,
      ap length faulty.requests_are,
      requests_fit faulty.elements,
      ap length faulty.bytes_are,
      length-append (stream faulty.elements ++ faulty.front) (faulty.byte ∷ faulty.more),
      length-append (stream faulty.elements) faulty.front,
      length-take judged_bytes bytes,
    )
few_requests bytes requests TooLong (long, inl clean) =
    omega (arith, clean_fits (take judged_bytes bytes) requests clean, length-take judged_bytes bytes)
few_requests bytes requests TooLong (long, inr cut) =
    omega (arith, cut_fits (take judged_bytes bytes) requests cut.0 cut.1, length-take judged_bytes bytes)
few_requests bytes requests ReadFault parsed = absurd parsed
few_requests bytes requests Memory parsed = absurd parsed
few_requests bytes requests Left parsed = absurd parsed

one_error_more : (requests : List Words) (shown : End) → length (commands_in requests shown) ≤ length requests + 1
one_error_more requests Clean = omega (arith, length-map requests command_of)
one_error_more requests (Protocol kind place) =
    omega (
      arith,
      length-map requests command_of,
      length-append (map command_of requests)
          (fault (protocol_error kind) ∷ []),
    )
one_error_more requests (Truncated place) = omega (arith, length-map requests command_of)
one_error_more requests TooLong = omega (arith, length-map requests command_of)
one_error_more requests ReadFault = omega (arith, length-map requests command_of)
one_error_more requests Memory = omega (arith, length-map requests command_of)
one_error_more requests Left = omega (arith, length-map requests command_of)

few_at_end : (origin : Origin) (before : ℕ) (given : List Command) (end : End) (pump : PumpState)
    → HasEnded origin before given end pump → length given ≤ judged_bytes + 1
few_at_end origin before given end pump ended =
    let s = ended.session false in
    omega (
      arith,
      length-append given ended.more,
      ap length s.commands_are,
      one_error_more s.requests s.shown,
      few_requests pump.given s.requests s.shown s.parsed,
    )

-- so many were posted at most
pub few_posted : (origin : Origin) (before : ℕ) (given : List Command) (posted : ℕ) (kept : Option Command)
    (end : Option End) (pump : PumpState) → IsAsked origin before given posted kept end pump → posted ≤ judged_bytes + 1
few_posted origin before given posted None None pump asked =
    omega (arith, bounded origin before given pump asked.pump_is, asked.kept_back)
few_posted origin before given posted (Some command) None pump asked =
    let back = asked.kept_back in
    omega (
      arith,
      bounded origin before given pump asked.pump_is,
      ap (λ (list : List Command). length list) back.1,
      length-append back.0 (command ∷ []),
      back.2,
    )
few_posted origin before given posted kept (Some end) pump (inl ended) =
    omega (arith, few_at_end origin before given end pump ended.0, ended.1)
few_posted origin before given posted kept (Some end) pump (inr stopped) =
    omega (arith, bounded origin before given pump stopped.1, stopped.2)
