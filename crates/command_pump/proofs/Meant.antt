-- What the bytes mean that a pump was given, whose first commands it gave out.
use Rattle.std.proofs.Common.{◌≡◌, ◌⊎◌, ℕ, ◌+◌, ◌-◌, ◌<◌, ◌≤◌, inl, inr, Bool, List, [], ◌∷◌, ◌++◌}
use Rattle.std.proofs.Common.{length, map, take, arith, ap, sym, ◌∙◌}
use Rattle.std.proofs.Common.{append_assoc, append-nil}
use Rattle.std.proofs.lemmas.List.{map-append, length-append, length-map, length-take}
use Rattle.flake_base.specs.declared.session.End.{End}
use Rattle.flake_base.specs.declared.session.End.TheVariants.{Clean, Protocol, Truncated, TooLong, ReadFault, Memory}
use Rattle.flake_base.specs.declared.session.End.TheVariants.{Left}
use Rattle.flake_model.specs.Resp.{Words, judged_bytes, IsClean, IsTruncated, Parses, stream}
use Rattle.flake_model.specs.Command.{Command, fault, command_of}
use Rattle.flake_model.specs.Journal.{next_parts}
use Rattle.flake_model.specs.Input.{protocol_error, commands_in}
use Rattle.flake_model.specs.Session.{IsSession, IsReadInTurn}
use Rattle.flake_model.proofs.InTurn.{more_replies}
use Rattle.flake_model.proofs.Streams.{requests_fit}
use Rattle.resp_reader.specs.Reader.{Progress}
use Rattle.command_pump.specs.Pump.{Origin, AreRead, IsAtStage, IsPump}
use Rattle.command_pump.specs.Pump.{PumpState, ended_at, session_at}
use Rattle.command_pump.specs.declared.pump.Stage.{Stage}
use Rattle.command_pump.specs.declared.pump.Stage.TheVariants.{Reading, Refused, Ended}
use Rattle.command_pump.specs.Broken.{kind_of}
use Rattle.command_pump.proofs.Pumped.{open_are_read, commands_first}

-- what the bytes that came mean, and that the commands which were given are the first of it
pub record Meant (bytes : List ℕ) (given : List Command) (taken : ℕ) : Type 0 where
  pub requests : List Words
  pub shown : End
  pub more : List Command
  pub taken_is : taken ≡ length bytes
  pub parsed : Parses bytes requests shown
  pub commands_are : commands_in requests shown ≡ given ++ more
  pub in_turn : IsReadInTurn bytes (length given - 1)

-- the commands that were given, and those of the requests that are held
all_of : (given : List Command) (requests pending : List Words) → given ≡ map command_of requests
    → map command_of (requests ++ pending) ≡ given ++ map command_of pending
all_of given requests pending is = map-append command_of requests pending ∙ ap (λ g. g ++ map command_of pending)
    (sym is)

-- what bytes mean of which these commands are the first
record IsMeant (bytes : List ℕ) (given : List Command) : Type 0 where
  requests : List Words
  shown : End
  more : List Command
  parsed : Parses bytes requests shown
  commands_are : commands_in requests shown ≡ given ++ more

meant_read : (given : List Command) (bytes : List ℕ) (requests pending : List Words)
    → AreRead bytes (requests ++ pending) → given ≡ map command_of requests → IsMeant bytes given
meant_read given bytes requests pending read is = record {
  requests = requests ++ pending;
  shown = read.shown;
  more = map command_of pending;
  parsed = read.parsed;
  commands_are = read.no_error (requests ++ pending) ∙ all_of given requests pending is;
}

meant_at : (stage : Stage) (ended : Bool) (bytes : List ℕ) (requests : List Words) (given : List Command)
    (reader : Progress) → IsAtStage stage ended bytes requests given reader → IsMeant bytes given
meant_at Reading ended bytes requests given reader at =
    meant_read given bytes requests reader.requests (open_are_read bytes requests reader at.1 at.0) at.2
meant_at (Refused broken place) ended bytes requests given reader at =
    let error = fault (protocol_error (kind_of broken)) in
    record {
      requests = requests ++ reader.requests;
      shown = Protocol (kind_of broken) place;
      more = map command_of reader.requests ++ error ∷ [];
      parsed = at.0;
      commands_are = ap (λ c. c ++ error ∷ []) (all_of given requests reader.requests at.1)
          ∙ append_assoc given (map command_of reader.requests) (error ∷ []);
    }
meant_at (Ended Clean) ended bytes requests given reader at = record {
  requests = requests ++ reader.requests;
  shown = Clean;
  more = map command_of reader.requests;
  parsed = at.1;
  commands_are = all_of given requests reader.requests at.2;
}
meant_at (Ended (Protocol kind place)) ended bytes requests given reader at = record {
  requests = requests;
  shown = Protocol kind place;
  more = [];
  parsed = at.0;
  commands_are = sym at.2 ∙ sym (append-nil given);
}
meant_at (Ended (Truncated place)) ended bytes requests given reader at = record {
  requests = requests ++ reader.requests;
  shown = Truncated place;
  more = map command_of reader.requests;
  parsed = at.1;
  commands_are = all_of given requests reader.requests at.2;
}
meant_at (Ended TooLong) ended bytes requests given reader at = record {
  requests = requests ++ reader.requests;
  shown = TooLong;
  more = map command_of reader.requests;
  parsed = at.0;
  commands_are = all_of given requests reader.requests at.1;
}
meant_at (Ended ReadFault) ended bytes requests given reader at =
    meant_read given bytes requests reader.requests at.0 at.2
meant_at (Ended Memory) ended bytes requests given reader at =
    let first = at.0 in
    let all_are : first.all ≡ requests ++ (reader.requests ++ first.rest) = first.all_are
    ∙ append_assoc requests reader.requests first.rest in
    let more = commands_first first.all requests (reader.requests ++ first.rest) first.shown all_are in
    record {
      requests = first.all;
      shown = first.shown;
      more = more.0;
      parsed = first.parsed;
      commands_are = more.1 ∙ ap (λ g. g ++ more.0) (sym at.1);
    }
meant_at (Ended Left) ended bytes requests given reader at = absurd at

pub meant : (input : Origin) (before : ℕ) (given : List Command) (pump : PumpState) → IsPump input before given pump
    → Meant pump.given given pump.taken
meant input before given pump p =
    let m = meant_at pump.stage pump.ended pump.given p.requests given pump.reader p.at in
    record {
      requests = m.requests;
      shown = m.shown;
      more = m.more;
      taken_is = p.taken_is;
      parsed = m.parsed;
      commands_are = m.commands_are;
      in_turn = p.in_turn;
    }

-- an input has at most as many requests as bytes that are judged
clean_fits : (bytes : List ℕ) (requests : List Words) → IsClean bytes requests → length requests ≤ length bytes
clean_fits bytes requests clean =
    omega (arith, ap length clean.requests_are, requests_fit clean.elements, ap length clean.bytes_are)

truncated_fits : (bytes : List ℕ) (requests : List Words) (place : ℕ) → IsTruncated bytes requests place
    → length requests ≤ length bytes
truncated_fits bytes requests place cut =
    omega (
      arith,
      ap length cut.requests_are,
      requests_fit cut.elements,
      ap length cut.bytes_are,
      length-append
          (stream cut.elements) cut.front,
    )

so_many : (bytes : List ℕ) (requests : List Words) (shown : End) → Parses bytes requests shown
    → length requests ≤ judged_bytes
so_many bytes requests Clean parsed = omega (arith, parsed.0, clean_fits bytes requests parsed.1)
so_many bytes requests (Truncated place) parsed = omega (arith, parsed.0, truncated_fits bytes requests place parsed.1)
so_many bytes requests (Protocol kind place) faulty =
    omega (
      arith,
      ap length faulty.requests_are,
      requests_fit faulty.elements,
      ap length faulty.bytes_are,
      length-append (stream faulty.elements ++ faulty.front) (faulty.byte ∷ faulty.more),
      length-append (stream faulty.elements) faulty.front,
      length-take judged_bytes bytes,
    )
so_many bytes requests TooLong (long, inl clean) =
    omega (arith, clean_fits (take judged_bytes bytes) requests clean, length-take judged_bytes bytes)
so_many bytes requests TooLong (long, inr cut) =
    omega (arith, truncated_fits (take judged_bytes bytes) requests cut.0 cut.1, length-take judged_bytes bytes)
so_many bytes requests ReadFault parsed = absurd parsed
so_many bytes requests Memory parsed = absurd parsed
so_many bytes requests Left parsed = absurd parsed

one_error_more : (requests : List Words) (shown : End) → length (commands_in requests shown) ≤ length requests + 1
one_error_more requests Clean = omega (arith, length-map requests command_of)
one_error_more requests (Protocol kind place) =
    omega (
      arith,
      length-map requests command_of,
      length-append (map command_of requests)
          (fault (protocol_error kind) ∷ []),
    )
one_error_more requests (Truncated place) = omega (arith, length-map requests command_of)
one_error_more requests TooLong = omega (arith, length-map requests command_of)
one_error_more requests ReadFault = omega (arith, length-map requests command_of)
one_error_more requests Memory = omega (arith, length-map requests command_of)
one_error_more requests Left = omega (arith, length-map requests command_of)

pub bounded : (input : Origin) (before : ℕ) (given : List Command) (pump : PumpState) → IsPump input before given pump
    → length given ≤ judged_bytes + 1
bounded input before given pump p =
    let m = meant input before given pump p in
    omega (
      arith,
      ap length m.commands_are,
      length-append given m.more,
      one_error_more m.requests m.shown,
      so_many pump.given m.requests m.shown m.parsed,
    )

-- a session that memory stopped behind so many replies, in the last call that was given
pub stopped_at : (bytes : List ℕ) (ended : Bool) (given : List Command) (taken replies begun : ℕ) (failed : Bool)
    → (m : Meant bytes given taken) → length given ≡ replies + 1
    → (begun ≡ 0) ⊎ (begun < length (next_parts replies (given ++ m.more)))
    → IsSession (session_at bytes ended (given ++ m.more) (ended_at Memory taken replies failed) begun)
stopped_at bytes ended given taken replies begun failed m last is_begun =
    record {
      requests = m.requests;
      shown = m.shown;
      parsed = m.parsed;
      commands_are = sym m.commands_are;
      shown_is = tt;
      read_out = tt;
      taken_is = m.taken_is;
      replied = omega (
        arith,
        last,
        ap length m.commands_are,
        length-append given m.more,
        one_error_more m.requests
            m.shown,
      );
      begun_is = is_begun;
      in_turn = more_replies bytes (length given - 1) replies (omega (arith, last)) m.in_turn;
    }
