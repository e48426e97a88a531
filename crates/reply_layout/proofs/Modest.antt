-- What any request asks for is below the least ring.
use Rattle.std.proofs.Common.{◌≡◌, ℕ, ◌≤◌, true, false, List, ◌++◌, length, arith, refl, length-append, lit<, lit≤}
use Rattle.std.specs.Fmt.{decimal}
use Rattle.std.proofs.lemmas.Fmt.{length-decimal-le}
use Rattle.flake_model.specs.Resp.{Words, crlf, array_head}
use Rattle.flake_model.specs.Reply.{bulk, reply_text}
use Rattle.flake_model.specs.Store as part
use Rattle.flake_model.specs.Store.{Operation}
use Rattle.flake_model.specs.Command.{Command, alone, ping_with, command_of}
use Rattle.flake_model.proofs.Requests.{HoldsOfAll, request_holds}
use Rattle.reply_layout.specs.Need.{need, values_need, need_of, IsModest}

abbrev Holds : Command → Type 0
Holds command = IsModest (need_of command)

small : IsModest (need 1 1)
small = record { descriptors = lit≤ tt; stage = lit≤ tt }

head_short : (n : ℕ) → n ≤ 64 → length (array_head n) ≤ 5
head_short n few =
    let digits : length (decimal n) ≤ 2 = length-decimal-le 2 n (lit< tt) (omega arith) (omega arith) in
    omega (arith, length-append (decimal n) crlf, digits)

values_modest : (values head : ℕ) → values ≤ 64 → head ≤ 5 → IsModest (values_need values head)
values_modest values head few short = record { descriptors = omega arith; stage = omega arith }

message_modest : (bytes : List ℕ) → length bytes ≤ 16384 → Holds (ping_with bytes)
message_modest bytes short =
    let digits : length (decimal (length bytes)) ≤ 5 = length-decimal-le 5 (length bytes) (lit< tt) (omega arith)
    (omega arith) in
    let text : length (reply_text (bulk bytes)) ≤ 16394 =
    omega (
      arith,
      digits,
      length-append (decimal (length bytes)) crlf,
      length-append (decimal (length bytes) ++ crlf)
          bytes,
      length-append ((decimal (length bytes) ++ crlf) ++ bytes) crlf,
    ) in
    record { descriptors = omega (arith, text); stage = omega (arith, text) }

one_modest : IsModest (values_need 1 0)
one_modest = record { descriptors = lit≤ tt; stage = lit≤ tt }

-- a command of one part
one_holds : (operation : Operation) → Holds (alone operation)
one_holds (part.get key) = one_modest
one_holds (part.set when true key bytes) = one_modest
one_holds (part.set when false key bytes) = small
one_holds (part.get_range key first last) = record { descriptors = lit≤ tt; stage = lit≤ tt }
one_holds operation = small

all_modest : HoldsOfAll Holds
all_modest = record {
  error = λ kind. small;
  pong = small;
  message = message_modest;
  values = λ keys are. values_modest (length keys) (length (array_head (length keys))) are.few
      (head_short (length keys) are.few);
  removed = λ keys are. small;
  there = λ keys are. small;
  one = λ operation allowed. one_holds operation;
}

pub need_modest : (words : Words) → IsModest (need_of (command_of words))
need_modest = request_holds Holds all_modest
