-- Replies that lie in no fragment.
use Rattle.std.proofs.Common.{◌≡◌, ℕ, zero, suc, ◌+◌, ◌-◌, ◌≤◌, List, [], ◌∷◌, length, arith, ap, length-append, lit<}
use Rattle.std.proofs.Common.{lit≤}
use Rattle.std.specs.Fmt.{decimal}
use Rattle.std.proofs.lemmas.Fmt.{length-decimal-le}
use Rattle.flake_base.specs.declared.reply.ErrorKind.{ErrorKind}
use Rattle.flake_base.specs.declared.reply.ErrorKind.TheVariants.{UnknownCommand, WrongCount, Syntax, TooManyKeys}
use Rattle.flake_base.specs.declared.reply.ErrorKind.TheVariants.{KeyTooLong, ValueTooLong, NoBuffer, ProtocolCount}
use Rattle.flake_base.specs.declared.reply.ErrorKind.TheVariants.{ProtocolBulk, ProtocolLength, ProtocolInline}
use Rattle.flake_base.specs.declared.reply.ErrorKind.TheVariants.{NotInteger}
use Rattle.flake_model.specs.Resp.{crlf}
use Rattle.flake_model.specs.Reply.{Reply, ok, pong, error, int, bulk, null, array, reply_text}
use Rattle.reply_layout.specs.Pieces.{plain}
use Rattle.reply_layout.specs.Layout.{copied, placings_of, staging_buffers_for}
use Rattle.reply_layout.specs.Runs.{one_if, run_count, IsLine, IsWithinNeed}
use Rattle.reply_layout.specs.Need.{need, copied_need}
use Rattle.reply_layout.proofs.Fits.{layout_fits}

one_run : (n : ℕ) → run_count 0 (copied n ∷ []) + (staging_buffers_for n - 1) ≤ staging_buffers_for n
one_run zero = omega arith
one_run (suc n) =
    let count : 0 + suc n ≡ suc n = omega arith in
    omega (arith, ap one_if count)

pub plain_fits : (threshold : ℕ) (bytes stage : List ℕ) → IsWithinNeed (copied_need (length bytes)) stage
    (placings_of threshold (plain bytes ∷ []))
plain_fits threshold bytes stage =
    let n = length bytes in
    let copies : n + 0 ≡ n = omega arith in
    record {
      segments = omega (arith, layout_fits stage (copied n ∷ []), one_run n, ap staging_buffers_for copies);
      buffers = omega (arith, ap staging_buffers_for copies);
    }

short_error : (kind : ErrorKind) → length (reply_text (error kind)) ≤ 512
short_error UnknownCommand = lit≤ tt
short_error WrongCount = lit≤ tt
short_error Syntax = lit≤ tt
short_error TooManyKeys = lit≤ tt
short_error KeyTooLong = lit≤ tt
short_error ValueTooLong = lit≤ tt
short_error NoBuffer = lit≤ tt
short_error ProtocolCount = lit≤ tt
short_error ProtocolBulk = lit≤ tt
short_error ProtocolLength = lit≤ tt
short_error ProtocolInline = lit≤ tt
short_error NotInteger = lit≤ tt

short_line : (reply : Reply) → IsLine reply → length (reply_text reply) ≤ 512
short_line ok is = lit≤ tt
short_line pong is = lit≤ tt
short_line (error kind) is = short_error kind
short_line (int n) is =
    let digits : length (decimal n) ≤ 20 = length-decimal-le 20 n (lit< tt) (omega arith) is in
    omega (arith, length-append (decimal n) crlf, digits)
short_line (bulk bytes) is = absurd is
short_line null is = lit≤ tt
short_line (array items) is = absurd is

pub line_fits : (threshold : ℕ) (reply : Reply) → IsLine reply → (stage : List ℕ)
    → IsWithinNeed (need 1 1) stage (placings_of threshold (plain (reply_text reply) ∷ []))
line_fits threshold reply is stage =
    let short = short_line reply is in
    let fits = plain_fits threshold (reply_text reply) stage in
    record { segments = omega (arith, fits.segments, short); buffers = omega (arith, fits.buffers, short) }
