-- What is sent by puts and flushes until one of them fails is sent in parts.
use Rattle.std.proofs.Common.{ℕ, Bool, List}
use Rattle.std.specs.Borrow.{Bor}
use Rattle.any_wire.specs.Texts.{IsSending}
use Rattle.any_wire.proofs.Behind.{puts-are-sending}
use Rattle.drive_script.specs.Connections.{sends_by}

module _ {W : Type 0} (put_may : W → Bor (List ℕ) → (W × Bool) → Type 0) (flush_may : W → (W × Bool) → Type 0) where
  pub puts_are_sending : IsSending (sends_by put_may flush_may)
  puts_are_sending = puts-are-sending put_may flush_may
