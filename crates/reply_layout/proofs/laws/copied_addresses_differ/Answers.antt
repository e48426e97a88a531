use Rattle.reply_layout.proofs.Copies.{addresses_differ}
use Rattle.reply_layout.proofs.laws.copied_addresses_differ.Goals as goal

pub returns : goal.returns
returns c = addresses_differ
