use Rattle.journal_text.proofs.OneText.{one_journal_lem}
use Rattle.journal_text.proofs.laws.one_journal.Goals as goal

pub returns : goal.returns
returns c = one_journal_lem
