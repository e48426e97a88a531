use Rattle.order_book.proofs.Shared.{shares}
use Rattle.order_book.proofs.Seen as seen
use Rattle.dump_model.proofs.Aligned.{dump_of_seen}
use Rattle.dump_model.proofs.laws.dump_of_seen.Goals as goal

pub returns : goal.returns
returns c = dump_of_seen shares seen.looks_begin
