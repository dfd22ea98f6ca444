use Rattle.std.proofs.Common.{rules}
use Rattle.record.proofs.Pieces.{pieces_more}
use Rattle.record.proofs.reading.ReaderIterator.next.Goals as goal

pub returns-else-k-eq0 : goal.returns-else-k-eq0
returns-else-k-eq0 c = search (rules, pieces_more)
