use Rattle.std.proofs.Common.{rules}
use Rattle.bundle.proofs.Steps.{pairs_more}
use Rattle.bundle.proofs.pairs.PairsIterator.next.Goals as goal

pub returns : goal.returns
returns c = search (rules, pairs_more)
