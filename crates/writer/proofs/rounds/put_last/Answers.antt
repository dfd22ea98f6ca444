use Rattle.writer.proofs.Laid.{next}
use Rattle.writer.proofs.rounds.put_last.Goals as goal

pub returns : goal.returns
returns c = next c.put_number-past.ensures c.put_number.ensures
