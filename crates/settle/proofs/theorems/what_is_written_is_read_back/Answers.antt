use Rattle.settle.proofs.Reading.{reads_back}
use Rattle.settle.proofs.theorems.what_is_written_is_read_back.Goals as goal

pub returns : goal.returns
returns g c = reads_back g.K.WrittenKind.writing g.met.K.WrittenKind.writes g.K.Kind.meaning.order g.K.Kind.laws.order_high
