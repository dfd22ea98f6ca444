use Rattle.settle.proofs.Passes.{written_passes}
use Rattle.settle.proofs.theorems.a_written_record_passes.Goals as goal

pub returns : goal.returns
returns g c = written_passes g.K.Kind.meaning g.K.Kind.laws g.K.WrittenKind.writing g.met.K.WrittenKind.writes
