use Rattle.std.proofs.Common.{length}
use Rattle.text.specs.Lines.{text_left}
use Rattle.proof_write.proofs.prove.prove_all.Given as goal

abbrev pub decreases-loop-records : goal.decreases-loop-records
decreases-loop-records l = length (text_left l.groups.lines)
