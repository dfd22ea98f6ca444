use Rattle.std.proofs.Common.{length}
use Rattle.bundle.specs.Bodies.{left}
use Rattle.bundle_check.proofs.report.Given as goal

abbrev pub decreases-loop-answer : goal.decreases-loop-answer
decreases-loop-answer l = length (left l.records)
