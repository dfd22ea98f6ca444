use Rattle.std.proofs.Common.{◌≡◌}
use Rattle.protocol.specs.Group.{power}
use Rattle.kind.proofs.kind.Kind.power.Given as goal

abbrev pub invariant-loop-n : goal.invariant-loop-n
invariant-loop-n g l = let s = g.Self.Kind.meaning.group in s.join l.acc (power s l.b l.n) ≡ power s l.initial.b l.e

abbrev pub decreases-loop-n : goal.decreases-loop-n
decreases-loop-n g l = l.n
