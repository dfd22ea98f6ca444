use Rattle.kind.specs.Modular.{pow_mod}
use Rattle.kind.proofs.Squares.{Turned}
use Rattle.kind.proofs.modular.pow_mod.Given as goal

abbrev pub invariant-loop-n : goal.invariant-loop-n
invariant-loop-n l = Turned l.m l.acc l.b l.n (pow_mod l.m l.v l.e)

abbrev pub decreases-loop-n : goal.decreases-loop-n
decreases-loop-n l = l.n
