use Rattle.method.specs.Meaning.{reduced}
use Rattle.method.proofs.Weighing.{Built}
use Rattle.method.proofs.weights.fill_weights.Given as goal

abbrev pub invariant-loop-i : goal.invariant-loop-i
invariant-loop-i g l = let s = g.K.Kind.meaning in Built s.order (reduced s l.cs) l.ws l.i
