use Rattle.text.proofs.Values.{Valued}
use Rattle.text.proofs.words.number.Given as goal

abbrev pub invariant-loop-digit : goal.invariant-loop-digit
invariant-loop-digit l = Valued l.word l.n l.digit-index
