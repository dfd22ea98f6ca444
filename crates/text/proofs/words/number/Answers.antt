use Rattle.std.proofs.Common.{◌∙◌, arith}
use Rattle.text.proofs.Values.{valued_large}
use Rattle.text.proofs.words.number.Goals as goal

pub returns-in_err-checked_mul : goal.returns-in_err-checked_mul
returns-in_err-checked_mul c =
    c.from_residual.ensures
    ∙ valued_large c.args.word.now c.loop-digit.n c.loop-digit.digit-index c.loop-digit-test.true
    (omega (arith, c.in_err-checked_mul.ensures)) c.loop-digit.invariant

pub returns-in_err-n : goal.returns-in_err-n
returns-in_err-n c =
    c.from_residual-in_err-n.ensures
    ∙ valued_large c.args.word.now c.loop-digit.n c.loop-digit.digit-index c.loop-digit-test.true
    (omega (arith, c.in_err-n.ensures, c.in_ok-checked_mul.ensures)) c.loop-digit.invariant
