use Rattle.std.proofs.Common.{◌≡◌, ◌%◌, sym, ◌∙◌, arith}
use Rattle.kind.proofs.Squares.{start, end, turn_even, turn_odd}
use Rattle.kind.proofs.modular.pow_mod.Goals as goal
use Rattle.kind.proofs.modular.pow_mod.Goals.{then-n-eq1, else-n-eq1}

pub loop-n-init : goal.loop-n-init
loop-n-init c = (c.requires.above, c.requires.below, start c.args.m c.requires.above _ _)

pub loop-n-preserved : goal.loop-n-preserved
loop-n-preserved c =
    elim c.if-n-eq1.branch [
      | then-n-eq1 w ↦
          turn_odd c.args.m c.requires.above _ _ c.loop-n.n _ _ _ (w.acc-is ∙ w.mul_mod-acc.ensures) c.mul_mod-b.ensures w.if-n-eq1.true c.loop-n.invariant
      | else-n-eq1 w ↦
          let e : c.loop-n.n % 2 ≡ 0 = omega (arith, w.if-n-eq1.false) in
          turn_even c.args.m c.requires.above _ _ c.loop-n.n _ _ _ w.acc-is c.mul_mod-b.ensures e c.loop-n.invariant
    ]

pub returns : goal.returns
returns c = sym (end c.args.m c.requires.above _ c.loop-n.b c.loop-n.n c.loop-n.invariant.0 (omega arith)) ∙ c.loop-n.invariant.2
