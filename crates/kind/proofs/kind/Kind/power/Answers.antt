use Rattle.std.proofs.Common.{◌≡◌, ◌%◌, ap, ◌∙◌, arith}
use Rattle.protocol.specs.Group.{power}
use Rattle.kind.proofs.Squares.{power_even, power_odd, power_end}
use Rattle.kind.proofs.kind.Kind.power.Goals as goal
use Rattle.kind.proofs.kind.Kind.power.Goals.{then-n-eq1, else-n-eq1}

pub loop-n-init : goal.loop-n-init
loop-n-init g c =
    let s = g.Self.Kind.meaning.group in
    ap (λ y. s.join y (power s c.args.self c.args.e)) c.unit-acc.ensures ∙ g.Self.Kind.laws.group.unit_left (power s c.args.self c.args.e)

pub loop-n-preserved : goal.loop-n-preserved
loop-n-preserved g c =
    elim c.if-n-eq1.branch [
      | then-n-eq1 w ↦
          power_odd g.Self.Kind.laws.group _ _ _ _ _ c.loop-n.n (w.acc-is ∙ w.join-acc.ensures) c.join-b.ensures w.if-n-eq1.true c.loop-n.invariant
      | else-n-eq1 w ↦
          let e : c.loop-n.n % 2 ≡ 0 = omega (arith, w.if-n-eq1.false) in
          power_even g.Self.Kind.laws.group _ _ _ _ _ c.loop-n.n w.acc-is c.join-b.ensures e c.loop-n.invariant
    ]

pub returns : goal.returns
returns g c = power_end g.Self.Kind.laws.group _ c.loop-n.b _ c.loop-n.n (omega arith) c.loop-n.invariant
