use Rattle.std.proofs.Common.{◌*◌, ◌&&◌, ap₂}
use Rattle.protocol.specs.Group.{power}
use Rattle.protocol.specs.Halving.{last_g, last_h}
use Rattle.kind.specs.Both.{both_true}
use Rattle.kind.specs.Kinds.{elements}
use Rattle.method.specs.Meaning.{reduced}
use Rattle.method.proofs.theorems.verdict_is_published.Goals as goal

pub returns : goal.returns
returns g c = λ cs z gs hs k a b.
    let s = g.K.Kind.meaning in
    let o = s.group in
    let laws = g.K.Kind.laws in
    let left = power o (last_g s.order o (reduced s cs) (elements s gs)) a in
    let right = o.join (power o (last_h s.order o (reduced s cs) (elements s hs)) b) (power o k (a * b)) in (
      λ e.
          let p = both_true (s.same left z.a) (s.same right z.b) e in
          record { one = laws.same_yes left z.a p.0; two = laws.same_yes right z.b p.1 },
      λ h. ap₂ ◌&&◌ (laws.same_so left z.a h.one) (laws.same_so right z.b h.two),
    )
