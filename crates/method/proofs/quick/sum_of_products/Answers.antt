use Rattle.std.proofs.Common.{ℕ, ◌+◌, ◌*◌, ◌%◌, sym, ap, ◌∙◌, ap₂}
use Rattle.protocol.specs.Group.{power}
use Rattle.protocol.proofs.Powers.{pow-add, pow-mod}
use Rattle.method.proofs.quick.sum_of_products.Goals as goal

pub returns : goal.returns
returns g c = λ z.
    let s = g.K.Kind.meaning in
    let o = s.group in
    let laws = g.K.Kind.laws.group in
    let m : ℕ = c.args.a * c.args.x in
    let n : ℕ = c.args.e * c.args.y in
    ap (λ (q : ℕ). power o z ((c.mul_scalars.result + c.mul_scalars-2.result) % q)) c.order.ensures
    ∙ pow-mod laws z (c.mul_scalars.result + c.mul_scalars-2.result)
    ∙ ap₂ (λ (i j : ℕ). power o z (i + j)) c.mul_scalars.ensures c.mul_scalars-2.ensures
    ∙ pow-add laws z (m % s.order) (n % s.order)
    ∙ ap₂ o.join (pow-mod laws z m) (pow-mod laws z n)
    ∙ sym (pow-add laws z m n)
