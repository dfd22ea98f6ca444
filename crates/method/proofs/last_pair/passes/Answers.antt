use Rattle.std.proofs.Common.{◌≡◌, ℕ, ◌*◌, ◌&&◌, sym, ap, ◌∙◌, ap₂}
use Rattle.protocol.specs.Group.{power}
use Rattle.protocol.proofs.Powers.{pow-mod}
use Rattle.method.proofs.last_pair.passes.Goals as goal

pub returns-then-one : goal.returns-then-one
returns-then-one g c =
    let s = g.K.Kind.meaning in
    let o = s.group in
    let a : ℕ = c.args.a in
    let b : ℕ = c.args.b in
    let total : c.power-total.result ≡ power o c.args.key (a * b) =
    c.power-total.ensures ∙ ap (power o c.args.key) c.mul_scalars-ab.ensures ∙ pow-mod g.K.Kind.laws.group c.args.key (a * b) in
    let two : c.same-two.result ≡ s.same (o.join (power o c.args.y b) (power o c.args.key (a * b))) c.args.z.b =
    c.same-two.ensures ∙ ap (λ x. s.same x c.args.z.b) (c.join.ensures ∙ ap₂ o.join c.power-right.ensures total) in
    let one = sym (c.same-one.ensures ∙ ap (λ x. s.same x c.args.z.a) c.power-left.ensures) ∙ c.if-one.true in
    two ∙ sym (ap (λ t. t && s.same (o.join (power o c.args.y b) (power o c.args.key (a * b))) c.args.z.b) one)
