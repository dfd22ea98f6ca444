use Rattle.std.proofs.Common.{◌≡◌, ℕ, ◌*◌, ap, ◌∙◌, ap₂}
use Rattle.protocol.specs.Group.{power}
use Rattle.protocol.proofs.Powers.{pow-mod}
use Rattle.kind.specs.Pairs.{pair_group, power_pair, pair_laws}
use Rattle.method.proofs.commitments.fold_commitments.Goals as goal

pub returns : goal.returns
returns g c =
    let s = g.K.Kind.meaning in
    let o = s.group in
    let p = pair_group o in
    let ch : ℕ = c.args.c in
    let laws = (pair_laws s g.K.Kind.laws).group in
    let far : c.power-far.result ≡ power p c.args.lower (ch * ch) =
    c.power-far.ensures ∙ ap (power p c.args.lower) c.mul_scalars-cc.ensures ∙ pow-mod laws c.args.lower (ch * ch) in
    c.join-2.ensures
    ∙ ap (λ x. p.join x c.args.upper)
    (c.join.ensures ∙ ap₂ p.join (far ∙ power_pair o c.args.lower (ch * ch)) (c.power-near.ensures ∙ power_pair o c.args.z ch))
