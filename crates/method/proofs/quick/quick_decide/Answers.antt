use Rattle.std.proofs.Common.{◌≡◌, ℕ, ◌+◌, ◌*◌, ◌%◌, List, length, sym, ap, ◌∙◌, ap₂, arith}
use lib.Lanes.{zip2}
use lib.ListN.{length-reverse}
use Rattle.protocol.specs.Group.{power, product}
use Rattle.protocol.specs.Quick.{quick_scalars}
use Rattle.protocol.specs.Weights.{g_weights}
use Rattle.protocol.proofs.Powers.{pow-mod}
use Rattle.protocol.proofs.Quick.{weighted_mod}
use Rattle.protocol.proofs.Weights.{weights_are}
use Rattle.kind.specs.Kinds.{elements}
use Rattle.kind.specs.Modular.{mod_mul_left}
use Rattle.kind.proofs.Listed.{length-elements}
use Rattle.method.specs.Meaning.{reduced}
use Rattle.method.proofs.quick.quick_decide.Goals as goal

pub returns : goal.returns
returns g c = λ ws good.
    let s = g.K.Kind.meaning in
    let o = s.group in
    let q : ℕ = s.order in
    let laws = g.K.Kind.laws.group in
    let cs : List ℕ = reduced s c.args.cs.now in
    let made : List ℕ = c.fill_weights.new.ws in
    let a : ℕ = c.args.a in
    let b : ℕ = c.args.b in
    let w : ℕ = c.args.weight in
    let gs = elements s c.args.g.now.entries.now in
    let same : made ≡ ws = weights_are q cs made c.fill_weights.ensures ∙ sym (weights_are q cs ws good) in
    let n = length-elements s c.args.g.now.entries.now in
    let size : length made ≡ length gs = (let room = c.requires.room in let long = c.requires.long in omega arith) in
    let joined : c.join_weighted-joined.result ≡ product o gs (quick_scalars ws a b w) =
    c.join_weighted-joined.ensures
    ∙ ap (λ (e : ℕ). product o gs (zip2 (λ x y. a * x + e * y) (g_weights made) made)) c.mul_scalars-e.ensures
    ∙ weighted_mod laws a (w * b) gs (g_weights made) made (length-reverse made ∙ size) size
    ∙ ap (λ (l : List ℕ). product o gs (quick_scalars l a b w)) same in
    let exponent : c.mul_scalars-wab.result ≡ w * a * b % q =
    c.mul_scalars-wab.ensures ∙ ap (λ (n : ℕ). n * b % q) c.mul_scalars-wa.ensures ∙ mod_mul_left (w * a) b q in
    let total : c.power.result ≡ power o c.args.key (w * a * b) =
    c.power.ensures ∙ ap (power o c.args.key) exponent ∙ pow-mod laws c.args.key (w * a * b) in
    let left : c.join-left.result ≡ o.join (product o gs (quick_scalars ws a b w)) (power o c.args.key (w * a * b)) =
    c.join-left.ensures ∙ ap₂ o.join joined total in
    let right : c.join-right.result ≡ o.join c.args.z.a (power o c.args.z.b w) =
    c.join-right.ensures ∙ ap (o.join c.args.z.a) c.power-2.ensures in
    c.same.ensures ∙ ap₂ s.same left right
