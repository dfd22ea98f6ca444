use Rattle.std.proofs.Common.{◌≡◌, ℕ, ◌%◌, ◌^◌, List, length, get_or, sym, ap, ◌∙◌, ap₂}
use Rattle.std.proofs.lemmas.List.{length-map}
use Rattle.protocol.specs.Group.{product}
use Rattle.protocol.specs.Halving.{last_g, last_h}
use Rattle.protocol.proofs.Weights.{multiplies_out}
use Rattle.kind.specs.Kinds.{elements}
use Rattle.kind.proofs.Listed.{length-elements}
use Rattle.method.specs.Meaning.{reduced, passes}
use Rattle.method.proofs.multiplying.MultiplyingOutMethod.decide.Goals as goal

pub returns : goal.returns
returns g c =
    let s = g.K.Kind.meaning in
    let o = s.group in
    let laws = g.K.Kind.laws.group in
    let cs : List ℕ = c.args.cs.now in
    let rs : List ℕ = reduced s cs in
    let gs = c.args.bases.now.g.entries.now in
    let hs = c.args.bases.now.h.entries.now in
    let long : length rs ≡ length cs = length-map cs (λ x. x % s.order) in
    let pw = ap (λ (n : ℕ). 2 ^ n) (sym long) in
    let ws : List ℕ = c.fill_weights.new.ws in
    let out_g = multiplies_out laws rs ws c.fill_weights.ensures (elements s gs) (length-elements s gs ∙ c.requires.long_g ∙ pw) in
    let out_h = multiplies_out laws rs ws c.fill_weights.ensures (elements s hs) (length-elements s hs ∙ c.requires.long_h ∙ pw) in
    let x : c.join_powers-x.result ≡ last_g s.order o rs (elements s gs) =
    c.join_powers-x.ensures ∙ ap (product o (elements s gs)) c.reverse.ensures.after ∙ sym (ap (λ l. get_or l 0 o.unit) out_g.1) in
    let y : c.join_powers-y.result ≡ last_h s.order o rs (elements s hs) =
    c.join_powers-y.ensures ∙ sym (ap (λ l. get_or l 0 o.unit) out_h.0) in
    c.passes.ensures ∙ ap₂ (λ u v. passes s c.args.z c.args.bases.now.key u v c.args.a c.args.b) x y
