use Rattle.std.proofs.Common.{◌≡◌, ℕ, ◌+◌, ◌*◌, ◌%◌, ◌<◌, length, sym, ap, ◌∙◌, subst, ap₂, add_assoc, mod-lt, arith}
use native.Mathlib.Nat.{mod-add-mod}
use Rattle.protocol.specs.Halving.{dot}
use Rattle.writer.proofs.commitments.inner_product.Goals as goal

pub loop-x-preserved : goal.loop-x-preserved
loop-x-preserved g c =
    let q : ℕ = g.K.Kind.meaning.order in
    let low = g.K.Kind.laws.order_low in
    let pos : 0 < q = omega arith in
    let is : c.order-q.result ≡ q = c.order-q.ensures in
    let st = c.in-Some.ensures.steps in
    let t : ℕ = c.loop-x.total in
    let ab : ℕ = c.in-Some.x.now * c.in-Some.y.now in
    let rest : ℕ = dot c.next.new.self.a.rest.now c.next.new.self.b.rest.now in
    let old = c.loop-x.invariant in
    let n_x = ap length st.0 in
    let n_y = ap length st.1 in
    let long = old.long in
    record {
      small = subst (λ (n : ℕ). (t + ab) % n < q) (sym is) (mod-lt (t + ab) pos);
      long = omega arith;
      summed = ap (λ (n : ℕ). ((t + ab) % n + rest) % q) is ∙ mod-add-mod (t + ab) q rest ∙ ap (λ (n : ℕ). n % q) (add_assoc t ab rest)
          ∙ ap (λ (n : ℕ). (t + n) % q) (sym (ap₂ dot st.0 st.1)) ∙ old.summed;
    }
