use Rattle.std.proofs.Common.{◌≡◌, ◌+◌, ◌*◌, ◌∙◌, length, inl, inr, sym, ap, arith, rules, length-append}
use lib.ListN.{length-reverse}
use Rattle.kind.specs.Kinds.{elements}
use Rattle.kind.proofs.Joins.{join_end}
use Rattle.kind.proofs.Listed.{length-elements}
use Rattle.method.proofs.Weighted.{weigh_more}
use Rattle.method.proofs.quick.join_weighted.Goals as goal

pub loop-entry-preserved : goal.loop-entry-preserved
loop-entry-preserved g c =
    let st = c.in-Some.ensures.steps in
    let old = c.loop-entry.entry-iterator in
    let new = c.next.new.self in
    let back = new.a.b.iter.rest.now in
    let n_es = ap length st.0.0 in
    let n_bs = ap length st.0.1 ∙ length-append back _ in
    let n_hs = ap length st.1 in
    let r_old = length-reverse old.a.b.iter.rest.now in
    let r_new = length-reverse back in
    let long_g = c.loop-entry.invariant.long_g in
    let long_h = c.loop-entry.invariant.long_h in
    record {
      checked = search rules;
      long_g = omega arith;
      long_h = omega arith;
      joined = weigh_more g.K.Kind.meaning g.K.Kind.laws (λ x y. c.args.a * x + c.args.e * y)
          old.a.a.rest.now new.a.a.rest.now c.in-Some.entry.now old.a.b.iter.rest.now back c.in-Some.g_weight.now old.b.rest.now new.b.rest.now c.in-Some.h_weight.now
          c.from_known.result c.loop-entry.total c.power.result c.join-total.result
          st.0.0 st.0.1 st.1 c.from_known.ensures (c.power.ensures ∙ c.sum_of_products-exponent.ensures c.from_known.result) c.join-total.ensures
          ∙ c.loop-entry.invariant.joined;
    }

pub returns : goal.returns
returns g c =
    let s = g.K.Kind.meaning in
    let es = c.loop-entry.entry-iterator.a.a.rest.now in
    let bs = c.loop-entry.entry-iterator.a.b.iter.rest.now in
    let none : length es ≡ 0 = elim c.in-None.ensures.steps [
      | inl p ↦ elim p.1 [ inl q ↦ q.1.0 | inr q ↦ sym c.loop-entry.invariant.long_g ∙ length-reverse bs ∙ q.1.0 ]
      | inr p ↦ sym c.loop-entry.invariant.long_h ∙ p.1.0
    ] in
    join_end s.group g.K.Kind.laws.group (elements s es) _ c.loop-entry.total _ (length-elements s es ∙ none) c.loop-entry.invariant.joined
