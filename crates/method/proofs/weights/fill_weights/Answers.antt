use Rattle.std.proofs.Common.{◌≡◌, ℕ, ◌-◌, ◌*◌, ◌%◌, ◌^◌, ◌≤◌, List, length, get_or, sym, ap, ◌∙◌, arith, length-set, pow_mono}
use Rattle.std.proofs.lemmas.List.{get_or-map, length-map}
use Rattle.method.specs.Meaning.{reduced}
use Rattle.method.proofs.Weighing.{bit_below, built_more, built_all}
use Rattle.method.proofs.weights.fill_weights.Goals as goal

pub overflow_shl-rest : goal.overflow_shl-rest
overflow_shl-rest g c =
    let m : 2 ^ length c.args.cs.now ≤ 2 ^ 8 = pow_mono c.requires.few in
    let room = c.requires.room in
    let kept = length-set c.args.ws.now 0 1 in
    let low = bit_below c.top_bit-t.result 8 c.loop-i.i (c.top_bit-t.ensures.low (omega arith)) (omega arith) in
    omega arith

pub overflow_sub-cs-in-loop-i : goal.overflow_sub-cs-in-loop-i
overflow_sub-cs-in-loop-i g c =
    let room = c.requires.room in
    let kept = length-set c.args.ws.now 0 1 in
    let h = bit_below c.top_bit-t.result (length c.args.cs.now) c.loop-i.i (c.top_bit-t.ensures.low (omega arith)) (omega arith) in
    omega arith

pub loop-i-preserved : goal.loop-i-preserved
loop-i-preserved g c =
    let s = g.K.Kind.meaning in
    let cs : List ℕ = c.args.cs.now in
    let rs : List ℕ = reduced s cs in
    let ws : List ℕ = c.loop-i.ws in
    let i : ℕ = c.loop-i.i in
    let t : ℕ = c.top_bit-t.result in
    let room = c.requires.room in
    let kept = length-set c.args.ws.now 0 1 in
    let long : length rs ≡ length cs = length-map cs (λ x. x % s.order) in
    let h = bit_below t (length cs) i (c.top_bit-t.ensures.low (omega arith)) (omega arith) in
    let at : ℕ = length cs - 1 - t in
    let m : 2 ^ length cs ≤ 2 ^ 8 = pow_mono c.requires.few in
    let low = c.top_bit-t.ensures.low (omega arith) in
    let bit : 1 * 2 ^ t % 18446744073709551616 ≡ 2 ^ t = omega arith in
    let is = c.mul_scalars.ensures
    ∙ ap (λ (q : ℕ). get_or ws (i - 1 * 2 ^ t % 18446744073709551616) 0 * (get_or cs at 0 % q) % s.order) c.order-q.ensures
    ∙ ap (λ (n : ℕ). get_or ws (i - n) 0 * (get_or cs at 0 % s.order) % s.order) bit
    ∙ ap (λ (x : ℕ). get_or ws (i - 2 ^ t) 0 * x % s.order) (sym (get_or-map (λ x. x % s.order) cs at 0 0 (omega arith)) ∙ ap (λ (n : ℕ). get_or rs (n - 1 - t) 0) (sym long)) in
    built_more s.order rs ws i t c.mul_scalars.result (omega arith) (omega arith) c.top_bit-t.ensures is c.loop-i.invariant

pub returns : goal.returns
returns g c =
    let s = g.K.Kind.meaning in
    let cs : List ℕ = c.args.cs.now in
    let room = c.requires.room in
    let kept = length-set c.args.ws.now 0 1 in
    let long : length (reduced s cs) ≡ length cs = length-map cs (λ x. x % s.order) in
    built_all s.order (reduced s cs) c.loop-i.ws c.loop-i.i (omega arith ∙ ap (λ (n : ℕ). 2 ^ n) (sym long)) (omega arith) c.loop-i.invariant
