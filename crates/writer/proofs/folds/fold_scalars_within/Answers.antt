use Rattle.std.proofs.Common.{◌≡◌, ℕ, ◌+◌, ◌<◌, ◌++◌, List, length, get_or, take, set, sym, ap, ◌∙◌, ap₂, append-nil, arith}
use Rattle.std.proofs.lemmas.List.{get_or-take, get_or-drop, take_at, take_all, drop_all, length-take-le}
use Rattle.kind.specs.Sides.{fold_by}
use Rattle.kind.proofs.Foldings.{over_more, over_rest, length-fold, fold_is}
use Rattle.writer.specs.Folds.{fold_scalars}
use Rattle.writer.proofs.folds.fold_scalars_within.Goals as goal

pub loop-i-preserved : goal.loop-i-preserved
loop-i-preserved g c =
    let f = fold_scalars g.K.Kind.meaning.order c.args.side c.args.c in
    let ws : List ℕ = c.args.xs.now in
    let m : ℕ = c.args.m in
    let i : ℕ = c.loop-i.i in
    let xs = take (m + m) ws in
    let fs = fold_by f xs in
    let split = c.split_at_mut-first.ensures in
    let first : List ℕ = c.loop-i.first in
    let begun : List ℕ = c.split_at_mut-first.result.0.now in
    let last : List ℕ = c.split_at_mut-first.result.1.now in
    let kept = c.loop-i.auto.first in
    let front_len = split.front_len in
    let room = c.requires in
    let low : i < m = omega arith in
    let two : length xs ≡ m + m = length-take-le (m + m) ws (omega arith) in
    let n = length-fold f m xs two in
    let x : get_or first i 0 ≡ get_or xs i 0 =
    ap (λ l. get_or l i 0) c.loop-i.invariant ∙ over_rest fs begun i i 0 (omega arith) (omega arith)
    ∙ ap (λ l. get_or l i 0) split.front ∙ get_or-take m ws i 0 low ∙ sym (get_or-take (m + m) ws i 0 (omega arith)) in
    let y : get_or last i 0 ≡ get_or xs (m + i) 0 =
    ap (λ l. get_or l i 0) split.back ∙ get_or-drop m ws i 0 ∙ sym (get_or-take (m + m) ws (m + i) 0 (omega arith)) in
    let v = c.fold_scalar_pair.result in
    let is = fold_is f m i xs (get_or first i 0) (get_or last i 0) v 0 v two low x y c.fold_scalar_pair.ensures in
    ap (λ l. set l i v) c.loop-i.invariant ∙ over_more fs begun i v (omega arith) (omega arith) is

pub returns : goal.returns
returns g c =
    let f = fold_scalars g.K.Kind.meaning.order c.args.side c.args.c in
    let ws : List ℕ = c.args.xs.now in
    let m : ℕ = c.args.m in
    let i : ℕ = c.loop-i.i in
    let xs = take (m + m) ws in
    let fs = fold_by f xs in
    let split = c.split_at_mut-first.ensures in
    let begun : List ℕ = c.split_at_mut-first.result.0.now in
    let kept = c.loop-i.auto.first in
    let front_len = split.front_len in
    let room = c.requires in
    let two : length xs ≡ m + m = length-take-le (m + m) ws (omega arith) in
    let n = length-fold f m xs two in
    take_at c.loop-i.first c.split_at_mut-first.result.1.now m (omega arith)
    ∙ c.loop-i.invariant ∙ ap₂ ◌++◌ (take_all i fs (omega arith)) (drop_all i begun (omega arith)) ∙ append-nil fs
