use Rattle.std.proofs.Common.{◌≡◌, ℕ, ◌+◌, ◌<◌, ◌++◌, length, get_or, take, set, sym, refl, ap, ◌∙◌, subst, ap₂, append-nil, arith}
use Rattle.std.proofs.lemmas.List.{get_or-take, get_or-drop, take_at, take_all, drop_all, length-take-le}
use Rattle.kind.specs.Kinds.{AllElements, element_in, elements}
use Rattle.kind.specs.Sides.{fold_pair, fold_of}
use Rattle.kind.proofs.Listed.{length-elements, elements-take, elements-drop, elements-append, elements-set, all_at, all_set, all_take, all_drop, all_append, read_at}
use Rattle.kind.proofs.Foldings.{over_more, over_rest, length-fold, fold_is}
use Rattle.kind.proofs.kind.Kind.fold_within.Goals as goal

pub loop-i-init : goal.loop-i-init
loop-i-init g c =
    let s = g.Self.Kind.meaning in
    record {
      checked = subst (AllElements s) (sym c.split_at_mut-first.ensures.front) (all_take s c.args.m c.args.work.now c.requires.checked);
      folded = refl;
    }

pub from_known-x-requires : goal.from_known-x-requires
from_known-x-requires g c =
    let k = g.Self.Kind in
    let e = c.index-first-i.result in
    let long = c.loop-i.auto.first in
    (element_in k.meaning e, all_at k.meaning k.laws c.loop-i.first c.loop-i.i e c.loop-i.invariant.checked (omega arith) c.index-first-i.is ∙ c.index-first-i.is)

pub from_known-y-requires : goal.from_known-y-requires
from_known-y-requires g c =
    let k = g.Self.Kind in
    let e = c.index-last-i.result in
    let split = c.split_at_mut-first.ensures in
    let room = c.requires.room in
    let all = subst (AllElements k.meaning) (sym split.back) (all_drop k.meaning c.args.m c.args.work.now c.requires.checked) in
    (element_in k.meaning e, all_at k.meaning k.laws c.split_at_mut-first.result.1.now c.loop-i.i e all (omega (arith, split.front_len, split.back_len)) c.index-last-i.is)

pub loop-i-preserved : goal.loop-i-preserved
loop-i-preserved g c =
    let s = g.Self.Kind.meaning in
    let laws = g.Self.Kind.laws in
    let side = c.args.side in
    let ch : ℕ = c.args.c in
    let m : ℕ = c.args.m in
    let i : ℕ = c.loop-i.i in
    let unit = s.group.unit in
    let work = c.args.work.now in
    let split = c.split_at_mut-first.ensures in
    let ws = elements s work in
    let xs = take (m + m) ws in
    let fs = fold_of s side ch xs in
    let first = c.loop-i.first in
    let begun = elements s c.split_at_mut-first.result.0.now in
    let last = c.split_at_mut-first.result.1.now in
    let long = length-elements s work in
    let long_begun = length-elements s c.split_at_mut-first.result.0.now in
    let kept = c.loop-i.auto.first in
    let front_len = split.front_len in
    let back_len = split.back_len in
    let room = c.requires.room in
    let low : i < m = omega arith in
    let two : length xs ≡ m + m = length-take-le (m + m) ws (omega arith) in
    let n = length-fold (fold_pair s side ch) m xs two in
    let x : c.from_known-x.result ≡ get_or xs i unit =
    read_at s laws first i c.index-first-i.result c.from_known-x.result (omega arith) c.index-first-i.is (c.from_known-x.ensures ∙ sym c.index-first-i.is)
    ∙ ap (λ l. get_or l i unit) c.loop-i.invariant.folded
    ∙ over_rest fs begun i i unit (omega arith) (omega arith)
    ∙ ap (λ l. get_or l i unit) (ap (elements s) split.front ∙ elements-take s m work)
    ∙ get_or-take m ws i unit low ∙ sym (get_or-take (m + m) ws i unit (omega arith)) in
    let y : c.from_known-y.result ≡ get_or xs (m + i) unit =
    read_at s laws last i c.index-last-i.result c.from_known-y.result (omega arith) c.index-last-i.is c.from_known-y.ensures
    ∙ ap (λ l. get_or l i unit) (ap (elements s) split.back ∙ elements-drop s m work)
    ∙ get_or-drop m ws i unit ∙ sym (get_or-take (m + m) ws (m + i) unit (omega arith)) in
    let v = c.fold_with.result in
    let is = fold_is (fold_pair s side ch) m i xs c.from_known-x.result c.from_known-y.result v unit v two low x y c.fold_with.ensures in
    record {
      checked = subst (λ d. AllElements s (set first i d)) (sym c.to_entry.ensures) (all_set s laws first i v c.loop-i.invariant.checked);
      folded = ap (λ d. elements s (set first i d)) c.to_entry.ensures ∙ elements-set s laws first i v ∙ ap (λ l. set l i v) c.loop-i.invariant.folded
          ∙ over_more fs begun i v (omega arith) (omega arith) is;
    }

pub returns : goal.returns
returns g c =
    let s = g.Self.Kind.meaning in
    let side = c.args.side in
    let ch : ℕ = c.args.c in
    let m : ℕ = c.args.m in
    let i : ℕ = c.loop-i.i in
    let work = c.args.work.now in
    let split = c.split_at_mut-first.ensures in
    let ws = elements s work in
    let xs = take (m + m) ws in
    let fs = fold_of s side ch xs in
    let first = c.loop-i.first in
    let begun = elements s c.split_at_mut-first.result.0.now in
    let last = c.split_at_mut-first.result.1.now in
    let long = length-elements s work in
    let long_first = length-elements s first in
    let long_begun = length-elements s c.split_at_mut-first.result.0.now in
    let kept = c.loop-i.auto.first in
    let front_len = split.front_len in
    let room = c.requires.room in
    let two : length xs ≡ m + m = length-take-le (m + m) ws (omega arith) in
    let n = length-fold (fold_pair s side ch) m xs two in
    let all_last = subst (AllElements s) (sym split.back) (all_drop s m work c.requires.checked) in
    record {
      checked = all_append s first last c.loop-i.invariant.checked all_last;
      folded = ap (take m) (elements-append s first last) ∙ take_at (elements s first) (elements s last) m (omega arith)
          ∙ c.loop-i.invariant.folded ∙ ap₂ ◌++◌ (take_all i fs (omega arith)) (drop_all i begun (omega arith)) ∙ append-nil fs;
    }
