use Rattle.std.proofs.Common.{◌≡◌, ℕ, suc, ◌+◌, ◌-◌, ◌/◌, ◌%◌, ◌^◌, List, length, get_or, take, sym, ap, ◌∙◌, subst, arith, take_all}
use native.Mathlib.Nat.{two-pow-succ}
use Rattle.kind.specs.Kinds.{AllElements, elements}
use Rattle.kind.specs.Sides.{fold_of}
use Rattle.kind.proofs.Listed.{length-elements, all_entries, elements-entries}
use Rattle.method.specs.Meaning.{reduced}
use Rattle.method.specs.Sides.{folds_of}
use Rattle.method.proofs.Foldings.{twice, folds_more}
use Rattle.method.proofs.halving.last.Goals as goal

pub loop-c-init : goal.loop-c-init
loop-c-init g c =
    let s = g.K.Kind.meaning in
    let laws = g.K.Kind.laws in
    let cases = c.in-Some.ensures.cases in
    let xs = elements s c.args.src.now.entries.now in
    let out = c.fold_into.new.out in
    let side = c.args.side in
    let first : ℕ = c.in-Some.first.now in
    let rest : List ℕ = c.in-Some.rest.now in
    let fs = fold_of s side (first % c.order-q.result) xs in
    let pow : 2 ^ length c.args.cs.now ≡ 2 ^ suc (length rest) = ap (λ (n : ℕ). 2 ^ n) (omega arith) in
    let twice_rest = two-pow-succ (length rest) in
    let whole = c.requires.whole in
    let half = c.requires.half in
    let kept : length out ≡ length c.args.work.now = omega arith in
    let none : length rest - 0 ≡ length rest = omega arith in
    let held : take (length out) (elements s out) ≡ fold_of s side (first % s.order) xs =
    take_all (length out) (elements s out) (omega (arith, length-elements s out)) ∙ ap (elements s) c.fold_into.ensures ∙ elements-entries s laws fs
    ∙ ap (λ (q : ℕ). fold_of s side (first % q) xs) c.order-q.ensures in
    record {
      checked = subst (AllElements s) (sym c.fold_into.ensures) (all_entries s laws fs);
      size = kept ∙ half ∙ omega arith ∙ ap (λ (n : ℕ). 2 ^ n) (sym none);
      within = omega arith;
      folded = ap (folds_of s side (reduced s rest)) held ∙ ap (λ l. folds_of s side (reduced s l) xs) (sym cases.0);
    }

pub loop-c-preserved : goal.loop-c-preserved
loop-c-preserved g c =
    let s = g.K.Kind.meaning in
    let rest : List ℕ = c.in-Some.rest.now in
    let i : ℕ = c.loop-c.c-index in
    let m : ℕ = c.loop-c.m in
    let was = elements s c.loop-c.work in
    let d = twice (length rest - i) (omega arith) in
    let k : length rest - i - 1 ≡ length rest - (i + 1) = omega arith in
    let p = ap (λ (n : ℕ). 2 ^ n) k in
    let size = c.loop-c.invariant.size in
    let whole : m / 2 + m / 2 ≡ m = omega arith in
    let held = c.fold_within.ensures.folded
    ∙ ap (λ (q : ℕ). fold_of s c.args.side (get_or rest i 0 % q) (take (m / 2 + m / 2) was)) c.order-q.ensures
    ∙ ap (λ (n : ℕ). fold_of s c.args.side (get_or rest i 0 % s.order) (take n was)) whole in
    record {
      checked = c.fold_within.ensures.checked;
      size = omega arith;
      within = omega (arith, c.loop-c.invariant.within);
      folded = folds_more s c.args.side rest i (take m was) (take (m / 2) (elements s c.fold_within.new.work)) (omega arith) held ∙ c.loop-c.invariant.folded;
    }
