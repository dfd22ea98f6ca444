use Rattle.std.proofs.Common.{◌≡◌, ℕ, ◌+◌, ◌/◌, ◌++◌, length, take, drop, sym, ap, ◌∙◌, subst, arith}
use Rattle.std.proofs.lemmas.List.{length-take-le, take-append-le}
use Rattle.kind.specs.Kinds.{elements, AllElements}
use Rattle.kind.specs.Sides.{fold_of}
use Rattle.kind.specs.declared.side.Side.TheVariants.{OfG, OfH}
use Rattle.kind.proofs.Listed.{elements-take, elements-drop, all_take, all_drop, all_append}
use Rattle.writer.proofs.Folded.{fold_all, fold-elements}
use Rattle.writer.proofs.TwoRows.{front_is, back_is}
use Rattle.writer.proofs.rows.fold_element_rows.Goals as goal

pub fold_elements-requires-clause-checked : goal.fold_elements-requires-clause-checked
fold_elements-requires-clause-checked g c =
    let s = g.K.Kind.meaning in
    all_take s (c.args.m + c.args.m) _ (subst (AllElements s) (sym c.split_at_mut-g.ensures.front) (all_take s c.args.n c.args.work.now c.requires.checked))

pub fold_elements-requires-2-clause-checked : goal.fold_elements-requires-2-clause-checked
fold_elements-requires-2-clause-checked g c =
    let s = g.K.Kind.meaning in
    all_take s (c.args.m + c.args.m) _ (subst (AllElements s) (sym c.split_at_mut-g.ensures.back) (all_drop s c.args.n c.args.work.now c.requires.checked))

pub returns : goal.returns
returns g c =
    let s = g.K.Kind.meaning in
    let laws = g.K.Kind.laws in
    let n : ℕ = c.args.n in
    let m : ℕ = c.args.m in
    let j : ℕ = m + m in
    let ch : ℕ = c.args.c in
    let work = c.args.work.now in
    let split = c.split_at_mut-g.ensures in
    let first = c.split_at_mut-g.result.0.now in
    let second = c.split_at_mut-g.result.1.now in
    let a = c.fold_elements.new.xs in
    let b = c.fold_elements-2.new.xs in
    let long = c.requires.long in
    let rows = c.requires.rows in
    let la = split.front_len in
    let lb : length second ≡ n = omega (arith, split.back_len) in
    let ys = take j first in
    let zs = take j second in
    let ya : length ys ≡ j = length-take-le j first (omega (arith, la)) in
    let yb : length zs ≡ j = length-take-le j second (omega arith) in
    let na : length a ≡ j = omega arith in
    let nb : length b ≡ j = omega arith in
    let all_first : AllElements s first = subst (AllElements s) (sym split.front) (all_take s n work c.requires.checked) in
    let all_second : AllElements s second = subst (AllElements s) (sym split.back) (all_drop s n work c.requires.checked) in
    let all_a = fold_all s laws OfG ch m (length ys / 2) ys a c.fold_elements.ensures in
    let all_b = fold_all s laws OfH ch m (length zs / 2) zs b c.fold_elements-2.ensures in
    record {
      checked = all_append s (a ++ drop j first) (b ++ drop j second)
          (all_append s a (drop j first) all_a (all_drop s j first all_first)) (all_append s b (drop j second) all_b (all_drop s j second all_second));
      g = sym (elements-take s m _) ∙ ap (elements s) (front_is n j first second a b la rows na m (omega arith))
          ∙ fold-elements s laws OfG ch m (length ys / 2) ys a c.fold_elements.ensures ya
          ∙ ap (fold_of s OfG ch) (ap (elements s) (sym (take-append-le j first second (omega (arith, la))) ∙ ap (take j) (sym split.value)) ∙ elements-take s j work);
      h = ap (take m) (sym (elements-drop s n _)) ∙ sym (elements-take s m _) ∙ ap (elements s) (back_is n j first second a b la rows na m (omega arith))
          ∙ fold-elements s laws OfH ch m (length zs / 2) zs b c.fold_elements-2.ensures yb
          ∙ ap (fold_of s OfH ch) (ap (λ x. elements s (take j x)) split.back ∙ elements-take s j (drop n work) ∙ ap (take j) (elements-drop s n work));
    }
