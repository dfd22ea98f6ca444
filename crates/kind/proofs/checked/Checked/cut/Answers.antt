use Rattle.std.proofs.Common.{sym, subst}
use Rattle.kind.specs.Kinds.{AllElements}
use Rattle.kind.proofs.Listed.{all_take, all_drop}
use Rattle.kind.proofs.checked.Checked.cut.Goals as goal

pub invariant_of-result : goal.invariant_of-result
invariant_of-result g c =
    let s = g.K.Kind.meaning in
    record { checked = subst (AllElements s) (sym c.cut.ensures.front) (all_take s c.args.n c.args.self.now.entries.now c.args.self.now.checked) }

pub invariant_of-result-2 : goal.invariant_of-result-2
invariant_of-result-2 g c =
    let s = g.K.Kind.meaning in
    record { checked = subst (AllElements s) (sym c.cut.ensures.back) (all_drop s c.args.n c.args.self.now.entries.now c.args.self.now.checked) }
