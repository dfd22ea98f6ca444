use Rattle.std.proofs.Common.{[], ◌∷◌, ◌++◌, subst, ap₂}
use Rattle.writer.specs.Laying.{Laid}
use Rattle.writer.proofs.Laid.{next}
use Rattle.writer.proofs.whole.put_front.Goals as goal

pub returns : goal.returns
returns g c =
    let bytes = g.K.WrittenKind.writing.bytes in
    let e = ap₂ (λ a b. ((c.args.k ∷ []) ++ bytes a) ++ bytes b) c.join_powers-z1.ensures c.commit_second-z2.ensures in
    subst (λ l. Laid 0 l c.args.out.now c.put_element.new.out c.put_element.result) e
    (next (next c.put_byte-first.ensures c.put_element-second.ensures) c.put_element.ensures)
