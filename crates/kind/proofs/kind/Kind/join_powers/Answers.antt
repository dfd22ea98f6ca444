use Rattle.std.proofs.Common.{◌≡◌, ◌∙◌, length, inl, inr, sym}
use Rattle.kind.specs.Kinds.{elements}
use Rattle.kind.proofs.Joins.{join_end}
use Rattle.kind.proofs.Listed.{length-elements}
use Rattle.kind.proofs.kind.Kind.join_powers.Goals as goal

pub returns : goal.returns
returns g c =
    let s = g.Self.Kind.meaning in
    let es = c.loop-entry.entry-iterator.a.rest.now in
    let none : length es ≡ 0 = elim c.in-None.ensures.steps [
      | inl p ↦ p.1.0
      | inr p ↦ sym c.loop-entry.invariant.long ∙ p.1.0
    ] in
    join_end s.group g.Self.Kind.laws.group (elements s es) c.loop-entry.entry-iterator.b.rest.now c.loop-entry.total _
    (length-elements s es ∙ none) c.loop-entry.invariant.joined
