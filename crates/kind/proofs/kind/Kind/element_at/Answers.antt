use Rattle.std.proofs.Common.{sym, ap, ◌∙◌}
use Rattle.std.proofs.lemmas.List.{get_or-map}
use Rattle.kind.specs.Kinds.{element_in}
use Rattle.kind.proofs.Listed.{all_at, known}
use Rattle.kind.proofs.kind.Kind.element_at.Goals as goal

pub from_known-requires : goal.from_known-requires
from_known-requires g c =
    let m = g.Self.Kind in
    let e = c.index-entries-i.result in
    (element_in m.meaning e, all_at m.meaning m.laws c.args.entries.now c.args.i e c.requires.checked c.requires.within c.index-entries-i.is)

pub returns : goal.returns
returns g c =
    let m = g.Self.Kind in
    let e = c.index-entries-i.result in
    known m.meaning m.laws e c.from_known.result c.from_known.ensures
    ∙ ap (element_in m.meaning) c.index-entries-i.is
    ∙ sym (get_or-map (element_in m.meaning) c.args.entries.now c.args.i e m.meaning.group.unit c.requires.within)
