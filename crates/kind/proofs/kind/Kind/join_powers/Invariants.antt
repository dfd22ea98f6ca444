use Rattle.std.proofs.Common.{◌≡◌, length}
use Rattle.protocol.specs.Group.{product}
use Rattle.kind.specs.Kinds.{elements, AllElements}
use Rattle.kind.proofs.kind.Kind.join_powers.Given as goal

abbrev pub invariant-loop-entry : goal.invariant-loop-entry
invariant-loop-entry g l =
    let s = g.Self.Kind.meaning in
    let es = l.entry-iterator.a.rest.now in
    let cs = l.entry-iterator.b.rest.now in
    record {
      checked : AllElements s es;
      long : length cs ≡ length es;
      joined : s.group.join l.total (product s.group (elements s es) cs) ≡ product s.group (elements s l.entries) l.scalars;
    }
