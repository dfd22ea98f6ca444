use Rattle.std.proofs.Common.{◌≡◌, ◌+◌, ◌*◌, length, reverse}
use lib.Lanes.{zip2}
use Rattle.protocol.specs.Group.{product}
use Rattle.protocol.specs.Weights.{g_weights}
use Rattle.kind.specs.Kinds.{elements, AllElements}
use Rattle.method.proofs.quick.join_weighted.Given as goal

abbrev pub invariant-loop-entry : goal.invariant-loop-entry
invariant-loop-entry g l =
    let s = g.K.Kind.meaning in
    let es = l.entry-iterator.a.a.rest.now in
    let gs = reverse l.entry-iterator.a.b.iter.rest.now in
    let hs = l.entry-iterator.b.rest.now in
    record {
      checked : AllElements s es;
      long_g : length gs ≡ length es;
      long_h : length hs ≡ length es;
      joined : s.group.join l.total (product s.group (elements s es) (zip2 (λ x y. l.a * x + l.e * y) gs hs))
          ≡ product s.group (elements s l.g.entries.now) (zip2 (λ x y. l.a * x + l.e * y) (g_weights l.ws) l.ws);
    }
