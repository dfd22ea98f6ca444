use Rattle.std.proofs.Common.{◌≡◌, ◌+◌, ◌%◌, ◌<◌, length}
use Rattle.protocol.specs.Halving.{dot}
use Rattle.writer.proofs.commitments.inner_product.Given as goal

abbrev pub invariant-loop-x : goal.invariant-loop-x
invariant-loop-x g l =
    let q = g.K.Kind.meaning.order in
    let xs = l.x-iterator.a.rest.now in
    let ys = l.x-iterator.b.rest.now in
    record {
      small : l.total < q;
      long : length ys ≡ length xs;
      summed : (l.total + dot xs ys) % q ≡ dot l.l l.r % q;
    }
