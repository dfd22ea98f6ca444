use Rattle.std.proofs.Common.{◌≡◌, ◌+◌, ◌++◌, take, drop}
use Rattle.kind.specs.Kinds.{AllElements, elements}
use Rattle.kind.specs.Sides.{fold_of}
use Rattle.kind.proofs.kind.Kind.fold_within.Given as goal

abbrev pub invariant-loop-i : goal.invariant-loop-i
invariant-loop-i g l =
    let s = g.Self.Kind.meaning in
    record {
      checked : AllElements s l.first;
      folded : elements s l.first ≡ take l.i (fold_of s l.side l.c (take (l.m + l.m) (elements s l.fn.work))) ++ drop l.i (elements s l.initial.first);
    }
