use Rattle.std.proofs.Common.{◌≡◌, map, take}
use Rattle.kind.specs.Kinds.{elements}
use Rattle.kind.specs.Sides.{fold_of}
use Rattle.kind.proofs.folds.fold_into.Given as goal

abbrev pub invariant-loop-i : goal.invariant-loop-i
invariant-loop-i g l =
    let s = g.K.Kind.meaning in
    take l.i l.out ≡ map s.entry (take l.i (fold_of s l.side l.c (elements s l.src.entries.now)))
