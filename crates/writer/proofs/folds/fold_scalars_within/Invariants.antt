use Rattle.std.proofs.Common.{◌≡◌, ◌+◌, ◌++◌, take, drop}
use Rattle.writer.specs.Folds.{folds_scalars}
use Rattle.writer.proofs.folds.fold_scalars_within.Given as goal

abbrev pub invariant-loop-i : goal.invariant-loop-i
invariant-loop-i g l =
    l.first ≡ take l.i (folds_scalars g.K.Kind.meaning.order l.side l.c (take (l.m + l.m) l.fn.xs)) ++ drop l.i l.initial.first
