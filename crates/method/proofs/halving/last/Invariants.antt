use Rattle.std.proofs.Common.{◌≡◌, ◌-◌, ◌^◌, ◌≤◌, length, take, drop}
use Rattle.kind.specs.Kinds.{AllElements, elements}
use Rattle.method.specs.Meaning.{reduced}
use Rattle.method.specs.Sides.{folds_of}
use Rattle.method.proofs.halving.last.Given as goal

abbrev pub invariant-loop-c : goal.invariant-loop-c
invariant-loop-c g l =
    let s = g.K.Kind.meaning in
    record {
      checked : AllElements s l.work;
      size : l.m ≡ 2 ^ (length l.rest - l.c-index);
      within : l.m ≤ length l.work;
      folded : folds_of s l.side (drop l.c-index (reduced s l.rest)) (take l.m (elements s l.work)) ≡ folds_of s l.side (reduced s l.cs) (elements s l.src.entries.now);
    }
