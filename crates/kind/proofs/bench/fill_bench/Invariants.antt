use Rattle.std.proofs.Common.{◌≡◌, take}
use Rattle.kind.specs.Bench.{bench_entries}
use Rattle.kind.proofs.bench.fill_bench.Given as goal

abbrev pub invariant-loop-i : goal.invariant-loop-i
invariant-loop-i g l = take l.i l.entries ≡ bench_entries g.K.Kind.meaning l.i
