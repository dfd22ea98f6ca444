use Rattle.std.proofs.Common.{◌≡◌, take, replicate}
use Rattle.kind.proofs.entries.clear_entries.Given as goal

abbrev pub invariant-loop-x : goal.invariant-loop-x
invariant-loop-x g l = take l.x-index l.entries ≡ replicate l.x-index l.e
