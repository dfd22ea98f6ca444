use Rattle.std.proofs.Common.{◌≡◌, length}
use Rattle.bundle.specs.Layout.{to_come, pairs_refusal, all_pairs_refusal}
use Rattle.bundle.proofs.pairs.check_pairs.Given as goal

abbrev pub invariant-loop-next : goal.invariant-loop-next
invariant-loop-next l = pairs_refusal l.pairs.index l.from (length l.file) (to_come l.pairs) ≡ all_pairs_refusal l.file

abbrev pub decreases-loop-next : goal.decreases-loop-next
decreases-loop-next l = length (to_come l.pairs)
