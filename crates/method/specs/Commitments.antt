-- The fold of both commitments. Assumes nothing.
use Rattle.std.specs.Prelude.{ℕ}
use Rattle.protocol.specs.Halving.{fold_commitment}
use Rattle.kind.specs.Kinds.{Meaning}
use Rattle.kind.specs.Pairs.{pair_of}
use Rattle.kind.specs.declared.pair.Pair.{Pair}

-- Z1 and Z2 folded by c, each with its part of the message: lower holds L1 and L2, upper R1 and R2
abbrev pub fold_commitments : {M E : Type 0} → Meaning M E → ℕ → Pair M → Pair M → Pair M → Pair M
fold_commitments s c lower z upper =
    pair_of (fold_commitment s.order s.group c lower.a z.a upper.a) (fold_commitment s.order s.group c lower.b z.b upper.b)
