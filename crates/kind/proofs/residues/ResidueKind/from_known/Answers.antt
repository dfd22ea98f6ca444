use Rattle.std.proofs.Common.{subst}
use Rattle.kind.specs.Constants.{InSubgroup}
use Rattle.kind.proofs.residues.ResidueKind.from_known.Goals as goal

pub invariant_of-result : goal.invariant_of-result
invariant_of-result c = record { ok = subst InSubgroup c.requires.1 c.requires.0.ok }
