use Rattle.std.proofs.Common.{refl}
use Rattle.kind.specs.Residues.{residue_path, residue_unit}
use Rattle.kind.proofs.residues.ResidueKind.unit.Goals as goal

pub invariant_of-result : goal.invariant_of-result
invariant_of-result c = record { ok = residue_unit.ok }

pub returns : goal.returns
returns c = residue_path _ _ refl
