use Rattle.std.proofs.Common.{refl}
use Rattle.kind.specs.Residues.{residue_path, residue_base}
use Rattle.kind.proofs.residues.ResidueKind.base.Goals as goal

pub invariant_of-result : goal.invariant_of-result
invariant_of-result c = record { ok = residue_base.ok }

pub returns : goal.returns
returns c = residue_path _ _ refl
