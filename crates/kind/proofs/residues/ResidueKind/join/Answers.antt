use Rattle.std.proofs.Common.{sym, subst}
use Rattle.kind.specs.Constants.{InSubgroup}
use Rattle.kind.specs.Residues.{residue_path, residue_product}
use Rattle.kind.proofs.residues.ResidueKind.join.Goals as goal

pub invariant_of-result : goal.invariant_of-result
invariant_of-result c = record { ok = subst InSubgroup (sym c.mul_mod.ensures) (residue_product c.args.self c.args.other).ok }

pub returns : goal.returns
returns c = residue_path _ _ c.mul_mod.ensures
