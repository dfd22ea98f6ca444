use Rattle.std.proofs.Common.{sym, ap, ◌∙◌, arith}
use Rattle.std.specs.Option.{ok_or}
use Rattle.kind.specs.Residues.{residue_of_some, residue_of_none}
use Rattle.kind.specs.declared.fault.KindFault.TheVariants.{NotAnElement}
use Rattle.kind.proofs.residues.ResidueKind.from_entry.Goals as goal
use Rattle.kind.proofs.residues.ResidueKind.from_entry.Goals.{else-e-gt0-via-then-e-gt0+then-e-lt-MODULUS+else-pow_mod-eq1, else-e-gt0-via-then-e-gt0+else-e-lt-MODULUS, else-e-gt0-via-else-e-gt0}

pub returns-then-pow_mod-eq1 : goal.returns-then-pow_mod-eq1
returns-then-pow_mod-eq1 c = sym (ap (λ o. ok_or o (NotAnElement 0)) (residue_of_some _))

pub returns-else-e-gt0 : goal.returns-else-e-gt0
returns-else-e-gt0 c = sym (ap (λ o. ok_or o (NotAnElement 0)) (residue_of_none c.args.e (λ h. elim c.else-e-gt0.branch [
  | else-e-gt0-via-then-e-gt0+then-e-lt-MODULUS+else-pow_mod-eq1 w ↦ w.if-pow_mod-eq1.false (w.pow_mod.ensures ∙ h.2)
  | else-e-gt0-via-then-e-gt0+else-e-lt-MODULUS w ↦ absurd (omega (arith, w.if-e-lt-MODULUS.false, h.1))
  | else-e-gt0-via-else-e-gt0 w ↦ absurd (omega (arith, w.if-e-gt0.false, h.0))
])))
