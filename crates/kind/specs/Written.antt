-- Both number kinds are well written. Assumes nothing.
use Rattle.std.specs.Prelude.{◌<◌, refl}
use Rattle.std.proofs.Common.{arith, lit≤}
use Rattle.kind.specs.Bytes.{WellWritten, clear_writing, residue_writing}
use Rattle.kind.specs.Clears.{clear_of, clear_of_some, clear_of_only, clear_number}
use Rattle.kind.specs.Residues.{residue_of, residue_of_some, residue_of_only, residue_number}
use Rattle.kind.specs.Writes.{reads_again, reads_only}
use Rattle.kind.specs.declared.clear.Clear.{Clear}
use Rattle.kind.specs.declared.residue.Residue.{Residue}

clear_fits : (x : Clear) → clear_number x < 4294967296
clear_fits x = omega arith

residue_fits : (x : Residue) → residue_number x < 4294967296
residue_fits x = omega arith

pub clear_written : WellWritten clear_writing
clear_written = record {
  some = lit≤ tt;
  few = lit≤ tt;
  filled = λ x. refl;
  again = reads_again clear_of clear_number clear_fits clear_of_some clear_of_only;
  only = reads_only clear_of clear_number clear_fits clear_of_some clear_of_only;
}

pub residue_written : WellWritten residue_writing
residue_written = record {
  some = lit≤ tt;
  few = lit≤ tt;
  filled = λ x. refl;
  again = reads_again residue_of residue_number residue_fits residue_of_some residue_of_only;
  only = reads_only residue_of residue_number residue_fits residue_of_some residue_of_only;
}
