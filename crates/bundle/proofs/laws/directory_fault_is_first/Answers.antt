use Rattle.bundle.proofs.Rules.{fault_is_first}
use Rattle.bundle.proofs.laws.directory_fault_is_first.Goals as goal

pub returns : goal.returns
returns c = fault_is_first
