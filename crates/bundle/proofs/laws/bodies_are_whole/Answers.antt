use Rattle.bundle.proofs.Rules.{bodies_are_whole}
use Rattle.bundle.proofs.laws.bodies_are_whole.Goals as goal

pub returns : goal.returns
returns c = bodies_are_whole
