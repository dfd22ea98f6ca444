use Rattle.method.proofs.Bits.{highest_bit}
use Rattle.method.proofs.weights.top_bit.Goals as goal

pub returns : goal.returns
returns c = highest_bit c.args.i c.requires
