use Rattle.protocol.proofs.Weights.{multiplies_out}
use Rattle.protocol.proofs.weights_multiply_out.Goals as goal

pub returns : goal.returns
returns g c = λ q o laws. multiplies_out laws
