use Rattle.protocol.proofs.Weights.{table, table_weights}
use Rattle.protocol.proofs.weights_exist.Goals as goal

pub returns : goal.returns
returns c = λ q cs. (table q cs, table_weights q cs)
