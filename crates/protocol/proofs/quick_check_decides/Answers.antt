use Rattle.protocol.proofs.Quick.{decides}
use Rattle.protocol.proofs.quick_check_decides.Goals as goal

pub returns : goal.returns
returns g c = λ q o laws. decides laws
