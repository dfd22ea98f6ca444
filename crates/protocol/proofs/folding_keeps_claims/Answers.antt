use Rattle.protocol.proofs.Claims.{keeps}
use Rattle.protocol.proofs.folding_keeps_claims.Goals as goal

pub returns : goal.returns
returns g c = λ q o laws k ch m s. keeps laws k ch m s
