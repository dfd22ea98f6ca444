use Rattle.protocol.proofs.Claims.{complete}
use Rattle.protocol.proofs.following_the_rules_passes.Goals as goal

pub returns : goal.returns
returns g c = λ q o laws k cs s. complete laws k cs s
