use Rattle.ledger.proofs.Play.{goes_through}
use Rattle.ledger.proofs.promise.a_case_by_the_rules_goes_through.Goals as goal

pub returns : goal.returns
returns g c = λ kind laws l none room x key cs elements numbers ok re rn. goes_through kind laws l none room x key cs elements numbers ok re rn
