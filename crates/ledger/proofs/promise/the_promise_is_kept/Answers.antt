use Rattle.std.proofs.Common.{refl}
use Rattle.ledger.proofs.Walk.{promised}
use Rattle.ledger.proofs.promise.the_promise_is_kept.Goals as goal

pub returns : goal.returns
returns g c = λ kind laws start calls. promised laws start calls _ refl
