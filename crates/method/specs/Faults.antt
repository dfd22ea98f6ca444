-- What each of the method's faults tells. Assumes nothing.
use Rattle.kind.specs.Faults.{refusal_of, kind_refusal}
use Rattle.kind.specs.declared.fault.Layer.TheVariants as layer
use Rattle.kind.specs.declared.fault.Refusal.{Refusal}
use Rattle.method.specs.declared.fault.MethodFault.{MethodFault}
use Rattle.method.specs.declared.fault.MethodFault.TheVariants.{TooManyRounds, Size, Length, Room, NotAScalar, NotAChallenge, Kind}

-- number, layer and place of where the fault arose
abbrev pub method_refusal : MethodFault → Refusal
method_refusal TooManyRounds = refusal_of 3 layer.Method 0
method_refusal (Size n) = refusal_of 5 layer.Method n
method_refusal (Length n) = refusal_of 6 layer.Method n
method_refusal (Room n) = refusal_of 8 layer.Method n
method_refusal (NotAScalar i) = refusal_of 12 layer.Method i
method_refusal (NotAChallenge i) = refusal_of 13 layer.Method i
method_refusal (Kind fault place) = kind_refusal fault
