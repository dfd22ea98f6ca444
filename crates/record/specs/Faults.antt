-- What each of the record's faults tells. Assumes nothing.
use Rattle.std.specs.Prelude.{ℕ}
use Rattle.kind.specs.Faults.{refusal_of, kind_refusal}
use Rattle.kind.specs.declared.fault.Layer.TheVariants as layer
use Rattle.kind.specs.declared.fault.Refusal.{Refusal}
use Rattle.method.specs.Faults.{method_refusal}
use Rattle.record.specs.declared.fault.RecordFault.{RecordFault}
use Rattle.record.specs.declared.fault.RecordFault.TheVariants.{TooManyRounds, Length, NotAScalar, NotAChallenge, Kind, Method}

-- number, layer and place of where the fault arose
abbrev pub record_refusal : RecordFault → Refusal
record_refusal TooManyRounds = refusal_of 3 layer.Record 0
record_refusal (Length n) = refusal_of 10 layer.Record n
record_refusal (NotAScalar byte) = refusal_of 12 layer.Record byte
record_refusal (NotAChallenge byte) = refusal_of 13 layer.Record byte
record_refusal (Kind fault byte) = kind_refusal fault
record_refusal (Method fault place) = method_refusal fault

-- the record's own place: the one that it added to a lower fault, or the fault's
abbrev pub own_place : RecordFault → ℕ
own_place TooManyRounds = 0
own_place (Length n) = n
own_place (NotAScalar byte) = byte
own_place (NotAChallenge byte) = byte
own_place (Kind fault byte) = byte
own_place (Method fault place) = place
