-- What each of the station's faults tells. Assumes nothing.
use Rattle.kind.specs.Faults.{refusal_of}
use Rattle.kind.specs.declared.fault.Layer.TheVariants as layer
use Rattle.kind.specs.declared.fault.Refusal.{Refusal}
use Rattle.method.specs.Faults.{method_refusal}
use Rattle.ledger.specs.declared.fault.StationFault.{StationFault}
use Rattle.ledger.specs.declared.fault.StationFault.TheVariants.{NotCurrent, CaseOpen, TooManyRounds, PageFull, NotAChallenge, Method}

-- number, layer and place of where the fault arose
abbrev pub station_refusal : StationFault → Refusal
station_refusal NotCurrent = refusal_of 1 layer.Station 0
station_refusal CaseOpen = refusal_of 2 layer.Station 0
station_refusal TooManyRounds = refusal_of 3 layer.Station 0
station_refusal PageFull = refusal_of 4 layer.Station 0
station_refusal NotAChallenge = refusal_of 13 layer.Station 0
station_refusal (Method fault place) = method_refusal fault
