-- What each of the writer's faults tells. Assumes nothing.
use Rattle.kind.specs.Faults.{refusal_of, kind_refusal}
use Rattle.kind.specs.declared.fault.Layer.TheVariants as layer
use Rattle.kind.specs.declared.fault.Refusal.{Refusal}
use Rattle.writer.specs.declared.fault.WriterFault.{WriterFault}
use Rattle.writer.specs.declared.fault.WriterFault.TheVariants.{Size, Length, LengthOne, Room, NotAScalar, NotAChallenge, Kind}

-- number, layer and place of where the fault arose
abbrev pub writer_refusal : WriterFault → Refusal
writer_refusal (Size n) = refusal_of 5 layer.Writer n
writer_refusal (Length n) = refusal_of 6 layer.Writer n
writer_refusal LengthOne = refusal_of 7 layer.Writer 0
writer_refusal (Room n) = refusal_of 8 layer.Writer n
writer_refusal (NotAScalar i) = refusal_of 12 layer.Writer i
writer_refusal (NotAChallenge i) = refusal_of 13 layer.Writer i
writer_refusal (Kind fault place) = kind_refusal fault
