-- What each of the bundle's faults tells. Assumes nothing.
use Rattle.kind.specs.Faults.{refusal_of}
use Rattle.kind.specs.declared.fault.Layer.TheVariants as layer
use Rattle.kind.specs.declared.fault.Refusal.{Refusal}
use Rattle.record.specs.Faults.{record_refusal}
use Rattle.bundle.specs.declared.fault.BundleFault.{BundleFault}
use Rattle.bundle.specs.declared.fault.BundleFault.TheVariants.{Directory, Record}

-- number, layer and place of where the fault arose
abbrev pub bundle_refusal : BundleFault → Refusal
bundle_refusal (Directory i) = refusal_of 9 layer.Bundle i
bundle_refusal (Record fault index) = record_refusal fault
