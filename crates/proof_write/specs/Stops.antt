-- What is printed where there is no bundle. Assumes nothing.
use Rattle.std.specs.Prelude.{ℕ, List, ◌++◌, codes}
use Rattle.std.specs.Fmt.{decimal}
use Rattle.kind.specs.declared.fault.Refusal.{Refusal}
use Rattle.writer.specs.Faults.{writer_refusal}
use Rattle.proof_write.specs.declared.stop.Stop.{Stop}
use Rattle.proof_write.specs.declared.stop.Stop.TheVariants.{Missing, NotUnderstood, Refused, Memory}

abbrev pub fault_text : Refusal → ℕ → List ℕ
fault_text r group = codes "fault " ++ decimal r.number ++ codes " group " ++ decimal group ++ codes " place " ++ decimal r.place

abbrev pub stop_text : Stop → List ℕ
stop_text (Missing line) = codes "line " ++ decimal line ++ codes ": missing"
stop_text (NotUnderstood line) = codes "line " ++ decimal line ++ codes ": not understood"
stop_text (Refused fault group) = fault_text (writer_refusal fault) group
stop_text (Memory e) = codes "out of memory"
