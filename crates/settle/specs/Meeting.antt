-- The two ends meet: what a writer writes, a station reads and passes. Assumes nothing.
use Rattle.std.specs.Prelude.{◌≡◌, ℕ, ◌<◌, ◌≤◌, Bool, true, List, length, Ok, Result}
use Rattle.kind.specs.Bytes.{Writing}
use Rattle.kind.specs.Faults.{and_then}
use Rattle.kind.specs.Kinds.{Meaning}
use Rattle.ledger.specs.Script.{Challenges}
use Rattle.writer.specs.Whole.{whole_refused}
use Rattle.writer.specs.Records.{written, record_of}
use Rattle.record.specs.Answers.{record_answer}
use Rattle.record.specs.Contents.{Contents, contents_in}
use Rattle.record.specs.Folded.{challenges_of}
use Rattle.record.specs.declared.fault.RecordFault.{RecordFault}
use Rattle.writer.specs.Answers.{lists_of}
use Rattle.writer.specs.declared.fault.WriterFault.{WriterFault}

-- what a record can hold: at most eight rounds, challenges from 1 to q - 1, and a last pair below q
pub record Writable {M : Type 0} (q : ℕ) (c : Contents M) : Type 0 where
  pub few : length c.rounds ≤ 8
  pub challenges : Challenges q (challenges_of c.rounds)
  pub a_below : c.last_pair.0 < q
  pub b_below : c.last_pair.1 < q

-- What is written is read back, whole.
abbrev pub ReadsBack : {M E : Type 0} → Meaning M E → Writing M → Type 0
ReadsBack {M} s w = (c : Contents M) → Writable s.order c → contents_in w s.order (written w c) ≡ Ok c

-- The record of lists and challenges that the whole-proof call does not refuse is passed by the record call over the same bases,
-- with work lists as long as they.
abbrev pub WrittenPasses : {M E : Type 0} → Meaning M E → Writing M → Type 0
WrittenPasses {M} {E} s w =
    (gs hs : List E) (key : M) (l r cs : List ℕ) (out we wn : ℕ) → whole_refused s w.width gs hs l r cs out we wn ≡ Ok tt
    → (elements numbers : ℕ) → length gs ≤ elements → length gs ≤ numbers
    → record_answer s w (record_of s w key cs (lists_of s gs hs l r)) gs hs key elements numbers ≡ Ok true

-- the whole-proof call's refusal, else the record call's pass
abbrev pub passes_unless_refused : {M E : Type 0} → Meaning M E → ℕ → List E → List E → List ℕ → List ℕ → List ℕ → ℕ → ℕ → ℕ → Result (Result Bool RecordFault) WriterFault
passes_unless_refused s w gs hs l r cs out we wn = and_then (whole_refused s w gs hs l r cs out we wn) (λ _. Ok (Ok true))
