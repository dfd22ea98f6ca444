-- What a record comes to: its commitments folded by its rounds, and its challenges. Assumes nothing.
use Rattle.std.specs.Prelude.{ℕ, List, [], ◌∷◌, map, Ok, Err, Result}
use Rattle.kind.specs.Bytes.{Writing}
use Rattle.kind.specs.Faults.{and_then}
use Rattle.kind.specs.Kinds.{Meaning}
use Rattle.kind.specs.declared.pair.Pair.{Pair}
use Rattle.method.specs.Commitments.{fold_commitments}
use Rattle.method.specs.Tables.{challenges}
use Rattle.record.specs.Contents.{Contents, contents_in}
use Rattle.record.specs.declared.fault.RecordFault.{RecordFault}
use Rattle.record.specs.declared.round.Round.{Round}
use Rattle.record.specs.declared.noted.Noted.{Noted}

abbrev pub challenge_of : {M : Type 0} → Round M → ℕ
challenge_of r = r.challenge

-- the record's challenges, the first round's first
abbrev pub challenges_of : {M : Type 0} → List (Round M) → List ℕ
challenges_of rounds = map challenge_of rounds

-- Z1 and Z2 folded round by round
abbrev pub folded_by : {M E : Type 0} → Meaning M E → Pair M → List (Round M) → Pair M
folded_by s z [] = z
folded_by s z (r ∷ rs) = folded_by s (fold_commitments s r.challenge r.lower z r.upper) rs

-- folded commitments, challenges and last pair
pub record Reckoned (M : Type 0) : Type 0 where
  pub z : Pair M
  pub challenges : List ℕ
  pub last_pair : ℕ × ℕ

abbrev pub reckoned : {M E : Type 0} → Meaning M E → Contents M → Reckoned M
reckoned s c = record {
  z = folded_by s c.commitments c.rounds;
  challenges = challenges_of c.rounds;
  last_pair = c.last_pair;
}

-- the same of what the code notes down
abbrev pub seen : {M : Type 0} → Noted M → Reckoned M
seen n = record { z = n.z; challenges = challenges n.table; last_pair = (n.a, n.b) }

abbrev pub seen_in : {M F : Type 0} → Result (Noted M) F → Result (Reckoned M) F
seen_in (Ok n) = Ok (seen n)
seen_in (Err f) = Err f

-- what a whole record comes to, or its first fault
abbrev pub reckoned_in : {M E : Type 0} → Meaning M E → Writing M → List ℕ → Result (Reckoned M) RecordFault
reckoned_in s w bs = and_then (contents_in w s.order bs) (λ c. Ok (reckoned s c))
