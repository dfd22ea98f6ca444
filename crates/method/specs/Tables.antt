-- Challenge tables by their challenges, and what making one answers. Assumes nothing.
use Rattle.std.specs.Prelude.{ℕ, List, [], ◌∷◌, length, take, Ok, Err, Result, nat_le}
use Rattle.kind.specs.Faults.{and_then, first_of, unless, first_bad}
use Rattle.method.specs.Entries.{outside}
use Rattle.method.specs.declared.fault.MethodFault.{MethodFault}
use Rattle.method.specs.declared.fault.MethodFault.TheVariants.{TooManyRounds, NotAChallenge}
use Rattle.method.specs.declared.table.ChallengeTable.{ChallengeTable}

-- the challenges of a table, the first round's first
abbrev pub challenges : ChallengeTable → List ℕ
challenges t = take t.len t.entries

-- a made table, by its challenges
abbrev pub listed : Result ChallengeTable MethodFault → Result (List ℕ) MethodFault
listed (Ok t) = Ok (challenges t)
listed (Err e) = Err e

-- a table of the given challenges: 3 for a ninth, then 13 at the first that is out of range
abbrev pub table_answer : List ℕ → Result (List ℕ) MethodFault
table_answer cs =
    and_then (first_of (unless (nat_le (length cs) 8) TooManyRounds ∷ first_bad outside NotAChallenge 0 cs ∷ [])) (λ _. Ok cs)
