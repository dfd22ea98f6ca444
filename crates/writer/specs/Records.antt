-- The noted record of two lists of scalars under challenges, by the published rules. Assumes nothing.
use Rattle.std.specs.Prelude.{ℕ, List, [], ◌∷◌, ◌++◌, length, slice_index}
use Rattle.kind.specs.Bytes.{Writing, bytes_of}
use Rattle.kind.specs.Kinds.{Meaning}
use Rattle.kind.specs.declared.pair.Pair.{Pair}
use Rattle.ledger.specs.Ledger.{lower, upper}
use Rattle.ledger.specs.Rules.{Lists, folded, claim_of, message_of}
use Rattle.record.specs.Contents.{Contents}
use Rattle.record.specs.Fields.{round_of}
use Rattle.record.specs.declared.round.Round.{Round}

-- how a record is written: k, the claim, each round, the last pair
module _ {M : Type 0} (w : Writing M) where
  -- L1, L2, R1, R2 and the challenge
  abbrev pub round_written : Round M → List ℕ
  round_written r =
      (((w.bytes r.lower.a ++ w.bytes r.lower.b) ++ w.bytes r.upper.a) ++ w.bytes r.upper.b) ++ bytes_of r.challenge

  -- the rounds and the last pair
  abbrev pub rest_written : List (Round M) → ℕ × ℕ → List ℕ
  rest_written [] p = bytes_of p.0 ++ bytes_of p.1
  rest_written (r ∷ rs) p = round_written r ++ rest_written rs p

  -- the number of rounds and the claim
  abbrev pub front_written : ℕ → Pair M → List ℕ
  front_written k z = ((k ∷ []) ++ w.bytes z.a) ++ w.bytes z.b

  abbrev pub written : Contents M → List ℕ
  written c = front_written (length c.rounds) c.commitments ++ rest_written c.rounds c.last_pair

-- what the lists x come to under challenges, over K
module _ {M E : Type 0} (s : Meaning M E) (key : M) where
  -- each round: the message of the lists as folded so far, and the challenge
  abbrev pub rounds_of : List ℕ → Lists M → List (Round M)
  rounds_of [] x = []
  rounds_of (c ∷ cs) x = round_of (lower (message_of s key x)) (upper (message_of s key x)) c ∷ rounds_of cs (folded s c x)

  -- the a and b that l and r fold to
  abbrev pub last_pair_of : List ℕ → Lists M → ℕ × ℕ
  last_pair_of [] x = (slice_index x.l 0, slice_index x.r 0)
  last_pair_of (c ∷ cs) x = last_pair_of cs (folded s c x)

  abbrev pub proof_of : List ℕ → Lists M → Contents M
  proof_of cs x = record { commitments = claim_of s key x; rounds = rounds_of cs x; last_pair = last_pair_of cs x }

-- the bytes of the record of the lists x under the challenges cs, over K
abbrev pub record_of : {M E : Type 0} → Meaning M E → Writing M → M → List ℕ → Lists M → List ℕ
record_of s w key cs x = written w (proof_of s key cs x)

-- its parts: the number of rounds and the claim; the rounds and the last pair
abbrev pub front_of : {M E : Type 0} → Meaning M E → Writing M → M → ℕ → Lists M → List ℕ
front_of s w key k x = front_written w k (claim_of s key x)

abbrev pub rest_of : {M E : Type 0} → Meaning M E → Writing M → M → List ℕ → Lists M → List ℕ
rest_of s w key cs x = rest_written w (rounds_of s key cs x) (last_pair_of s key cs x)
