-- A record reckoned up part by part, as the reader hands the parts out. Assumes nothing.
use Rattle.std.specs.Prelude.{ℕ, ◌+◌, List, [], ◌∷◌, ◌++◌, Ok, Result}
use Rattle.kind.specs.Bytes.{Writing}
use Rattle.kind.specs.Faults.{and_then}
use Rattle.kind.specs.Kinds.{Meaning}
use Rattle.kind.specs.Pairs.{pair_of}
use Rattle.kind.specs.declared.pair.Pair.{Pair}
use Rattle.method.specs.Commitments.{fold_commitments}
use Rattle.record.specs.Fields.{pair_in, round_in, last_in}
use Rattle.record.specs.Folded.{Reckoned}
use Rattle.record.specs.Parts.{Piece, claim, round, last, size_of_claim, size_of_round}
use Rattle.record.specs.declared.fault.RecordFault.{RecordFault}
use Rattle.record.specs.declared.round.Round.{Round}

-- how many bytes a part has
abbrev pub size_of : ℕ → Piece → ℕ
size_of w (claim bs) = size_of_claim w
size_of w (round bs) = size_of_round w
size_of w (last bs) = 8

abbrev pub size_of_all : ℕ → List Piece → ℕ
size_of_all w [] = 0
size_of_all w (p ∷ ps) = size_of w p + size_of_all w ps

-- 1 for a round, else 0
abbrev pub round_only : Piece → ℕ
round_only (claim bs) = 0
round_only (round bs) = 1
round_only (last bs) = 0

abbrev pub rounds_only : List Piece → ℕ
rounds_only [] = 0
rounds_only (p ∷ ps) = round_only p + rounds_only ps

abbrev pub with_claim : {M : Type 0} → Pair M → Reckoned M → Reckoned M
with_claim z r = record { z = z; challenges = r.challenges; last_pair = r.last_pair }

abbrev pub with_round : {M E : Type 0} → Meaning M E → Round M → Reckoned M → Reckoned M
with_round s x r = record {
  z = fold_commitments s x.challenge x.lower r.z x.upper;
  challenges = r.challenges ++ (x.challenge ∷ []);
  last_pair = r.last_pair;
}

abbrev pub with_last : {M : Type 0} → ℕ × ℕ → Reckoned M → Reckoned M
with_last p r = record { z = r.z; challenges = r.challenges; last_pair = p }

abbrev pub nothing : {M E : Type 0} → Meaning M E → Reckoned M
nothing s = record { z = pair_of s.group.unit s.group.unit; challenges = []; last_pair = (0, 0) }

module _ {M E : Type 0} (s : Meaning M E) (w : Writing M) where
  -- one part more, at its place
  abbrev pub taken_in : ℕ → Reckoned M → Piece → Result (Reckoned M) RecordFault
  taken_in place r (claim bs) = and_then (pair_in w s.order place bs) (λ z. Ok (with_claim z r))
  taken_in place r (round bs) = and_then (round_in w s.order place bs) (λ x. Ok (with_round s x r))
  taken_in place r (last bs) = and_then (last_in s.order place bs) (λ p. Ok (with_last p r))

  abbrev pub gathered : ℕ → Reckoned M → List Piece → Result (Reckoned M) RecordFault
  gathered place r [] = Ok r
  gathered place r (p ∷ ps) = and_then (taken_in place r p) (λ t. gathered (place + size_of w.width p) t ps)
