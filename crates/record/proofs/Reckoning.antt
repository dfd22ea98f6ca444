-- Reckoning a record up part by part is reading it and then folding. Assumes nothing.
use Rattle.std.proofs.Common.{◌≡◌, ℕ, zero, suc, ◌+◌, List, [], ◌∷◌, ◌++◌, take, drop, Ok, Err, Result, sym, refl, ap, ◌∙◌, append_assoc, append-nil}
use Rattle.kind.specs.Bytes.{Writing}
use Rattle.kind.specs.Faults.{and_then}
use Rattle.kind.specs.Kinds.{Meaning}
use Rattle.kind.specs.declared.pair.Pair.{Pair}
use Rattle.record.specs.Contents.{rest_in, body_in}
use Rattle.record.specs.Fields.{pair_in, round_in, last_in}
use Rattle.record.specs.Folded.{Reckoned, challenges_of, folded_by, reckoned}
use Rattle.record.specs.Noting.{with_claim, with_round, with_last, nothing, gathered}
use Rattle.record.specs.Parts.{size_of_claim, size_of_round, round_pieces, pieces_in, rounds_in}
use Rattle.record.specs.declared.fault.RecordFault.{RecordFault}
use Rattle.record.specs.declared.round.Round.{Round}

module _ {M E : Type 0} (s : Meaning M E) (w : Writing M) where
  -- rounds and last pair after what is reckoned already
  abbrev finished : Reckoned M → List (Round M) × (ℕ × ℕ) → Reckoned M
  finished r rest = record {
    z = folded_by s r.z rest.0;
    challenges = r.challenges ++ challenges_of rest.0;
    last_pair = rest.1;
  }

  finished_last : (r : Reckoned M) (p : ℕ × ℕ) → with_last p r ≡ finished r ([], p)
  finished_last r p = λ i. record { z = r.z; challenges = sym (append-nil r.challenges) i; last_pair = p }

  finished_round : (r : Reckoned M) (x : Round M) (rest : List (Round M) × (ℕ × ℕ)) → finished (with_round s x r) rest ≡ finished r (x ∷ rest.0, rest.1)
  finished_round r x rest = λ i. record {
    z = folded_by s (with_round s x r).z rest.0;
    challenges = append_assoc r.challenges (x.challenge ∷ []) (challenges_of rest.0) i;
    last_pair = rest.1;
  }

  after_last : (r : Reckoned M) (a : Result (ℕ × ℕ) RecordFault)
      → and_then (and_then a (λ p. Ok (with_last p r))) (λ t. Ok t) ≡ and_then (and_then a (λ p. Ok ([], p))) (λ rest. Ok (finished r rest))
  after_last r (Ok p) = ap Ok (finished_last r p)
  after_last r (Err f) = refl

  after_round : (r : Reckoned M) (x : Round M) (a : Result (List (Round M) × (ℕ × ℕ)) RecordFault)
      → and_then a (λ rest. Ok (finished (with_round s x r) rest)) ≡ and_then (and_then a (λ rest. Ok (x ∷ rest.0, rest.1))) (λ rest. Ok (finished r rest))
  after_round r x (Ok rest) = ap Ok (finished_round r x rest)
  after_round r x (Err f) = refl

  rounds_gathered : (k place : ℕ) (r : Reckoned M) (bs : List ℕ)
      → gathered s w place r (round_pieces (size_of_round w.width) k bs) ≡ and_then (rest_in w s.order place k bs) (λ rest. Ok (finished r rest))
  rounds_gathered zero place r bs = after_last r (last_in s.order place (take 8 bs))
  rounds_gathered (suc k) place r bs = go (round_in w s.order place (take size bs)) (λ t. rounds_gathered k (place + size) t (drop size bs))
    where
      size : ℕ
      size = size_of_round w.width

      go : (a : Result (Round M) RecordFault)
          → ((t : Reckoned M) → gathered s w (place + size) t (round_pieces size k (drop size bs)) ≡ and_then (rest_in w s.order (place + size) k (drop size bs)) (λ rest. Ok (finished t rest)))
          → and_then (and_then a (λ x. Ok (with_round s x r))) (λ t. gathered s w (place + size) t (round_pieces size k (drop size bs)))
          ≡ and_then (and_then a (λ x. and_then (rest_in w s.order (place + size) k (drop size bs)) (λ rest. Ok (x ∷ rest.0, rest.1)))) (λ rest. Ok (finished r rest))
      go (Err f) later = refl
      go (Ok x) later = later (with_round s x r) ∙ after_round r x (rest_in w s.order (place + size) k (drop size bs))

  -- a whole record
  pub whole_gathered : (bs : List ℕ)
      → gathered s w 1 (nothing s) (pieces_in w.width bs) ≡ and_then (body_in w s.order (rounds_in bs) bs) (λ c. Ok (reckoned s c))
  whole_gathered bs = go (pair_in w s.order 1 (take (size_of_claim w.width) (drop 1 bs)))
    where
      rest : List ℕ
      rest = drop (size_of_claim w.width) (drop 1 bs)

      end : (z : Pair M) (a : Result (List (Round M) × (ℕ × ℕ)) RecordFault)
          → and_then a (λ x. Ok (finished (with_claim z (nothing s)) x)) ≡ and_then (and_then a (λ x. Ok (record { commitments = z; rounds = x.0; last_pair = x.1 }))) (λ c. Ok (reckoned s c))
      end z (Ok x) = refl
      end z (Err f) = refl

      go : (a : Result (Pair M) RecordFault)
          → and_then (and_then a (λ z. Ok (with_claim z (nothing s)))) (λ t. gathered s w (1 + size_of_claim w.width) t (round_pieces (size_of_round w.width) (rounds_in bs) rest))
          ≡ and_then (and_then a (λ z. and_then (rest_in w s.order (1 + size_of_claim w.width) (rounds_in bs) rest) (λ x. Ok (record { commitments = z; rounds = x.0; last_pair = x.1 })))) (λ c. Ok (reckoned s c))
      go (Err f) = refl
      go (Ok z) =
          rounds_gathered (rounds_in bs) (1 + size_of_claim w.width) (with_claim z (nothing s)) rest
          ∙ end z (rest_in w s.order (1 + size_of_claim w.width) (rounds_in bs) rest)
