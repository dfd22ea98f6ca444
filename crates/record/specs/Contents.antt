-- What a record says, read field by field, or the first fault in it. Assumes nothing.
use Rattle.std.specs.Prelude.{ℕ, zero, suc, ◌+◌, List, [], ◌∷◌, length, take, drop, Ok, Result, ◌==◌, nat_le, nat_lt}
use Rattle.kind.specs.Bytes.{Writing}
use Rattle.kind.specs.Faults.{and_then, first_of, unless}
use Rattle.kind.specs.declared.pair.Pair.{Pair}
use Rattle.record.specs.Fields.{pair_in, round_in, last_in}
use Rattle.record.specs.declared.round.Round.{Round}
use Rattle.record.specs.Parts.{size_of_claim, size_of_round, record_length, rounds_in}
use Rattle.record.specs.declared.fault.RecordFault.{RecordFault}
use Rattle.record.specs.declared.fault.RecordFault.TheVariants.{TooManyRounds, Length}

pub record Contents (M : Type 0) : Type 0 where
  pub commitments : Pair M
  pub rounds : List (Round M)
  pub last_pair : ℕ × ℕ

-- 10 if empty, 3 if k is above 8, 10 if the length does not fit k; else k
abbrev pub shape_in : ℕ → List ℕ → Result ℕ RecordFault
shape_in width bs =
    and_then (first_of (
    unless (nat_lt 0 (length bs)) (Length 0)
    ∷ unless (nat_le (rounds_in bs) 8) TooManyRounds
    ∷ unless (length bs == record_length width (rounds_in bs)) (Length (length bs))
    ∷ []
    )) (λ _. Ok (rounds_in bs))

module _ {M : Type 0} (w : Writing M) (q : ℕ) where
  -- k rounds and the last pair, from a place on
  abbrev pub rest_in : ℕ → ℕ → List ℕ → Result (List (Round M) × (ℕ × ℕ)) RecordFault
  rest_in place zero bs = and_then (last_in q place (take 8 bs)) (λ pair. Ok ([], pair))
  rest_in place (suc k) bs =
      and_then (round_in w q place (take (size_of_round w.width) bs)) (λ round.
      and_then (rest_in (place + size_of_round w.width) k (drop (size_of_round w.width) bs)) (λ rest.
      Ok (round ∷ rest.0, rest.1)))

  -- the claim at byte 1, the rounds and the last pair behind it
  abbrev pub body_in : ℕ → List ℕ → Result (Contents M) RecordFault
  body_in k bs =
      and_then (pair_in w q 1 (take (size_of_claim w.width) (drop 1 bs))) (λ z.
      and_then (rest_in (1 + size_of_claim w.width) k (drop (size_of_claim w.width) (drop 1 bs))) (λ rest.
      Ok (record { commitments = z; rounds = rest.0; last_pair = rest.1 })))

  -- a whole record
  abbrev pub contents_in : List ℕ → Result (Contents M) RecordFault
  contents_in bs = and_then (shape_in w.width bs) (λ k. body_in k bs)
