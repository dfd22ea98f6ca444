-- The fields of a record: what stands at a place, or why it is refused there. Assumes nothing.
use Rattle.std.specs.Prelude.{ℕ, ◌+◌, ◌*◌, cond, ◌&&◌, List, take, drop, Ok, Err, Result, nat_lt}
use Rattle.std.specs.Option.{ok_or}
use Rattle.kind.specs.Bytes.{Writing, number_in}
use Rattle.kind.specs.Faults.{and_then, wrapped}
use Rattle.kind.specs.Pairs.{pair_of}
use Rattle.kind.specs.declared.fault.KindFault.TheVariants as kind
use Rattle.kind.specs.declared.pair.Pair.{Pair}
use Rattle.record.specs.declared.round.Round.{Round}
use Rattle.record.specs.declared.fault.RecordFault.{RecordFault}
use Rattle.record.specs.declared.fault.RecordFault.TheVariants.{NotAScalar, NotAChallenge, Kind}

-- a message and its challenge
abbrev pub round_of : {M : Type 0} → Pair M → Pair M → ℕ → Round M
round_of lower upper c = record { lower = lower; upper = upper; challenge = c }

-- a scalar in four bytes: 12 if it is not below q
abbrev pub scalar_in : ℕ → ℕ → List ℕ → Result ℕ RecordFault
scalar_in q place bs = cond (nat_lt (number_in bs) q) (Ok (number_in bs)) (Err (NotAScalar place))

-- a challenge in four bytes: 13 if it is 0 or not below q
abbrev pub challenge_in : ℕ → ℕ → List ℕ → Result ℕ RecordFault
challenge_in q place bs = cond (nat_lt 0 (number_in bs) && nat_lt (number_in bs) q) (Ok (number_in bs)) (Err (NotAChallenge place))

-- the last pair: a, then b
abbrev pub last_in : ℕ → ℕ → List ℕ → Result (ℕ × ℕ) RecordFault
last_in q place bs = and_then (scalar_in q place bs) (λ a. and_then (scalar_in q (place + 4) (drop 4 bs)) (λ b. Ok (a, b)))

module _ {M : Type 0} (w : Writing M) (q : ℕ) where
  -- an element: the kind's 11, with its byte, if the bytes are no element's
  abbrev pub element_in : ℕ → List ℕ → Result M RecordFault
  element_in place bs = wrapped Kind (ok_or (w.read (take w.width bs)) (kind.NotAnElement 0)) place

  -- two elements, one behind the other
  abbrev pub pair_in : ℕ → List ℕ → Result (Pair M) RecordFault
  pair_in place bs =
      and_then (element_in place bs) (λ x.
      and_then (element_in (place + w.width) (drop w.width bs)) (λ y.
      Ok (pair_of x y)))

  -- L1, L2, R1, R2 and the challenge
  abbrev pub round_in : ℕ → List ℕ → Result (Round M) RecordFault
  round_in place bs =
      and_then (pair_in place bs) (λ lower.
      and_then (pair_in (place + 2 * w.width) (drop (2 * w.width) bs)) (λ upper.
      and_then (challenge_in q (place + 4 * w.width) (drop (4 * w.width) bs)) (λ c.
      Ok (round_of lower upper c))))
