-- What calls answer, by the numbers of elements and of refusals. Assumes nothing.
use Rattle.std.specs.Prelude.{ℕ, Ok, Err, Result}
use Rattle.kind.specs.declared.fault.Refusal.{Refusal}
use Rattle.kind.specs.declared.pair.Pair.{Pair}
use Rattle.ledger.specs.declared.parts.Message.{Message}

module _ {M : Type 0} (number : M → ℕ) where
  -- Z1 and Z2 of a claim
  abbrev pub claim_numbers : {F : Type 0} → Result (M × M) F → Result (ℕ × ℕ) F
  claim_numbers (Ok z) = Ok (number z.0, number z.1)
  claim_numbers (Err f) = Err f

  -- L1, L2, R1 and R2 of a message
  abbrev pub message_numbers : {F : Type 0} → Result (Message M) F → Result (ℕ × ℕ × ℕ × ℕ) F
  message_numbers (Ok m) = Ok (number m.l1, number m.l2, number m.r1, number m.r2)
  message_numbers (Err f) = Err f

  -- the two of a pair
  abbrev pub pair_numbers : Pair M → ℕ × ℕ
  pair_numbers z = (number z.a, number z.b)

-- a fault as its number, layer and place
abbrev pub told : {T F : Type 0} → (F → Refusal) → Result T F → Result T Refusal
told refusal (Ok x) = Ok x
told refusal (Err f) = Err (refusal f)
