-- Calls as data, as the ledger's calls. Assumes nothing.
use Rattle.std.specs.Prelude.{ℕ, List, map, min, length, replicate}
use Rattle.kind.specs.Pairs.{pair_of}
use Rattle.ledger.specs.Ledger as ledger
use Rattle.ledger.specs.declared.parts.Answer.{Answer}
use Rattle.ledger.specs.declared.parts.Answer.TheVariants.{Token, Verdict, Withdrawn, Turned, Refused}
use Rattle.station.specs.View.{last_of}
use Rattle.station.specs.declared.call.Call.{Call}
use Rattle.station.specs.declared.call.Call.TheVariants.{Open, Message, Draw, Last, Withdraw, Turn}

-- elements, numbers: how many the work lists of the replay hold
abbrev pub call_of : {M E : Type 0} → ℕ → ℕ → Call M E → ledger.Call M E
call_of elements numbers (Open k z1 z2) = ledger.opening k (pair_of z1 z2)
call_of elements numbers (Message sort t m) = ledger.message sort t m
call_of elements numbers (Draw sort t c) = ledger.draw sort t c
call_of elements numbers (Last sort t p) =
    ledger.last_pair sort t (last_of p.bases.g.now p.bases.h.now p.bases.key p.a p.b (min p.elements elements) (min p.numbers numbers))
call_of elements numbers (Withdraw sort t) = ledger.withdrawal sort t
call_of elements numbers Turn = ledger.page_turn

-- a work list after a call: a verdict leaves it cleared, whole; any other answer leaves it as it was
abbrev pub after_verdict : {A : Type 0} → Answer → A → List A → List A
after_verdict (Token sort t) x xs = xs
after_verdict (Verdict b) x xs = replicate (length xs) x
after_verdict Withdrawn x xs = xs
after_verdict (Turned p) x xs = xs
after_verdict (Refused fault) x xs = xs

abbrev pub work_after : {M E A : Type 0} → Call M E → Answer → A → List A → List A
work_after (Open k z1 z2) answer x xs = xs
work_after (Message sort t m) answer x xs = xs
work_after (Draw sort t c) answer x xs = xs
work_after (Last sort t p) answer x xs = after_verdict answer x xs
work_after (Withdraw sort t) answer x xs = xs
work_after Turn answer x xs = xs

abbrev pub calls_of : {M E : Type 0} → ℕ → ℕ → List (Call M E) → List (ledger.Call M E)
calls_of elements numbers calls = map (call_of elements numbers) calls
