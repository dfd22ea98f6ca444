-- The worked examples over the bench lists, as equations with the definitions that contracts cite. Assumes nothing.
use Rattle.std.specs.Prelude.{◌≡◌, ℕ, true, false, List, [], ◌∷◌, map, replicate, is_some, Ok, Err, Result}
use Rattle.std.proofs.Common.{lit<}
use Rattle.protocol.specs.Weights.{HWeights, g_weights}
use Rattle.kind.specs.Bench.{bench_entries}
use Rattle.kind.specs.Clears.{clear, clear_meaning, clear_number}
use Rattle.kind.specs.Constants.{order}
use Rattle.kind.specs.Faults.{refusal_of}
use Rattle.kind.specs.Kinds.{unit_entry}
use Rattle.kind.specs.Pairs.{pair_of}
use Rattle.kind.specs.Residues.{residue_meaning, residue_number}
use Rattle.kind.specs.declared.clear.Clear.{Clear}
use Rattle.kind.specs.declared.fault.Layer.TheVariants as layer
use Rattle.kind.specs.declared.pair.Pair.{Pair}
use Rattle.method.specs.Commitments.{fold_commitments}
use Rattle.method.specs.Faults.{method_refusal}
use Rattle.method.specs.Meaning.{reduced, method_refused, method_answer}
use Rattle.method.specs.QuickCheck.{quick_answer}
use Rattle.ledger.specs.Faults.{station_refusal}
use Rattle.ledger.specs.Ledger.{Ledger, opening, message, draw, fresh, step, final}
use Rattle.ledger.specs.Rules.{Lists, folded}
use Rattle.ledger.specs.declared.fault.StationFault.TheVariants.{NotAChallenge}
use Rattle.ledger.specs.declared.parts.Answer.{Answer}
use Rattle.ledger.specs.declared.parts.Answer.TheVariants.{Token, Refused}
use Rattle.ledger.specs.declared.parts.Message.{Message}
use Rattle.ledger.specs.declared.parts.Numbers.{Numbers}
use Rattle.ledger.specs.declared.parts.Sort.TheVariants.{Waiting, Heard, Closing}
use Rattle.writer.specs.Answers.{claim_answer, message_answer, lists_of, halved}
use Rattle.writer.specs.Faults.{writer_refusal}
use Rattle.writer.specs.Refusals.{claim_refused, fold_refused, challenges_refusal}
use Rattle.writer.specs.declared.fault.WriterFault.{WriterFault}
use Rattle.worked.specs.Numbers.{claim_numbers, message_numbers, pair_numbers, told}

-- the bench lists of clear numbers, for G and for H
abbrev pub bench : ℕ → List ℕ
bench n = bench_entries clear_meaning n

-- l = (3, 5), r = (7, 11), and all four lists
abbrev pub l : List ℕ
l = 3 ∷ 5 ∷ []

abbrev pub r : List ℕ
r = 7 ∷ 11 ∷ []

abbrev pub lists : Lists Clear
lists = lists_of clear_meaning (bench 2) (bench 2) l r

-- the fold of the four lists by 2, as answered
abbrev pub fold : Result Unit WriterFault
fold = fold_refused clear_meaning (bench 2) (bench 2) l r 2

-- the claim of the four lists, its message, and the claim folded by 2
abbrev pub claim : Pair Clear
claim = pair_of (clear 21 (lit< tt)) (clear 123 (lit< tt))

abbrev pub lower : Pair Clear
lower = pair_of (clear 10 (lit< tt)) (clear 56 (lit< tt))

abbrev pub upper : Pair Clear
upper = pair_of (clear 9 (lit< tt)) (clear 55 (lit< tt))

abbrev pub claim_folded : Pair Clear
claim_folded = pair_of (clear 91 (lit< tt)) (clear 525 (lit< tt))

-- a station's case of one round, which waits for its draw; and the answer to the draw c with the current token
abbrev pub numbers : Numbers
numbers = record { station = 1; case = 1; rounds = 0 }

abbrev pub sent : Message Clear
sent = record { l1 = lower.a; l2 = lower.b; r1 = upper.a; r2 = upper.b }

abbrev pub ledger : Ledger Clear
ledger = final clear_meaning (fresh 1) (opening 1 claim ∷ message Waiting numbers sent ∷ [])

abbrev pub draw_answer : ℕ → Answer
draw_answer c = (step clear_meaning ledger (draw Heard numbers c)).answer

-- how the claim of n ones in l and in r is refused, over the first n bench entries
abbrev pub claim_refused_at : ℕ → Result Unit WriterFault
claim_refused_at n = claim_refused clear_meaning (bench n) (bench n) (replicate n 1) (replicate n 1)

pub record Worked : Type 0 where
  -- the claim of l = (3) and r = (5) is 6 and 25
  pub claim_of_one : claim_numbers clear_number (claim_answer clear_meaning (bench 1) (bench 1) clear_meaning.base (3 ∷ []) (5 ∷ [])) ≡ Ok (6, 25)
  -- and in residues 4096 and 36175872
  pub claim_in_residues :
      claim_numbers residue_number
      (claim_answer residue_meaning (bench_entries residue_meaning 1) (bench_entries residue_meaning 1) residue_meaning.base (3 ∷ []) (5 ∷ []))
      ≡ Ok (4096, 36175872)
  -- the claim of l = (3, 5) and r = (7, 11) is 21 and 123
  pub claim_of_two : claim_numbers clear_number (claim_answer clear_meaning (bench 2) (bench 2) clear_meaning.base l r) ≡ Ok (21, 123)
  -- their message is 10, 56, 9 and 55
  pub message_of_two : message_numbers clear_number (message_answer clear_meaning (bench 2) (bench 2) clear_meaning.base l r) ≡ Ok (10, 56, 9, 55)
  -- their fold by 2 is not refused
  pub fold_by_two : fold ≡ Ok tt
  -- it leaves G as 7, 0
  pub fold_leaves_g : halved fold (map clear_number (folded clear_meaning 2 lists).gs) (unit_entry clear_meaning) (bench 2) ≡ 7 ∷ 0 ∷ []
  -- H as 8, 0
  pub fold_leaves_h : halved fold (map clear_number (folded clear_meaning 2 lists).hs) (unit_entry clear_meaning) (bench 2) ≡ 8 ∷ 0 ∷ []
  -- l as 13, 0
  pub fold_leaves_l : halved fold (folded clear_meaning 2 lists).l 0 l ≡ 13 ∷ 0 ∷ []
  -- and r as 25, 0
  pub fold_leaves_r : halved fold (folded clear_meaning 2 lists).r 0 r ≡ 25 ∷ 0 ∷ []
  -- the commitments 21 and 123 fold to 91 and 525
  pub fold_of_claim : pair_numbers clear_number (fold_commitments clear_meaning 2 lower claim upper) ≡ (91, 525)
  -- the last pair (13, 25) passes
  pub last_pair_passes : method_answer clear_meaning (2 ∷ []) claim_folded (bench 2) (bench 2) clear_meaning.base 13 25 2 2 ≡ Ok true
  -- and (14, 25) fails
  pub last_pair_fails : method_answer clear_meaning (2 ∷ []) claim_folded (bench 2) (bench 2) clear_meaning.base 14 25 2 2 ≡ Ok false
  -- the quick check passes (14, 25) with the weight 558345730
  pub quick_passes : (ws : List ℕ) → HWeights order (reduced clear_meaning (2 ∷ [])) ws
      → quick_answer clear_meaning (2 ∷ []) ws claim_folded (bench 2) clear_meaning.base 14 25 558345730 2 2 ≡ Ok true
  -- and fails it with 558345731
  pub quick_fails : (ws : List ℕ) → HWeights order (reduced clear_meaning (2 ∷ [])) ws
      → quick_answer clear_meaning (2 ∷ []) ws claim_folded (bench 2) clear_meaning.base 14 25 558345731 2 2 ≡ Ok false
  -- the G weights of the challenges 2, 3, 5
  pub weights_of_three : (ws : List ℕ) → HWeights order (2 ∷ 3 ∷ 5 ∷ []) ws
      → g_weights ws ≡ 30 ∷ 6 ∷ 10 ∷ 2 ∷ 15 ∷ 3 ∷ 5 ∷ 1 ∷ []
  -- the residue 1 is an element
  pub residue_one : is_some (residue_meaning.element 1) ≡ true
  -- 2 is none
  pub residue_two : is_some (residue_meaning.element 2) ≡ false
  -- p - 1 is none
  pub residue_high : is_some (residue_meaning.element 2147483578) ≡ false
  -- p is none
  pub residue_modulus : is_some (residue_meaning.element 2147483579) ≡ false
  -- the writer takes the challenge q - 1
  pub challenge_high : challenges_refusal clear_meaning (1073741788 ∷ []) ≡ Ok tt
  -- it refuses 0 by 13
  pub challenge_zero : told writer_refusal (challenges_refusal clear_meaning (0 ∷ [])) ≡ Err (refusal_of 13 layer.Writer 0)
  -- and q by 13
  pub challenge_order : told writer_refusal (challenges_refusal clear_meaning (1073741789 ∷ [])) ≡ Err (refusal_of 13 layer.Writer 0)
  -- a station takes the draw q - 1
  pub draw_high : draw_answer 1073741788 ≡ Token Closing (record { station = 1; case = 1; rounds = 1 })
  -- it refuses the draw 0
  pub draw_zero : draw_answer 0 ≡ Refused NotAChallenge
  -- and the draw q
  pub draw_order : draw_answer 1073741789 ≡ Refused NotAChallenge
  -- which is its refusal 13
  pub draw_refusal : station_refusal NotAChallenge ≡ refusal_of 13 layer.Station 0
  -- lists of 1 have a claim
  pub claim_at_1 : claim_refused_at 1 ≡ Ok tt
  -- lists of 256 have one
  pub claim_at_256 : claim_refused_at 256 ≡ Ok tt
  -- lists of 0 are refused by 5
  pub claim_at_0 : told writer_refusal (claim_refused_at 0) ≡ Err (refusal_of 5 layer.Writer 0)
  -- lists of 3 are refused by 5
  pub claim_at_3 : told writer_refusal (claim_refused_at 3) ≡ Err (refusal_of 5 layer.Writer 3)
  -- lists of 512 are refused by 5
  pub claim_at_512 : told writer_refusal (claim_refused_at 512) ≡ Err (refusal_of 5 layer.Writer 512)
  -- a method serves lists of 1, after no round
  pub method_at_1 : method_refused clear_meaning [] (bench 1) (bench 1) 1 1 1 1 ≡ Ok tt
  -- it serves lists of 256, after 8 rounds
  pub method_at_256 : method_refused clear_meaning (replicate 8 2) (bench 256) (bench 256) 1 1 256 256 ≡ Ok tt
  -- it refuses lists of 0 by 5, whatever the challenges
  pub method_at_0 : (cs : List ℕ) → told method_refusal (method_refused clear_meaning cs (bench 0) (bench 0) 1 1 0 0) ≡ Err (refusal_of 5 layer.Method 0)
  -- lists of 3 by 5
  pub method_at_3 : (cs : List ℕ) → told method_refusal (method_refused clear_meaning cs (bench 3) (bench 3) 1 1 3 3) ≡ Err (refusal_of 5 layer.Method 3)
  -- and lists of 512 by 5
  pub method_at_512 : (cs : List ℕ) → told method_refusal (method_refused clear_meaning cs (bench 512) (bench 512) 1 1 512 512) ≡ Err (refusal_of 5 layer.Method 512)
