-- A case that a writer plays on a station: what is answered, what is called, and what is left. Assumes nothing.
use Rattle.std.specs.Prelude.{◌≡◌, ℕ, true, List, [], ◌∷◌, length, Ok, Err, Result}
use Rattle.kind.specs.Faults.{and_then, first_of}
use Rattle.kind.specs.Kinds.{Meaning}
use Rattle.ledger.specs.Ledger.{Ledger, Call, opening, step, numbers_at, one_opened}
use Rattle.ledger.specs.Rules.{claim_of}
use Rattle.ledger.specs.Script.{Playable, rest_of, played}
use Rattle.ledger.specs.declared.parts.Answer.{Answer}
use Rattle.ledger.specs.declared.parts.Answer.TheVariants.{Token, Verdict, Withdrawn, Turned, Refused}
use Rattle.ledger.specs.declared.parts.Numbers.{Numbers}
use Rattle.writer.specs.Answers.{lists_of}
use Rattle.writer.specs.Ready.{Ready}
use Rattle.writer.specs.Refusals.{content_refused, challenges_refusal}
use Rattle.writer.specs.Whole.{shape_refused, room_refusal}
use Rattle.writer.specs.declared.fault.WriterFault.{WriterFault}

-- a case that is opened is passed; any other answer to the opening is the answer
abbrev pub passed_if_opened : Answer → Answer
passed_if_opened (Token sort t) = Verdict true
passed_if_opened (Verdict b) = Verdict b
passed_if_opened Withdrawn = Withdrawn
passed_if_opened (Turned p) = Turned p
passed_if_opened (Refused fault) = Refused fault

-- the first where a verdict was answered, else the second
abbrev pub by_verdict : {A : Type 0} → Answer → A → A → A
by_verdict (Token sort t) x y = y
by_verdict (Verdict b) x y = x
by_verdict Withdrawn x y = y
by_verdict (Turned p) x y = y
by_verdict (Refused fault) x y = y

abbrev pub if_judged : {A F : Type 0} → Result Answer F → A → A → A
if_judged (Ok a) x y = by_verdict a x y
if_judged (Err e) x y = y

-- the numbers of the token t after so many rounds
abbrev pub token_after : Numbers → ℕ → Numbers
token_after t rounds = record { station = t.station; case = t.case; rounds = rounds }

-- 8 of the four work lists, by their lengths, for lists of n entries
abbrev pub work_lists_refused : ℕ → ℕ → ℕ → ℕ → ℕ → Result Unit WriterFault
work_lists_refused n fold_g fold_h fold_l fold_r = first_of (room_refusal n fold_g ∷ room_refusal n fold_h ∷ room_refusal n fold_l ∷ room_refusal n fold_r ∷ [])

module _ {M E : Type 0} (s : Meaning M E) where
  -- 5; 6 of the lists and of the challenges; 8 of the four work lists, by their lengths; 11 and 12; 13
  abbrev pub play_refused : List E → List E → List ℕ → List ℕ → List ℕ → ℕ → ℕ → ℕ → ℕ → Result Unit WriterFault
  play_refused gs hs l r cs fold_g fold_h fold_l fold_r =
      first_of (
      shape_refused (length gs) (length hs) (length l) (length r) (length cs)
      ∷ work_lists_refused (length gs) fold_g fold_h fold_l fold_r
      ∷ content_refused s gs hs l r
      ∷ challenges_refusal s cs
      ∷ []
      )

  -- what the ledger answers to the opening of the case
  abbrev pub opening_answer : Ledger M → List E → List E → M → List ℕ → List ℕ → List ℕ → Answer
  opening_answer ledger gs hs key l r cs = (step s ledger (opening (length cs) (claim_of s key (lists_of s gs hs l r)))).answer

  -- the first refusal; else the answer to the opening, and a pass where that is a token
  abbrev pub play_answer : Ledger M → List E → List E → M → List ℕ → List ℕ → List ℕ → ℕ → ℕ → ℕ → ℕ → Result Answer WriterFault
  play_answer ledger gs hs key l r cs fold_g fold_h fold_l fold_r =
      and_then (play_refused gs hs l r cs fold_g fold_h fold_l fold_r) (λ _. Ok (passed_if_opened (opening_answer ledger gs hs key l r cs)))

  -- the calls of the case, on a station with this ledger; the method's work lists are as long as G
  abbrev pub calls_from : Ledger M → List E → List E → M → List ℕ → List ℕ → List ℕ → List (Call M E)
  calls_from ledger gs hs key l r cs =
      played s key (length gs) (length gs) (numbers_at ledger.number (one_opened ledger.page)) (lists_of s gs hs l r) cs

  -- those after the opening, which gave the token t
  abbrev pub calls_after : Numbers → List E → List E → M → List ℕ → List ℕ → List ℕ → List (Call M E)
  calls_after t gs hs key l r cs =
      rest_of s key (length gs) (length gs) (token_after t) (lists_of s gs hs l r) (lists_of s gs hs l r) 0 cs

  -- the answer to the last of the calls; to none it is a
  abbrev pub last_answer : Ledger M → Answer → List (Call M E) → Answer
  last_answer ledger a [] = a
  last_answer ledger a (x ∷ xs) = last_answer (step s ledger x).ledger (step s ledger x).answer xs

  -- lists that can be played, and work lists as long
  pub record Admitted (gs hs : List E) (l r cs : List ℕ) (fold_g fold_h fold_l fold_r : ℕ) : Type 0 where
    pub ready : Ready s gs hs l r
    pub playable : Playable s (lists_of s gs hs l r) cs
    pub room_g : fold_g ≡ length gs
    pub room_h : fold_h ≡ length gs
    pub room_l : fold_l ≡ length gs
    pub room_r : fold_r ≡ length gs
