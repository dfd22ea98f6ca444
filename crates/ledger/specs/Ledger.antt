-- The ledger of a station: what each call answers and what it writes down. Assumes nothing.
use Rattle.std.specs.Prelude.{ℕ, ◌+◌, Bool, true, false, cond, ◌&&◌, ◌||◌, List, [], ◌∷◌, ◌++◌, Some, None, Ok, Err, Option, Result, ◌==◌, nat_le, nat_lt}
use Rattle.kind.specs.Kinds.{Meaning}
use Rattle.kind.specs.Pairs.{pair_of}
use Rattle.kind.specs.declared.pair.Pair.{Pair}
use Rattle.method.specs.Commitments.{fold_commitments}
use Rattle.method.specs.Meaning.{method_answer}
use Rattle.method.specs.declared.fault.MethodFault.{MethodFault}
use Rattle.ledger.specs.declared.fault.StationFault.{StationFault}
use Rattle.ledger.specs.declared.fault.StationFault.TheVariants.{NotCurrent, CaseOpen, TooManyRounds, PageFull, NotAChallenge, Method}
use Rattle.ledger.specs.declared.parts.Answer.{Answer}
use Rattle.ledger.specs.declared.parts.Answer.TheVariants.{Token, Verdict, Withdrawn, Turned, Refused}
use Rattle.ledger.specs.declared.parts.Line.{Line}
use Rattle.ledger.specs.declared.parts.Message.{Message}
use Rattle.ledger.specs.declared.parts.Numbers.{Numbers}
use Rattle.ledger.specs.declared.parts.Page.{Page}
use Rattle.ledger.specs.declared.parts.Sort.{Sort}
use Rattle.ledger.specs.declared.parts.Sort.TheVariants.{Waiting, Heard, Closing}
use Rattle.ledger.specs.declared.parts.Stage.{Stage}
use Rattle.ledger.specs.declared.parts.Stage.TheVariants.{ForMessage, ForDraw, ForLast}

-- the open case: its rounds k, those done, what it waits for, Z1 and Z2 as folded so far, and the challenges drawn
pub record Case (M : Type 0) : Type 0 where
  pub k : ℕ
  pub rounds : ℕ
  pub stage : Stage M
  pub z : Pair M
  pub challenges : List ℕ

-- what a station has, but no method
pub record Ledger (M : Type 0) : Type 0 where
  pub number : ℕ
  pub page : Page
  pub running : Option (Case M)

-- what a last pair brings: the lists, K, a and b, and the lengths of the two work lists
pub record Last (M E : Type 0) : Type 0 where
  pub gs : List E
  pub hs : List E
  pub key : M
  pub a : ℕ
  pub b : ℕ
  pub elements : ℕ
  pub numbers : ℕ

-- a call by its arguments; a token by its sort and its three numbers
pub data Call (M E : Type 0) : Type 0 where
  opening : ℕ → Pair M → Call M E
  message : Sort → Numbers → Message M → Call M E
  draw : Sort → Numbers → ℕ → Call M E
  last_pair : Sort → Numbers → Last M E → Call M E
  withdrawal : Sort → Numbers → Call M E
  page_turn : Call M E

-- an answer, and the ledger after it
pub record Step (M : Type 0) : Type 0 where
  pub answer : Answer
  pub ledger : Ledger M

abbrev pub clean : Page
clean = record { opened = 0; passed = 0; failed = 0; withdrawn = 0 }

-- a new ledger: no case, and counts of 0
abbrev pub fresh : {M : Type 0} → ℕ → Ledger M
fresh number = record { number = number; page = clean; running = None }

abbrev pub one_opened : Page → Page
one_opened p = record { opened = p.opened + 1; passed = p.passed; failed = p.failed; withdrawn = p.withdrawn }

abbrev pub one_withdrawn : Page → Page
one_withdrawn p = record { opened = p.opened; passed = p.passed; failed = p.failed; withdrawn = p.withdrawn + 1 }

abbrev pub one_judged : Bool → Page → Page
one_judged true p = record { opened = p.opened; passed = p.passed + 1; failed = p.failed; withdrawn = p.withdrawn }
one_judged false p = record { opened = p.opened; passed = p.passed; failed = p.failed + 1; withdrawn = p.withdrawn }

-- the numbers of the token that is current at a case with so many rounds done
abbrev pub numbers_at : ℕ → Page → ℕ → Numbers
numbers_at number page rounds = record { station = number; case = page.opened; rounds = rounds }

abbrev pub same_numbers : Numbers → Numbers → Bool
same_numbers t u = (t.station == u.station && t.case == u.case) && t.rounds == u.rounds

-- whether tokens of a sort are current at a stage
abbrev pub of_sort : {M : Type 0} → Stage M → Sort → Bool
of_sort ForMessage Waiting = true
of_sort ForMessage Heard = false
of_sort ForMessage Closing = false
of_sort (ForDraw m) Waiting = false
of_sort (ForDraw m) Heard = true
of_sort (ForDraw m) Closing = false
of_sort ForLast Waiting = false
of_sort ForLast Heard = false
of_sort ForLast Closing = true

-- what a case of k rounds waits for after so many, and the sort of its token
abbrev pub stage_after : {M : Type 0} → ℕ → ℕ → Stage M
stage_after k rounds = cond (rounds == k) ForLast ForMessage

abbrev pub sort_after : ℕ → ℕ → Sort
sort_after k rounds = cond (rounds == k) Closing Waiting

-- the message's elements by commitment: L1 and L2, R1 and R2
abbrev pub lower : {M : Type 0} → Message M → Pair M
lower m = pair_of m.l1 m.l2

abbrev pub upper : {M : Type 0} → Message M → Pair M
upper m = pair_of m.r1 m.r2

module _ {M : Type 0} where
  abbrev pub with_case : Ledger M → Page → Option (Case M) → Ledger M
  with_case l p e = record { number = l.number; page = p; running = e }

  -- a refusal alters nothing
  abbrev pub refuse : Ledger M → StationFault → Step M
  refuse l why = record { answer = Refused why; ledger = l }

  -- 2: a case is open; 3: more than 8 rounds; 4: ten thousand openings
  abbrev pub opening_step : Ledger M → ℕ → Pair M → Option (Case M) → Step M
  opening_step l k z (Some e) = refuse l CaseOpen
  opening_step l k z None =
      cond (nat_lt 8 k) (refuse l TooManyRounds)
      (cond (nat_le 10000 l.page.opened) (refuse l PageFull)
      (record {
        answer = Token (sort_after k 0) (numbers_at l.number (one_opened l.page) 0);
        ledger = with_case l (one_opened l.page) (Some (record { k = k; rounds = 0; stage = stage_after k 0; z = z; challenges = [] }));
      }))

  -- 1: the token is not current
  abbrev pub message_at : Ledger M → Numbers → Message M → Case M → Stage M → Step M
  message_at l t m e ForMessage =
      cond (same_numbers t (numbers_at l.number l.page e.rounds))
      (record {
        answer = Token Heard t;
        ledger = with_case l l.page (Some (record { k = e.k; rounds = e.rounds; stage = ForDraw m; z = e.z; challenges = e.challenges }));
      })
      (refuse l NotCurrent)
  message_at l t m e (ForDraw n) = refuse l NotCurrent
  message_at l t m e ForLast = refuse l NotCurrent

  abbrev pub message_case : Ledger M → Numbers → Message M → Option (Case M) → Step M
  message_case l t m None = refuse l NotCurrent
  message_case l t m (Some e) = message_at l t m e e.stage

  abbrev pub message_step : Ledger M → Sort → Numbers → Message M → Option (Case M) → Step M
  message_step l Waiting t m run = message_case l t m run
  message_step l Heard t m run = refuse l NotCurrent
  message_step l Closing t m run = refuse l NotCurrent

  abbrev pub withdrawal_step : Ledger M → Sort → Numbers → Option (Case M) → Step M
  withdrawal_step l sort t None = refuse l NotCurrent
  withdrawal_step l sort t (Some e) =
      cond (of_sort e.stage sort && same_numbers t (numbers_at l.number l.page e.rounds))
      (record { answer = Withdrawn; ledger = with_case l (one_withdrawn l.page) None })
      (refuse l NotCurrent)

  abbrev pub page_turn_step : Ledger M → Option (Case M) → Step M
  page_turn_step l (Some e) = refuse l CaseOpen
  page_turn_step l None = record { answer = Turned l.page; ledger = with_case l clean None }

  -- a verdict is counted and ends the case
  abbrev pub judged : Ledger M → Result Bool MethodFault → Step M
  judged l (Ok b) = record { answer = Verdict b; ledger = with_case l (one_judged b l.page) None }
  judged l (Err fault) = refuse l (Method fault 0)

module _ {M E : Type 0} (kind : Meaning M E) where
  -- the case after the draw c on the message m
  abbrev pub drawn : Case M → Message M → ℕ → Case M
  drawn e m c = record {
    k = e.k;
    rounds = e.rounds + 1;
    stage = stage_after e.k (e.rounds + 1);
    z = fold_commitments kind c (lower m) e.z (upper m);
    challenges = e.challenges ++ c ∷ [];
  }

  -- 1, then 13: the challenge is 0 or not below the order
  abbrev pub draw_at : Ledger M → Numbers → ℕ → Case M → Stage M → Step M
  draw_at l t c e ForMessage = refuse l NotCurrent
  draw_at l t c e (ForDraw m) =
      cond (same_numbers t (numbers_at l.number l.page e.rounds))
      (cond (c == 0 || nat_le kind.order c) (refuse l NotAChallenge)
      (record {
        answer = Token (sort_after e.k (e.rounds + 1)) (numbers_at l.number l.page (e.rounds + 1));
        ledger = with_case l l.page (Some (drawn e m c));
      }))
      (refuse l NotCurrent)
  draw_at l t c e ForLast = refuse l NotCurrent

  abbrev pub draw_case : Ledger M → Numbers → ℕ → Option (Case M) → Step M
  draw_case l t c None = refuse l NotCurrent
  draw_case l t c (Some e) = draw_at l t c e e.stage

  abbrev pub draw_step : Ledger M → Sort → Numbers → ℕ → Option (Case M) → Step M
  draw_step l Waiting t c run = refuse l NotCurrent
  draw_step l Heard t c run = draw_case l t c run
  draw_step l Closing t c run = refuse l NotCurrent

  -- the refusals and the published verdict on the case's commitments, and on G and H folded by its challenges in order
  unfoldable pub case_answer : Case M → Last M E → Result Bool MethodFault
  case_answer e p = method_answer kind e.challenges e.z p.gs p.hs p.key p.a p.b p.elements p.numbers

  abbrev pub last_pair_at : Ledger M → Numbers → Last M E → Case M → Stage M → Step M
  last_pair_at l t p e ForMessage = refuse l NotCurrent
  last_pair_at l t p e (ForDraw m) = refuse l NotCurrent
  last_pair_at l t p e ForLast =
      cond (same_numbers t (numbers_at l.number l.page e.rounds))
      (judged l (case_answer e p))
      (refuse l NotCurrent)

  abbrev pub last_pair_case : Ledger M → Numbers → Last M E → Option (Case M) → Step M
  last_pair_case l t p None = refuse l NotCurrent
  last_pair_case l t p (Some e) = last_pair_at l t p e e.stage

  abbrev pub last_pair_step : Ledger M → Sort → Numbers → Last M E → Option (Case M) → Step M
  last_pair_step l Waiting t p run = refuse l NotCurrent
  last_pair_step l Heard t p run = refuse l NotCurrent
  last_pair_step l Closing t p run = last_pair_case l t p run

  abbrev pub step_on : Ledger M → Call M E → Option (Case M) → Step M
  step_on l (opening k z) run = opening_step l k z run
  step_on l (message sort t m) run = message_step l sort t m run
  step_on l (draw sort t c) run = draw_step l sort t c run
  step_on l (last_pair sort t p) run = last_pair_step l sort t p run
  step_on l (withdrawal sort t) run = withdrawal_step l sort t run
  step_on l page_turn run = page_turn_step l run

  -- one call
  abbrev pub step : Ledger M → Call M E → Step M
  step l x = step_on l x l.running

  -- a run over a list of calls: the answer to each, with the page after it
  abbrev pub run : Ledger M → List (Call M E) → List Line
  run l [] = []
  run l (x ∷ xs) =
      record { answer = (step l x).answer; page = (step l x).ledger.page }
      ∷ run (step l x).ledger xs

  -- the ledger after it
  abbrev pub final : Ledger M → List (Call M E) → Ledger M
  final l [] = l
  final l (x ∷ xs) = final (step l x).ledger xs
