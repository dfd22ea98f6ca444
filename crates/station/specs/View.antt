-- The ledger that a station stands for, and the answer that each call's result stands for. Assumes nothing.
use Rattle.std.specs.Prelude.{ℕ, Bool, cond, ◌&&◌, List, Some, None, Ok, Err, Option, Result}
use Rattle.method.specs.Tables.{challenges}
use Rattle.ledger.specs.Ledger.{Ledger, of_sort, same_numbers, numbers_at}
use Rattle.ledger.specs.Ledger as ledger
use Rattle.ledger.specs.declared.fault.StationFault.{StationFault}
use Rattle.ledger.specs.declared.parts.Answer.{Answer}
use Rattle.ledger.specs.declared.parts.Answer.TheVariants.{Token, Verdict, Withdrawn, Turned, Refused}
use Rattle.ledger.specs.declared.parts.Numbers.{Numbers}
use Rattle.ledger.specs.declared.parts.Page.{Page}
use Rattle.ledger.specs.declared.parts.Sort.{Sort}
use Rattle.ledger.specs.declared.parts.Sort.TheVariants as sort
use Rattle.station.specs.declared.case.Case.{Case}
use Rattle.station.specs.declared.state.Station.{Station}
use Rattle.station.specs.declared.tokens.Back.{Back}
use Rattle.station.specs.declared.tokens.Closing.{Closing}
use Rattle.station.specs.declared.tokens.Heard.{Heard}
use Rattle.station.specs.declared.tokens.Held.{Held}
use Rattle.station.specs.declared.tokens.Held.TheVariants as held
use Rattle.station.specs.declared.tokens.Next.{Next}
use Rattle.station.specs.declared.tokens.Next.TheVariants as next
use Rattle.station.specs.declared.tokens.Waiting.{Waiting}

abbrev pub case_of : {M : Type 0} → Case M → ledger.Case M
case_of c = record { k = c.k; rounds = c.rounds; stage = c.stage; z = c.z; challenges = challenges c.table }

abbrev pub running_of : {M : Type 0} → Option (Case M) → Option (ledger.Case M)
running_of None = None
running_of (Some c) = Some (case_of c)

-- what a station has, but its method
abbrev pub ledger_of : {M X E : Type 0} {g : _} → Station M X E g → Ledger M
ledger_of s = record { number = s.number; page = s.page; running = running_of s.case }

-- the open case, where its current token is of this sort and says these numbers
abbrev pub current_case : {M : Type 0} → ℕ → Page → Sort → Numbers → Option (Case M) → Option (Case M)
current_case number page sort t None = None
current_case number page sort t (Some c) =
    cond (of_sort c.stage sort && same_numbers t (numbers_at number page c.rounds)) (Some c) None

-- what a last pair brings; elements and numbers are the lengths of the work lists
abbrev pub last_of : {M E : Type 0} → List E → List E → M → ℕ → ℕ → ℕ → ℕ → ledger.Last M E
last_of gs hs key a b elements numbers =
    record { gs = gs; hs = hs; key = key; a = a; b = b; elements = elements; numbers = numbers }

-- the rounds of the open case; 0 where none is open
abbrev pub k_of : {M : Type 0} → Option (ledger.Case M) → ℕ
k_of None = 0
k_of (Some e) = e.k

abbrev pub case_k : {M : Type 0} → Ledger M → ℕ
case_k l = k_of l.running

abbrev pub next_answer : Next → Answer
next_answer (next.Waiting t) = Token sort.Waiting t.numbers
next_answer (next.Closing t) = Token sort.Closing t.numbers

abbrev pub opening_answer : Result Next StationFault → Answer
opening_answer (Ok n) = next_answer n
opening_answer (Err fault) = Refused fault

abbrev pub message_answer : Result Heard (Back Waiting) → Answer
message_answer (Ok t) = Token sort.Heard t.numbers
message_answer (Err b) = Refused b.fault

abbrev pub draw_answer : Result Next (Back Heard) → Answer
draw_answer (Ok n) = next_answer n
draw_answer (Err b) = Refused b.fault

abbrev pub last_answer : Result Bool (Back Closing) → Answer
last_answer (Ok b) = Verdict b
last_answer (Err b) = Refused b.fault

abbrev pub withdrawal_answer : Result (Unit {0}) (Back Held) → Answer
withdrawal_answer (Ok u) = Withdrawn
withdrawal_answer (Err b) = Refused b.fault

abbrev pub turn_answer : Result Page StationFault → Answer
turn_answer (Ok p) = Turned p
turn_answer (Err fault) = Refused fault

abbrev pub held_sort : Held → Sort
held_sort (held.Waiting t) = sort.Waiting
held_sort (held.Heard t) = sort.Heard
held_sort (held.Closing t) = sort.Closing

abbrev pub held_numbers : Held → Numbers
held_numbers (held.Waiting t) = t.numbers
held_numbers (held.Heard t) = t.numbers
held_numbers (held.Closing t) = t.numbers
