-- The promise over a whole run of calls. Assumes nothing.
use Rattle.std.specs.Prelude.{◌≡◌, ◌<◌, ◌≤◌, Bool, true, false, cond, List, [], ◌∷◌, ◌++◌, length, Some, None, Option}
use Rattle.kind.specs.Kinds.{Meaning, Lawful}
use Rattle.method.specs.QuickCheck.{QuickCheck}
use Rattle.ledger.specs.Ledger.{Ledger, Call, opening, message, draw, last_pair, withdrawal, page_turn, Last, run}
use Rattle.ledger.specs.Rules.{Lists, Follows}
use Rattle.ledger.specs.declared.parts.Answer.{Answer}
use Rattle.ledger.specs.declared.parts.Answer.TheVariants.{Token, Verdict, Withdrawn, Turned, Refused}
use Rattle.ledger.specs.declared.parts.Line.{Line}
use Rattle.ledger.specs.declared.parts.Numbers.{Numbers}
use Rattle.ledger.specs.declared.parts.Sort.{Sort}
use Rattle.ledger.specs.declared.parts.Sort.TheVariants.{Closing}

abbrev pub refusing : Answer → Bool
refusing (Token sort t) = false
refusing (Verdict b) = false
refusing Withdrawn = false
refusing (Turned p) = false
refusing (Refused why) = true

-- The accepted calls of the open case, after one more: an opening begins a case; a last pair, a withdrawal and a page turn leave none.
abbrev pub accepted : {M E : Type 0} → List (Call M E) → Call M E → List (Call M E)
accepted calls (opening k z) = opening k z ∷ []
accepted calls (message sort t m) = calls ++ message sort t m ∷ []
accepted calls (draw sort t c) = calls ++ draw sort t c ∷ []
accepted calls (last_pair sort t p) = []
accepted calls (withdrawal sort t) = []
accepted calls page_turn = []

-- a refused call is not accepted
abbrev pub noted : {M E : Type 0} → List (Call M E) → Call M E → Answer → List (Call M E)
noted calls x answer = cond (refusing answer) calls (accepted calls x)

-- the same after calls with their lines, where `calls` were those before
abbrev pub case_from : {M E : Type 0} → List (Call M E) → List (Call M E × Line) → List (Call M E)
case_from calls [] = calls
case_from calls (x ∷ xs) = case_from (noted calls x.0 x.1.answer) xs

-- the accepted calls of the case that is open after these calls, as the lines show
abbrev pub case_so_far : {M E : Type 0} → List (Call M E × Line) → List (Call M E)
case_so_far = case_from []

-- calls beside their lines
abbrev pub beside : {A B : Type 0} → List A → List B → List (A × B)
beside [] ys = []
beside (x ∷ xs) [] = []
beside (x ∷ xs) (y ∷ ys) = (x, y) ∷ beside xs ys

-- the last answer that was no refusal
abbrev pub newer : Option Answer → Answer → Option Answer
newer before answer = cond (refusing answer) before (Some answer)

abbrev pub latest_from : {X : Type 0} → Option Answer → List (X × Line) → Option Answer
latest_from a [] = a
latest_from a (x ∷ xs) = latest_from (newer a x.1.answer) xs

abbrev pub latest : {X : Type 0} → List (X × Line) → Option Answer
latest = latest_from None

-- What a last pair of a case that follows the rules is answered: if it is accepted, a pass; and it is accepted where its token is
-- the one last handed out, the work lists are long enough, and a and b are below the order.
pub record Fair {M E : Type 0} (kind : Meaning M E) (before : List (Call M E × Line)) (sort : Sort) (t : Numbers) (p : Last M E) (answer : Answer) : Type 0 where
  pub passes : (b : Bool) → answer ≡ Verdict b → b ≡ true
  pub taken : latest before ≡ Some (Token Closing t) → sort ≡ Closing → length p.gs ≤ p.elements → length p.gs ≤ p.numbers
      → p.a < kind.order → p.b < kind.order → answer ≡ Verdict true

-- Wherever calls and lines show a last pair, and the accepted calls of its case up to it follow the rules for some lists and K, the
-- answer is fair.
abbrev pub HonestRecord : {M E : Type 0} → Meaning M E → List (Call M E × Line) → Type 0
HonestRecord {M} {E} kind shown =
    (before after : List (Call M E × Line)) (sort : Sort) (t : Numbers) (p : Last M E) (line : Line)
    → shown ≡ before ++ ((last_pair sort t p, line) ∷ after)
    → (x : Lists M) (key : M) → Follows kind x key (case_so_far before ++ (last_pair sort t p ∷ []))
    → Fair kind before sort t p line.answer

-- The whole promise of a run of calls from the ledger `start`, with the lines written.
pub record Promise {M E : Type 0} (kind : Meaning M E) (start : Ledger M) (calls : List (Call M E)) (written : List Line) : Type 0 where
  -- all answers, refusals and pages are those of the ledger's run
  pub ledger : written ≡ run kind start calls
  -- who follows the published rules passes
  pub honest : HonestRecord kind (beside calls written)
  -- the quick check passes at every weight what the methods pass, and at one weight at most what they fail
  pub quick : QuickCheck kind

-- It holds of the ledger's own run, for every kind that keeps the laws.
abbrev pub RunKeepsPromise : Type 0 → Type 0 → Type 0
RunKeepsPromise M E =
    (kind : Meaning M E) → Lawful kind → (start : Ledger M) (calls : List (Call M E)) → Promise kind start calls (run kind start calls)
