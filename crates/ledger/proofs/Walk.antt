-- The promise, by a walk along the calls and lines. Assumes nothing.
use Rattle.std.proofs.Common.{◌≡◌, ℕ, ◌<◌, ◌≤◌, Bool, true, false, cond, List, [], ◌∷◌, ◌++◌, length, Some, None, Ok, Err, Option, Result, sym, refl, ap, ◌∙◌, subst, ap₂, arith}
use Rattle.kind.specs.Faults.{and_then}
use Rattle.kind.specs.Kinds.{Meaning, Lawful}
use Rattle.method.specs.Meaning.{method_refused, verdict_of}
use Rattle.method.specs.declared.fault.MethodFault.{MethodFault}
use Rattle.method.proofs.QuickChecks.{quick_decides}
use Rattle.ledger.specs.Ledger.{
  Case,
  Ledger,
  Step,
  Call,
  last_pair,
  Last,
  step,
  last_pair_at,
  last_pair_case,
  last_pair_step,
  judged,
  case_answer,
  refuse,
  same_numbers,
  numbers_at,
  run,
}
use Rattle.ledger.specs.Promise.{noted, case_from, newer, latest_from, beside, HonestRecord, Promise}
use Rattle.ledger.specs.Rules.{Lists, Follows}
use Rattle.ledger.specs.declared.fault.StationFault.TheVariants.{NotCurrent}
use Rattle.ledger.specs.declared.parts.Answer.{Answer}
use Rattle.ledger.specs.declared.parts.Answer.TheVariants.{Token, Verdict}
use Rattle.ledger.specs.declared.parts.Line.{Line}
use Rattle.ledger.specs.declared.parts.Numbers.{Numbers}
use Rattle.ledger.specs.declared.parts.Sort.{Sort}
use Rattle.ledger.specs.declared.parts.Sort.TheVariants.{Waiting, Heard, Closing}
use Rattle.ledger.specs.declared.parts.Stage.{Stage}
use Rattle.ledger.specs.declared.parts.Stage.TheVariants.{ForMessage, ForDraw, ForLast}
use Rattle.ledger.proofs.Agreement.{Agrees, Runs, Inv, Ending, step_keeps, ends_well, last_agrees}
use Rattle.ledger.proofs.Tokens.{Current, Holds, step_holds, closing_last}

judged_true : {M : Type 0} (l : Ledger M) (why : Result Unit MethodFault) (v b : Bool) → (judged l (and_then why (λ _. Ok v))).answer ≡ Verdict b → v ≡ true → b ≡ true
judged_true l (Ok x) v b h t = cc
judged_true l (Err why) v b h t = cc

module _ {M E : Type 0} {kind : Meaning M E} (laws : Lawful kind) (x : Lists M) (key : M) where
  abbrev refused_of : Case M → Last M E → Result Unit MethodFault
  refused_of e p = method_refused kind e.challenges p.gs p.hs p.a p.b p.elements p.numbers

  abbrev verdict_told : Case M → Last M E → Bool
  verdict_told e p = verdict_of kind e.challenges e.z p.gs p.hs p.key p.a p.b

  -- if the answer is a verdict, it is a pass
  end_passes : (l : Ledger M) (s : Numbers) (p : Last M E) (b : Bool) (e : Case M) (st : Stage M)
      → (st ≡ ForLast → Ending kind e p) → (last_pair_at kind l s p e st).answer ≡ Verdict b → b ≡ true
  unfolding case_answer
  end_passes l s p b e ForMessage a h = cc
  end_passes l s p b e (ForDraw m) a h = cc
  end_passes l s p b e ForLast a h = go (same_numbers s (numbers_at l.number l.page e.rounds)) h
    where
      go : (c : Bool) → (cond c (judged l (and_then (refused_of e p) (λ _. Ok (verdict_told e p)))) (refuse l NotCurrent)).answer ≡ Verdict b → b ≡ true
      go true h = judged_true l (refused_of e p) (verdict_told e p) b h (a refl).pass
      go false h = cc

  step_passes : (l : Ledger M) (o : Sort) (s : Numbers) (p : Last M E) (b : Bool) (run : Option (Case M)) → Runs kind x key run (last_pair o s p ∷ [])
      → (last_pair_step kind l o s p run).answer ≡ Verdict b → b ≡ true
  step_passes l Waiting s p b run a h = cc
  step_passes l Heard s p b run a h = cc
  step_passes l Closing s p b None a h = absurd a
  step_passes l Closing s p b (Some e) a h = end_passes l s p b e e.stage (ends_well kind x key laws e Closing s p a) h

  -- with the current token, room, and small numbers, it is a verdict
  pub end_taken : (l : Ledger M) (s : Numbers) (p : Last M E) (e : Case M) → Ending kind e p → same_numbers s (numbers_at l.number l.page e.rounds) ≡ true
      → length p.gs ≤ p.elements → length p.gs ≤ p.numbers → p.a < kind.order → p.b < kind.order
      → last_pair_at kind l s p e ForLast ≡ judged l (Ok true)
  unfolding case_answer
  end_taken l s p e a fits re rn sa sb =
      ap (λ (c : Bool). cond c (judged l (and_then (refused_of e p) (λ _. Ok (verdict_told e p)))) (refuse l NotCurrent)) fits
      ∙ ap₂ (λ (r : Result Unit MethodFault) (v : Bool). judged l (and_then r (λ _. Ok v))) (a.free re rn sa sb) a.pass

  step_taken : (l : Ledger M) (s : Numbers) (p : Last M E) → Runs kind x key l.running (last_pair Closing s p ∷ []) → (e : Case M) → Current l Closing s e
      → length p.gs ≤ p.elements → length p.gs ≤ p.numbers → p.a < kind.order → p.b < kind.order
      → (step kind l (last_pair Closing s p)).answer ≡ Verdict true
  step_taken l s p a e now-is re rn sa sb =
      let runs : Agrees kind x key e (last_pair Closing s p ∷ []) = subst (λ (r : Option (Case M)). Runs kind x key r (last_pair Closing s p ∷ [])) now-is.runs a in
      let at : e.stage ≡ ForLast = closing_last e.stage now-is.sort_fits in
      ap (λ (r : Option (Case M)). (last_pair_case kind l s p r).answer) now-is.runs
      ∙ ap (λ (st : Stage M). (last_pair_at kind l s p e st).answer) at
      ∙ ap (λ (o : Step M). o.answer) (end_taken l s p e (ends_well kind x key laws e Closing s p runs at) now-is.numbers_fit re rn sa sb)

  taken_at : (l : Ledger M) (o : Sort) (s : Numbers) (p : Last M E) (a : Option Answer) → Runs kind x key l.running (last_pair o s p ∷ []) → Holds a l
      → a ≡ Some (Token Closing s) → o ≡ Closing
      → length p.gs ≤ p.elements → length p.gs ≤ p.numbers → p.a < kind.order → p.b < kind.order
      → (step kind l (last_pair o s p)).answer ≡ Verdict true
  taken_at l o s p a runs holds is sort re rn sa sb =
      let held = subst (λ (o : Option Answer). Holds o l) is holds in
      let closes = subst (λ (o : Sort). Runs kind x key l.running (last_pair o s p ∷ [])) sort runs in
      ap (λ (o : Sort). (step kind l (last_pair o s p)).answer) sort ∙ step_taken l s p closes held.0 held.1 re rn sa sb

  abbrev noting : Call M E → Ledger M → Call M E × Line
  noting c l = (c, record { answer = (step kind l c).answer; page = (step kind l c).ledger.page })

  -- `sofar` are the calls of the open case, `a` is the last answer that was no refusal
  record FairFrom (a : Option Answer) (before : List (Call M E × Line)) (o : Sort) (s : Numbers) (p : Last M E) (answer : Answer) : Type 0 where
    pub passes : (b : Bool) → answer ≡ Verdict b → b ≡ true
    pub taken : latest_from a before ≡ Some (Token Closing s) → o ≡ Closing → length p.gs ≤ p.elements → length p.gs ≤ p.numbers
        → p.a < kind.order → p.b < kind.order → answer ≡ Verdict true

  walk : (calls : List (Call M E)) (l : Ledger M) (sofar : List (Call M E)) (a : Option Answer) → Inv kind x key sofar l → Holds a l
      → (before after : List (Call M E × Line)) (o : Sort) (s : Numbers) (p : Last M E) (line : Line)
      → beside calls (run kind l calls) ≡ before ++ ((last_pair o s p, line) ∷ after)
      → Follows kind x key (case_from sofar before ++ (last_pair o s p ∷ []))
      → FairFrom a before o s p line.answer
  walk [] l sofar a inv holds [] after o s p line e f = absurd (let z : ◌≡◌ {A = ℕ} 0 1 = cc in omega arith)
  walk [] l sofar a inv holds (y ∷ before) after o s p line e f = absurd (let z : ◌≡◌ {A = ℕ} 0 1 = cc in omega arith)
  walk (c ∷ calls) l sofar a inv holds [] after o s p line e f =
      let head : (last_pair o s p, line) ≡ noting c l = cc in
      let is : c ≡ last_pair o s p = ap (λ (d : Call M E × Line). d.0) (sym head) in
      let at : line.answer ≡ (step kind l (last_pair o s p)).answer = ap (λ (d : Call M E × Line). d.1.answer) head ∙ ap (λ (d : Call M E). (step kind l d).answer) is in
      let runs = last_agrees kind x key sofar l o s p inv f in
      record {
        passes = λ b h. step_passes l o s p b l.running runs (sym at ∙ h);
        taken = λ token sort re rn sa sb. at ∙ taken_at l o s p a runs holds token sort re rn sa sb;
      }
  walk (c ∷ calls) l sofar a inv holds (y ∷ before) after o s p line e f =
      let head : y ≡ noting c l = cc in
      let is : y.0 ≡ c = ap (λ (d : Call M E × Line). d.0) head in
      let at : y.1.answer ≡ (step kind l c).answer = ap (λ (d : Call M E × Line). d.1.answer) head in
      let rest : beside calls (run kind (step kind l c).ledger calls) ≡ before ++ ((last_pair o s p, line) ∷ after) = cc in
      let same : noted sofar y.0 y.1.answer ≡ noted sofar c (step kind l c).answer = (λ i. noted sofar (is i) (at i)) in
      let fair = walk calls (step kind l c).ledger (noted sofar c (step kind l c).answer) (newer a (step kind l c).answer)
      (step_keeps kind x key laws sofar l c inv) (step_holds kind a l c holds) before after o s p line rest
      (subst (λ (cs : List (Call M E)). Follows kind x key (case_from cs before ++ (last_pair o s p ∷ []))) same f) in
      record { passes = fair.passes; taken = λ token. fair.taken (ap (λ (n : Answer). latest_from (newer a n) before) (sym at) ∙ token) }

-- what was written on the way of the ledger keeps the promise
pub promised : {M E : Type 0} {kind : Meaning M E} → Lawful kind → (start : Ledger M) (calls : List (Call M E)) (ls : List Line)
    → ls ≡ run kind start calls → Promise kind start calls ls
promised {kind} laws start calls ls is = record {
  ledger = is;
  honest = subst (λ (ys : List Line). HonestRecord kind (beside calls ys)) (sym is)
      (λ before after o s p line e x key f.
      let fair = walk laws x key calls start [] None tt tt before after o s p line e f in
      record { passes = fair.passes; taken = fair.taken });
  quick = λ cs ws h z gs k a b we wn. quick_decides kind laws cs ws h z gs k a b we wn;
}
