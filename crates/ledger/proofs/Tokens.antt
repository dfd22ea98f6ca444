-- The token that was last handed out is the one that the open case is waiting for. Assumes nothing.
use Rattle.std.proofs.Common.{◌≡◌, ℕ, ◌+◌, Bool, true, false, cond, ◌&&◌, ◌||◌, eqb, ltb, leb, Some, None, Ok, Err, Option, Result, refl, ap₂, eq-eqb}
use Rattle.kind.specs.Kinds.{Meaning}
use Rattle.method.specs.declared.fault.MethodFault.{MethodFault}
use Rattle.ledger.specs.Ledger.{
  Case,
  Ledger,
  Step,
  Call,
  opening,
  message,
  draw,
  last_pair,
  withdrawal,
  page_turn,
  Last,
  step,
  step_on,
  of_sort,
  message_at,
  draw_at,
  last_pair_at,
  judged,
  case_answer,
  stage_after,
  sort_after,
  same_numbers,
  numbers_at,
  one_opened,
}
use Rattle.ledger.specs.Promise.{newer}
use Rattle.ledger.specs.declared.parts.Answer.{Answer}
use Rattle.ledger.specs.declared.parts.Answer.TheVariants.{Token, Verdict, Withdrawn, Turned, Refused}
use Rattle.ledger.specs.declared.parts.Message.{Message}
use Rattle.ledger.specs.declared.parts.Numbers.{Numbers}
use Rattle.ledger.specs.declared.parts.Sort.{Sort}
use Rattle.ledger.specs.declared.parts.Sort.TheVariants.{Waiting, Heard, Closing}
use Rattle.ledger.specs.declared.parts.Stage.{Stage}
use Rattle.ledger.specs.declared.parts.Stage.TheVariants.{ForMessage, ForDraw, ForLast}

-- an open case for the token
pub record Current {M : Type 0} (l : Ledger M) (sort : Sort) (s : Numbers) (e : Case M) : Type 0 where
  pub runs : l.running ≡ Some e
  pub sort_fits : of_sort e.stage sort ≡ true
  pub numbers_fit : same_numbers s (numbers_at l.number l.page e.rounds) ≡ true

abbrev pub Holds : {M : Type 0} → Option Answer → Ledger M → Type 0
Holds None l = Unit {0}
Holds {M} (Some (Token sort s)) l = (e : Case M) × Current l sort s e
Holds (Some (Verdict b)) l = Unit {0}
Holds (Some Withdrawn) l = Unit {0}
Holds (Some (Turned p)) l = Unit {0}
Holds (Some (Refused why)) l = Unit {0}

pub same_itself : (s : Numbers) → same_numbers s s ≡ true
same_itself s = ap₂ ◌&&◌ (ap₂ ◌&&◌ (eq-eqb s.station s.station refl) (eq-eqb s.case s.case refl)) (eq-eqb s.rounds s.rounds refl)

fits_after : (M : Type 0) (k rounds : ℕ) → of_sort {M = M} (stage_after k rounds) (sort_after k rounds) ≡ true
fits_after M k rounds = go (eqb rounds k)
  where
    go : (b : Bool) → of_sort {M = M} (cond b ForLast ForMessage) (cond b Closing Waiting) ≡ true
    go true = refl
    go false = refl

module _ {M E : Type 0} (kind : Meaning M E) where
  record Good (a : Option Answer) (out : Step M) : Type 0 where
    pub kept : Holds (newer a out.answer) out.ledger

  good_cond : {a : Option Answer} (b : Bool) {u v : Step M} → (b ≡ true → Good a u) → Good a v → Good a (cond b u v)
  good_cond true p q = p refl
  good_cond false p q = q

  judged_good : (a : Option Answer) (l : Ledger M) (r : Result Bool MethodFault) → Holds a l → Good a (judged l r)
  judged_good a l (Ok b) h = record { kept = tt }
  judged_good a l (Err why) h = record { kept = h }

  message_good : (a : Option Answer) (l : Ledger M) (s : Numbers) (m : Message M) (e : Case M) (st : Stage M) → Holds a l → Good a (message_at l s m e st)
  message_good a l s m e ForMessage h =
      good_cond (same_numbers s (numbers_at l.number l.page e.rounds))
      (λ fits. record { kept = (_, record { runs = refl; sort_fits = refl; numbers_fit = fits }) })
      (record { kept = h })
  message_good a l s m e (ForDraw n) h = record { kept = h }
  message_good a l s m e ForLast h = record { kept = h }

  draw_good : (a : Option Answer) (l : Ledger M) (s : Numbers) (c : ℕ) (e : Case M) (st : Stage M) → Holds a l → Good a (draw_at kind l s c e st)
  draw_good a l s c e ForMessage h = record { kept = h }
  draw_good a l s c e (ForDraw m) h =
      good_cond (same_numbers s (numbers_at l.number l.page e.rounds))
      (λ fits. good_cond (eqb c 0 || leb kind.order c) (λ bad. record { kept = h })
      (record { kept = (_, record { runs = refl; sort_fits = fits_after M e.k (e.rounds + 1); numbers_fit = same_itself (numbers_at l.number l.page (e.rounds + 1)) }) }))
      (record { kept = h })
  draw_good a l s c e ForLast h = record { kept = h }

  last_good : (a : Option Answer) (l : Ledger M) (s : Numbers) (p : Last M E) (e : Case M) (st : Stage M) → Holds a l → Good a (last_pair_at kind l s p e st)
  last_good a l s p e ForMessage h = record { kept = h }
  last_good a l s p e (ForDraw m) h = record { kept = h }
  last_good a l s p e ForLast h =
      good_cond (same_numbers s (numbers_at l.number l.page e.rounds)) (λ fits. judged_good a l (case_answer kind e p) h) (record { kept = h })

  step_at : (a : Option Answer) (l : Ledger M) (x : Call M E) (run : Option (Case M)) → Holds a l → Good a (step_on kind l x run)
  step_at a l (opening k z) None h =
      good_cond (ltb 8 k) (λ big. record { kept = h })
      (good_cond (leb 10000 l.page.opened) (λ full. record { kept = h })
      (record { kept = (_, record { runs = refl; sort_fits = fits_after M k 0; numbers_fit = same_itself (numbers_at l.number (one_opened l.page) 0) }) }))
  step_at a l (opening k z) (Some e) h = record { kept = h }
  step_at a l (message Waiting s m) None h = record { kept = h }
  step_at a l (message Waiting s m) (Some e) h = message_good a l s m e e.stage h
  step_at a l (message Heard s m) run h = record { kept = h }
  step_at a l (message Closing s m) run h = record { kept = h }
  step_at a l (draw Waiting s c) run h = record { kept = h }
  step_at a l (draw Heard s c) None h = record { kept = h }
  step_at a l (draw Heard s c) (Some e) h = draw_good a l s c e e.stage h
  step_at a l (draw Closing s c) run h = record { kept = h }
  step_at a l (last_pair Waiting s p) run h = record { kept = h }
  step_at a l (last_pair Heard s p) run h = record { kept = h }
  step_at a l (last_pair Closing s p) None h = record { kept = h }
  step_at a l (last_pair Closing s p) (Some e) h = last_good a l s p e e.stage h
  step_at a l (withdrawal sort s) None h = record { kept = h }
  step_at a l (withdrawal sort s) (Some e) h =
      good_cond (of_sort e.stage sort && same_numbers s (numbers_at l.number l.page e.rounds)) (λ fits. record { kept = tt }) (record { kept = h })
  step_at a l page_turn None h = record { kept = tt }
  step_at a l page_turn (Some e) h = record { kept = h }

  pub step_holds : (a : Option Answer) (l : Ledger M) (x : Call M E) → Holds a l → Holds (newer a (step kind l x).answer) (step kind l x).ledger
  step_holds a l x h = (step_at a l x l.running h).kept

pub closing_last : {M : Type 0} (st : Stage M) → of_sort st Closing ≡ true → st ≡ ForLast
closing_last ForMessage h = cc
closing_last (ForDraw m) h = cc
closing_last ForLast h = refl
