-- The last call of a case by the rules is answered by a pass. Assumes nothing.
use Rattle.std.proofs.Common.{◌≡◌, ℕ, ◌+◌, ◌^◌, ◌<◌, ◌≤◌, Bool, true, cond, List, [], ◌∷◌, length, None, sym, refl, ap, ◌∙◌, subst, arith, eq-eqb, ne_eqb}
use lib.ListN.{length-map}
use Rattle.kind.specs.Kinds.{Meaning, Lawful}
use Rattle.ledger.proofs.Agreement.{Agrees, ends_well, opened, heard, after_round}
use Rattle.ledger.proofs.Play.{playable_more, script, at, told, sent, took, opens_up, goes_through}
use Rattle.ledger.proofs.Tokens.{same_itself}
use Rattle.ledger.proofs.Walk.{end_taken}
use Rattle.ledger.specs.Ledger.{Case, Ledger, Step, Call, opening, draw, Last, step, last_pair_at, drawn, stage_after, numbers_at, one_opened}
use Rattle.ledger.specs.Rules.{Lists, folded, claim_of, message_of, Follows}
use Rattle.ledger.specs.Script.{Playable, last_pair_to}
use Rattle.ledger.specs.declared.parts.Answer.{Answer}
use Rattle.ledger.specs.declared.parts.Answer.TheVariants.{Verdict}
use Rattle.ledger.specs.declared.parts.Message.{Message}
use Rattle.ledger.specs.declared.parts.Numbers.{Numbers}
use Rattle.ledger.specs.declared.parts.Page.{Page}
use Rattle.ledger.specs.declared.parts.Sort.TheVariants.{Waiting, Heard, Closing}
use Rattle.ledger.specs.declared.parts.Stage.{Stage}
use Rattle.ledger.specs.declared.parts.Stage.TheVariants.{ForMessage, ForLast}
use Rattle.settle.specs.Cases.{last_answer}

module _ {M E : Type 0} (kind : Meaning M E) (laws : Lawful kind) where
  module _ (start : Lists M) (key : M) (elements numbers : ℕ) (number : ℕ) (page : Page) where
    abbrev after : Case M → Ledger M
    after e = at kind laws start key elements numbers number page e

    abbrev calls : Lists M → ℕ → List ℕ → List (Call M E)
    calls x n cs = script kind laws start key elements numbers number page x n cs

    -- from any case that agrees with the rules
    passes : (cs : List ℕ) (x : Lists M) (e : Case M) (a : Answer) → Playable kind x cs → Agrees kind start key e (calls x e.rounds cs)
        → e.stage ≡ stage_after e.k e.rounds → e.rounds + length cs ≡ e.k
        → length start.gs ≤ elements → length start.gs ≤ numbers
        → last_answer kind (after e) a (calls x e.rounds cs) ≡ Verdict true
    passes [] x e a ok agrees st n re rn =
        let is_last : e.stage ≡ ForLast = st ∙ ap (λ (b : Bool). cond b ForLast ForMessage) (eq-eqb e.rounds e.k (omega arith)) in
        let t : Numbers = numbers_at number page e.rounds in
        let p : Last M E = last_pair_to kind key elements numbers (numbers_at number page) start x in
        let size : length p.gs ≡ length start.gs = length-map start.gs kind.entry in
        ap (λ (s : Stage M). (last_pair_at kind (after e) t p e s).answer) is_last
        ∙ ap (λ (o : Step M). o.answer)
        (end_taken laws start key (after e) t p e (ends_well kind start key laws e Closing t p agrees is_last) (same_itself t)
        (omega (arith, size)) (omega (arith, size)) (ok.l_below 0) (ok.r_below 0))
    passes (c ∷ cs) x e a ok agrees st n re rn =
        let m : Message M = message_of kind key x in
        let t : Numbers = numbers_at number page e.rounds in
        let waits : e.stage ≡ ForMessage = st ∙ ap (λ (b : Bool). cond b ForLast ForMessage) (ne_eqb e.rounds e.k (λ same. omega arith)) in
        let rest : List (Call M E) = calls (folded kind c x) (e.rounds + 1) cs in
        let range = ok.challenges in
        let next : Case M = told kind laws start key elements numbers number page e m in
        let b : Answer = (step kind (after next) (draw Heard t c)).answer in
        ap (λ (l : Ledger M). last_answer kind (step kind l (draw Heard t c)).ledger (step kind l (draw Heard t c)).answer rest) (sent kind laws start key elements numbers number page e m waits)
        ∙ ap (λ (l : Ledger M). last_answer kind l b rest) (took kind laws start key elements numbers number page e m c range.0 range.1)
        ∙ passes cs (folded kind c x) (drawn kind e m c) b (playable_more kind laws x c cs ok)
        (after_round kind start key laws next m Heard t c rest range.1 refl (heard kind start key e Waiting t m (draw Heard t c ∷ rest) waits agrees))
        refl (omega arith) re rn

  -- a case that was opened
  pub opened_passes : (l : Ledger M) → l.running ≡ None → l.page.opened < 10000
      → (x : Lists M) (key : M) (cs : List ℕ) (elements numbers : ℕ) (a : Answer) → Playable kind x cs → 2 ^ length cs ≤ elements → 2 ^ length cs ≤ numbers
      → last_answer kind (step kind l (opening (length cs) (claim_of kind key x))).ledger a
      (script kind laws x key elements numbers l.number (one_opened l.page) x 0 cs) ≡ Verdict true
  opened_passes l none room x key cs elements numbers a ok re rn =
      let page : Page = one_opened l.page in
      let k : ℕ = length cs in
      let rest : List (Call M E) = script kind laws x key elements numbers l.number page x 0 cs in
      let follows : Follows kind x key (opening k (claim_of kind key x) ∷ rest) = (goes_through kind laws l none room x key cs elements numbers ok re rn).0 in
      let agrees = opened kind x key k (claim_of kind key x) ok.few rest follows in
      let size = ok.gs in
      ap (λ (n : Ledger M). last_answer kind n a rest) (opens_up kind laws l k _ none ok.few room)
      ∙ passes x key elements numbers l.number page cs x _ a ok agrees refl (omega arith)
      (subst (λ (n : ℕ). n ≤ elements) (sym size) re) (subst (λ (n : ℕ). n ≤ numbers) (sym size) rn)
