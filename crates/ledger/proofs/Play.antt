-- A case by the rules goes through. Assumes nothing.
use Rattle.std.proofs.Common.{◌≡◌, ℕ, zero, suc, ◌+◌, ◌^◌, ◌<◌, ◌≤◌, Bool, true, false, cond, ◌||◌, eqb, ltb, leb, List, [], ◌∷◌, length, get_or, Some, None, Option, sym, refl, ap, ◌∙◌, subst, ap₂, mod-lt, pow-suc, arith, le-ltb, eq-eqb, ne_eqb}
use borrow.Author.Tests.{lt-leb}
use lib.ListN.{length-map}
use lib.Lanes.{zip2}
use Rattle.protocol.specs.Halving.{first_half, last_half}
use Rattle.protocol.proofs.Claims.{half_length}
use Rattle.kind.specs.Kinds.{Meaning, Lawful}
use Rattle.kind.specs.declared.pair.Pair.{Pair}
use Rattle.ledger.specs.Ledger.{Case, Ledger, Step, Call, opening, message, draw, Last, step, opening_step, message_at, last_pair_at, drawn, stage_after, numbers_at, same_numbers, one_opened, one_judged, final}
use Rattle.ledger.specs.Rules.{Lists, folded, claim_of, message_of, GoesOn, round, last, Follows}
use Rattle.ledger.specs.Script.{Playable, last_pair_to, rest_of, played}
use Rattle.ledger.specs.declared.parts.Message.{Message}
use Rattle.ledger.specs.declared.parts.Numbers.{Numbers}
use Rattle.ledger.specs.declared.parts.Page.{Page}
use Rattle.ledger.specs.declared.parts.Sort.TheVariants.{Waiting, Heard, Closing}
use Rattle.ledger.specs.declared.parts.Stage.{Stage}
use Rattle.ledger.specs.declared.parts.Stage.TheVariants.{ForMessage, ForDraw, ForLast}
use Rattle.ledger.proofs.Agreement.{Agrees, ends_well, opened, heard, after_round}
use Rattle.ledger.proofs.Tokens.{same_itself}
use Rattle.ledger.proofs.Walk.{end_taken}

single : (l : List ℕ) → length l ≡ 1 → l ≡ get_or l 0 0 ∷ []
single [] h = absurd (omega arith)
single (a ∷ []) h = refl
single (a ∷ (b ∷ l)) h = absurd (omega arith)

-- every number of a list that is folded is below the order
zip_below : (q : ℕ) (f : ℕ → ℕ → ℕ) → ((a b : ℕ) → f a b < q) → 0 < q → (xs ys : List ℕ) (i : ℕ) → get_or (zip2 f xs ys) i 0 < q
zip_below q f small pos [] ys i = pos
zip_below q f small pos (x ∷ xs) [] i = pos
zip_below q f small pos (x ∷ xs) (y ∷ ys) zero = small x y
zip_below q f small pos (x ∷ xs) (y ∷ ys) (suc i) = zip_below q f small pos xs ys i

chosen_true : {X : Type 0} (b : Bool) (u v : X) → b ≡ true → cond b u v ≡ u
chosen_true b u v e = ap (λ (c : Bool). cond c u v) e

chosen_false : {X : Type 0} (b : Bool) (u v : X) → b ≡ false → cond b u v ≡ v
chosen_false b u v e = ap (λ (c : Bool). cond c u v) e

twice : (n : ℕ) → 2 ^ suc n ≡ 2 ^ n + 2 ^ n
twice n = rw pow-suc (omega arith)

module _ {M E : Type 0} (kind : Meaning M E) (laws : Lawful kind) where
  pub playable_more : (x : Lists M) (c : ℕ) (cs : List ℕ) → Playable kind x (c ∷ cs) → Playable kind (folded kind c x) cs
  playable_more x c cs ok =
      let m : ℕ = 2 ^ length cs in
      let e : 2 ^ suc (length cs) ≡ m + m = twice (length cs) in
      let above = laws.order_low in
      let pos : 0 < kind.order = omega arith in
      let few = ok.few in
      record {
        few = omega arith;
        gs = half_length _ m x.gs (ok.gs ∙ e);
        hs = half_length _ m x.hs (ok.hs ∙ e);
        l = half_length _ m x.l (ok.l ∙ e);
        r = half_length _ m x.r (ok.r ∙ e);
        l_below = zip_below kind.order _ (λ a b. mod-lt _ pos) pos (first_half x.l) (last_half x.l);
        r_below = zip_below kind.order _ (λ a b. mod-lt _ pos) pos (first_half x.r) (last_half x.r);
        challenges = ok.challenges.2;
      }

  module _ (start : Lists M) (key : M) (elements numbers : ℕ) (number : ℕ) (page : Page) where
    abbrev pub token : ℕ → Numbers
    token n = numbers_at number page n

    abbrev pub script : Lists M → ℕ → List ℕ → List (Call M E)
    script x n cs = rest_of kind key elements numbers token start x n cs

    goes_on : (x : Lists M) (n : ℕ) (cs : List ℕ) → Playable kind x cs → GoesOn kind start key x (script x n cs)
    goes_on x n [] ok = last refl refl refl (single x.l ok.l) (single x.r ok.r)
    goes_on x n (c ∷ cs) ok = round refl (goes_on (folded kind c x) (n + 1) cs (playable_more x c cs ok))

    abbrev pub at : Case M → Ledger M
    at e = record { number = number; page = page; running = Some e }

    abbrev pub told : Case M → Message M → Case M
    told e m = record { k = e.k; rounds = e.rounds; stage = ForDraw m; z = e.z; challenges = e.challenges }

    pub sent : (e : Case M) (m : Message M) → e.stage ≡ ForMessage → (step kind (at e) (message Waiting (token e.rounds) m)).ledger ≡ at (told e m)
    sent e m h =
        ap (λ (st : Stage M). (message_at (at e) (token e.rounds) m e st).ledger) h
        ∙ ap (λ (o : Step M). o.ledger) (chosen_true (same_numbers (token e.rounds) (token e.rounds)) _ _ (same_itself (token e.rounds)))

    pub took : (e : Case M) (m : Message M) (c : ℕ) → 0 < c → c < kind.order → (step kind (at (told e m)) (draw Heard (token e.rounds) c)).ledger ≡ at (drawn kind e m c)
    took e m c pos lt =
        let bad : (eqb c 0 || leb kind.order c) ≡ false = ap₂ ◌||◌ (ne_eqb c 0 (λ z. omega arith)) (lt-leb kind.order c lt) in
        ap (λ (o : Step M). o.ledger)
        (chosen_true (same_numbers (token e.rounds) (token e.rounds)) _ _ (same_itself (token e.rounds)) ∙ chosen_false (eqb c 0 || leb kind.order c) _ _ bad)

    play : (cs : List ℕ) (x : Lists M) (e : Case M) → Playable kind x cs → Agrees kind start key e (script x e.rounds cs)
        → e.stage ≡ stage_after e.k e.rounds → e.rounds + length cs ≡ e.k
        → length start.gs ≤ elements → length start.gs ≤ numbers
        → (final kind (at e) (script x e.rounds cs)).page ≡ one_judged true page
    play [] x e ok a st n re rn =
        let is_last : e.stage ≡ ForLast = st ∙ ap (λ (b : Bool). cond b ForLast ForMessage) (eq-eqb e.rounds e.k (omega arith)) in
        let p : Last M E = last_pair_to kind key elements numbers token start x in
        let size : length p.gs ≡ length start.gs = length-map start.gs kind.entry in
        ap (λ (s : Stage M). (last_pair_at kind (at e) (token e.rounds) p e s).ledger.page) is_last
        ∙ ap (λ (o : Step M). o.ledger.page)
        (end_taken laws start key (at e) (token e.rounds) p e (ends_well kind start key laws e Closing (token e.rounds) p a is_last) (same_itself (token e.rounds))
        (omega (arith, size)) (omega (arith, size)) (ok.l_below 0) (ok.r_below 0))
    play (c ∷ cs) x e ok a st n re rn =
        let m : Message M = message_of kind key x in
        let t : Numbers = token e.rounds in
        let waits : e.stage ≡ ForMessage = st ∙ ap (λ (b : Bool). cond b ForLast ForMessage) (ne_eqb e.rounds e.k (λ same. omega arith)) in
        let rest : List (Call M E) = script (folded kind c x) (e.rounds + 1) cs in
        let range = ok.challenges in
        ap (λ (l : Ledger M). (final kind (step kind l (draw Heard t c)).ledger rest).page) (sent e m waits)
        ∙ ap (λ (l : Ledger M). (final kind l rest).page) (took e m c range.0 range.1)
        ∙ play cs (folded kind c x) (drawn kind e m c) (playable_more x c cs ok)
        (after_round kind start key laws (told e m) m Heard t c rest range.1 refl (heard kind start key e Waiting t m (draw Heard t c ∷ rest) waits a))
        refl (omega arith) re rn

  pub opens_up : (l : Ledger M) (k : ℕ) (z : Pair M) → l.running ≡ None → k ≤ 8 → l.page.opened < 10000
      → (step kind l (opening k z)).ledger
      ≡ record { number = l.number; page = one_opened l.page; running = Some (record { k = k; rounds = 0; stage = stage_after k 0; z = z; challenges = [] }) }
  opens_up l k z none few room =
      ap (λ (run : Option (Case M)). (opening_step l k z run).ledger) none
      ∙ ap (λ (o : Step M). o.ledger) (chosen_false (ltb 8 k) _ _ (le-ltb 8 k few) ∙ chosen_false (leb 10000 l.page.opened) _ _ (lt-leb 10000 l.page.opened room))

  pub goes_through : (l : Ledger M) → l.running ≡ None → l.page.opened < 10000
      → (x : Lists M) (key : M) (cs : List ℕ) (elements numbers : ℕ) → Playable kind x cs → 2 ^ length cs ≤ elements → 2 ^ length cs ≤ numbers
      → let calls = played kind key elements numbers (numbers_at l.number (one_opened l.page)) x cs in
      Follows kind x key calls × ((final kind l calls).page ≡ one_judged true (one_opened l.page))
  goes_through l none room x key cs elements numbers ok re rn =
      let page : Page = one_opened l.page in
      let k : ℕ = length cs in
      let rest : List (Call M E) = script x key elements numbers l.number page x 0 cs in
      let follows : Follows kind x key (opening k (claim_of kind key x) ∷ rest) = record {
        k = k;
        rest = rest;
        opens = refl;
        gs = ok.gs;
        hs = ok.hs;
        l = ok.l;
        r = ok.r;
        goes_on = goes_on x key elements numbers l.number page x 0 cs ok;
      } in
      let agrees = opened kind x key k (claim_of kind key x) ok.few rest follows in
      let size = ok.gs in (
        follows,
        ap (λ (n : Ledger M). (final kind n rest).page) (opens_up l k _ none ok.few room)
            ∙ play x key elements numbers l.number page cs x _ ok agrees refl (omega arith) (subst (λ (n : ℕ). n ≤ elements) (sym size) re) (subst (λ (n : ℕ). n ≤ numbers) (sym size) rn),
      )
