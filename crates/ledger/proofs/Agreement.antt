-- What the ledger's open case has to do with a case that follows the rules. Assumes nothing.
use Rattle.std.proofs.Common.{◌≡◌, ℕ, zero, suc, ◌+◌, ◌-◌, ◌*◌, ◌%◌, ◌^◌, ◌<◌, ◌≤◌, Bool, true, false, cond, not, ◌&&◌, ◌||◌, eqb, ltb, leb, List, [], ◌∷◌, ◌++◌, map, length, get_or, is_some, Some, None, Ok, Err, Option, Result, sym, refl, ap, ◌∙◌, subst, ap₂, append_assoc, mod-eq_of_lt, pow-suc, arith, ltb-false, lt-ltb, eq-eqb, eqb-true, le-leb, leb-false}
use mathlib.Core.List.{map-append}
use borrow.Author.Tests.{eqb-false}
use lib.ListN.{length-map}
use Rattle.protocol.specs.Group.{power}
use Rattle.protocol.specs.Halving.{Standing, Sized, TrueClaim, fold_g, fold_h, folds_g, folds_h, last_g, last_h}
use Rattle.protocol.proofs.Claims.{keeps, complete}
use Rattle.kind.specs.Faults.{unless, wrapped, first_bad}
use Rattle.kind.specs.Kinds.{Meaning, Lawful, elements}
use Rattle.kind.specs.Products.{entries_refusal}
use Rattle.kind.specs.declared.fault.KindFault.TheVariants.{NotAnElement}
use Rattle.kind.specs.declared.pair.Pair.{Pair}
use Rattle.kind.proofs.Listed.{elements-entries}
use Rattle.kind.proofs.Steps.{AllPass, none, more, all_pass}
use Rattle.method.specs.Commitments.{fold_commitments}
use Rattle.method.specs.Meaning.{is_size, length_refusals, content_refusals, method_refused, reduced, verdict_of}
use Rattle.method.specs.declared.fault.MethodFault.{MethodFault}
use Rattle.method.specs.declared.fault.MethodFault.TheVariants.{Kind}
use Rattle.ledger.specs.Ledger.{Case, Ledger, Step, Call, opening, message, draw, last_pair, withdrawal, page_turn, Last, step, step_on, of_sort, opening_step, message_at, draw_at, last_pair_at, drawn, judged, case_answer, stage_after, same_numbers, numbers_at, lower, upper}
use Rattle.ledger.specs.Promise.{noted}
use Rattle.ledger.specs.Rules.{Lists, folded, claim_of, message_of, GoesOn, round, last, Follows}
use Rattle.ledger.specs.declared.parts.Message.{Message}
use Rattle.ledger.specs.declared.parts.Numbers.{Numbers}
use Rattle.ledger.specs.declared.parts.Sort.{Sort}
use Rattle.ledger.specs.declared.parts.Sort.TheVariants.{Waiting, Heard, Closing}
use Rattle.ledger.specs.declared.parts.Stage.{Stage}
use Rattle.ledger.specs.declared.parts.Stage.TheVariants.{ForMessage, ForDraw, ForLast}

abbrev pub standing : {M : Type 0} → Lists M → Pair M → Standing M
standing x z = record { gs = x.gs; hs = x.hs; l = x.l; r = x.r; z1 = z.a; z2 = z.b }

module _ {M E : Type 0} (kind : Meaning M E) where
  folds_g_more : (cs : List ℕ) (c : ℕ) (gs : List M)
      → folds_g kind.order kind.group (cs ++ c ∷ []) gs ≡ fold_g kind.order kind.group c (folds_g kind.order kind.group cs gs)
  folds_g_more [] c gs = refl
  folds_g_more (b ∷ cs) c gs = folds_g_more cs c (fold_g kind.order kind.group b gs)

  folds_h_more : (cs : List ℕ) (c : ℕ) (hs : List M)
      → folds_h kind.order kind.group (cs ++ c ∷ []) hs ≡ fold_h kind.order kind.group c (folds_h kind.order kind.group cs hs)
  folds_h_more [] c hs = refl
  folds_h_more (b ∷ cs) c hs = folds_h_more cs c (fold_h kind.order kind.group b hs)

  -- a challenge below the order is what it is modulo the order
  reduced_more : (cs : List ℕ) (c : ℕ) → c < kind.order → reduced kind (cs ++ c ∷ []) ≡ reduced kind cs ++ c ∷ []
  reduced_more cs c small = map-append (λ d. d % kind.order) cs (c ∷ []) ∙ ap (λ (d : ℕ). reduced kind cs ++ d ∷ []) (mod-eq_of_lt small)

-- why a method refuses no last pair that follows the rules
pub sizes : (k : ℕ) → k ≤ 8 → is_size (2 ^ k) ≡ true
sizes zero h = refl
sizes (suc zero) h = refl
sizes (suc (suc zero)) h = refl
sizes (suc (suc (suc zero))) h = refl
sizes (suc (suc (suc (suc zero)))) h = refl
sizes (suc (suc (suc (suc (suc zero))))) h = refl
sizes (suc (suc (suc (suc (suc (suc zero)))))) h = refl
sizes (suc (suc (suc (suc (suc (suc (suc zero))))))) h = refl
sizes (suc (suc (suc (suc (suc (suc (suc (suc zero)))))))) h = refl
sizes (suc (suc (suc (suc (suc (suc (suc (suc (suc k))))))))) h = absurd (omega arith)

pub own : {M E : Type 0} (kind : Meaning M E) (laws : Lawful kind) (i : ℕ) (xs : List M)
    → first_bad (λ e. not (is_some (kind.element e))) NotAnElement i (map kind.entry xs) ≡ Ok tt
own kind laws i [] = refl
own kind laws i (x ∷ xs) =
    ap (λ (o : Option _). cond (not (is_some o)) (Err (NotAnElement i)) (first_bad (λ e. not (is_some (kind.element e))) NotAnElement (i + 1) (map kind.entry xs))) (laws.back x)
    ∙ own kind laws (i + 1) xs

pub test : {F : Type 0} (b : Bool) (fault : F) → b ≡ true → unless b fault ≡ Ok tt
test b fault h = ap (λ (c : Bool). unless c fault) h

pub no_refusal : {M E : Type 0} (kind : Meaning M E) (laws : Lawful kind) (cs : List ℕ) (p : Last M E) (gs hs : List M) → length cs ≤ 8
    → length gs ≡ 2 ^ length cs → length hs ≡ 2 ^ length cs
    → p.gs ≡ map kind.entry gs → p.hs ≡ map kind.entry hs
    → length p.gs ≤ p.elements → length p.gs ≤ p.numbers → p.a < kind.order → p.b < kind.order
    → method_refused kind cs p.gs p.hs p.a p.b p.elements p.numbers ≡ Ok tt
no_refusal kind laws cs p gs hs few ng nh pg ph re rn sa sb =
    let n : ℕ = 2 ^ length cs in
    let lg : length p.gs ≡ n = ap length pg ∙ length-map gs kind.entry ∙ ng in
    let lh : length p.hs ≡ n = ap length ph ∙ length-map hs kind.entry ∙ nh in
    let og : entries_refusal kind p.gs ≡ Ok tt = ap (entries_refusal kind) pg ∙ own kind laws 0 gs in
    let oh : entries_refusal kind p.hs ≡ Ok tt = ap (entries_refusal kind) ph ∙ own kind laws 0 hs in
    let row : AllPass (length_refusals n (length p.gs) (length p.hs) p.elements p.numbers ++ content_refusals kind p.gs p.hs p.a p.b) =
    more (test (is_size (length p.gs)) _ (ap is_size lg ∙ sizes (length cs) few))
    (more (test (is_size (length p.hs)) _ (ap is_size lh ∙ sizes (length cs) few))
    (more (test (eqb (length p.gs) n) _ (eq-eqb (length p.gs) n lg))
    (more (test (eqb (length p.hs) n) _ (eq-eqb (length p.hs) n lh))
    (more (test (leb n p.elements) _ (le-leb n p.elements (subst (λ (m : ℕ). m ≤ p.elements) lg re)))
    (more (test (leb n p.numbers) _ (le-leb n p.numbers (subst (λ (m : ℕ). m ≤ p.numbers) lg rn)))
    (more (ap (λ r. wrapped Kind r 0) og)
    (more (ap (λ r. wrapped Kind r 0) oh)
    (more (test (ltb p.a kind.order) _ (lt-ltb p.a kind.order sa))
    (more (test (ltb p.b kind.order) _ (lt-ltb p.b kind.order sb))
    none))))))))) in
    all_pass row

-- what is known of a last pair that ends its case
pub record Ending {M E : Type 0} (kind : Meaning M E) (e : Case M) (p : Last M E) : Type 0 where
  pub pass : verdict_of kind e.challenges e.z p.gs p.hs p.key p.a p.b ≡ true
  pub free : length p.gs ≤ p.elements → length p.gs ≤ p.numbers → p.a < kind.order → p.b < kind.order
      → method_refused kind e.challenges p.gs p.hs p.a p.b p.elements p.numbers ≡ Ok tt

module _ {M E : Type 0} (kind : Meaning M E) (start : Lists M) (key : M) where
  -- with j rounds to go, the lists x as they are now, and the calls still to come
  abbrev pub AtStage : Lists M → ℕ → Stage M → List (Call M E) → Type 0
  AtStage x j ForMessage rest = (0 < j) × GoesOn kind start key x rest
  AtStage x j (ForDraw m) rest = (0 < j) × ((o : Sort) × ((s : Numbers) × GoesOn kind start key x (message o s m ∷ rest)))
  AtStage x j ForLast rest = (j ≡ 0) × GoesOn kind start key x rest

  pub record Agrees (e : Case M) (rest : List (Call M E)) : Type 0 where
    pub x : Lists M
    pub j : ℕ
    pub few : e.k ≤ 8
    pub all_gs : length start.gs ≡ 2 ^ e.k
    pub all_hs : length start.hs ≡ 2 ^ e.k
    pub to_go : j + e.rounds ≡ e.k
    pub counted : length e.challenges ≡ e.rounds
    pub sized : Sized (2 ^ j) (standing x e.z)
    pub claim : TrueClaim kind.order kind.group key (standing x e.z)
    pub gs : x.gs ≡ folds_g kind.order kind.group (reduced kind e.challenges) start.gs
    pub hs : x.hs ≡ folds_h kind.order kind.group (reduced kind e.challenges) start.hs
    pub stage : AtStage x j e.stage rest

  abbrev pub Runs : Option (Case M) → List (Call M E) → Type 0
  Runs None rest = ⊥
  Runs (Some e) rest = Agrees e rest

  -- the invariant: whatever may follow, if it all follows the rules, the open case agrees
  abbrev pub Inv : List (Call M E) → Ledger M → Type 0
  Inv [] l = Unit {0}
  Inv (y ∷ ys) l = (rest : List (Call M E)) → Follows kind start key ((y ∷ ys) ++ rest) → Runs l.running rest

  -- kept by a call with its outcome
  pub record Good (calls : List (Call M E)) (x : Call M E) (out : Step M) : Type 0 where
    pub kept : Inv (noted calls x out.answer) out.ledger

  -- the same where a way knows why it was taken
  good_cond_if : {calls : List (Call M E)} {x : Call M E} (b : Bool) {u v : Step M} → Good calls x u → (b ≡ false → Good calls x v) → Good calls x (cond b u v)
  good_cond_if true p q = p
  good_cond_if false p q = q refl

  good_cond : {calls : List (Call M E)} {x : Call M E} (b : Bool) {u v : Step M} → Good calls x u → Good calls x v → Good calls x (cond b u v)
  good_cond true p q = p
  good_cond false p q = q

  stage_goes : (x : Lists M) (j k rounds : ℕ) (rest : List (Call M E)) → j + rounds ≡ k → GoesOn kind start key x rest → AtStage x j (stage_after k rounds) rest
  stage_goes x j k rounds rest e g = go (eqb rounds k) refl
    where
      go : (b : Bool) → eqb rounds k ≡ b → AtStage x j (cond b ForLast ForMessage) rest
      go true h = (omega (arith, eqb-true, h), g)
      go false h = (omega (arith, eqb-false, h), g)

  abbrev NoOpening : Call M E → Type 0
  NoOpening p = (k : ℕ) (z : Pair M) → p ≡ opening k z → ⊥

  extend : (calls : List (Call M E)) (p : Call M E) (l l' : Ledger M) → NoOpening p
      → ((rest : List (Call M E)) → Runs l.running (p ∷ rest) → Runs l'.running rest)
      → Inv calls l → Inv (calls ++ p ∷ []) l'
  extend [] p l l' non go inv = λ rest f. absurd (non f.k (claim_of kind key start) (cc f.opens))
  extend (y ∷ ys) p l l' non go inv = λ rest f.
      go rest (inv (p ∷ rest) (subst (Follows kind start key) (append_assoc (y ∷ ys) (p ∷ []) rest) f))

  pub opened : (k : ℕ) (z : Pair M) → k ≤ 8 → (rest : List (Call M E)) → Follows kind start key (opening k z ∷ rest)
      → Agrees (record { k = k; rounds = 0; stage = stage_after k 0; z = z; challenges = [] }) rest
  opened k z small rest f =
      let ek : f.k ≡ k = cc f.opens in
      let ez : z ≡ claim_of kind key start = cc f.opens in
      let er : f.rest ≡ rest = cc f.opens in
      let size : 2 ^ f.k ≡ 2 ^ k = ap (λ (n : ℕ). 2 ^ n) ek in
      record {
        x = start;
        j = k;
        few = small;
        all_gs = f.gs ∙ size;
        all_hs = f.hs ∙ size;
        to_go = omega arith;
        counted = refl;
        sized = record { gs = f.gs ∙ size; hs = f.hs ∙ size; l = f.l ∙ size; r = f.r ∙ size };
        claim = record { one = ap (λ (y : Pair M). y.a) ez; two = ap (λ (y : Pair M). y.b) ez };
        gs = refl;
        hs = refl;
        stage = stage_goes start k k 0 rest (omega arith) (subst (GoesOn kind start key start) er f.goes_on);
      }

  opening_good : (calls : List (Call M E)) (l : Ledger M) (k : ℕ) (z : Pair M) (run : Option (Case M)) → Inv calls l
      → Good calls (opening k z) (opening_step l k z run)
  opening_good calls l k z (Some e) inv = record { kept = inv }
  opening_good calls l k z None inv =
      good_cond_if (ltb 8 k) (record { kept = inv }) (λ small. good_cond (leb 10000 l.page.opened) (record { kept = inv }) (record { kept = opened k z (ltb-false 8 k small) }))

  pub heard : (e : Case M) (o : Sort) (s : Numbers) (m : Message M) (rest : List (Call M E)) → e.stage ≡ ForMessage → Agrees e (message o s m ∷ rest)
      → Agrees (record { k = e.k; rounds = e.rounds; stage = ForDraw m; z = e.z; challenges = e.challenges }) rest
  heard e o s m rest at a =
      let st : AtStage a.x a.j ForMessage (message o s m ∷ rest) = subst (λ (t : Stage M). AtStage a.x a.j t (message o s m ∷ rest)) at a.stage in
      record {
        x = a.x;
        j = a.j;
        few = a.few;
        all_gs = a.all_gs;
        all_hs = a.all_hs;
        to_go = a.to_go;
        counted = a.counted;
        sized = a.sized;
        claim = a.claim;
        gs = a.gs;
        hs = a.hs;
        stage = (st.0, (o, (s, st.1)));
      }

  runs_some : (l : Ledger M) (e : Case M) (rest : List (Call M E)) → l.running ≡ Some e → Runs l.running rest → Agrees e rest
  runs_some l e rest is r = subst (λ (o : Option (Case M)). Runs o rest) is r

  message_good : (calls : List (Call M E)) (l : Ledger M) (o : Sort) (s : Numbers) (m : Message M) (e : Case M) (st : Stage M) → l.running ≡ Some e → e.stage ≡ st → Inv calls l
      → Good calls (message o s m) (message_at l s m e st)
  message_good calls l o s m e ForMessage is at inv =
      good_cond (same_numbers s (numbers_at l.number l.page e.rounds))
      (record { kept = extend calls (message o s m) l _ (λ k z h. let c : ◌≡◌ {A = ℕ} 0 1 = cc h in omega arith) (λ rest r. heard e o s m rest at (runs_some l e _ is r)) inv })
      (record { kept = inv })
  message_good calls l o s m e (ForDraw n) is at inv = record { kept = inv }
  message_good calls l o s m e ForLast is at inv = record { kept = inv }

  after_draw : {x : Lists M} {o u : Sort} {s t : Numbers} {m : Message M} {c : ℕ} {rest : List (Call M E)} → GoesOn kind start key x (message o s m ∷ (draw u t c ∷ rest))
      → (m ≡ message_of kind key x) × GoesOn kind start key (folded kind c x) rest
  after_draw (round h g) = (h, g)

  -- one round more
  pub after_round : Lawful kind → (e : Case M) (m : Message M) (u : Sort) (t : Numbers) (c : ℕ) (rest : List (Call M E)) → c < kind.order → e.stage ≡ ForDraw m
      → Agrees e (draw u t c ∷ rest) → Agrees (drawn kind e m c) rest
  after_round laws e m u t c rest small at a =
      let q = kind.order in
      let g = kind.group in
      let x = a.x in
      let st : AtStage x a.j (ForDraw m) (draw u t c ∷ rest) = subst (λ (v : Stage M). AtStage x a.j v (draw u t c ∷ rest)) at a.stage in
      let more_calls = after_draw st.1.1.1 in
      let i : ℕ = a.j - 1 in
      let up : a.j ≡ suc i = (let pos = st.0 in omega arith) in
      let half : 2 ^ a.j ≡ 2 ^ i + 2 ^ i = ap (λ (n : ℕ). 2 ^ n) up ∙ rw pow-suc (omega arith) in
      let next = keeps laws.group key c (2 ^ i) (standing x e.z) (subst (λ (n : ℕ). Sized n (standing x e.z)) half a.sized) a.claim in
      let sides = λ (n : Message M). standing (folded kind c x) (fold_commitments kind c (lower n) e.z (upper n)) in
      let down : i + (e.rounds + 1) ≡ e.k = (let go = a.to_go in omega arith) in
      let cs = reduced_more kind e.challenges c small in
      record {
        x = folded kind c x;
        j = i;
        few = a.few;
        all_gs = a.all_gs;
        all_hs = a.all_hs;
        to_go = down;
        counted = length_more e.challenges c ∙ ap (λ (n : ℕ). n + 1) a.counted;
        sized = subst (λ (n : Message M). Sized (2 ^ i) (sides n)) (sym more_calls.0) next.0;
        claim = subst (λ (n : Message M). TrueClaim q g key (sides n)) (sym more_calls.0) next.1;
        gs = ap (fold_g q g c) a.gs ∙ sym (folds_g_more kind (reduced kind e.challenges) c start.gs) ∙ ap (λ (l : List ℕ). folds_g q g l start.gs) (sym cs);
        hs = ap (fold_h q g c) a.hs ∙ sym (folds_h_more kind (reduced kind e.challenges) c start.hs) ∙ ap (λ (l : List ℕ). folds_h q g l start.hs) (sym cs);
        stage = stage_goes (folded kind c x) i e.k (e.rounds + 1) rest down more_calls.1;
      }
    where
      length_more : (cs : List ℕ) (c : ℕ) → length (cs ++ c ∷ []) ≡ length cs + 1
      length_more [] c = refl
      length_more (b ∷ cs) c = let h = length_more cs c in omega arith

  -- a challenge that is not refused is below the order
  below : (c : ℕ) → (eqb c 0 || leb kind.order c) ≡ false → c < kind.order
  below c h = leb-false kind.order c (second (eqb c 0) (leb kind.order c) h)
    where
      second : (a b : Bool) → (a || b) ≡ false → b ≡ false
      second true b e = cc
      second false b e = e

  draw_good : Lawful kind → (calls : List (Call M E)) (l : Ledger M) (u : Sort) (s : Numbers) (c : ℕ) (e : Case M) (st : Stage M) → l.running ≡ Some e → e.stage ≡ st → Inv calls l
      → Good calls (draw u s c) (draw_at kind l s c e st)
  draw_good laws calls l u s c e ForMessage is at inv = record { kept = inv }
  draw_good laws calls l u s c e (ForDraw m) is at inv =
      good_cond (same_numbers s (numbers_at l.number l.page e.rounds))
      (good_cond_if (eqb c 0 || leb kind.order c) (record { kept = inv })
      (λ small. record { kept = extend calls (draw u s c) l _ (λ k z h. let d : ◌≡◌ {A = ℕ} 0 1 = cc h in omega arith) (λ rest r. after_round laws e m u s c rest (below c small) at (runs_some l e _ is r)) inv }))
      (record { kept = inv })
  draw_good laws calls l u s c e ForLast is at inv = record { kept = inv }

  judged_good : (calls : List (Call M E)) (l : Ledger M) (o : Sort) (s : Numbers) (p : Last M E) (r : Result Bool MethodFault) → Inv calls l → Good calls (last_pair o s p) (judged l r)
  judged_good calls l o s p (Ok b) inv = record { kept = tt }
  judged_good calls l o s p (Err why) inv = record { kept = inv }

  last_good : (calls : List (Call M E)) (l : Ledger M) (o : Sort) (s : Numbers) (p : Last M E) (e : Case M) (st : Stage M) → Inv calls l → Good calls (last_pair o s p) (last_pair_at kind l s p e st)
  last_good calls l o s p e ForMessage inv = record { kept = inv }
  last_good calls l o s p e (ForDraw m) inv = record { kept = inv }
  last_good calls l o s p e ForLast inv =
      good_cond (same_numbers s (numbers_at l.number l.page e.rounds)) (judged_good calls l o s p (case_answer kind e p) inv) (record { kept = inv })

  -- every call keeps the invariant
  step_at : Lawful kind → (calls : List (Call M E)) (l : Ledger M) (x : Call M E) (run : Option (Case M)) → l.running ≡ run → Inv calls l → Good calls x (step_on kind l x run)
  step_at laws calls l (opening k z) run is inv = opening_good calls l k z run inv
  step_at laws calls l (message Waiting s m) None is inv = record { kept = inv }
  step_at laws calls l (message Waiting s m) (Some e) is inv = message_good calls l Waiting s m e e.stage is refl inv
  step_at laws calls l (message Heard s m) run is inv = record { kept = inv }
  step_at laws calls l (message Closing s m) run is inv = record { kept = inv }
  step_at laws calls l (draw Waiting s c) run is inv = record { kept = inv }
  step_at laws calls l (draw Heard s c) None is inv = record { kept = inv }
  step_at laws calls l (draw Heard s c) (Some e) is inv = draw_good laws calls l Heard s c e e.stage is refl inv
  step_at laws calls l (draw Closing s c) run is inv = record { kept = inv }
  step_at laws calls l (last_pair Waiting s p) run is inv = record { kept = inv }
  step_at laws calls l (last_pair Heard s p) run is inv = record { kept = inv }
  step_at laws calls l (last_pair Closing s p) None is inv = record { kept = inv }
  step_at laws calls l (last_pair Closing s p) (Some e) is inv = last_good calls l Closing s p e e.stage inv
  step_at laws calls l (withdrawal sort s) None is inv = record { kept = inv }
  step_at laws calls l (withdrawal sort s) (Some e) is inv =
      good_cond (of_sort e.stage sort && same_numbers s (numbers_at l.number l.page e.rounds)) (record { kept = tt }) (record { kept = inv })
  step_at laws calls l page_turn None is inv = record { kept = tt }
  step_at laws calls l page_turn (Some e) is inv = record { kept = inv }

  pub step_keeps : Lawful kind → (calls : List (Call M E)) (l : Ledger M) (x : Call M E) → Inv calls l → Inv (noted calls x (step kind l x).answer) (step kind l x).ledger
  step_keeps laws calls l x inv = (step_at laws calls l x l.running refl inv).kept

  -- the last pair of a case that agrees passes
  at_end : Lawful kind → (e : Case M) (x : Lists M) (o : Sort) (s : Numbers) (p : Last M E)
      → Sized 1 (standing x e.z) → TrueClaim kind.order kind.group key (standing x e.z)
      → x.gs ≡ folds_g kind.order kind.group (reduced kind e.challenges) start.gs → x.hs ≡ folds_h kind.order kind.group (reduced kind e.challenges) start.hs
      → GoesOn kind start key x (last_pair o s p ∷ []) → verdict_of kind e.challenges e.z p.gs p.hs p.key p.a p.b ≡ true
  at_end laws e x o s p n z eg eh (last pg ph pk pa pb) =
      let q = kind.order in
      let g = kind.group in
      let cs : List ℕ = reduced kind e.challenges in
      let both = complete laws.group key [] (standing x e.z) n z in
      let lg : M = last_g q g cs (elements kind p.gs) in
      let lh : M = last_h q g cs (elements kind p.hs) in
      let sg : folds_g q g cs (elements kind p.gs) ≡ x.gs = ap (folds_g q g cs) (ap (elements kind) pg ∙ elements-entries kind laws start.gs) ∙ sym eg in
      let sh : folds_h q g cs (elements kind p.hs) ≡ x.hs = ap (folds_h q g cs) (ap (elements kind) ph ∙ elements-entries kind laws start.hs) ∙ sym eh in
      let la : get_or x.l 0 0 ≡ p.a = ap (λ (l : List ℕ). get_or l 0 0) pa in
      let lb : get_or x.r 0 0 ≡ p.b = ap (λ (l : List ℕ). get_or l 0 0) pb in
      let one : power g lg p.a ≡ e.z.a = ap₂ (power g) (ap (λ (l : List M). get_or l 0 g.unit) sg) (sym la) ∙ both.one in
      let two : g.join (power g lh p.b) (power g p.key (p.a * p.b)) ≡ e.z.b =
      ap₂ g.join (ap₂ (power g) (ap (λ (l : List M). get_or l 0 g.unit) sh) (sym lb)) (ap₂ (power g) pk (ap₂ ◌*◌ (sym la) (sym lb))) ∙ both.two in
      ap₂ ◌&&◌ (laws.same_so _ _ one) (laws.same_so _ _ two)

  says : {x : Lists M} {o : Sort} {s : Numbers} {p : Last M E} → GoesOn kind start key x (last_pair o s p ∷ []) → (p.gs ≡ map kind.entry start.gs) × (p.hs ≡ map kind.entry start.hs)
  says (last pg ph pk pa pb) = (pg, ph)

  -- the last pair, where the case is at its end
  pub ends_well : Lawful kind → (e : Case M) (o : Sort) (s : Numbers) (p : Last M E) → Agrees e (last_pair o s p ∷ []) → e.stage ≡ ForLast → Ending kind e p
  ends_well laws e o s p a at =
      let st : AtStage a.x a.j ForLast (last_pair o s p ∷ []) = subst (λ (u : Stage M). AtStage a.x a.j u (last_pair o s p ∷ [])) at a.stage in
      let n : Sized 1 (standing a.x e.z) = subst (λ (i : ℕ). Sized (2 ^ i) (standing a.x e.z)) st.0 a.sized in
      let brought = says st.1 in
      let k : e.k ≡ length e.challenges = (let go = a.to_go in let over = st.0 in let c = a.counted in omega arith) in
      let size = ap (λ (i : ℕ). 2 ^ i) k in
      let few : length e.challenges ≤ 8 = (let f = a.few in omega arith) in
      record {
        pass = at_end laws e a.x o s p n a.claim a.gs a.hs st.1;
        free = λ room_e room_n small_a small_b. no_refusal kind laws e.challenges p start.gs start.hs few (a.all_gs ∙ size) (a.all_hs ∙ size) brought.0 brought.1 room_e room_n small_a small_b;
      }

  pub last_agrees : (calls : List (Call M E)) (l : Ledger M) (o : Sort) (s : Numbers) (p : Last M E) → Inv calls l → Follows kind start key (calls ++ last_pair o s p ∷ []) → Runs l.running (last_pair o s p ∷ [])
  last_agrees [] l o s p inv f = absurd (let z : ◌≡◌ {A = ℕ} 0 1 = cc f.opens in omega arith)
  last_agrees (y ∷ ys) l o s p inv f = inv (last_pair o s p ∷ []) f
