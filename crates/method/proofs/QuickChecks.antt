-- The quick check decides what the methods do. Assumes nothing.
use Rattle.std.proofs.Common.{◌≡◌, ℕ, ◌%◌, ◌^◌, ◌<◌, ◌≤◌, true, false, cond, ◌&&◌, eqb, ltb, leb, List, ◌++◌, length, Ok, Err, Result, sym, refl, ap, ◌∙◌, ap₂, arith, ltb-true, eqb-true, leb-true}
use Rattle.std.proofs.lemmas.List.{length-map}
use Rattle.protocol.specs.Halving.{FoldedPasses}
use Rattle.protocol.specs.Quick.{Quick, Decides}
use Rattle.protocol.specs.Weights.{HWeights}
use Rattle.protocol.proofs.Quick.{decides}
use Rattle.kind.specs.Both.{both_true}
use Rattle.kind.specs.Faults.{and_then, first_of, wrapped}
use Rattle.kind.specs.Kinds.{Meaning, Lawful, elements}
use Rattle.kind.specs.Products.{entries_refusal}
use Rattle.kind.specs.declared.pair.Pair.{Pair}
use Rattle.kind.proofs.Listed.{length-elements}
use Rattle.kind.proofs.Steps.{both_went, held, AllPass, none, more, all_pass}
use Rattle.method.specs.Meaning.{size_refusal, length_refusal, room_refusal, scalar_refusal, length_refusals, content_refusals, reduced, method_refused, verdict_of}
use Rattle.method.specs.QuickCheck.{quick_lengths, weight_refusal, quick_refused, quick_passes, QuickDecides}
use Rattle.method.specs.declared.fault.MethodFault.TheVariants.{Length, Room, Kind, NotAChallenge}

no_fault : {T F : Type 0} (r : Result Unit F) (v u : T) → and_then r (λ _. Ok v) ≡ Ok u → (r ≡ Ok tt) × (v ≡ u)
no_fault (Ok x) v u e = (refl, cc)
no_fault (Err f) v u e = (cc, cc)

-- what is known where nothing is refused
pub record QuickShaped (n g elements numbers : ℕ) : Type 0 where
  pub fits_g : g ≡ n
  pub room_e : n ≤ elements
  pub room_n : n ≤ numbers

pub quick_shaped : (n g elements numbers : ℕ) → first_of (quick_lengths n g elements numbers) ≡ Ok tt → QuickShaped n g elements numbers
quick_shaped n g elements numbers e =
    let a = both_went (size_refusal g) _ tt e in
    let c = both_went (length_refusal n g) _ tt a.2 in
    let f = both_went (room_refusal n elements) _ tt c.2 in
    let l = both_went (room_refusal n numbers) _ tt f.2 in
    record {
      fits_g = eqb-true g n (held (eqb g n) (Length g) c.0 c.1);
      room_e = leb-true n elements (held (leb n elements) (Room elements) f.0 f.1);
      room_n = leb-true n numbers (held (leb n numbers) (Room numbers) l.0 l.1);
    }

module _ {M E : Type 0} (s : Meaning M E) (laws : Lawful s) (cs ws : List ℕ) (good : HWeights s.order (reduced s cs) ws)
    (z : Pair M) (gs : List E) (k : M) (a b we wn : ℕ) where
  abbrev n : ℕ
  n = 2 ^ length cs

  record Fine (w : ℕ) : Type 0 where
    pub methods : method_refused s cs gs gs a b we wn ≡ Ok tt
    pub long : length gs ≡ n
    pub some : 0 < w
    pub small : w < s.order

  fine : (w : ℕ) → quick_refused s cs gs a b w we wn ≡ Ok tt → Fine w
  fine w e =
      let p1 = both_went (size_refusal (length gs)) _ tt e in
      let p2 = both_went (length_refusal n (length gs)) _ tt p1.2 in
      let p3 = both_went (room_refusal n we) _ tt p2.2 in
      let p4 = both_went (room_refusal n wn) _ tt p3.2 in
      let p5 = both_went (wrapped Kind (entries_refusal s gs) 0) _ tt p4.2 in
      let p6 = both_went (scalar_refusal s a) _ tt p5.2 in
      let p7 = both_went (scalar_refusal s b) _ tt p6.2 in
      let p8 = both_went (weight_refusal s w) _ tt p7.2 in
      let t = both_true (ltb 0 w) (ltb w s.order) (held (ltb 0 w && ltb w s.order) (NotAChallenge 0) p8.0 p8.1) in
      let row : AllPass (length_refusals n (length gs) (length gs) we wn ++ content_refusals s gs gs a b) =
      more p1.1 (more p1.1 (more p2.1 (more p2.1 (more p3.1 (more p4.1 (more p5.1 (more p5.1 (more p6.1 (more p7.1 none))))))))) in
      record {
        methods = all_pass row;
        long = eqb-true (length gs) n (held (eqb (length gs) n) (Length (length gs)) p2.0 p2.1);
        some = ltb-true 0 w t.0;
        small = ltb-true w s.order t.1;
      }

  -- the protocol's own decision, for these lists
  abbrev Judge : Type 0
  Judge = Decides s.order s.group k (reduced s cs) ws (elements s gs) a b z.a z.b

  decided : length gs ≡ n → Judge
  decided long =
      let size : length (reduced s cs) ≡ length cs = length-map cs (λ c. c % s.order) in
      decides laws.group (reduced s cs) ws good (elements s gs) (length-elements s gs ∙ long ∙ ap (λ (m : ℕ). 2 ^ m) (sym size)) k a b z.a z.b

  abbrev BothHold : Type 0
  BothHold = FoldedPasses s.order s.group k (reduced s cs) (elements s gs) (elements s gs) a b z.a z.b

  abbrev HoldsAt : ℕ → Type 0
  HoldsAt w = Quick s.group k (elements s gs) ws a b z.a z.b w

  verdict_holds : verdict_of s cs z gs gs k a b ≡ true → BothHold
  verdict_holds e = let p = both_true _ _ e in record { one = laws.same_yes _ _ p.0; two = laws.same_yes _ _ p.1 }

  holds_verdict : BothHold → verdict_of s cs z gs gs k a b ≡ true
  holds_verdict h = ap₂ ◌&&◌ (laws.same_so _ _ h.one) (laws.same_so _ _ h.two)

  quick_holds : (w : ℕ) → quick_passes s ws z gs k a b w ≡ true → HoldsAt w
  quick_holds w e = laws.same_yes _ _ e

  holds_quick : (w : ℕ) → HoldsAt w → quick_passes s ws z gs k a b w ≡ true
  holds_quick w h = laws.same_so _ _ h

  pub quick_decides : QuickDecides s cs ws z gs k a b we wn
  quick_decides = record {
    judged = λ w e. ap (λ r. and_then r (λ _. Ok (verdict_of s cs z gs gs k a b))) (fine w e).methods;
    passes = λ w e m.
        let f = fine w e in
        let v = no_fault (method_refused s cs gs gs a b we wn) (verdict_of s cs z gs gs k a b) true m in
        ap (λ r. and_then r (λ _. Ok (quick_passes s ws z gs k a b w))) e
        ∙ ap Ok (holds_quick w ((decided f.long).holds (verdict_holds v.1) w));
    one_at_most = λ m v w pv pw.
        let qv = no_fault (quick_refused s cs gs a b v we wn) (quick_passes s ws z gs k a b v) true pv in
        let qw = no_fault (quick_refused s cs gs a b w we wn) (quick_passes s ws z gs k a b w) true pw in
        let fv = fine v qv.0 in
        let fw = fine w qw.0 in
        let no_pass = no_fault (method_refused s cs gs gs a b we wn) (verdict_of s cs z gs gs k a b) false m in
        (decided fv.long).at_most_one
        (λ h. let z : ◌≡◌ {A = ℕ} 0 1 = ap (λ c. cond c 0 1) (sym (holds_verdict h) ∙ no_pass.1) in omega arith)
        v w fv.small fw.small (quick_holds v qv.1) (quick_holds w qw.1);
  }
