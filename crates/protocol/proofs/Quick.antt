-- The quick check says what the two equations of the last pair say. Assumes nothing.
use Rattle.std.proofs.Common.{◌≡◌, ℕ, ◌+◌, ◌*◌, ◌%◌, ◌^◌, ◌<◌, List, length, get_or, sym, refl, ap, ◌∙◌, subst, ap₂, mul_assoc, mul_comm, arith}
use native.Mathlib.Decide.{dec_lt}
use lib.ListN.{length-reverse}
use lib.Lanes.{zip2}
use Rattle.protocol.specs.Group.{Group, power, Laws, product}
use Rattle.protocol.specs.Halving.{Passes, FoldedPasses}
use Rattle.protocol.specs.Weights.{HWeights, g_weights}
use Rattle.protocol.specs.Quick.{Decides}
use Rattle.protocol.proofs.Rows.{Rows, none, more, rows}
use Rattle.protocol.proofs.Powers.{left_comm, pow-add, pow-unit, pow-op, pow-pow, pow-mod}
use Rattle.protocol.proofs.Weights.{multiplies_out}
use Rattle.protocol.proofs.Order.{two_equations}

module _ {E : Type 0} {q : ℕ} {o : Group E} (laws : Laws q o) where
  step : (a e : ℕ) (g : E) (x y : ℕ) (s t : E)
      → o.join (power o g (a * x + e * y)) (o.join (power o s a) (power o t e)) ≡ o.join (power o (o.join (power o g x) s) a) (power o (o.join (power o g y) t) e)
  step a e g x y s t = simp (pow-add laws, pow-op laws, pow-pow laws, mul_comm, laws.assoc, laws.comm, left_comm laws)

  -- one row under two rows of weights
  both_weights : (a e : ℕ) {gs hs : List E} {xs ys : List ℕ} → Rows gs hs xs ys
      → product o gs (zip2 (λ x y. a * x + e * y) xs ys) ≡ o.join (power o (product o gs xs) a) (power o (product o gs ys) e)
  both_weights a e none = sym (ap₂ o.join (pow-unit laws a) (pow-unit laws e) ∙ laws.unit_left o.unit)
  both_weights a e (more {x = g} {a = x} {b = y} rest) = ap (o.join _) (both_weights a e rest) ∙ step a e g x y _ _

  -- the second scalar may be reduced first
  pub weighted_mod : (a e : ℕ) (gs : List E) (xs ys : List ℕ) → length xs ≡ length gs → length ys ≡ length gs
      → product o gs (zip2 (λ x y. a * x + e % q * y) xs ys) ≡ product o gs (zip2 (λ x y. a * x + e * y) xs ys)
  weighted_mod a e gs xs ys hx hy =
      let four = rows gs gs xs ys refl hx hy in
      both_weights a (e % q) four ∙ ap (o.join (power o (product o gs xs) a)) (pow-mod laws (product o gs ys) e) ∙ sym (both_weights a e four)

  gather : (k g h : E) (a b w : ℕ) → o.join (o.join (power o g a) (power o h (w * b))) (power o k (w * a * b)) ≡ o.join (power o g a) (power o (o.join (power o h b) (power o k (a * b))) w)
  gather k g h a b w = simp (pow-op laws, pow-pow laws, mul_assoc, mul_comm, laws.assoc)

  module _ (k : E) (gs : List E) (gw hw : List ℕ) (a b : ℕ) (z1 z2 : E) (hg : length gw ≡ length gs) (hh : length hw ≡ length gs) where
    -- the equation of the products by two lists of weights
    abbrev At : ℕ → Type 0
    At w = o.join (product o gs (zip2 (λ x y. a * x + w * b * y) gw hw)) (power o k (w * a * b)) ≡ o.join z1 (power o z2 w)

    abbrev Both : Type 0
    Both = Passes q o k (product o gs gw) (product o gs hw) a b z1 z2

    left_side : (w : ℕ)
        → o.join (product o gs (zip2 (λ x y. a * x + w * b * y) gw hw)) (power o k (w * a * b))
        ≡ o.join (power o (product o gs gw) a) (power o (o.join (power o (product o gs hw) b) (power o k (a * b))) w)
    left_side w =
        ap (λ y. o.join y (power o k (w * a * b))) (both_weights a (w * b) (rows gs gs gw hw refl hg hh))
        ∙ gather k (product o gs gw) (product o gs hw) a b w

    pub holds : Both → (w : ℕ) → At w
    holds p w = left_side w ∙ ap₂ (λ y z. o.join y (power o z w)) p.one p.two

    pub shows : (v w : ℕ) → v < w → w < q → At v → At w → Both
    shows v w lt below hv hw' =
        let both = two_equations laws _ _ z1 z2 v w lt below (sym (left_side v) ∙ hv) (sym (left_side w) ∙ hw') in
        record { one = both.0; two = both.1 }

    pub at_most_one : (Both → ⊥) → (v w : ℕ) → v < q → w < q → At v → At w → v ≡ w
    at_most_one fails v w hv hw' qv qw = elim (dec_lt v w) [
      | yes lt ↦ absurd (fails (shows v w lt hw' qv qw))
      | no nlt ↦ elim (dec_lt w v) [
        | yes lt ↦ absurd (fails (shows w v lt hv qw qv))
        | no ngt ↦ omega arith
      ]
    ]

  pub decides : (cs ws : List ℕ) → HWeights q cs ws → (gs : List E) → length gs ≡ 2 ^ length cs
      → (k : E) (a b : ℕ) (z1 z2 : E) → Decides q o k cs ws gs a b z1 z2
  decides cs ws h gs n k a b z1 z2 =
      let out = multiplies_out laws cs ws h gs n in
      let e : length ws ≡ length gs = h.count ∙ sym n in
      let f : length (g_weights ws) ≡ length gs = length-reverse ws ∙ e in
      let same : FoldedPasses q o k cs gs gs a b z1 z2 ≡ Passes q o k (product o gs (g_weights ws)) (product o gs ws) a b z1 z2 =
      ap₂ (λ xs ys. Passes q o k (get_or xs 0 o.unit) (get_or ys 0 o.unit) a b z1 z2) out.1 out.0 in
      record {
        holds = λ p. holds k gs (g_weights ws) ws a b z1 z2 f e (subst (λ T. T) same p);
        shows = λ v w lt below hv hw'. subst (λ T. T) (sym same) (shows k gs (g_weights ws) ws a b z1 z2 f e v w lt below hv hw');
        at_most_one = λ fails. at_most_one k gs (g_weights ws) ws a b z1 z2 f e (λ p. fails (subst (λ T. T) (sym same) p));
      }
