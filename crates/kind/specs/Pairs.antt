-- Pairs of elements of a kind are a kind. Assumes nothing.
use Rattle.std.specs.Prelude.{◌≡◌, ℕ, zero, suc, ◌&&◌, Some, None, Option, refl}
use Rattle.std.proofs.Common.{sym, ap, ◌∙◌}
use Rattle.protocol.specs.Group.{Group, power}
use Rattle.protocol.proofs.Powers.{pow-zero, pow-suc}
use Rattle.kind.specs.Both.{both_true}
use Rattle.kind.specs.Kinds.{Meaning, Lawful}
use Rattle.kind.specs.declared.pair.Pair.{Pair}

abbrev pub pair_of : {M : Type 0} → M → M → Pair M
pair_of x y = record { a = x; b = y }

abbrev pub both_some : {M : Type 0} → Option M → Option M → Option (Pair M)
both_some None y = None
both_some (Some x) None = None
both_some (Some x) (Some y) = Some (pair_of x y)

-- joined part by part
abbrev pub pair_group : {M : Type 0} → Group M → Group (Pair M)
pair_group g = record {
  unit = pair_of g.unit g.unit;
  join = λ x y. pair_of (g.join x.a y.a) (g.join x.b y.b);
}

-- compared part by part; unit and base hold those of the kind twice; the order is the kind's
abbrev pub pair_meaning : {M E : Type 0} → Meaning M E → Meaning (Pair M) (E × E)
pair_meaning s = record {
  group = pair_group s.group;
  base = pair_of s.base s.base;
  order = s.order;
  same = λ x y. s.same x.a y.a && s.same x.b y.b;
  entry = λ x. (s.entry x.a, s.entry x.b);
  element = λ e. both_some (s.element e.0) (s.element e.1);
}

-- a power of a pair is the pair of the powers
pub power_pair : {M : Type 0} (g : Group M) (x : Pair M) (n : ℕ) → power (pair_group g) x n ≡ pair_of (power g x.a n) (power g x.b n)
power_pair g x zero = simp pow-zero
power_pair g x (suc n) = simp (pow-suc, power_pair g x n)

module _ {M E : Type 0} (s : Meaning M E) (laws : Lawful s) where
  pair_only : (e : E × E) (x : Pair M) → (pair_meaning s).element e ≡ Some x → (pair_meaning s).entry x ≡ e
  pair_only e x = go (s.element e.0) (s.element e.1) refl refl
    where
      go : (p q : Option M) → s.element e.0 ≡ p → s.element e.1 ≡ q → both_some p q ≡ Some x → (pair_meaning s).entry x ≡ e
      go None q f g h = cc
      go (Some y) None f g h = cc
      go (Some y) (Some z) f g h =
          let k = laws.only e.0 y f in
          let l = laws.only e.1 z g in
          let m : pair_of y z ≡ x = cc in
          ap (pair_meaning s).entry (sym m) ∙ ap (λ (d : E). (d, s.entry z)) k ∙ ap (λ (d : E). (e.0, d)) l

  pub pair_laws : Lawful (pair_meaning s)
  pair_laws = record {
    group = record {
      unit_left = λ x. simp laws.group.unit_left;
      assoc = λ x y z. simp laws.group.assoc;
      comm = λ x y.
          ap (λ m. pair_of m (s.group.join x.b y.b)) (laws.group.comm x.a y.a)
          ∙ ap (pair_of (s.group.join y.a x.a)) (laws.group.comm x.b y.b);
      order = λ x. power_pair s.group x s.order ∙ simp laws.group.order;
      prime = laws.group.prime;
    };
    base_apart = λ e. laws.base_apart (ap (λ (p : Pair M). p.a) e);
    order_low = laws.order_low;
    order_high = laws.order_high;
    same_yes = λ x y t.
        let p = both_true (s.same x.a y.a) (s.same x.b y.b) t in
        ap (λ m. pair_of m x.b) (laws.same_yes x.a y.a p.0) ∙ ap (pair_of y.a) (laws.same_yes x.b y.b p.1);
    same_so = λ x y e.
        ap (λ b. b && s.same x.b y.b) (laws.same_so x.a y.a (ap (λ (p : Pair M). p.a) e))
        ∙ laws.same_so x.b y.b (ap (λ (p : Pair M). p.b) e);
    back = λ x. simp laws.back;
    only = pair_only;
  }
