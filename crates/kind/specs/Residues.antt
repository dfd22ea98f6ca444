-- The residues of the subgroup of order q, under multiplication modulo p. Assumes nothing.
use Rattle.std.specs.Prelude.{◌≡◌, ℕ, zero, suc, ◌*◌, ◌%◌, Some, None, Option, ◌==◌, refl}
use Rattle.std.proofs.Common.{sym, ap, subst, ◌∙◌, mod-lt, mod-eq_of_lt, mul_assoc, mul_comm, one-mul, arith, lit<, lit≤, eqb-true, eq-eqb}
use denote.Struct.Props.{props}
use Rattle.std.proofs.Math.Decide.{dec_lt, dec_le, ℕ_discrete}
use Rattle.protocol.specs.Group.{Group, power}
use Rattle.protocol.proofs.Powers.{pow-zero, pow-suc}
use Rattle.kind.specs.Constants.{order, modulus, InSubgroup}
use Rattle.kind.specs.Kinds.{Meaning, Lawful}
use Rattle.kind.specs.OrderPrime.{order_prime}
use Rattle.kind.specs.Modular.{pow_mod, pow_mod_zero, pow_mod_suc, pow_mod_mul, pow_mod_pos, fast_is, mod_mul_left, mod_mul_right}
use Rattle.kind.specs.declared.residue.Residue.{Residue}

abbrev pub residue : (n : ℕ) → InSubgroup n → Residue
residue n h = record { v = n; ok = h }

-- the number says all
pub residue_path : (a b : Residue) → a.v ≡ b.v → a ≡ b
residue_path a b e =
    subst (λ (n : ℕ). (h : InSubgroup n) → a ≡ residue n h) e
    (λ h. let alike : IsProp (InSubgroup a.v) = hlevel props in ap (residue a.v) (alike a.ok h)) b.ok

-- by computing: 1 ^ q and 4 ^ q modulo p are 1
abbrev pub residue_unit : Residue
residue_unit = residue 1 (lit≤ tt, lit< tt, fast_is modulus 30 1 order (lit< tt))

abbrev pub residue_base : Residue
residue_base = residue 4 (lit≤ tt, lit< tt, fast_is modulus 30 4 order (lit< tt))

pub product_inside : (a b : ℕ) → InSubgroup a → InSubgroup b → InSubgroup (a * b % modulus)
product_inside a b h k =
    let e : pow_mod modulus (a * b % modulus) order ≡ 1 =
    pow_mod_mul modulus a b order ∙ ap (λ (n : ℕ). n * pow_mod modulus b order % modulus) h.2 ∙ ap (λ (n : ℕ). 1 * n % modulus) k.2 in
    (pow_mod_pos modulus (a * b % modulus) 1073741788 (lit< tt) e, mod-lt (a * b) (lit< tt), e)

abbrev pub residue_product : Residue → Residue → Residue
residue_product a b = residue (a.v * b.v % modulus) (product_inside a.v b.v a.ok b.ok)

abbrev pub residue_number : Residue → ℕ
residue_number a = a.v

all_three : {A B C : Type 0} → Dec A → Dec B → Dec C → Dec (A × B × C)
all_three (yes a) (yes b) (yes c) = yes (a, b, c)
all_three (yes a) (yes b) (no h) = no (λ t. h t.2)
all_three (yes a) (no h) c = no (λ t. h t.1)
all_three (no h) b c = no (λ t. h t.0)

dec_inside : (n : ℕ) → Dec (InSubgroup n)
dec_inside n = all_three (dec_le 1 n) (dec_lt n modulus) (ℕ_discrete (pow_mod modulus n order) 1)

abbrev chosen : (n : ℕ) → Dec (InSubgroup n) → Option Residue
chosen n (yes h) = Some (residue n h)
chosen n (no h) = None

-- the element with the number n, if there is one
pub residue_of : ℕ → Option Residue
residue_of n = chosen n (dec_inside n)

pub residue_of_some : (a : Residue) → residue_of a.v ≡ Some a
unfolding residue_of
residue_of_some a =
    elim (dec_inside a.v) as (λ d. chosen a.v d ≡ Some a) [
      | yes h ↦ ap Some (residue_path (residue a.v h) a refl)
      | no h ↦ absurd (h a.ok)
    ]

pub residue_of_none : (n : ℕ) → (InSubgroup n → ⊥) → residue_of n ≡ None
unfolding residue_of
residue_of_none n far =
    elim (dec_inside n) as (λ d. chosen n d ≡ None) [ yes h ↦ absurd (far h) | no h ↦ refl ]

pub residue_of_only : (n : ℕ) (a : Residue) → residue_of n ≡ Some a → a.v ≡ n
unfolding residue_of
residue_of_only n a =
    elim (dec_inside n) as (λ d. chosen n d ≡ Some a → a.v ≡ n) [ yes h ↦ λ e. cc | no h ↦ λ e. cc ]

abbrev pub residue_group : Group Residue
residue_group = record { unit = residue_unit; join = residue_product }

-- numbers joined by multiplication modulo p, unit 1, base 4
abbrev pub residue_meaning : Meaning Residue ℕ
residue_meaning = record {
  group = residue_group;
  base = residue_base;
  order = order;
  same = λ a b. (a.v == b.v);
  entry = residue_number;
  element = residue_of;
}

power_residue : (x : Residue) (n : ℕ) → (power residue_group x n).v ≡ pow_mod modulus x.v n
power_residue x zero = ap residue_number (pow-zero residue_group x) ∙ sym (pow_mod_zero modulus x.v)
power_residue x (suc n) =
    ap residue_number (pow-suc residue_group x n)
    ∙ ap (λ (m : ℕ). x.v * m % modulus) (power_residue x n)
    ∙ sym (pow_mod_suc modulus x.v n)

pub residue_laws : Lawful residue_meaning
residue_laws = record {
  group = record {
    unit_left = λ x. residue_path (residue_product residue_unit x) x
        (ap (λ (m : ℕ). m % modulus) (one-mul x.v) ∙ mod-eq_of_lt x.ok.1);
    assoc = λ x y z. residue_path (residue_product (residue_product x y) z) (residue_product x (residue_product y z))
        (mod_mul_left (x.v * y.v) z.v modulus
        ∙ ap (λ (m : ℕ). m % modulus) (mul_assoc x.v y.v z.v)
        ∙ sym (mod_mul_right x.v (y.v * z.v) modulus));
    comm = λ x y. residue_path (residue_product x y) (residue_product y x)
        (ap (λ (m : ℕ). m % modulus) (mul_comm x.v y.v));
    order = λ x. residue_path (power residue_group x order) residue_unit (power_residue x order ∙ x.ok.2);
    prime = order_prime;
  };
  base_apart = λ e. let z : ◌≡◌ {A = ℕ} 4 1 = ap residue_number e in absurd (omega arith);
  order_low = lit≤ tt;
  order_high = lit≤ tt;
  same_yes = λ x y t. residue_path x y (eqb-true x.v y.v t);
  same_so = λ x y e. eq-eqb x.v y.v (ap residue_number e);
  back = residue_of_some;
  only = residue_of_only;
}
