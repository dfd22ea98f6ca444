-- The numbers below the order, under addition. Assumes nothing.
use Rattle.std.specs.Prelude.{◌≡◌, ℕ, zero, suc, ◌+◌, ◌*◌, ◌%◌, ◌<◌, Some, None, Option, ◌==◌, refl}
use Rattle.std.proofs.Common.{sym, ap, subst, ◌∙◌, mod-lt, mod-eq_of_lt, zero-mul, suc-mul, add_comm, add_assoc, zero-add, arith, lit<, lit≤, eqb-true, eq-eqb}
use Rattle.std.proofs.Math.Nat.{mod-add-mod, add-mod-mod, mul-mod_right}
use Rattle.std.proofs.Math.Bridge.{le_prop}
use Rattle.std.proofs.Math.Decide.{dec_lt}
use Rattle.protocol.specs.Group.{Group, power}
use Rattle.protocol.proofs.Powers.{pow-zero, pow-suc}
use Rattle.kind.specs.Constants.{order}
use Rattle.kind.specs.Kinds.{Meaning, Lawful}
use Rattle.kind.specs.OrderPrime.{order_prime}
use Rattle.kind.specs.declared.clear.Clear.{Clear}

abbrev pub clear : (n : ℕ) → n < order → Clear
clear n h = record { v = n; ok = h }

-- the number says all
pub clear_path : (a b : Clear) → a.v ≡ b.v → a ≡ b
clear_path a b e =
    subst (λ (n : ℕ). (h : n < order) → a ≡ clear n h) e (λ h. ap (clear a.v) (le_prop a.ok h)) b.ok

abbrev pub clear_unit : Clear
clear_unit = clear 0 (lit< tt)

abbrev pub clear_base : Clear
clear_base = clear 1 (lit< tt)

abbrev pub clear_sum : Clear → Clear → Clear
clear_sum a b = clear ((a.v + b.v) % order) (mod-lt (a.v + b.v) (lit< tt))

abbrev pub clear_number : Clear → ℕ
clear_number a = a.v

abbrev pub chosen : (n : ℕ) → Dec (n < order) → Option Clear
chosen n (yes h) = Some (clear n h)
chosen n (no h) = None

-- the element with the number n, if there is one
unfoldable pub clear_of : ℕ → Option Clear
clear_of n = chosen n (dec_lt n order)

pub clear_of_some : (a : Clear) → clear_of a.v ≡ Some a
unfolding clear_of
clear_of_some a =
    elim (dec_lt a.v order) as (λ d. chosen a.v d ≡ Some a) [
      | yes h ↦ ap Some (clear_path (clear a.v h) a refl)
      | no h ↦ absurd (h a.ok)
    ]

pub clear_of_none : (n : ℕ) → order < n + 1 → clear_of n ≡ None
unfolding clear_of
clear_of_none n high =
    elim (dec_lt n order) as (λ d. chosen n d ≡ None) [ yes h ↦ absurd (omega arith) | no h ↦ refl ]

pub clear_of_only : (n : ℕ) (a : Clear) → clear_of n ≡ Some a → a.v ≡ n
unfolding clear_of
clear_of_only n a =
    elim (dec_lt n order) as (λ d. chosen n d ≡ Some a → a.v ≡ n) [ yes h ↦ λ e. cc | no h ↦ λ e. cc ]

abbrev pub clear_group : Group Clear
clear_group = record { unit = clear_unit; join = clear_sum }

-- numbers joined by addition modulo q, unit 0, base 1
abbrev pub clear_meaning : Meaning Clear ℕ
clear_meaning = record {
  group = clear_group;
  base = clear_base;
  order = order;
  same = λ a b. (a.v == b.v);
  entry = clear_number;
  element = clear_of;
}

power_clear : (x : Clear) (n : ℕ) → (power clear_group x n).v ≡ (n * x.v) % order
power_clear x zero = ap clear_number (pow-zero clear_group x) ∙ ap (λ (m : ℕ). m % order) (sym (zero-mul x.v))
power_clear x (suc n) =
    ap clear_number (pow-suc clear_group x n)
    ∙ ap (λ (m : ℕ). (x.v + m) % order) (power_clear x n)
    ∙ add-mod-mod x.v (n * x.v) order
    ∙ ap (λ (m : ℕ). m % order) (add_comm x.v (n * x.v) ∙ sym (suc-mul n x.v))

pub clear_laws : Lawful clear_meaning
clear_laws = record {
  group = record {
    unit_left = λ x. clear_path (clear_sum clear_unit x) x (ap (λ (m : ℕ). m % order) (zero-add x.v) ∙ mod-eq_of_lt x.ok);
    assoc = λ x y z. clear_path (clear_sum (clear_sum x y) z) (clear_sum x (clear_sum y z))
        (mod-add-mod (x.v + y.v) order z.v
        ∙ ap (λ (m : ℕ). m % order) (add_assoc x.v y.v z.v)
        ∙ sym (add-mod-mod x.v (y.v + z.v) order));
    comm = λ x y. clear_path (clear_sum x y) (clear_sum y x) (ap (λ (m : ℕ). m % order) (add_comm x.v y.v));
    order = λ x. clear_path (power clear_group x order) clear_unit (power_clear x order ∙ mul-mod_right order x.v);
    prime = order_prime;
  };
  base_apart = λ e. let z : ◌≡◌ {A = ℕ} 1 0 = ap clear_number e in absurd (omega arith);
  order_low = lit≤ tt;
  order_high = lit≤ tt;
  same_yes = λ x y t. clear_path x y (eqb-true x.v y.v t);
  same_so = λ x y e. eq-eqb x.v y.v (ap clear_number e);
  back = clear_of_some;
  only = clear_of_only;
}
