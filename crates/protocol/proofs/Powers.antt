-- The laws of powers. Assumes nothing.
use Rattle.std.proofs.Common.{◌≡◌, ℕ, zero, suc, ◌+◌, ◌*◌, ◌/◌, ◌%◌, sym, refl, ap, ◌∙◌, suc-add, mul-zero, zero-add, mul-suc, arith}
use native.Mathlib.Nat.{div-add-mod}
use Rattle.protocol.specs.Group.{Group, power, Laws}

module _ {E : Type 0} (o : Group E) where
  pub pow-zero : (x : E) → power o x zero ≡ o.unit
  unfolding power
  pow-zero x = refl

  pub pow-suc : (x : E) (n : ℕ) → power o x (suc n) ≡ o.join x (power o x n)
  unfolding power
  pow-suc x n = refl

module _ {E : Type 0} {q : ℕ} {o : Group E} (laws : Laws q o) where
  pub unit_right : (x : E) → o.join x o.unit ≡ x
  unit_right x = laws.comm x o.unit ∙ laws.unit_left x

  pub left_comm : (x y z : E) → o.join x (o.join y z) ≡ o.join y (o.join x z)
  left_comm x y z = sym (laws.assoc x y z) ∙ ap (λ w. o.join w z) (laws.comm x y) ∙ laws.assoc y x z

  pub pow-add : (x : E) (m n : ℕ) → power o x (m + n) ≡ o.join (power o x m) (power o x n)
  pow-add x zero n = simp (zero-add, pow-zero, laws.unit_left)
  pow-add x (suc m) n = simp (suc-add, pow-suc, pow-add x m n, laws.assoc)

  pub pow-unit : (n : ℕ) → power o o.unit n ≡ o.unit
  pow-unit zero = pow-zero o o.unit
  pow-unit (suc n) = pow-suc o o.unit n ∙ laws.unit_left (power o o.unit n) ∙ pow-unit n

  pub pow-op : (x y : E) (n : ℕ) → power o (o.join x y) n ≡ o.join (power o x n) (power o y n)
  pow-op x y zero = simp (pow-zero, laws.unit_left)
  pow-op x y (suc n) = simp (pow-suc, pow-op x y n, laws.assoc, left_comm)

  pub pow-pow : (x : E) (m n : ℕ) → power o (power o x m) n ≡ power o x (m * n)
  pow-pow x m zero = simp (mul-zero, pow-zero)
  pow-pow x m (suc n) = simp (mul-suc, pow-suc, pow-add, pow-pow x m n, laws.comm)

  pub pow-mod : (x : E) (e : ℕ) → power o x (e % q) ≡ power o x e
  pow-mod x e =
      let whole : power o x (q * (e / q)) ≡ o.unit = sym (pow-pow x q (e / q)) ∙ ap (λ y. power o y (e / q)) (laws.order x) ∙ pow-unit (e / q) in
      sym (ap (power o x) (sym (div-add-mod e q)) ∙ pow-add x (q * (e / q)) (e % q) ∙ ap (λ y. o.join y (power o x (e % q))) whole ∙ laws.unit_left (power o x (e % q)))

  -- a power of a square, for powers by squaring
  pow_square : (x : E) (n : ℕ) → power o (o.join x x) n ≡ power o x (n + n)
  pow_square x n = pow-op x x n ∙ sym (pow-add x n n)

  pub halve_even : (x : E) (n : ℕ) → n % 2 ≡ 0 → power o x n ≡ power o (o.join x x) (n / 2)
  halve_even x n h = let e : n ≡ n / 2 + n / 2 = omega arith in ap (power o x) e ∙ sym (pow_square x (n / 2))

  pub halve_odd : (x : E) (n : ℕ) → n % 2 ≡ 1 → power o x n ≡ o.join x (power o (o.join x x) (n / 2))
  halve_odd x n h =
      let e : n ≡ suc (n / 2 + n / 2) = omega arith in
      ap (power o x) e ∙ pow-suc o x (n / 2 + n / 2) ∙ ap (o.join x) (sym (pow_square x (n / 2)))
