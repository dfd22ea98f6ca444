-- Elements of prime order: roots of the unit, inverses, and two equations out of one at two weights. Assumes nothing.
use Rattle.std.proofs.Common.{◌≡◌, ℕ, zero, suc, ◌+◌, ◌-◌, ◌*◌, ◌/◌, ◌%◌, ◌<◌, ◌≤◌, ◌≢◌, sym, ap, ◌∙◌, ap₂, inl, inr, mod-lt, mul_comm, arith}
use native.Mathlib.Nat.{div-add-mod}
use native.Mathlib.Decide.{dec_lt}
use Rattle.protocol.specs.Group.{Group, power, Laws, Prime}
use Rattle.protocol.proofs.Powers.{pow-zero, pow-suc, unit_right, left_comm, pow-add, pow-unit, pow-op, pow-pow}

-- no number between 1 and a prime divides it
pub no_divisor : (q : ℕ) → Prime q → (d : ℕ) → 1 < d → d < q → q % d ≡ 0 → ⊥
no_divisor q p d more less rest =
    let e : q ≡ d * (q / d) = (let h = div-add-mod q d in omega arith) in
    elim (p.only d (q / d, e)) [ inl one ↦ omega arith | inr whole ↦ omega arith ]

module _ {E : Type 0} {q : ℕ} {o : Group E} (laws : Laws q o) where
  pub pow-one : (x : E) → power o x 1 ≡ x
  pow-one x = pow-suc o x 0 ∙ ap (o.join x) (pow-zero o x) ∙ unit_right laws x

  -- where x^d is the unit, so is x^(q % d)
  root_rest : (x : E) (d : ℕ) → power o x d ≡ o.unit → power o x (q % d) ≡ o.unit
  root_rest x d h =
      sym (sym (laws.order x) ∙ ap (power o x) (sym (div-add-mod q d)) ∙ pow-add laws x (d * (q / d)) (q % d)
      ∙ ap (λ y. o.join y (power o x (q % d))) (sym (pow-pow laws x d (q / d)) ∙ ap (λ y. power o y (q / d)) h ∙ pow-unit laws (q / d))
      ∙ laws.unit_left (power o x (q % d)))

  -- by descent: d, q % d, q % (q % d), .. ends at 1, since none of them divides q
  root_below : (bound : ℕ) (x : E) (d : ℕ) → d ≤ bound → 0 < d → d < q → power o x d ≡ o.unit → x ≡ o.unit
  root_below zero x d le pos lt h = absurd (omega arith)
  root_below (suc bound) x d le pos lt h = elim (dec_lt 1 d) [
    | yes more ↦
        (let rest : q % d < d = mod-lt q pos in
        let some : q % d ≢ 0 = no_divisor q laws.prime d more lt in
        root_below bound x (q % d) (omega arith) (omega arith) (omega arith) (root_rest x d h))
    | no less ↦
        (let one : d ≡ 1 = omega arith in
        sym (pow-one x) ∙ ap (power o x) (sym one) ∙ h)
  ]

  pub root : (x : E) (d : ℕ) → 0 < d → d < q → power o x d ≡ o.unit → x ≡ o.unit
  root x d pos lt h = root_below d x d (omega arith) pos lt h

  inv : E → E
  inv x = power o x (q - 1)

  inv_right : (x : E) → o.join x (inv x) ≡ o.unit
  unfolding inv
  inv_right x =
      let above = laws.prime.two in
      let e : suc (q - 1) ≡ q = omega arith in
      sym (pow-suc o x (q - 1)) ∙ ap (power o x) e ∙ laws.order x

  -- one equation at two weights is two equations
  pub two_weights : (d1 d2 : E) (v w : ℕ) → v < w → w < q → o.join d1 (power o d2 v) ≡ o.unit → o.join d1 (power o d2 w) ≡ o.unit
      → (d1 ≡ o.unit) × (d2 ≡ o.unit)
  two_weights d1 d2 v w lt below hv hw =
      let e : v + (w - v) ≡ w = omega arith in
      let rest : power o d2 (w - v) ≡ o.unit =
      sym (laws.unit_left _) ∙ ap (λ y. o.join y (power o d2 (w - v))) (sym hv) ∙ laws.assoc d1 (power o d2 v) (power o d2 (w - v))
      ∙ ap (o.join d1) (sym (pow-add laws d2 v (w - v)) ∙ ap (power o d2) e) ∙ hw in
      let two : d2 ≡ o.unit = root d2 (w - v) (omega arith) (omega arith) rest in
      (sym (unit_right laws d1) ∙ ap (o.join d1) (sym (pow-unit laws v) ∙ ap (λ y. power o y v) (sym two)) ∙ hv, two)

  inv-op : (x y : E) → inv (o.join x y) ≡ o.join (inv x) (inv y)
  unfolding inv
  inv-op x y = pow-op laws x y (q - 1)

  inv-pow : (x : E) (n : ℕ) → inv (power o x n) ≡ power o (inv x) n
  unfolding inv
  inv-pow x n = pow-pow laws x n (q - 1) ∙ ap (power o x) (mul_comm n (q - 1)) ∙ sym (pow-pow laws x (q - 1) n)

  -- x and y are equal where x over y is the unit
  same : (x y : E) → o.join x (inv y) ≡ o.unit → x ≡ y
  same x y h =
      sym (unit_right laws x) ∙ ap (o.join x) (sym (inv_right y) ∙ laws.comm y (inv y)) ∙ sym (laws.assoc x (inv y) y)
      ∙ ap (λ z. o.join z y) h ∙ laws.unit_left y

  over : (x y z w : E) (n : ℕ) → o.join x (power o y n) ≡ o.join z (power o w n) → o.join (o.join x (inv z)) (power o (o.join y (inv w)) n) ≡ o.unit
  over x y z w n h =
      let parts : o.join (o.join x (inv z)) (power o (o.join y (inv w)) n) ≡ o.join (o.join x (power o y n)) (o.join (inv z) (power o (inv w) n)) =
      simp (pow-op laws, laws.assoc, left_comm laws) in
      parts ∙ ap₂ o.join h (ap (o.join (inv z)) (sym (inv-pow w n)) ∙ sym (inv-op z (power o w n))) ∙ inv_right (o.join z (power o w n))

  -- the same with a right side
  pub two_equations : (x y z w : E) (m n : ℕ) → m < n → n < q
      → o.join x (power o y m) ≡ o.join z (power o w m) → o.join x (power o y n) ≡ o.join z (power o w n) → (x ≡ z) × (y ≡ w)
  two_equations x y z w m n lt below hm hn =
      let both = two_weights (o.join x (inv z)) (o.join y (inv w)) m n lt below (over x y z w m hm) (over x y z w n hn) in
      (same x z both.0, same y w both.1)
