-- The turns of a power by squares: modulo a modulus, and in a group. Assumes nothing.
use Rattle.std.proofs.Common.{◌≡◌, ℕ, suc, ◌+◌, ◌*◌, ◌/◌, ◌%◌, ◌<◌, sym, ap, ◌∙◌, ap₂, mod-lt, mod-eq_of_lt, mul_assoc, one-mul, mul-one, arith}
use Rattle.protocol.specs.Group.{Group, Laws, power}
use Rattle.protocol.proofs.Powers.{pow-zero, unit_right, halve_even, halve_odd}
use Rattle.kind.specs.Modular.{pow_mod, pow_mod_below, pow_mod_zero, pow_mod_suc, pow_mod_mul, pow_mod_add, mod_mul_left, mod_mul_right}

module _ (m : ℕ) (above : 1 < m) where
  pub start : (v e : ℕ) → 1 * pow_mod m v e % m ≡ pow_mod m v e
  start v e = ap (λ (n : ℕ). n % m) (one-mul (pow_mod m v e)) ∙ mod-eq_of_lt (pow_mod_below m v e (omega arith))

  pub end : (a b n : ℕ) → a < m → n ≡ 0 → a * pow_mod m b n % m ≡ a
  end a b n h z =
      ap (λ (k : ℕ). a * pow_mod m b k % m) z ∙ ap (λ (k : ℕ). a * k % m) (pow_mod_zero m b ∙ mod-eq_of_lt above)
      ∙ ap (λ (k : ℕ). k % m) (mul-one a) ∙ mod-eq_of_lt h

  twice : (b h : ℕ) → pow_mod m (b * b % m) h ≡ pow_mod m b (h + h)
  twice b h = pow_mod_mul m b b h ∙ sym (pow_mod_add m b h h)

  even : (a b n : ℕ) → n % 2 ≡ 0 → a * pow_mod m (b * b % m) (n / 2) % m ≡ a * pow_mod m b n % m
  even a b n e =
      let w : n / 2 + n / 2 ≡ n = omega arith in
      ap (λ (k : ℕ). a * k % m) (twice b (n / 2) ∙ ap (pow_mod m b) w)

  odd : (a b n : ℕ) → n % 2 ≡ 1 → (a * b % m) * pow_mod m (b * b % m) (n / 2) % m ≡ a * pow_mod m b n % m
  odd a b n e =
      let h = n / 2 in
      let w : suc (h + h) ≡ n = omega arith in
      mod_mul_left (a * b) (pow_mod m (b * b % m) h) m
      ∙ ap (λ (k : ℕ). k % m) (mul_assoc a b (pow_mod m (b * b % m) h))
      ∙ ap (λ (k : ℕ). a * (b * k) % m) (twice b h)
      ∙ sym (mod_mul_right a (b * pow_mod m b (h + h)) m)
      ∙ ap (λ (k : ℕ). a * k % m) (sym (pow_mod_suc m b (h + h)) ∙ ap (pow_mod m b) w)

-- a is had, and b to the n is left
abbrev pub Turned : ℕ → ℕ → ℕ → ℕ → ℕ → Type 0
Turned m a b n whole = (a < m) × (b < m) × (a * pow_mod m b n % m ≡ whole)

module _ (m : ℕ) (above : 1 < m) where
  pub turn_even : (a b n x y r : ℕ) → x ≡ a → y ≡ b * b % m → n % 2 ≡ 0 → Turned m a b n r → Turned m x y (n / 2) r
  turn_even a b n x y r d f e t =
      simp (d, f) (t.0, mod-lt (b * b) (omega arith), even m above a b n e ∙ t.2)

  pub turn_odd : (a b n x y r : ℕ) → x ≡ a * b % m → y ≡ b * b % m → n % 2 ≡ 1 → Turned m a b n r → Turned m x y (n / 2) r
  turn_odd a b n x y r d f e t =
      simp (d, f) (mod-lt (a * b) (omega arith), mod-lt (b * b) (omega arith), odd m above a b n e ∙ t.2)

module _ {E : Type 0} {q : ℕ} {g : Group E} (laws : Laws q g) where
  pub power_even : (a b x y r : E) (n : ℕ) → x ≡ a → y ≡ g.join b b → n % 2 ≡ 0 → g.join a (power g b n) ≡ r → g.join x (power g y (n / 2)) ≡ r
  power_even a b x y r n d f e h = ap₂ (λ u v. g.join u (power g v (n / 2))) d f ∙ ap (g.join a) (sym (halve_even laws b n e)) ∙ h

  pub power_odd : (a b x y r : E) (n : ℕ) → x ≡ g.join a b → y ≡ g.join b b → n % 2 ≡ 1 → g.join a (power g b n) ≡ r → g.join x (power g y (n / 2)) ≡ r
  power_odd a b x y r n d f e h =
      ap₂ (λ u v. g.join u (power g v (n / 2))) d f ∙ laws.assoc a b (power g (g.join b b) (n / 2))
      ∙ ap (g.join a) (sym (halve_odd laws b n e)) ∙ h

  pub power_end : (a b r : E) (n : ℕ) → n ≡ 0 → g.join a (power g b n) ≡ r → a ≡ r
  power_end a b r n z h =
      sym (ap (λ (k : ℕ). g.join a (power g b k)) z ∙ ap (g.join a) (pow-zero g b) ∙ unit_right laws a) ∙ h
