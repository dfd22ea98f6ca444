-- Products and powers modulo any modulus. Assumes nothing.
use Rattle.std.specs.Prelude.{◌≡◌, ℕ, zero, suc, ◌+◌, ◌*◌, ◌/◌, ◌%◌, ◌^◌, ◌<◌, ◌≤◌}
use Rattle.std.proofs.Math.Path.{sym, ap}
use Rattle.std.proofs.Common.{◌∙◌, mod-eq_of_lt, add-mul, zero-mul, mul_assoc, mul_comm, pow-suc, mul-one, zero-add, one-add, arith, pow-add}
use Rattle.std.proofs.Math.Nat.{mod-lt, mod-add-div, add-mul-mod_self_left, mul-mul-mul_comm, pow-zero, pow-succ', two-pow-succ}

-- v ^ e modulo m. Shut: v and e may be numerals of 30 bits
unfoldable pub pow_mod : ℕ → ℕ → ℕ → ℕ
pow_mod m v e = v ^ e % m

-- a factor may be reduced first
pub mod_mul_left : (a b m : ℕ) → (a % m) * b % m ≡ a * b % m
mod_mul_left a b m =
    sym (
    ap (λ (n : ℕ). n * b % m) (sym (mod-add-div a m))
    ∙ ap (λ (n : ℕ). n % m) (add-mul (a % m) (m * (a / m)) b ∙ ap (λ (n : ℕ). (a % m) * b + n) (mul_assoc m (a / m) b))
    ∙ add-mul-mod_self_left ((a % m) * b) m ((a / m) * b)
    )

pub mod_mul_right : (a b m : ℕ) → a * (b % m) % m ≡ a * b % m
mod_mul_right a b m =
    ap (λ (n : ℕ). n % m) (mul_comm a (b % m)) ∙ mod_mul_left b a m ∙ ap (λ (n : ℕ). n % m) (mul_comm b a)

pub mod_mul : (a b m : ℕ) → (a % m) * (b % m) % m ≡ a * b % m
mod_mul a b m = mod_mul_left a (b % m) m ∙ mod_mul_right a b m

mul_pow : (a b n : ℕ) → (a * b) ^ n ≡ a ^ n * b ^ n
mul_pow a b zero = simp (pow-zero, mul-one)
mul_pow a b (suc n) =
    pow-suc (a * b) n ∙ ap (λ (k : ℕ). k * (a * b)) (mul_pow a b n) ∙ mul-mul-mul_comm (a ^ n) (b ^ n) a b
    ∙ ap (λ (k : ℕ). k * (b ^ n * b)) (sym (pow-suc a n)) ∙ ap (λ (k : ℕ). a ^ suc n * k) (sym (pow-suc b n))

mod_pow : (a n m : ℕ) → (a % m) ^ n % m ≡ a ^ n % m
mod_pow a zero m = simp pow-zero
mod_pow a (suc n) m =
    ap (λ (k : ℕ). k % m) (pow-suc (a % m) n)
    ∙ mod_mul_right ((a % m) ^ n) a m
    ∙ sym (mod_mul_left ((a % m) ^ n) a m)
    ∙ ap (λ (k : ℕ). k * a % m) (mod_pow a n m)
    ∙ mod_mul_left (a ^ n) a m
    ∙ ap (λ (k : ℕ). k % m) (sym (pow-suc a n))

-- the power by squares: the lowest k bits of e
abbrev bit : ℕ → ℕ → ℕ → ℕ → ℕ
bit m zero v s = s
bit m (suc r) v s = v * s % m

abbrev square : ℕ → ℕ → ℕ
square m s = s * s % m

abbrev pub fast : ℕ → ℕ → ℕ → ℕ → ℕ
fast m zero v e = 1 % m
fast m (suc k) v e = bit m (e % 2) v (square m (fast m k v (e / 2)))

module _ (m : ℕ) where
  pub pow_mod_below : (v e : ℕ) → 0 < m → pow_mod m v e < m
  unfolding pow_mod
  pow_mod_below v e pos = mod-lt (v ^ e) pos

  pub pow_mod_zero : (v : ℕ) → pow_mod m v 0 ≡ 1 % m
  unfolding pow_mod
  pow_mod_zero v = ap (λ (n : ℕ). n % m) (pow-zero v)

  pub pow_mod_suc : (v n : ℕ) → pow_mod m v (suc n) ≡ v * pow_mod m v n % m
  unfolding pow_mod
  pow_mod_suc v n = ap (λ (k : ℕ). k % m) (pow-succ' v n) ∙ sym (mod_mul_right v (v ^ n) m)

  pub pow_mod_add : (v i j : ℕ) → pow_mod m v (i + j) ≡ pow_mod m v i * pow_mod m v j % m
  unfolding pow_mod
  pow_mod_add v i j = ap (λ (k : ℕ). k % m) (pow-add v i j) ∙ sym (mod_mul (v ^ i) (v ^ j) m)

  -- the power of a product
  pub pow_mod_mul : (a b n : ℕ) → pow_mod m (a * b % m) n ≡ pow_mod m a n * pow_mod m b n % m
  unfolding pow_mod
  pow_mod_mul a b n =
      mod_pow (a * b) n m ∙ ap (λ (k : ℕ). k % m) (mul_pow a b n) ∙ sym (mod_mul (a ^ n) (b ^ n) m)

  -- a power that is 1 is one of no 0
  pub pow_mod_pos : (v n : ℕ) → 0 < m → pow_mod m v (suc n) ≡ 1 → 1 ≤ v
  pow_mod_pos zero n pos e =
      let z : pow_mod m 0 (suc n) ≡ 0 = pow_mod_suc 0 n ∙ ap (λ (k : ℕ). k % m) (zero-mul (pow_mod m 0 n)) ∙ mod-eq_of_lt pos in
      let c : ◌≡◌ {A = ℕ} 1 0 = sym e ∙ z in
      absurd (omega arith)
  pow_mod_pos (suc v) n pos e = omega arith

  step : (r v h : ℕ) → r < 2 → pow_mod m v (r + (h + h)) ≡ bit m r v (square m (pow_mod m v h))
  step zero v h low = ap (pow_mod m v) (zero-add (h + h)) ∙ pow_mod_add v h h
  step (suc zero) v h low =
      ap (pow_mod m v) (one-add (h + h)) ∙ pow_mod_suc v (h + h) ∙ ap (λ (k : ℕ). v * k % m) (pow_mod_add v h h)
  step (suc (suc r)) v h low = absurd (omega arith)

  pub fast_is : (k v e : ℕ) → e < 2 ^ k → pow_mod m v e ≡ fast m k v e
  fast_is zero v e h = let z : e ≡ 0 = omega arith in ap (pow_mod m v) z ∙ pow_mod_zero v
  fast_is (suc k) v e h =
      let low : e % 2 < 2 = omega arith in
      let whole : e ≡ e % 2 + (e / 2 + e / 2) = omega arith in
      let half : e / 2 < 2 ^ k = omega (arith, two-pow-succ k) in
      ap (pow_mod m v) whole ∙ step (e % 2) v (e / 2) low ∙ ap (λ (s : ℕ). bit m (e % 2) v (square m s)) (fast_is k v (e / 2) half)
