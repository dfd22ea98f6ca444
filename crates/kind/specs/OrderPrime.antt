-- The order q = 1073741789 is prime, by one computed test: no number from 2 to 32769 divides it, and its square root is below that. Assumes nothing.
use Rattle.std.specs.Prelude.{◌≡◌, ℕ, zero, suc, ◌+◌, ◌*◌, ◌%◌, ◌^◌, ◌<◌, ◌≤◌, Bool, not, T, ◌⊎◌, ◌==◌}
use Rattle.std.proofs.Common.{sym, ap, subst, ◌∙◌, inl, inr, mul_comm, mul-le-mul, arith, T_not, lit≤}
use Rattle.std.proofs.Math.Nat.{mul-mod_right, two-pow-succ}
use Rattle.std.proofs.Math.Decide.{dec_lt}
use Rattle.std.proofs.Math.Dec.{eqb_refl}
use Rattle.kind.specs.Both.{both, both_left, both_right}
use Rattle.protocol.specs.Group.{Divides, Prime}

-- the test f passes at each of the 2 ^ k numbers from a on
abbrev every : (ℕ → Bool) → ℕ → ℕ → Bool
every f a zero = f a
every f a (suc k) = both (every f a k) (every f (a + 2 ^ k) k)

within : (f : ℕ → Bool) (k a d : ℕ) → T (every f a k) → a ≤ d → d < a + 2 ^ k → T (f d)
within f zero a d t low high = let e : a ≡ d = omega arith in subst (λ (n : ℕ). T (f n)) e t
within f (suc k) a d t low high =
    elim (dec_lt d (a + 2 ^ k)) [
      | yes h ↦ within f k a d (both_left (every f a k) (every f (a + 2 ^ k) k) t) low h
      | no h ↦
          within f k (a + 2 ^ k) d (both_right (every f a k) (every f (a + 2 ^ k) k) t) (omega arith)
          (omega (arith, two-pow-succ k))
    ]

-- d leaves a rest in the order
abbrev leaves : ℕ → Bool
leaves d = not (1073741789 % d == 0)

leaves_all : T (every leaves 2 15)
leaves_all = tt

-- a factor below 32770 is 1
small : (d k : ℕ) → 1073741789 ≡ d * k → d < 32770 → d ≡ 1
small d k e h =
    elim (dec_lt d 2) [
      | yes low ↦ one d k e low
      | no high ↦
          absurd (T_not (1073741789 % d == 0) (within leaves 15 2 d leaves_all (omega arith) (omega arith))
          (subst (λ (n : ℕ). T (n == 0)) (sym (ap (λ (n : ℕ). n % d) e ∙ mul-mod_right d k)) (eqb_refl 0)))
    ]
  where
    one : (d k : ℕ) → 1073741789 ≡ d * k → d < 2 → d ≡ 1
    one zero k e low = omega arith
    one (suc d) k e low = omega arith

only : (d : ℕ) → Divides d 1073741789 → (d ≡ 1) ⊎ (d ≡ 1073741789)
only d (k, e) =
    elim (dec_lt d 32768) [
      | yes h ↦ inl (small d k e (omega arith))
      | no far ↦
          elim (dec_lt k 32768) [
            | yes h ↦ let f : k ≡ 1 = small k d (e ∙ mul_comm d k) (omega arith) in
                let g : d * k ≡ d * 1 = ap (λ (n : ℕ). d * n) f in inr (omega arith)
            | no h ↦
                let a : 32768 ≤ d = omega arith in
                let b : 32768 ≤ k = omega arith in
                let m : 32768 * 32768 ≤ d * k = mul-le-mul a b in
                absurd (omega arith)
          ]
    ]

pub order_prime : Prime 1073741789
order_prime = record { two = lit≤ tt; only = only }
