-- A commutative group of prime order, powers in it, and products of powers. Assumes nothing.
use Rattle.std.specs.Prelude.{◌≡◌, ℕ, zero, suc, ◌*◌, ◌≤◌, ◌⊎◌, List, [], ◌∷◌}

-- how elements are joined
pub record Group (E : Type 0) : Type 0 where
  pub unit : E
  pub join : E → E → E

-- x joined n times over; the 0th power is the unit
unfoldable pub power : {E : Type 0} → Group E → E → ℕ → E
power g x zero = g.unit
power g x (suc n) = g.join x (power g x n)

-- d divides n
abbrev pub Divides : ℕ → ℕ → Type 0
Divides d n = (k : ℕ) × (n ≡ d * k)

-- a prime is at least 2, and only 1 and itself divide it
pub record Prime (q : ℕ) : Type 0 where
  pub two : 2 ≤ q
  pub only : (d : ℕ) → Divides d q → (d ≡ 1) ⊎ (d ≡ q)

-- the laws of a commutative group in which the q-th power of every element is the unit, q a prime
pub record Laws {E : Type 0} (q : ℕ) (g : Group E) : Type 0 where
  pub unit_left : (x : E) → g.join g.unit x ≡ x
  pub assoc : (x y z : E) → g.join (g.join x y) z ≡ g.join x (g.join y z)
  pub comm : (x y : E) → g.join x y ≡ g.join y x
  pub order : (x : E) → power g x q ≡ g.unit
  pub prime : Prime q

-- the powers of a list of elements by as many scalars, joined; of empty lists the unit
abbrev pub product : {E : Type 0} → Group E → List E → List ℕ → E
product g [] es = g.unit
product g (x ∷ xs) [] = g.unit
product g (x ∷ xs) (e ∷ es) = g.join (power g x e) (product g xs es)
