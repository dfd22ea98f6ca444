-- The table of highest bits keeps its rule, by one test over the whole table. Assumes nothing.
use Rattle.std.proofs.Common.{◌≡◌, ℕ, zero, suc, ◌+◌, ◌^◌, ◌<◌, Bool, true, false, cond, T, eqb, ltb, leb, List, [], ◌∷◌, length, get_or, sym, refl, ap, ◌∙◌, subst, le_of_suc-le-suc, not-suc-le-zero, add-zero, add-suc, suc-add, zero-add, arith, eqb→eq, ltb→lt, leb→le}
use Rattle.kind.specs.Both.{both, both_left, both_right}
use Rattle.method.specs.HighestBit.{HighestBit}
use Rattle.method.specs.declared.weights.TheConstants.{HIGHEST_BIT}

-- the test f passes at each entry of the list and its place, counted from i
abbrev every : (ℕ → ℕ → Bool) → ℕ → List ℕ → Bool
every f i [] = true
every f i (x ∷ xs) = both (f i x) (every f (suc i) xs)

from : (f : ℕ → ℕ → Bool) (xs : List ℕ) (i : ℕ) → T (every f i xs) → (k : ℕ) → k < length xs → T (f (i + k) (get_or xs k 0))
from f [] i t k h = absurd (not-suc-le-zero h)
from f (x ∷ xs) i t zero h = subst (λ (m : ℕ). T (f m x)) (sym (add-zero i)) (both_left (f i x) (every f (suc i) xs) t)
from f (x ∷ xs) i t (suc k) h =
    subst (λ (m : ℕ). T (f m (get_or xs k 0))) (suc-add i k ∙ sym (add-suc i k))
    (from f xs (suc i) (both_right (f i x) (every f (suc i) xs) t) k (le_of_suc-le-suc h))

at : (f : ℕ → ℕ → Bool) (xs : List ℕ) → T (every f 0 xs) → (k : ℕ) → k < length xs → T (f k (get_or xs k 0))
at f xs t k h = subst (λ (m : ℕ). T (f m (get_or xs k 0))) (zero-add k) (from f xs 0 t k h)

-- x is the highest one bit of k, and 0 where k is 0
abbrev right : ℕ → ℕ → Bool
right k x = cond (eqb k 0) (eqb x 0) (both (leb (2 ^ x) k) (ltb k (2 ^ x + 2 ^ x)))

right_at : (k : ℕ) → k < 256 → T (right k (get_or HIGHEST_BIT k 0))
right_at = at right HIGHEST_BIT tt

means : (k x : ℕ) (b : Bool) → eqb k 0 ≡ b → T (cond b (eqb x 0) (both (leb (2 ^ x) k) (ltb k (2 ^ x + 2 ^ x)))) → HighestBit k x
means k x true e t = record {
  none = λ _. eqb→eq x 0 t;
  low = λ some. absurd (let z = eqb→eq k 0 (subst T (sym e) tt) in omega arith);
  high = λ some. absurd (let z = eqb→eq k 0 (subst T (sym e) tt) in omega arith);
}
means k x false e t = record {
  none = λ z. absurd (subst T (ap (λ n. eqb n 0) (sym z) ∙ e) tt);
  low = λ _. leb→le (2 ^ x) k (both_left (leb (2 ^ x) k) (ltb k (2 ^ x + 2 ^ x)) t);
  high = λ _. ltb→lt k (2 ^ x + 2 ^ x) (both_right (leb (2 ^ x) k) (ltb k (2 ^ x + 2 ^ x)) t);
}

pub highest_bit : (k : ℕ) → k < 256 → HighestBit k (get_or HIGHEST_BIT k 0)
highest_bit k h = means k (get_or HIGHEST_BIT k 0) (eqb k 0) refl (right_at k h)
