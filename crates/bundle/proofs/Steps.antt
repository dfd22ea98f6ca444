-- The pairs of a directory, one by one. Assumes nothing.
use Rattle.std.proofs.Common.{◌≡◌, ℕ, zero, suc, ◌+◌, ◌-◌, ◌<◌, List, ◌∷◌, length, drop, refl, ap, arith}
use Rattle.bundle.specs.Layout.{pair_in, pairs_in}

pub pairs_more : (n i : ℕ) (bytes : List ℕ) → i < n → pairs_in (n - i) bytes ≡ pair_in bytes ∷ pairs_in (n - (i + 1)) (drop 8 bytes)
pairs_more n i bytes h = let e : n - i ≡ suc (n - (i + 1)) = omega arith in ap (λ (m : ℕ). pairs_in m bytes) e

pub length-pairs_in : (n : ℕ) (bytes : List ℕ) → length (pairs_in n bytes) ≡ n
length-pairs_in zero bytes = refl
length-pairs_in (suc n) bytes = ap suc (length-pairs_in n (drop 8 bytes))
