-- The parts of a record, one by one. Assumes nothing.
use Rattle.std.proofs.Common.{◌≡◌, ℕ, zero, suc, ◌+◌, ◌-◌, ◌*◌, List, ◌∷◌, take, drop, refl, ap, suc-mul, arith}
use Rattle.record.specs.Noting.{size_of_all, rounds_only}
use Rattle.record.specs.Parts.{round, round_pieces, size_of_round}

pub pieces_more : (size k : ℕ) (bs : List ℕ) → (k ≡ 0 → ⊥) → round_pieces size k bs ≡ round (take size bs) ∷ round_pieces size (k - 1) (drop size bs)
pieces_more size zero bs h = absurd (h refl)
pieces_more size (suc k) bs h =
    let e : k ≡ suc k - 1 = omega arith in
    ap (λ (n : ℕ). round (take size bs) ∷ round_pieces size n (drop size bs)) e

pub rounds_count : (size k : ℕ) (bs : List ℕ) → rounds_only (round_pieces size k bs) ≡ k
rounds_count size zero bs = refl
rounds_count size (suc k) bs = let h = rounds_count size k (drop size bs) in omega arith

pub size_count : (w size k : ℕ) (bs : List ℕ) → size_of_all w (round_pieces size k bs) ≡ k * size_of_round w + 8
size_count w size zero bs = omega arith
size_count w size (suc k) bs = let h = size_count w size k (drop size bs) in let m = suc-mul k (size_of_round w) in omega arith
