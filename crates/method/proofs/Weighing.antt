-- The weights, filled in one after the other. Assumes nothing.
use Rattle.std.proofs.Common.{◌≡◌, ℕ, suc, ◌+◌, ◌-◌, ◌*◌, ◌%◌, ◌^◌, ◌<◌, ◌≤◌, List, length, get_or, set, sym, ap, ◌∙◌, ap₂, arith, pow_pos, pow_mono}
use native.Mathlib.Nat.{two-pow-succ}
use native.Mathlib.Decide.{dec_lt}
use Rattle.std.proofs.lemmas.List.{get_or-set_same, get_or-set_other}
use Rattle.protocol.specs.Weights.{HWeights}
use Rattle.method.specs.HighestBit.{HighestBit}

-- a power of two within a larger one has a smaller exponent
pub bit_below : (t k i : ℕ) → 2 ^ t ≤ i → i < 2 ^ k → t < k
bit_below t k i low high =
    elim (dec_lt t k) [ yes h ↦ h | no h ↦ absurd (let m : 2 ^ k ≤ 2 ^ t = pow_mono (omega arith) in omega arith) ]

-- the highest bit is one number
only_bit : (t u i : ℕ) → 2 ^ t ≤ i → i < 2 ^ t + 2 ^ t → 2 ^ u ≤ i → i < 2 ^ u + 2 ^ u → t ≡ u
only_bit t u i lt ht lu hu =
    let dt = two-pow-succ t in
    let du = two-pow-succ u in
    let a = bit_below t (suc u) i lt (omega arith) in
    let b = bit_below u (suc t) i lu (omega arith) in
    omega arith

-- the weights below i are right
pub record Built (q : ℕ) (cs ws : List ℕ) (i : ℕ) : Type 0 where
  pub first : get_or ws 0 0 ≡ 1
  pub rule : (t j : ℕ) → j < 2 ^ t → 2 ^ t + j < i → get_or ws (2 ^ t + j) 0 ≡ (get_or ws j 0 * get_or cs (length cs - 1 - t) 0) % q

pub built_one : (q : ℕ) (cs ws : List ℕ) → get_or ws 0 0 ≡ 1 → Built q cs ws 1
built_one q cs ws e = record { first = e; rule = λ t j hj h. absurd (let p = pow_pos t in omega arith) }

pub built_more : (q : ℕ) (cs ws : List ℕ) (i u v : ℕ) → 0 < i → i < length ws → HighestBit i u
    → v ≡ (get_or ws (i - 2 ^ u) 0 * get_or cs (length cs - 1 - u) 0) % q → Built q cs ws i → Built q cs (set ws i v) (i + 1)
built_more q cs ws i u v some within top is b =
    let new = set ws i v in
    let low = top.low some in
    let high = top.high some in
    let other : (j : ℕ) → j < i → get_or new j 0 ≡ get_or ws j 0 = λ j h. get_or-set_other ws i j v 0 (λ e. omega arith) in
    record {
      first = other 0 some ∙ b.first;
      rule = λ t j hj h.
          let p = pow_pos t in
          elim (dec_lt (2 ^ t + j) i) [
            | yes less ↦
                other (2 ^ t + j) less ∙ b.rule t j hj less
                ∙ ap (λ (w : ℕ). (w * get_or cs (length cs - 1 - t) 0) % q) (sym (other j (omega arith)))
            | no not ↦
                (let here : 2 ^ t + j ≡ i = omega arith in
                let same : t ≡ u = only_bit t u i (omega arith) (omega arith) low high in
                let pw = ap (λ (n : ℕ). 2 ^ n) same in
                let rest : i - 2 ^ u ≡ j = omega arith in
                ap (λ (n : ℕ). get_or new n 0) here ∙ get_or-set_same ws i v 0 within ∙ is
                ∙ ap₂ (λ (w n : ℕ). (w * get_or cs (length cs - 1 - n) 0) % q) (ap (λ (n : ℕ). get_or ws n 0) rest ∙ sym (other j (omega arith))) (sym same))
          ];
    }

pub built_all : (q : ℕ) (cs ws : List ℕ) (i : ℕ) → length ws ≡ 2 ^ length cs → length ws ≤ i → Built q cs ws i → HWeights q cs ws
built_all q cs ws i long all b = record {
  count = long;
  first = b.first;
  rule = λ t j ht hj.
      let d = two-pow-succ t in
      let m : 2 ^ suc t ≤ 2 ^ length cs = pow_mono ht in
      b.rule t j hj (omega arith);
}
