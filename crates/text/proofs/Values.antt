-- The values of decimal digits. Assumes nothing.
use Rattle.std.proofs.Common.{◌≡◌, ℕ, ◌+◌, ◌-◌, ◌*◌, ◌^◌, ◌<◌, ◌≤◌, ltb, List, [], ◌∷◌, length, get_or, drop, None, sym, refl, ap, ◌∙◌, arith}
use Rattle.std.proofs.lemmas.List.{drop_more}
use Rattle.std.proofs.lemmas.Bool.{and_right, le-ltb, cond-false}
use Rattle.text.specs.Words.{all_digits, value_from, number_of}

-- digits written behind a number make it no smaller
pub value_low : (n : ℕ) (ds : List ℕ) → n ≤ value_from n ds
value_low n [] = omega arith
value_low n (d ∷ ds) = let h = value_low (n * 10 + (d - 48)) ds in omega arith

pub too_large : (word : List ℕ) → 2 ^ 32 ≤ value_from 0 word → None ≡ number_of word
too_large [] h = refl
too_large (d ∷ ds) h = sym (cond-false _ _ _ (and_right (all_digits (d ∷ ds)) (ltb (value_from 0 (d ∷ ds)) (2 ^ 32)) (le-ltb _ _ h)))

module _ (word : List ℕ) where
  -- the first i bytes are digits of the value n: what is left decides
  pub record Valued (n i : ℕ) : Type 0 where
    pub digits : all_digits (drop i word) ≡ all_digits word
    pub value : value_from n (drop i word) ≡ value_from 0 word
    pub small : n < 2 ^ 32

  value_at : (n i : ℕ) → i < length word → value_from n (drop i word) ≡ value_from (n * 10 + (get_or word i 0 - 48)) (drop (i + 1) word)
  value_at n i h = ap (value_from n) (drop_more word i 0 h)

  pub valued_large : (n i : ℕ) → i < length word → 2 ^ 32 ≤ n * 10 + (get_or word i 0 - 48) → Valued n i → None ≡ number_of word
  valued_large n i h large s =
      let low = value_low (n * 10 + (get_or word i 0 - 48)) (drop (i + 1) word) in
      let e : value_from 0 word ≡ value_from (n * 10 + (get_or word i 0 - 48)) (drop (i + 1) word) = sym s.value ∙ value_at n i h in
      too_large word (omega arith)
