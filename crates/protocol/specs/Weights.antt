-- Multiplying a list out by weights, in place of folding it round by round. Assumes nothing.
use Rattle.std.specs.Prelude.{◌≡◌, ℕ, ◌+◌, ◌-◌, ◌*◌, ◌%◌, ◌^◌, ◌<◌, List, [], ◌∷◌, reverse, length, slice_index, slice_index_or}
use Rattle.protocol.specs.Group.{Group, Laws, product}
use Rattle.protocol.specs.Halving.{folds_g, folds_h}

-- ws has the H weights of the challenges cs, the first round's first: the weight of 0 is 1, and that of an index above 0, with the
-- highest one bit t (bits count from 0), is the weight of the index without that bit, times the challenge of round k - t, modulo q.
-- Such an index is 2 ^ t + i with i < 2 ^ t, and the challenge of round k - t stands at k - 1 - t in cs.
pub record HWeights (q : ℕ) (cs ws : List ℕ) : Type 0 where
  pub count : length ws ≡ 2 ^ length cs
  pub first : slice_index_or ws 0 0 ≡ 1
  pub rule : (t i : ℕ) → t < length cs → i < 2 ^ t
      → slice_index ws (2 ^ t + i) ≡ (slice_index ws i * slice_index cs (length cs - 1 - t)) % q

-- the G weight of i is the H weight of n - 1 - i
abbrev pub g_weights : List ℕ → List ℕ
g_weights ws = reverse ws

-- The one element that folding leaves is the product by weights, on both sides.
abbrev pub MultipliesOut : Type 0 → Type 0
MultipliesOut E =
    (q : ℕ) (g : Group E) → Laws q g → (cs ws : List ℕ) → HWeights q cs ws → (xs : List E) → length xs ≡ 2 ^ length cs
    → (folds_h q g cs xs ≡ product g xs ws ∷ []) × (folds_g q g cs xs ≡ product g xs (g_weights ws) ∷ [])

-- There are such weights for any challenges.
abbrev pub WeightsExist : Type 0
WeightsExist = (q : ℕ) (cs : List ℕ) → (ws : List ℕ) × HWeights q cs ws
