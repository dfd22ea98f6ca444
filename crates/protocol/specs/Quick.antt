-- The quick check: both equations of the last pair in one, by a weight w, over one list for G and H. Assumes nothing.
use Rattle.std.specs.Prelude.{◌≡◌, ℕ, ◌+◌, ◌*◌, ◌^◌, ◌<◌, List, length}
use Rattle.std.specs.Simd.Lanes.{zip2}
use Rattle.protocol.specs.Group.{Group, Laws, power, product}
use Rattle.protocol.specs.Halving.{FoldedPasses}
use Rattle.protocol.specs.Weights.{HWeights, g_weights}

-- the scalars of the list: a times the G weight and w times b times the H weight of each index
abbrev pub quick_scalars : List ℕ → ℕ → ℕ → ℕ → List ℕ
quick_scalars ws a b w = zip2 (λ x y. a * x + w * b * y) (g_weights ws) ws

-- the quick check's equation at the weight w; ws are the H weights
abbrev pub Quick : {E : Type 0} → Group E → E → List E → List ℕ → ℕ → ℕ → E → E → ℕ → Type 0
Quick g k gs ws a b z1 z2 w =
    g.join (product g gs (quick_scalars ws a b w)) (power g k (w * a * b)) ≡ g.join z1 (power g z2 w)

-- It holds at every weight where both equations hold; where it holds at two different weights below q, both equations hold;
-- and so at most one weight below q lets pass what fails.
pub record Decides {E : Type 0} (q : ℕ) (g : Group E) (k : E) (cs ws : List ℕ) (gs : List E) (a b : ℕ) (z1 z2 : E) : Type 0 where
  pub holds : FoldedPasses q g k cs gs gs a b z1 z2 → (w : ℕ) → Quick g k gs ws a b z1 z2 w
  pub shows : (v w : ℕ) → v < w → w < q → Quick g k gs ws a b z1 z2 v → Quick g k gs ws a b z1 z2 w → FoldedPasses q g k cs gs gs a b z1 z2
  pub at_most_one : (FoldedPasses q g k cs gs gs a b z1 z2 → ⊥)
      → (v w : ℕ) → v < q → w < q → Quick g k gs ws a b z1 z2 v → Quick g k gs ws a b z1 z2 w → v ≡ w

abbrev pub QuickDecides : Type 0 → Type 0
QuickDecides E =
    (q : ℕ) (g : Group E) → Laws q g → (cs ws : List ℕ) → HWeights q cs ws → (gs : List E) → length gs ≡ 2 ^ length cs
    → (k : E) (a b : ℕ) (z1 z2 : E) → Decides q g k cs ws gs a b z1 z2
