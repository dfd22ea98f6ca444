-- The end of a product of powers. Assumes nothing.
use Rattle.std.proofs.Common.{◌≡◌, ℕ, List, [], ◌∷◌, length, sym, ◌∙◌}
use Rattle.protocol.specs.Group.{Group, Laws, product}
use Rattle.protocol.proofs.Powers.{unit_right}

module _ {M : Type 0} {q : ℕ} (g : Group M) (laws : Laws q g) where
  -- where no element is left, all are joined
  pub join_end : (xs : List M) (es : List ℕ) (total y : M) → length xs ≡ 0 → g.join total (product g xs es) ≡ y → total ≡ y
  join_end [] es total y h e = sym (unit_right laws total) ∙ e
  join_end (x ∷ xs) es total y h e = cc
