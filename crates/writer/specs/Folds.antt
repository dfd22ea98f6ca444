-- Folding scalars on either side. Assumes nothing.
use Rattle.std.specs.Prelude.{ℕ, ◌+◌, ◌*◌, ◌%◌, List}
use Rattle.kind.specs.Sides.{fold_by}
use Rattle.kind.specs.declared.side.Side.{Side}
use Rattle.kind.specs.declared.side.Side.TheVariants.{OfG, OfH}

-- one scalar of each half, folded modulo q: of l, which goes with G, and of r, which goes with H
abbrev pub fold_scalars : ℕ → Side → ℕ → ℕ → ℕ → ℕ
fold_scalars q OfG c a b = (a + c * b) % q
fold_scalars q OfH c a b = (c * a + b) % q

abbrev pub folds_scalars : ℕ → Side → ℕ → List ℕ → List ℕ
folds_scalars q side c xs = fold_by (fold_scalars q side c) xs
