-- Folding a list to half its length, on either side. Assumes nothing.
use Rattle.std.specs.Prelude.{ℕ, List}
use Rattle.std.specs.Simd.Lanes.{zip2}
use Rattle.protocol.specs.Group.{power}
use Rattle.protocol.specs.Halving.{first_half, last_half}
use Rattle.kind.specs.Kinds.{Meaning}
use Rattle.kind.specs.declared.side.Side.{Side}
use Rattle.kind.specs.declared.side.Side.TheVariants.{OfG, OfH}

-- the two halves of a list, put together entry by entry
abbrev pub fold_by : {A : Type 0} → (A → A → A) → List A → List A
fold_by f xs = zip2 f (first_half xs) (last_half xs)

module _ {M E : Type 0} (s : Meaning M E) where
  -- one element of each half, folded
  abbrev pub fold_pair : Side → ℕ → M → M → M
  fold_pair OfG c x y = s.group.join (power s.group x c) y
  fold_pair OfH c x y = s.group.join x (power s.group y c)

  abbrev pub fold_of : Side → ℕ → List M → List M
  fold_of side c xs = fold_by (fold_pair side c) xs
