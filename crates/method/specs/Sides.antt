-- Folding round by round on either side, and what a method works on once nothing is refused. Assumes nothing.
use Rattle.std.specs.Prelude.{◌≡◌, ℕ, ◌^◌, ◌≤◌, List, [], ◌∷◌, length}
use Rattle.kind.specs.Kinds.{Meaning}
use Rattle.kind.specs.Sides.{fold_of}
use Rattle.kind.specs.declared.side.Side.{Side}

module _ {M E : Type 0} (s : Meaning M E) where
  -- folded by each challenge in turn
  abbrev pub folds_of : Side → List ℕ → List M → List M
  folds_of side [] xs = xs
  folds_of side (c ∷ cs) xs = folds_of side cs (fold_of s side c xs)

-- lists of g and h elements, each with an entry for each index, and work lists as long
pub record Admitted (cs : List ℕ) (g h elements numbers : ℕ) : Type 0 where
  pub long_g : g ≡ 2 ^ length cs
  pub long_h : h ≡ 2 ^ length cs
  pub elements_room : elements ≡ 2 ^ length cs
  pub numbers_room : numbers ≡ 2 ^ length cs
  pub few : length cs ≤ 8
