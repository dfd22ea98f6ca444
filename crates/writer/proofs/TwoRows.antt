-- Two lists one behind the other, each with a front that was lent and written. Assumes nothing.
use Rattle.std.proofs.Common.{◌≡◌, ℕ, ◌≤◌, List, ◌++◌, length, take, drop, ap, ◌∙◌, arith, length-append, length-drop}
use Rattle.std.proofs.lemmas.List.{drop_at, take-append-le}

-- of g, which is n long, the first j are a now, and of h those of which b is left
module _ {A : Type 0} (n j : ℕ) (g h a b : List A) (long : length g ≡ n) (fits : j ≤ n) (lent : length a ≡ j) where
  abbrev pub rows : List A
  rows = (a ++ drop j g) ++ (b ++ drop j h)

  first_long : length (a ++ drop j g) ≡ n
  first_long = omega (arith, length-append a (drop j g), length-drop j g)

  pub front_is : (m : ℕ) → m ≤ j → take m rows ≡ take m a
  front_is m le = take-append-le m (a ++ drop j g) (b ++ drop j h) (omega (arith, first_long)) ∙ take-append-le m a (drop j g) (omega arith)

  pub back_is : (m : ℕ) → m ≤ length b → take m (drop n rows) ≡ take m b
  back_is m le = ap (take m) (drop_at (a ++ drop j g) (b ++ drop j h) n first_long) ∙ take-append-le m b (drop j h) le
