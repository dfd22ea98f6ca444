-- Bytes laid into a list at a place. Assumes nothing.
use Rattle.std.specs.Prelude.{◌≡◌, ℕ, ◌+◌, ◌≤◌, List, ◌++◌, length, take, drop}

-- xs laid over out from the place `at` on
abbrev pub laid : {A : Type 0} → ℕ → List A → List A → List A
laid at xs out = take at out ++ (xs ++ drop (at + length xs) out)

-- after is out with xs laid over it from `at` on, and past is the place behind them
pub record Laid {A : Type 0} (at : ℕ) (xs out after : List A) (past : ℕ) : Type 0 where
  pub is : after ≡ laid at xs out
  pub to : past ≡ at + length xs
  pub room : at + length xs ≤ length out
