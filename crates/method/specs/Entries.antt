-- What a challenge table keeps. Assumes nothing.
use Rattle.std.specs.Prelude.{◌≡◌, ℕ, ◌-◌, ◌≤◌, Bool, false, ◌||◌, List, [], ◌∷◌, length, take, drop, replicate, ◌==◌, nat_lt}

-- c is not from 1 to 2 ^ 31 - 1
abbrev pub outside : ℕ → Bool
outside c = c == 0 || nat_lt 2147483647 c

-- some entry of the list is bad
abbrev pub any_bad : {X : Type 0} → (X → Bool) → List X → Bool
any_bad bad [] = false
any_bad bad (x ∷ xs) = bad x || any_bad bad xs

-- of eight entries the first len are from 1 to 2 ^ 31 - 1, and zeros stand behind them
abbrev pub Kept : List ℕ → ℕ → Type 0
Kept entries len = (length entries ≡ 8) × (len ≤ 8) × (any_bad outside (take len entries) ≡ false) × (drop len entries ≡ replicate (8 - len) 0)
