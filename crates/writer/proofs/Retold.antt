-- A list looked over by one layer, and told of by another. Assumes nothing.
use Rattle.std.proofs.Common.{◌≡◌, ℕ, ◌+◌, Bool, true, false, cond, List, [], ◌∷◌, Ok, Err, Result, refl}
use Rattle.kind.specs.Faults.{first_bad}

-- a fault told anew
abbrev pub retold : {T E F : Type 0} → (E → F) → Result T E → Result T F
retold up (Ok x) = Ok x
retold up (Err e) = Err (up e)

pub first_retold : {X E F : Type 0} (up : E → F) (bad : X → Bool) (fault : ℕ → E) (i : ℕ) (xs : List X)
    → retold up (first_bad bad fault i xs) ≡ first_bad bad (λ j. up (fault j)) i xs
first_retold up bad fault i [] = refl
first_retold up bad fault i (x ∷ xs) = go (bad x) (first_retold up bad fault (i + 1) xs)
  where
    go : (b : Bool) → retold up (first_bad bad fault (i + 1) xs) ≡ first_bad bad (λ j. up (fault j)) (i + 1) xs
        → retold up (cond b (Err (fault i)) (first_bad bad fault (i + 1) xs)) ≡ cond b (Err (up (fault i))) (first_bad bad (λ j. up (fault j)) (i + 1) xs)
    go true next = refl
    go false next = next
