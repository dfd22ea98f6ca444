-- A list looked over for its first bad entry. Assumes nothing.
use Rattle.std.proofs.Common.{◌≡◌, ℕ, ◌+◌, ◌<◌, ◌≤◌, Bool, true, false, cond, List, [], ◌∷◌, length, get_or, drop, Some, None, Option, Ok, Err, Result, sym, refl, ap, ◌∙◌}
use Rattle.std.specs.List.{position, position_from}
use Rattle.std.proofs.lemmas.Iterator.Adapters.{position_from-zero}
use Rattle.std.proofs.lemmas.List.{drop_more, drop_all}
use Rattle.kind.specs.Faults.{first_bad}

module _ {X F : Type 0} (bad : X → Bool) (fault : ℕ → F) where
  -- the fault at a place, if there is one
  abbrev refused_at : Option ℕ → Result Unit F
  refused_at None = Ok tt
  refused_at (Some i) = Err (fault i)

  refused_cond : (b : Bool) (i : ℕ) (o : Option ℕ) (r : Result Unit F) → refused_at o ≡ r → refused_at (cond b (Some i) o) ≡ cond b (Err (fault i)) r
  refused_cond true i o r h = refl
  refused_cond false i o r h = h

  refused_from : (i : ℕ) (xs : List X) → refused_at (position_from bad i xs) ≡ first_bad bad fault i xs
  refused_from i [] = refl
  refused_from i (x ∷ xs) = refused_cond (bad x) i _ _ (refused_from (i + 1) xs)

  module _ (xs : List X) where
    -- a bad entry that is found is told of
    pub bad_at : (i : ℕ) → position bad xs ≡ Some i → Err (fault i) ≡ first_bad bad fault 0 xs
    bad_at i h = ap refused_at (sym h ∙ position_from-zero bad xs) ∙ refused_from 0 xs

    -- where none is found, there is no fault
    pub none_at : position bad xs ≡ None → Ok tt ≡ first_bad bad fault 0 xs
    none_at h = ap refused_at (sym h ∙ position_from-zero bad xs) ∙ refused_from 0 xs

-- the same by walking over the list place by place
module _ {X F : Type 0} (bad : X → Bool) (fault : ℕ → F) (xs : List X) where
  -- the first i are not bad: what is left decides
  abbrev pub Looked : ℕ → Type 0
  Looked i = first_bad bad fault i (drop i xs) ≡ first_bad bad fault 0 xs

  at_once : (i : ℕ) (d : X) → i < length xs
      → first_bad bad fault i (drop i xs) ≡ cond (bad (get_or xs i d)) (Err (fault i)) (first_bad bad fault (i + 1) (drop (i + 1) xs))
  at_once i d h = ap (first_bad bad fault i) (drop_more xs i d h)

  pub looked_more : (i : ℕ) (d : X) → i < length xs → bad (get_or xs i d) ≡ false → Looked i → Looked (i + 1)
  looked_more i d h good s =
      sym (at_once i d h ∙ ap (λ b. cond b (Err (fault i)) (first_bad bad fault (i + 1) (drop (i + 1) xs))) good) ∙ s

  pub looked_here : (i : ℕ) (d : X) → i < length xs → bad (get_or xs i d) ≡ true → Looked i → Err (fault i) ≡ first_bad bad fault 0 xs
  looked_here i d h wrong s =
      sym (at_once i d h ∙ ap (λ b. cond b (Err (fault i)) (first_bad bad fault (i + 1) (drop (i + 1) xs))) wrong) ∙ s

  pub looked_all : (i : ℕ) → length xs ≤ i → Looked i → Ok tt ≡ first_bad bad fault 0 xs
  looked_all i h s = sym (ap (first_bad bad fault i) (drop_all i xs h)) ∙ s

-- where none is bad from the place i on, the first is not, and none of the rest
pub none_bad : {X F : Type 0} (bad : X → Bool) (fault : ℕ → F) (i : ℕ) (x : X) (xs : List X)
    → first_bad bad fault i (x ∷ xs) ≡ Ok tt → (bad x ≡ false) × (first_bad bad fault (i + 1) xs ≡ Ok tt)
none_bad bad fault i x xs e = go (bad x) refl
  where
    go : (b : Bool) → bad x ≡ b → (bad x ≡ false) × (first_bad bad fault (i + 1) xs ≡ Ok tt)
    go true p = (cc, cc)
    go false p = (p, sym (ap (λ b. cond b (Err (fault i)) (first_bad bad fault (i + 1) xs)) p) ∙ e)
