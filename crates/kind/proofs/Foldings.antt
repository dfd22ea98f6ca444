-- The turns of the folding loops, for lists of anything. Assumes nothing.
use Rattle.std.proofs.Common.{◌≡◌, ℕ, ◌+◌, ◌-◌, ◌/◌, ◌<◌, ◌≤◌, List, [], ◌∷◌, ◌++◌, length, get_or, take, drop, set, sym, ap, ◌∙◌, ap₂, append_assoc, arith, length-drop, length-take}
use Rattle.std.proofs.lemmas.List.{take_more, drop_more, set_at, get_or-take, get_or-drop, get_or-append_right, length-take-le}
use Rattle.std.proofs.lemmas.Simd.{length-zip2, get_or-zip2}
use Rattle.protocol.specs.Halving.{first_half, last_half}
use Rattle.kind.specs.Sides.{fold_by}

-- one more of fs over ws
pub over_more : {A : Type 0} (fs ws : List A) (i : ℕ) (v : A) → i < length fs → i < length ws → v ≡ get_or fs i v
    → set (take i fs ++ drop i ws) i v ≡ take (i + 1) fs ++ drop (i + 1) ws
over_more fs ws i v hf hw is =
    ap (λ l. set (take i fs ++ l) i v) (drop_more ws i v hw)
    ∙ set_at (take i fs) (get_or ws i v) (drop (i + 1) ws) v i (length-take-le i fs (omega arith))
    ∙ sym (append_assoc (take i fs) (v ∷ []) (drop (i + 1) ws))
    ∙ ap (λ l. l ++ drop (i + 1) ws) (ap (λ w. take i fs ++ (w ∷ [])) is ∙ sym (take_more fs i v hf))

-- what is not yet written over
pub over_rest : {A : Type 0} (fs ws : List A) (i j : ℕ) (d : A) → i ≤ length fs → i ≤ j
    → get_or (take i fs ++ drop i ws) j d ≡ get_or ws j d
over_rest fs ws i j d hf h =
    let e : i + (j - i) ≡ j = omega arith in
    get_or-append_right (take i fs) (drop i ws) i j d (length-take-le i fs hf) h
    ∙ get_or-drop i ws (j - i) d ∙ ap (λ n. get_or ws n d) e

module _ {A : Type 0} (f : A → A → A) where
  pub length-fold : (m : ℕ) (xs : List A) → length xs ≡ m + m → length (fold_by f xs) ≡ m
  length-fold m xs h =
      let e : length xs / 2 ≡ m = omega arith in
      let a : length (first_half xs) ≡ m = length-take (length xs / 2) xs ∙ omega arith in
      let b : length (last_half xs) ≡ m = length-drop (length xs / 2) xs ∙ omega arith in
      length-zip2 f (first_half xs) (last_half xs) (a ∙ sym b) ∙ a

  fold_at : (m i : ℕ) (xs : List A) (d e : A) → length xs ≡ m + m → i < m
      → get_or (fold_by f xs) i e ≡ f (get_or xs i d) (get_or xs (m + i) d)
  fold_at m i xs d e h hi =
      let k : length xs / 2 ≡ m = omega arith in
      let a : length (first_half xs) ≡ m = length-take (length xs / 2) xs ∙ omega arith in
      let b : length (last_half xs) ≡ m = length-drop (length xs / 2) xs ∙ omega arith in
      get_or-zip2 f (first_half xs) (last_half xs) i d d e (omega arith) (omega arith)
      ∙ ap₂ f (get_or-take (length xs / 2) xs i d (omega arith)) (get_or-drop (length xs / 2) xs i d ∙ ap (λ n. get_or xs (n + i) d) k)

  -- two entries of xs folded are the fold's
  pub fold_is : (m i : ℕ) (xs : List A) (x y v d e : A) → length xs ≡ m + m → i < m
      → x ≡ get_or xs i d → y ≡ get_or xs (m + i) d → v ≡ f x y → v ≡ get_or (fold_by f xs) i e
  fold_is m i xs x y v d e h hi hx hy hv = hv ∙ ap₂ f hx hy ∙ sym (fold_at m i xs d e h hi)
