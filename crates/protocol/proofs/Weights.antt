-- Halving a row round by round is multiplying it out by weights. Assumes nothing.
use Rattle.std.proofs.Common.{◌≡◌, ℕ, suc, ◌+◌, ◌-◌, ◌*◌, ◌/◌, ◌%◌, ◌^◌, ◌<◌, ◌≤◌, List, [], ◌∷◌, ◌++◌, map, reverse, length, get_or, take, drop, sym, refl, ap, ◌∙◌, subst, ap₂, mul_comm, pow-suc, arith, length-append, length-drop, take-append-drop, length-take, pow_pos, pow_mono}
use mathlib.Core.List.{reverse-append, reverse-cons, map-append}
use native.Mathlib.Decide.{dec_lt}
use lib.ListN.{length-map, length-reverse}
use lib.Lanes.{zip2}
use Rattle.std.proofs.lemmas.List.{get_or-take, get_or-drop, get_or-map, get_or_append_left, get_or-append-add, ext_get_or, take_at, drop_at}
use Rattle.protocol.specs.Group.{Group, power, Laws, product}
use Rattle.protocol.specs.Halving.{first_half, last_half, fold_g, fold_h, folds_g, folds_h}
use Rattle.protocol.specs.Weights.{HWeights, g_weights}
use Rattle.protocol.proofs.Rows.{Rows, none, more, rows}
use Rattle.protocol.proofs.Powers.{unit_right, left_comm, pow-op, pow-pow, pow-mod}
use Rattle.protocol.proofs.Order.{pow-one}
use Rattle.protocol.proofs.Claims.{prod_halves, half_length}

-- the weights by halves: the top bit belongs to the first round
abbrev pub times : ℕ → ℕ → ℕ → ℕ
times q c w = (w * c) % q

abbrev pub table : ℕ → List ℕ → List ℕ
table q [] = 1 ∷ []
table q (c ∷ cs) = table q cs ++ map (times q c) (table q cs)

map-reverse : {A B : Type 0} (f : A → B) (xs : List A) → reverse (map f xs) ≡ map f (reverse xs)
map-reverse f [] = refl
map-reverse f (x ∷ xs) =
    reverse-cons (f x) (map f xs) ∙ ap (λ ys. ys ++ (f x ∷ [])) (map-reverse f xs)
    ∙ sym (ap (map f) (reverse-cons x xs) ∙ map-append f (reverse xs) (x ∷ []))

double : (k : ℕ) → 2 ^ suc k ≡ 2 ^ k + 2 ^ k
double k = rw pow-suc (omega arith)

table_length : (q : ℕ) (cs : List ℕ) → length (table q cs) ≡ 2 ^ length cs
table_length q [] = refl
table_length q (c ∷ cs) =
    let e = double (length cs) in
    let h = table_length q cs in
    simp (length-append, length-map) (omega arith)

-- the first half of the weights are those of the later challenges
later : (q c : ℕ) (cs ws : List ℕ) → HWeights q (c ∷ cs) ws → HWeights q cs (take (2 ^ length cs) ws)
later q c cs ws h =
    let m = 2 ^ length cs in
    let pos = pow_pos (length cs) in
    let n = h.count ∙ double (length cs) in
    record {
      count = length-take m ws ∙ omega arith;
      first = get_or-take m ws 0 0 pos ∙ h.first;
      rule = λ t i ht hi.
          let top : 2 ^ suc t ≤ m = pow_mono ht in
          let e = double t in
          let at : suc (length cs) - 1 - t ≡ suc (length cs - 1 - t) = omega arith in
          get_or-take m ws (2 ^ t + i) 0 (omega arith)
          ∙ h.rule t i (omega arith) hi
          ∙ ap₂ (λ x y. (x * y) % q) (sym (get_or-take m ws i 0 (omega arith))) (ap (λ j. get_or (c ∷ cs) j 0) at);
    }

-- the last half are the same, times the first challenge
scaled : (q c : ℕ) (cs ws : List ℕ) → HWeights q (c ∷ cs) ws
    → drop (2 ^ length cs) ws ≡ map (times q c) (take (2 ^ length cs) ws)
scaled q c cs ws h =
    let m = 2 ^ length cs in
    let n = h.count ∙ double (length cs) in
    ext_get_or 0 (drop m ws) (map (times q c) (take m ws))
    (simp (length-map, length-take, length-drop) (omega arith))
    (λ i hi.
    let small : i < m = omega (arith, length-drop m ws) in
    let at : suc (length cs) - 1 - length cs ≡ 0 = omega arith in
    get_or-drop m ws i 0
    ∙ h.rule (length cs) i (omega arith) small
    ∙ ap₂ (λ x y. (x * y) % q) (sym (get_or-take m ws i 0 small)) (ap (λ j. get_or (c ∷ cs) j 0) at)
    ∙ sym (get_or-map (times q c) (take m ws) i 0 0 (simp length-take (omega arith))))

pub weights_are : (q : ℕ) (cs ws : List ℕ) → HWeights q cs ws → ws ≡ table q cs
weights_are q [] [] h = absurd (let n = h.count in omega arith)
weights_are q [] (w ∷ []) h = ap (λ x. x ∷ []) h.first
weights_are q [] (w ∷ (v ∷ ws)) h = absurd (let n = h.count in omega arith)
weights_are q (c ∷ cs) ws h =
    let m = 2 ^ length cs in
    let low = weights_are q cs (take m ws) (later q c cs ws h) in
    sym (take-append-drop m ws) ∙ ap₂ ◌++◌ low (scaled q c cs ws h ∙ ap (map (times q c)) low)

-- the table by halves keeps the rule by the highest one bit
pub table_weights : (q : ℕ) (cs : List ℕ) → HWeights q cs (table q cs)
table_weights q [] = record { count = refl; first = refl; rule = λ t i ht. absurd (omega arith) }
table_weights q (c ∷ cs) =
    let m : ℕ = 2 ^ length cs in
    let low : List ℕ = table q cs in
    let high : List ℕ = map (times q c) low in
    let h = table_weights q cs in
    let n : length low ≡ m = h.count in
    let in_low : (i : ℕ) → i < m → get_or (low ++ high) i 0 ≡ get_or low i 0 = λ i hi. get_or_append_left low high 0 i (omega arith) in
    record {
      count = table_length q (c ∷ cs);
      first = in_low 0 (pow_pos (length cs)) ∙ h.first;
      rule = λ t i ht hi. elim (dec_lt t (length cs)) [
        | yes lt ↦
            (let top : 2 ^ suc t ≤ m = pow_mono lt in
            let e = double t in
            let at : suc (length cs - 1 - t) ≡ suc (length cs) - 1 - t = omega arith in
            in_low (2 ^ t + i) (omega arith) ∙ h.rule t i lt hi
            ∙ ap₂ (λ x y. (x * y) % q) (sym (in_low i (omega arith))) (ap (λ j. get_or (c ∷ cs) j 0) at))
        | no nlt ↦
            (let top : t ≡ length cs = omega arith in
            let small : i < m = subst (λ j. i < 2 ^ j) top hi in
            let at : 0 ≡ suc (length cs) - 1 - t = omega arith in
            ap (λ j. get_or (low ++ high) j 0) (ap (λ j. 2 ^ j + i) top ∙ ap (λ j. j + i) (sym n))
            ∙ get_or-append-add low high i 0
            ∙ get_or-map (times q c) low i 0 0 (omega arith)
            ∙ ap₂ (λ x y. (x * y) % q) (sym (in_low i small)) (ap (λ j. get_or (c ∷ cs) j 0) at))
      ];
    }

module _ {E : Type 0} {q : ℕ} {o : Group E} (laws : Laws q o) where
  step_h : (c : ℕ) (x y : E) (w : ℕ) (s t : E)
      → o.join (power o (o.join x (power o y c)) w) (o.join s t) ≡ o.join (o.join (power o x w) s) (o.join (power o y (times q c w)) t)
  step_h c x y w s t = simp (pow-mod laws, pow-op laws, pow-pow laws, mul_comm, laws.assoc, laws.comm, left_comm laws)

  step_g : (c : ℕ) (x y : E) (w : ℕ) (s t : E)
      → o.join (power o (o.join (power o x c) y) w) (o.join s t) ≡ o.join (o.join (power o x (times q c w)) s) (o.join (power o y w) t)
  step_g c x y w s t = simp (pow-mod laws, pow-op laws, pow-pow laws, mul_comm, laws.assoc, laws.comm, left_comm laws)

  out_h : (c : ℕ) {xs ys : List E} {ws vs : List ℕ} → Rows xs ys ws vs
      → product o (zip2 (λ x y. o.join x (power o y c)) xs ys) ws ≡ o.join (product o xs ws) (product o ys (map (times q c) ws))
  out_h c none = sym (laws.unit_left o.unit)
  out_h c (more {x} {y} {a} rest) = ap (o.join _) (out_h c rest) ∙ step_h c x y a _ _

  out_g : (c : ℕ) {xs ys : List E} {ws vs : List ℕ} → Rows xs ys ws vs
      → product o (zip2 (λ x y. o.join (power o x c) y) xs ys) ws ≡ o.join (product o xs (map (times q c) ws)) (product o ys ws)
  out_g c none = sym (laws.unit_left o.unit)
  out_g c (more {x} {y} {a} rest) = ap (o.join _) (out_g c rest) ∙ step_g c x y a _ _

  one_left : (w : ℕ) (xs : List E) → length xs ≡ 1 → w ≡ 1 → xs ≡ product o xs (w ∷ []) ∷ []
  one_left w [] h e = absurd (omega arith)
  one_left w (x ∷ []) h e = ap (λ y. y ∷ []) (sym (unit_right laws (power o x w) ∙ ap (power o x) e ∙ pow-one laws x))
  one_left w (x ∷ (y ∷ xs)) h e = absurd (omega arith)

  -- rows of the halves of xs beside a list of weights for one half
  half_weights : (m : ℕ) (xs : List E) (ws : List ℕ) → length xs ≡ m + m → length ws ≡ m → Rows (first_half xs) (last_half xs) ws ws
  half_weights m xs ws hx hw =
      rows (first_half xs) (last_half xs) ws ws
      (simp (length-take, length-drop) (omega arith)) (simp (length-take) (omega arith)) (simp (length-take) (omega arith))

  -- a product by the weights us, then vs, each for one half of xs
  by_halves : (m : ℕ) (xs : List E) (us vs : List ℕ) → length xs ≡ m + m → length us ≡ m
      → o.join (product o (first_half xs) us) (product o (last_half xs) vs) ≡ product o xs (us ++ vs)
  by_halves m xs us vs hx hu =
      let e : length xs / 2 ≡ m = omega arith in
      rw e
      (ap₂ (λ y z. o.join (product o (take m xs) y) (product o (drop m xs) z)) (sym (take_at us vs m hu)) (sym (drop_at us vs m hu))
      ∙ sym (prod_halves laws m xs (us ++ vs)))

  out_all_h : (cs : List ℕ) (xs : List E) → length xs ≡ 2 ^ length cs → folds_h q o cs xs ≡ product o xs (table q cs) ∷ []
  out_all_h [] xs h = one_left 1 xs h refl
  out_all_h (c ∷ cs) xs h =
      let m : ℕ = 2 ^ length cs in
      let n : length xs ≡ m + m = h ∙ double (length cs) in
      let w : length (table q cs) ≡ m = table_length q cs in
      out_all_h cs (fold_h q o c xs) (half_length _ m xs n)
      ∙ ap (λ y. y ∷ []) (out_h c (half_weights m xs (table q cs) n w) ∙ by_halves m xs (table q cs) (map (times q c) (table q cs)) n w)

  out_all_g : (cs : List ℕ) (xs : List E) → length xs ≡ 2 ^ length cs → folds_g q o cs xs ≡ product o xs (reverse (table q cs)) ∷ []
  out_all_g [] xs h = one_left 1 xs h refl
  out_all_g (c ∷ cs) xs h =
      let m : ℕ = 2 ^ length cs in
      let n : length xs ≡ m + m = h ∙ double (length cs) in
      let ws : List ℕ = table q cs in
      let w : length (reverse ws) ≡ m = length-reverse ws ∙ table_length q cs in
      let turned : map (times q c) (reverse ws) ++ reverse ws ≡ reverse (table q (c ∷ cs)) =
      sym (reverse-append ws (map (times q c) ws) ∙ ap (λ y. y ++ reverse ws) (map-reverse (times q c) ws)) in
      out_all_g cs (fold_g q o c xs) (half_length _ m xs n)
      ∙ ap (λ y. y ∷ [])
      (out_g c (half_weights m xs (reverse ws) n w)
      ∙ by_halves m xs (map (times q c) (reverse ws)) (reverse ws) n (length-map (reverse ws) (times q c) ∙ w)
      ∙ ap (product o xs) turned)

  pub multiplies_out : (cs ws : List ℕ) → HWeights q cs ws → (xs : List E) → length xs ≡ 2 ^ length cs
      → (folds_h q o cs xs ≡ product o xs ws ∷ []) × (folds_g q o cs xs ≡ product o xs (g_weights ws) ∷ [])
  multiplies_out cs ws h xs n =
      let e = weights_are q cs ws h in
      (out_all_h cs xs n ∙ ap (λ y. product o xs y ∷ []) (sym e), out_all_g cs xs n ∙ ap (λ y. product o xs (reverse y) ∷ []) (sym e))
