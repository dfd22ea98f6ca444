-- Claims are kept by folding, and so the last pair passes. Assumes nothing.
use Rattle.std.proofs.Common.{◌≡◌, ℕ, zero, suc, ◌+◌, ◌*◌, ◌/◌, ◌^◌, List, [], ◌∷◌, length, get_or, take, drop, sym, refl, ap, ◌∙◌, subst, ap₂, add-zero, add_assoc, pow-suc, zero-add, arith, length-drop, length-take}
use lib.Lanes.{zip2}
use lib.LanesLaws.{length-zip2}
use Rattle.protocol.specs.Group.{Group, power, Laws, product}
use Rattle.protocol.specs.Halving.{dot, Standing, Sized, TrueClaim, fold_commitment, fold_g, fold_h, fold_l, fold_r, first_half, last_half, claim2, round, rounds, LastPasses}
use Rattle.protocol.proofs.Rows.{Rows, rows}
use Rattle.protocol.proofs.Powers.{unit_right, left_comm, pow-add, pow-op, pow-mod}
use Rattle.protocol.proofs.Folding.{folded_g, folded_h, folded_dot}

dot-nil : (l : List ℕ) → dot l [] ≡ 0
dot-nil [] = refl
dot-nil (x ∷ l) = refl

dot_halves : (m : ℕ) (l r : List ℕ) → dot l r ≡ dot (take m l) (take m r) + dot (drop m l) (drop m r)
dot_halves zero l r = sym (zero-add (dot l r))
dot_halves (suc m) [] r = refl
dot_halves (suc m) (x ∷ l) [] = sym (zero-add _ ∙ dot-nil (drop m l))
dot_halves (suc m) (x ∷ l) (y ∷ r) = ap (λ n. x * y + n) (dot_halves m l r) ∙ sym (add_assoc (x * y) (dot (take m l) (take m r)) (dot (drop m l) (drop m r)))

dot-one : (l r : List ℕ) → length l ≡ 1 → length r ≡ 1 → dot l r ≡ get_or l 0 0 * get_or r 0 0
dot-one [] r p q = absurd (omega arith)
dot-one (a ∷ l) [] p q = absurd (omega arith)
dot-one (a ∷ []) (b ∷ r) p q = add-zero (a * b)
dot-one (a ∷ (x ∷ l)) (b ∷ r) p q = absurd (omega arith)

pub half_rows : {A B : Type 0} (m : ℕ) (xs : List A) (ys : List B) → length xs ≡ m + m → length ys ≡ m + m
    → Rows (take m xs) (drop m xs) (take m ys) (drop m ys)
half_rows m xs ys p q =
    rows (take m xs) (drop m xs) (take m ys) (drop m ys)
    (simp (length-take, length-drop) (omega arith)) (simp length-take (omega arith)) (simp (length-take, length-drop) (omega arith))

pub half_length : {A B : Type 0} (f : A → A → B) (m : ℕ) (xs : List A) → length xs ≡ m + m → length (zip2 f (first_half xs) (last_half xs)) ≡ m
half_length f m xs p =
    length-zip2 f (first_half xs) (last_half xs) (simp (length-take, length-drop) (omega arith)) ∙ simp length-take (omega arith)

module _ {E : Type 0} {q : ℕ} {o : Group E} (laws : Laws q o) where
  prod-nil : (gs : List E) → product o gs [] ≡ o.unit
  prod-nil [] = refl
  prod-nil (g ∷ gs) = refl

  pub prod_halves : (m : ℕ) (gs : List E) (es : List ℕ)
      → product o gs es ≡ o.join (product o (take m gs) (take m es)) (product o (drop m gs) (drop m es))
  prod_halves zero gs es = sym (laws.unit_left (product o gs es))
  prod_halves (suc m) [] es = sym (laws.unit_left o.unit)
  prod_halves (suc m) (g ∷ gs) [] = sym (laws.unit_left _ ∙ prod-nil (drop m gs))
  prod_halves (suc m) (g ∷ gs) (e ∷ es) = ap (o.join (power o g e)) (prod_halves m gs es) ∙ sym (laws.assoc _ _ _)

  prod-one : (gs : List E) (es : List ℕ) → length gs ≡ 1 → length es ≡ 1 → product o gs es ≡ power o (get_or gs 0 o.unit) (get_or es 0 0)
  prod-one [] es p q = absurd (omega arith)
  prod-one (g ∷ gs) [] p q = absurd (omega arith)
  prod-one (g ∷ []) (e ∷ es) p q = unit_right laws (power o g e)
  prod-one (g ∷ (x ∷ gs)) (e ∷ es) p q = absurd (omega arith)

  fold_side_op : (c : ℕ) (p s t p' s' t' : E)
      → o.join (fold_commitment q o c p s t) (fold_commitment q o c p' s' t') ≡ fold_commitment q o c (o.join p p') (o.join s s') (o.join t t')
  fold_side_op c p s t p' s' t' = simp (pow-op laws, laws.assoc, laws.comm, left_comm laws)

  fold_same : (c : ℕ) {p s t p' s' t' : E} → p ≡ p' → s ≡ s' → t ≡ t' → fold_commitment q o c p s t ≡ fold_commitment q o c p' s' t'
  fold_same c ep es et = λ i. fold_commitment q o c (ep i) (es i) (et i)

  keeps_one : (c m : ℕ) (gs : List E) (l : List ℕ) → length gs ≡ m + m → length l ≡ m + m
      → product o (fold_g q o c gs) (fold_l q o c l)
      ≡ fold_commitment q o c (product o (first_half gs) (last_half l)) (product o gs l) (product o (last_half gs) (first_half l))
  keeps_one c m gs l hg hl =
      let eg : length gs / 2 ≡ m = omega arith in
      let el : length l / 2 ≡ m = omega arith in
      rw (eg, el)
      (folded_g laws c (half_rows m gs l hg hl) ∙ fold_same c refl (sym (prod_halves m gs l)) refl)

  keeps_two : (k : E) (c m : ℕ) (hs : List E) (l r : List ℕ) → length hs ≡ m + m → length l ≡ m + m → length r ≡ m + m
      → claim2 q o k (fold_h q o c hs) (fold_l q o c l) (fold_r q o c r)
      ≡ fold_commitment q o c (claim2 q o k (last_half hs) (last_half l) (first_half r)) (claim2 q o k hs l r) (claim2 q o k (first_half hs) (first_half l) (last_half r))
  keeps_two k c m hs l r hh hl hr =
      let eh : length hs / 2 ≡ m = omega arith in
      let el : length l / 2 ≡ m = omega arith in
      let er : length r / 2 ≡ m = omega arith in
      rw (eh, el, er)
      (ap₂ o.join (folded_h laws c (half_rows m hs r hh hr)) (pow-mod laws k _ ∙ folded_dot laws c k (half_rows m l r hl hr))
      ∙ fold_side_op c _ _ _ _ _ _
      ∙ sym (fold_same c
      (ap (o.join _) (pow-mod laws k (dot (drop m l) (take m r))))
      (ap₂ o.join (prod_halves m hs r) (pow-mod laws k (dot l r) ∙ ap (power o k) (dot_halves m l r) ∙ pow-add laws k _ _))
      (ap (o.join _) (pow-mod laws k (dot (take m l) (drop m r))))))

  pub keeps : (k : E) (c m : ℕ) (s : Standing E) → Sized (m + m) s → TrueClaim q o k s → Sized m (round q o k c s) × TrueClaim q o k (round q o k c s)
  keeps k c m s h z = (
    record {
      gs = half_length _ m s.gs h.gs;
      hs = half_length _ m s.hs h.hs;
      l = half_length _ m s.l h.l;
      r = half_length _ m s.r h.r;
    },
    record {
      one = fold_same c refl z.one refl ∙ sym (keeps_one c m s.gs s.l h.gs h.l);
      two = fold_same c refl z.two refl ∙ sym (keeps_two k c m s.hs s.l s.r h.hs h.l h.r);
    },
  )

  pub complete : (k : E) (cs : List ℕ) (s : Standing E) → Sized (2 ^ length cs) s → TrueClaim q o k s → LastPasses q o k (rounds q o k cs s)
  complete k [] s h z =
      record {
        one = sym (z.one ∙ prod-one s.gs s.l h.gs h.l);
        two = sym (z.two ∙ ap₂ o.join (prod-one s.hs s.r h.hs h.r) (pow-mod laws k _ ∙ ap (power o k) (dot-one s.l s.r h.l h.r)));
      }
  complete k (c ∷ cs) s h z =
      let m : ℕ = 2 ^ length cs in
      let e : 2 ^ length (c ∷ cs) ≡ m + m = rw pow-suc (omega arith) in
      let next = keeps k c m s (subst (λ n. Sized n s) e h) z in
      complete k cs (round q o k c s) next.0 next.1
