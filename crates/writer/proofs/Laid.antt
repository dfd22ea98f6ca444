-- Bytes laid one after another. Assumes nothing.
use Rattle.std.proofs.Common.{◌≡◌, ℕ, zero, suc, ◌+◌, ◌-◌, ◌<◌, ◌≤◌, List, [], ◌∷◌, ◌++◌, length, take, drop, set, sym, refl, ap, ◌∙◌, ap₂, append_assoc, arith, length-append, length-drop, length-take}
use borrow.Rule.Slice.PartMut.{put_mid}
use Rattle.std.proofs.lemmas.List.{take_at, drop_at, drop-drop, drop_more, set_at, length-take-le}
use Rattle.writer.specs.Laying.{laid, Laid}

module _ {A : Type 0} where
  pub length_laid : (at : ℕ) (xs out : List A) → at + length xs ≤ length out → length (laid at xs out) ≡ length out
  length_laid at xs out h = simp (length-append, length-take, length-drop) (omega arith)

  pub laid_more : (at : ℕ) (xs ys out : List A) → at + length xs ≤ length out
      → laid (at + length xs) ys (laid at xs out) ≡ laid at (xs ++ ys) out
  laid_more at xs ys out h =
      let n : ℕ = at + length xs in
      let p = take at out in
      let r = drop n out in
      let long : length (p ++ xs) ≡ n = length-append p xs ∙ ap (λ k. k + length xs) (length-take-le at out (omega arith)) in
      let front : take n (laid at xs out) ≡ p ++ xs = ap (take n) (sym (append_assoc p xs r)) ∙ take_at (p ++ xs) r n long in
      let past : n + length ys ≡ at + length (xs ++ ys) = omega (arith, length-append xs ys) in
      let back : drop (n + length ys) (laid at xs out) ≡ drop (at + length (xs ++ ys)) out =
      sym (drop-drop (length ys) n (laid at xs out))
      ∙ ap (drop (length ys)) (ap (drop n) (sym (append_assoc p xs r)) ∙ drop_at (p ++ xs) r n long)
      ∙ drop-drop (length ys) n out ∙ ap (λ k. drop k out) past in
      ap₂ (λ a b. a ++ (ys ++ b)) front back
      ∙ append_assoc p xs (ys ++ drop (at + length (xs ++ ys)) out)
      ∙ ap (λ l. p ++ l) (sym (append_assoc xs ys (drop (at + length (xs ++ ys)) out)))

  -- what was laid is as long as before
  pub kept : {at : ℕ} {xs out after : List A} {past : ℕ} → Laid at xs out after past → length after ≡ length out
  kept {at} {xs} {out} h = ap length h.is ∙ length_laid at xs out h.room

  -- one after the other
  pub next : {at p e : ℕ} {xs ys a b c : List A} → Laid at xs a b p → Laid p ys b c e → Laid at (xs ++ ys) a c e
  next {at} {p} {e} {xs} {ys} {a} {b} {c} f g =
      let k = kept f in
      let n = length-append xs ys in
      record {
        is = g.is ∙ ap₂ (λ m l. laid m ys l) f.to f.is ∙ laid_more at xs ys a f.room;
        to = omega (arith, f.to, g.to);
        room = omega (arith, f.to, g.room);
      }

  -- a part that was lent and filled
  pub filled : (at w : ℕ) (out ys xs : List A) → ys ≡ xs → length xs ≡ w → at + w ≤ length out
      → Laid at xs out (put_mid at (at + w - at) out ys) (at + w)
  filled at w out ys xs e n h =
      let k : at + (at + w - at) ≡ at + length xs = omega arith in
      record {
        is = ap₂ (λ a b. take at out ++ (a ++ b)) e (drop-drop (at + w - at) at out ∙ ap (λ m. drop m out) k);
        to = omega arith;
        room = omega arith;
      }

  pub placed : (at : ℕ) (out : List A) (x : A) → at < length out → Laid at (x ∷ []) out (set out at x) (at + 1)
  placed at out x h = record {
    is = ap (λ l. set l at x) (sym (split at out)) ∙ ap (λ l. set (take at out ++ l) at x) (drop_more out at x h)
        ∙ set_at (take at out) _ (drop (at + 1) out) x at (length-take-le at out (omega arith));
    to = refl;
    room = omega arith;
  }
    where
      split : (n : ℕ) (l : List A) → take n l ++ drop n l ≡ l
      split zero l = refl
      split (suc n) [] = refl
      split (suc n) (y ∷ l) = ap (λ m. y ∷ m) (split n l)
