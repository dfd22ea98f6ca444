-- Bytes looked over for the first mark. Assumes nothing.
use Rattle.std.proofs.Common.{◌≡◌, ℕ, suc, ◌+◌, ◌-◌, ◌≤◌, true, false, cond, ◌==◌, eqb, ltb, List, [], ◌∷◌, length, drop, Some, None, Option, unwrap_or, refl, sym, ap, ◌∙◌, arith}
use Rattle.std.proofs.lemmas.List.{take_all, length-drop, drop-drop}
use Rattle.std.proofs.lemmas.Bool.{cond_both, cond-true, cond-false, eq-eqb, ne_eqb, ltb-false}
use Rattle.std.proofs.lemmas.List.Recursion.{is_position_or_len}
use Rattle.std.specs.List.{position, position_or_len}
use Rattle.std.specs.Borrow.{Bor}
use Rattle.std.specs.Slice.{IsGetRangeResult}
use Rattle.text.specs.Words.{count_before, rest_of, pointed}

pub count_low : (mark : ℕ) (bs : List ℕ) → count_before mark bs ≤ length bs
count_low mark [] = omega arith
count_low mark (b ∷ bs) =
    let h = count_low mark bs in
    elim (eqb b mark) as (λ t. cond t 0 (suc (count_before mark bs)) ≤ suc (length bs)) [ true ↦ omega arith | false ↦ omega arith ]

one_more : (n : ℕ) → suc n ≡ 1 + n
one_more n = omega arith

-- the place of the first mark
pub position_is : (mark : ℕ) (bs : List ℕ) → unwrap_or (position (λ b. b == mark) bs) (length bs) ≡ count_before mark bs
position_is mark bs =
    let e : count_before mark bs ≡ position_or_len (λ b. eqb b mark) bs =
    is_position_or_len (count_before mark) (λ b. eqb b mark) refl (λ x xs. ap (cond (eqb x mark) 0) (one_more (count_before mark xs))) bs in
    let low = count_low mark bs in
    cond_both (ltb (position_or_len (λ b. eqb b mark) bs) (length bs)) (Some (position_or_len (λ b. eqb b mark) bs)) None
    (λ o. unwrap_or o (length bs) ≡ count_before mark bs) (λ t. sym e) (λ f. omega (arith, ltb-false _ _ f))

-- what stands behind the mark: all but the first byte of what is left, if there is one
pub behind_mark : (mark : ℕ) (bs left : List ℕ) (o : Option (Bor (List ℕ))) → left ≡ drop (count_before mark bs) bs
    → IsGetRangeResult left 1 (length left) o → pointed o ≡ rest_of mark bs
behind_mark mark bs left o e h = go o h
  where
    size : length left + count_before mark bs ≡ length bs
    size = let low = count_low mark bs in let s = length-drop (count_before mark bs) bs in let k = ap length e in omega arith

    go : (o : Option (Bor (List ℕ))) → IsGetRangeResult left 1 (length left) o → pointed o ≡ rest_of mark bs
    go None h =
        let all : count_before mark bs ≡ length bs = omega (arith, size, h.0) in
        sym (cond-true _ _ _ (eq-eqb _ _ all))
    go (Some b) h =
        let n = length-drop 1 left in
        let other : count_before mark bs ≡ length bs → ⊥ = λ all. omega (arith, size, h.0.0) in
        ap Some
        (
        h.0.2
        ∙ take_all (length left - 1) (drop 1 left) (omega arith)
        ∙ ap (drop 1) e
        ∙ drop-drop 1 (count_before mark bs) bs
        )
        ∙ sym (cond-false _ _ _ (ne_eqb _ _ other))
