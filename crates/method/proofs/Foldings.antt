-- One round of folding after the other. Assumes nothing.
use Rattle.std.proofs.Common.{◌≡◌, ℕ, suc, ◌+◌, ◌-◌, ◌%◌, ◌^◌, ◌<◌, List, length, get_or, drop, sym, ap, ◌∙◌, arith}
use native.Mathlib.Nat.{two-pow-succ}
use Rattle.std.proofs.lemmas.List.{drop_more, get_or-map, length-map}
use Rattle.kind.specs.Kinds.{Meaning}
use Rattle.kind.specs.Sides.{fold_of}
use Rattle.kind.specs.declared.side.Side.{Side}
use Rattle.method.specs.Meaning.{reduced}
use Rattle.method.specs.Sides.{folds_of}

pub twice : (n : ℕ) → 0 < n → 2 ^ n ≡ 2 ^ (n - 1) + 2 ^ (n - 1)
twice n h =
    let e : n ≡ suc (n - 1) = omega arith in
    let d = two-pow-succ (n - 1) in
    ap (λ (k : ℕ). 2 ^ k) e ∙ omega arith

module _ {M E : Type 0} (s : Meaning M E) where
  -- one round more is done
  pub folds_more : (side : Side) (cs : List ℕ) (i : ℕ) (xs ys : List M) → i < length cs
      → ys ≡ fold_of s side (get_or cs i 0 % s.order) xs
      → folds_of s side (drop (i + 1) (reduced s cs)) ys ≡ folds_of s side (drop i (reduced s cs)) xs
  folds_more side cs i xs ys h e =
      let rs = reduced s cs in
      let n : length rs ≡ length cs = length-map cs (λ c. c % s.order) in
      ap (folds_of s side (drop (i + 1) rs)) (e ∙ ap (λ c. fold_of s side c xs) (sym (get_or-map (λ c. c % s.order) cs i 0 0 h)))
      ∙ sym (ap (λ l. folds_of s side l xs) (drop_more rs i 0 (omega arith)))
