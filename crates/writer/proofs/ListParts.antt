-- Parts of lists of entries, and lists whose last half is cleared. Assumes nothing.
use Rattle.std.proofs.Common.{◌≡◌, ℕ, ◌+◌, ◌-◌, ◌/◌, List, ◌++◌, length, take, drop, replicate, sym, ap, ◌∙◌, ap₂, append-nil, arith, length-drop}
use borrow.Rule.Slice.PartMut.{put_mid}
use Rattle.std.proofs.lemmas.List.{drop_all, length-take-le}
use Rattle.protocol.specs.Halving.{first_half, last_half}
use Rattle.kind.specs.Kinds.{Meaning, elements}
use Rattle.kind.proofs.Listed.{length-elements, elements-take, elements-drop}

-- the last m of ws were lent, and are x now
pub cleared_half : {A : Type 0} (n m : ℕ) (ws fs ys : List A) (x : A) → length ws ≡ n → m + m ≡ n → take m ws ≡ fs
    → ys ≡ replicate (length (take (n - m) (drop m ws))) x → put_mid m (n - m) ws ys ≡ fs ++ replicate m x
cleared_half n m ws fs ys x long even front is =
    let left : length (drop m ws) ≡ m = length-drop m ws ∙ omega arith in
    let count : length (take (n - m) (drop m ws)) ≡ m = length-take-le (n - m) (drop m ws) (omega arith) ∙ omega arith in
    ap₂ (λ a b. a ++ (ys ++ b)) front (drop_all (n - m) (drop m ws) (omega arith))
    ∙ ap (λ l. fs ++ l) (append-nil ys ∙ is ∙ ap (λ k. replicate k x) count)

-- the first m of a list that was cut, and the rest, where m is half of its length
module _ {A : Type 0} (m : ℕ) (xs ys : List A) where
  pub half_first : ys ≡ take m xs → length xs / 2 ≡ m → ys ≡ first_half xs
  half_first is e = is ∙ ap (λ n. take n xs) (sym e)

  pub half_last : ys ≡ drop m xs → length xs / 2 ≡ m → ys ≡ last_half xs
  half_last is e = is ∙ ap (λ n. drop n xs) (sym e)

  pub long_first : ys ≡ take m xs → m + m ≡ length xs → length ys ≡ m
  long_first is e = ap length is ∙ length-take-le m xs (omega arith)

  pub long_last : ys ≡ drop m xs → m + m ≡ length xs → length ys ≡ m
  long_last is e = ap length is ∙ length-drop m xs ∙ omega arith

module _ {M E : Type 0} (s : Meaning M E) (m : ℕ) (es part : List E) where
  pub entries_first : part ≡ take m es → length es / 2 ≡ m → elements s part ≡ first_half (elements s es)
  entries_first is e =
      ap (elements s) is ∙ elements-take s m es ∙ ap (λ n. take n (elements s es)) (sym e ∙ ap (λ (n : ℕ). n / 2) (sym (length-elements s es)))

  pub entries_last : part ≡ drop m es → length es / 2 ≡ m → elements s part ≡ last_half (elements s es)
  entries_last is e =
      ap (elements s) is ∙ elements-drop s m es ∙ ap (λ n. drop n (elements s es)) (sym e ∙ ap (λ (n : ℕ). n / 2) (sym (length-elements s es)))
