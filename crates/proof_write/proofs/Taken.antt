-- Words and lines taken one by one. Assumes nothing.
use Rattle.std.proofs.Common.{◌≡◌, ℕ, suc, ◌+◌, Bool, true, false, cond, eqb, List, [], ◌∷◌, ◌++◌, length, take, drop, Some, None, Option, sym, refl, ap, ◌∙◌, arith}
use Rattle.std.proofs.lemmas.List.{append_assoc}
use Rattle.std.proofs.lemmas.Bool.{cond-true, cond-false, eqb-true, eqb-false, eq-eqb, ne_eqb}
use Rattle.std.specs.Str.{bytes_eq}
use Rattle.text.specs.Words.{count_before, front_of, rest_of, number_of, next_word, behind_word}
use Rattle.proof_write.specs.Groups.{begun, words_of, words_left, in_front, numbers_of, behind_name, numbers_in}

eqb_suc : (m n : ℕ) → eqb (suc m) (suc n) ≡ eqb m n
eqb_suc m n = go (eqb m n) refl
  where
    go : (t : Bool) → eqb m n ≡ t → eqb (suc m) (suc n) ≡ eqb m n
    go true e = eq-eqb (suc m) (suc n) (omega (arith, eqb-true m n e)) ∙ sym e
    go false e = ne_eqb (suc m) (suc n) (λ h. eqb-false m n e (omega arith)) ∙ sym e

abbrev Stepped : List ℕ → Type 0
Stepped bs = words_of bs ≡ front_of 32 bs ∷ words_left (rest_of 32 bs)

-- one byte more in front, which is a space or not
step_by : (b : ℕ) (bs : List ℕ) → Stepped bs → (t : Bool)
    → cond t ([] ∷ words_of bs) (begun b (words_of bs))
    ≡ take (cond t 0 (suc (count_before 32 bs))) (b ∷ bs)
    ∷ words_left (cond (eqb (cond t 0 (suc (count_before 32 bs))) (suc (length bs))) None (Some (drop (cond t 0 (suc (count_before 32 bs)) + 1) (b ∷ bs))))
step_by b bs ih true = ap (λ t. [] ∷ words_left (cond t None (Some bs))) (sym (ne_eqb 0 (suc (length bs)) (λ e. omega arith)))
step_by b bs ih false =
    let n = count_before 32 bs in
    let one : suc (n + 1) ≡ suc n + 1 = omega arith in
    ap (begun b) ih
    ∙ ap (λ t. (b ∷ take n bs) ∷ words_left (cond t None (Some (drop (n + 1) bs)))) (sym (eqb_suc n (length bs)))
    ∙ ap (λ k. (b ∷ take n bs) ∷ words_left (cond (eqb (suc n) (suc (length bs))) None (Some (drop k (b ∷ bs))))) one

-- the first word, and the words behind it
pub words_step : (bs : List ℕ) → words_of bs ≡ front_of 32 bs ∷ words_left (rest_of 32 bs)
words_step [] = refl
words_step (b ∷ bs) = step_by b bs (words_step bs) (eqb b 32)

pub word_more : (o left : Option (List ℕ)) (w : List ℕ) → Some w ≡ next_word o → left ≡ behind_word o → words_left o ≡ w ∷ words_left left
word_more None left w p q = cc
word_more (Some line) left w p q = let s = words_step line in let e : w ≡ front_of 32 line = cc in cc

-- numbers read so far, with those yet to come
abbrev pub behind_read : List ℕ → Option (List ℕ) → Option (List ℕ)
behind_read ns None = None
behind_read ns (Some ms) = Some (ns ++ ms)

one_more : (ns : List ℕ) (n : ℕ) (o : Option (List ℕ)) → behind_read (ns ++ n ∷ []) o ≡ behind_read ns (in_front (Some n) o)
one_more ns n None = refl
one_more ns n (Some ms) = ap Some (append_assoc ns (n ∷ []) ms)

module _ (t : Option (List ℕ)) where
  pub read_more : (o left : Option (List ℕ)) (w ns ms : List ℕ) (n : ℕ) → Some w ≡ next_word o → left ≡ behind_word o → Some n ≡ number_of w
      → ms ≡ ns ++ n ∷ [] → behind_read ns (numbers_of (words_left o)) ≡ t → behind_read ms (numbers_of (words_left left)) ≡ t
  read_more o left w ns ms n p q number e s =
      let step : numbers_of (words_left o) ≡ in_front (number_of w) (numbers_of (words_left left)) = ap numbers_of (word_more o left w p q) in
      ap (λ xs. behind_read xs (numbers_of (words_left left))) e
      ∙ one_more ns n (numbers_of (words_left left))
      ∙ ap (λ k. behind_read ns (in_front k (numbers_of (words_left left)))) number
      ∙ ap (behind_read ns) (sym step)
      ∙ s

  pub read_bad : (o left : Option (List ℕ)) (w ns : List ℕ) → Some w ≡ next_word o → left ≡ behind_word o → None ≡ number_of w
      → behind_read ns (numbers_of (words_left o)) ≡ t → None ≡ t
  read_bad o left w ns p q number s =
      let step : numbers_of (words_left o) ≡ in_front (number_of w) (numbers_of (words_left left)) = ap numbers_of (word_more o left w p q) in
      ap (λ k. behind_read ns (in_front k (numbers_of (words_left left)))) number ∙ ap (behind_read ns) (sym step) ∙ s

pub named : (line name w : List ℕ) (left : Option (List ℕ)) → Some w ≡ next_word (Some line) → left ≡ behind_word (Some line)
    → bytes_eq w name ≡ true → numbers_of (words_left left) ≡ numbers_in name line
named line name w left p q e =
    sym (ap (behind_name name) (word_more (Some line) left w p q) ∙ cond-true (bytes_eq w name) (numbers_of (words_left left)) None e)

pub unnamed : (line name w : List ℕ) (left : Option (List ℕ)) → Some w ≡ next_word (Some line) → left ≡ behind_word (Some line)
    → bytes_eq w name ≡ false → None ≡ numbers_in name line
unnamed line name w left p q e =
    sym (ap (behind_name name) (word_more (Some line) left w p q) ∙ cond-false (bytes_eq w name) (numbers_of (words_left left)) None e)
