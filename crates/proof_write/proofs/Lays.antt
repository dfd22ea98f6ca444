-- Bytes laid one behind the other. Assumes nothing.
use Rattle.std.proofs.Common.{◌≡◌, ℕ, ◌+◌, ◌^◌, ◌<◌, ◌≤◌, ltb, List, [], ◌++◌, length, drop, Some, Ok, Err, Result, OnOk, sym, ap, ◌∙◌}
use Rattle.std.specs.Bool.{if◌then◌else◌}
use Rattle.std.specs.Result.{is_ok}
use Rattle.std.proofs.lemmas.List.{append_assoc, append-nil, drop_all}
use Rattle.std.proofs.lemmas.Bool.{cond-true, and_from, lt-ltb}
use Rattle.proof_write.specs.Bundle.{total, directory_end, directory_bytes, directory_of}

-- F says what entries are written as: the end of a loop
module _ {X : Type 0} (F : List X → List ℕ) (xs : List X) (whole : List ℕ) where
  pub laid_all : (i : ℕ) (out : List ℕ) → length xs ≤ i → F [] ≡ [] → out ++ F (drop i xs) ≡ whole → out ≡ whole
  laid_all i out h none s =
      sym (append-nil out) ∙ ap (λ bs. out ++ bs) (sym none) ∙ ap (λ ys. out ++ F ys) (sym (drop_all i xs h)) ∙ s

pub laid_two : (out mid next u v x y : List ℕ) → mid ≡ out ++ u → next ≡ mid ++ v → u ≡ x → v ≡ y → next ≡ out ++ (x ++ y)
laid_two out mid next u v x y p q e f = let s = append_assoc out x y in cc

-- what a call wrote, if it did
pub if_written : {T E : Type 0} (r : Result T E) (next all none : List ℕ) → next ≡ (if is_ok r then all else none) → OnOk r (next ≡ all)
if_written (Ok x) next all none h = h
if_written (Err e) next all none h = tt

module _ (ns : List ℕ) where
  pub directory_is : length ns < 2 ^ 16 → directory_end (length ns) + total ns < 2 ^ 32 → Some (directory_bytes ns) ≡ directory_of ns
  directory_is h k =
      sym
      (cond-true _ _ _ (and_from (ltb (length ns) (2 ^ 16)) (ltb (directory_end (length ns) + total ns) (2 ^ 32)) (lt-ltb _ _ h) (lt-ltb _ _ k)))
