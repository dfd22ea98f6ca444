-- Work lists that are cleared twice, and refusals that two calls share. Assumes nothing.
use Rattle.std.proofs.Common.{◌≡◌, ℕ, ◌+◌, List, ◌++◌, drop, replicate, Ok, Err, Result, sym, ap, ◌∙◌, append_assoc}
use lib.ListN.{length-replicate}
use Rattle.std.proofs.lemmas.List.{drop_at, replicate-append-replicate}
use Rattle.kind.specs.Faults.{and_then}

-- a refusal is one whatever would have come after
pub refused_alike : {T U F : Type 0} (r : Result Unit F) (t : T) (u : U) (e : F) → and_then r (λ _. Ok t) ≡ Err e → and_then r (λ _. Ok u) ≡ Err e
refused_alike (Ok x) t u e h = cc
refused_alike (Err f) t u e h = cc

-- the first n of a list whose first n + m are x, cleared again
pub cleared_again : {A : Type 0} (n m : ℕ) (x : A) (ys : List A) → replicate n x ++ drop n (replicate (n + m) x ++ ys) ≡ replicate (n + m) x ++ ys
cleared_again n m x ys =
    let twice = sym (replicate-append-replicate n m x) in
    ap (λ l. replicate n x ++ drop n (l ++ ys)) twice
    ∙ ap (λ l. replicate n x ++ drop n l) (append_assoc (replicate n x) (replicate m x) ys)
    ∙ ap (λ l. replicate n x ++ l) (drop_at (replicate n x) (replicate m x ++ ys) n (length-replicate n x))
    ∙ sym (append_assoc (replicate n x) (replicate m x) ys) ∙ ap (λ l. l ++ ys) (sym twice)
