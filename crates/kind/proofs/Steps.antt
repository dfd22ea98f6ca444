-- Steps that can be refused: what is known where they are, and where they are not. Assumes nothing.
use Rattle.std.proofs.Common.{◌≡◌, ℕ, Bool, true, false, List, [], ◌∷◌, ◌++◌, Ok, Err, Result, refl, ap, ◌∙◌, arith}
use Rattle.kind.specs.Faults.{and_then, first_of, unless, wrapped}

pub stopped : {T U F : Type 0} (r : Result T F) (f : T → Result U F) (e : F) → r ≡ Err e → and_then r f ≡ Err e
stopped r f e h = ap (λ x. and_then x f) h

pub went : {T U F : Type 0} (r : Result T F) (f : T → Result U F) (x : T) (t : Result U F) → r ≡ Ok x → f x ≡ t → and_then r f ≡ t
went r f x t h e = ap (λ y. and_then y f) h ∙ e

-- the refusals of two lists, one after the other
pub first_append : {F : Type 0} (xs ys : List (Result Unit F)) → first_of (xs ++ ys) ≡ and_then (first_of xs) (λ _. first_of ys)
first_append [] ys = refl
first_append (Ok x ∷ xs) ys = first_append xs ys
first_append (Err e ∷ xs) ys = refl

-- two steps went well
pub both_went : {T U F : Type 0} (r : Result T F) (f : T → Result U F) (u : U) → and_then r f ≡ Ok u → (x : T) × (r ≡ Ok x) × (f x ≡ Ok u)
both_went (Ok x) f u e = (x, refl, e)
both_went (Err g) f u e = absurd (let z : ◌≡◌ {A = ℕ} 0 1 = cc in omega arith)

-- a test that was no refusal passed
pub held : {F : Type 0} (b : Bool) (fault : F) (x : Unit) → unless b fault ≡ Ok x → b ≡ true
held true fault x e = refl
held false fault x e = cc

-- what was wrapped went well
pub unwrapped : {T E F : Type 0} (up : E → ℕ → F) (r : Result T E) (place : ℕ) (x : T) → wrapped up r place ≡ Ok x → r ≡ Ok x
unwrapped up (Ok y) place x e = cc
unwrapped up (Err y) place x e = cc

-- a step that only passes a value on, where it went well
pub passed_on : {T F : Type 0} (r : Result Unit F) (n k : T) → and_then r (λ _. Ok n) ≡ Ok k → (r ≡ Ok tt) × (and_then r (λ _. Ok n) ≡ Ok n) × (k ≡ n)
passed_on (Ok x) n k e = (refl, refl, cc)
passed_on (Err f) n k e = (cc, cc, cc)

-- no test of a row refuses
pub data AllPass {F : Type 0} : List (Result Unit F) → Type 0 where
  none : AllPass []
  more : {r : Result Unit F} {rs : List (Result Unit F)} {x : Unit} → r ≡ Ok x → AllPass rs → AllPass (r ∷ rs)

pub all_pass : {F : Type 0} {rs : List (Result Unit F)} → AllPass rs → first_of rs ≡ Ok tt
all_pass none = refl
all_pass (more {rs} h rest) = ap (λ t. and_then t (λ _. first_of rs)) h ∙ all_pass rest
