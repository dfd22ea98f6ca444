-- Checking the records of a bundle one after the other. Assumes nothing.
use Rattle.std.specs.Prelude.{ℕ, ◌^◌, Bool, List, [], ◌∷◌, Some, None, Option, Result}
use Rattle.kind.specs.Bytes.{Writing}
use Rattle.kind.specs.Faults.{wrapped}
use Rattle.kind.specs.Kinds.{Meaning}
use Rattle.method.specs.Meaning.{cleared}
use Rattle.record.specs.Answers.{front_answer}
use Rattle.record.specs.Parts.{rounds_in}
use Rattle.bundle.specs.declared.fault.BundleFault.{BundleFault}
use Rattle.bundle.specs.declared.fault.BundleFault.TheVariants.{Record}

-- the record call on the next record, the one of the index i, over the first 2 ^ k entries of the lists; None when none is left
abbrev pub next_answer : {M E : Type 0} → Meaning M E → Writing M → ℕ → List (List ℕ) → List E → List E → M → ℕ → ℕ → Option (Result Bool BundleFault)
next_answer s w i [] gs hs k we wn = None
next_answer s w i (body ∷ bodies) gs hs k we wn = Some (wrapped Record (front_answer s w body gs hs k we wn) i)

-- the records behind the next
abbrev pub behind : List (List ℕ) → List (List ℕ)
behind [] = []
behind (body ∷ bodies) = bodies

-- how many records the next is: 1, or 0 when none is left
abbrev pub one_more : List (List ℕ) → ℕ
one_more [] = 0
one_more (body ∷ bodies) = 1

-- a work list after the next record: cleared as by the record call on it
abbrev pub cleared_next : {A : Type 0} → List (List ℕ) → Option (Result Bool BundleFault) → A → List A → List A
cleared_next bodies None x xs = xs
cleared_next [] (Some answer) x xs = xs
cleared_next (body ∷ bodies) (Some answer) x xs = cleared answer (2 ^ rounds_in body) x xs
