-- Steps that can be refused, and what each of the kind's faults tells. Assumes nothing.
use Rattle.std.specs.Prelude.{ℕ, ◌+◌, Bool, cond, List, [], ◌∷◌, Ok, Err, Result, codes}
use Rattle.kind.specs.declared.fault.KindFault.{KindFault}
use Rattle.kind.specs.declared.fault.KindFault.TheVariants.{Length, NotAnElement, NotAScalar}
use Rattle.kind.specs.declared.fault.Layer.{Layer}
use Rattle.kind.specs.declared.fault.Layer.TheVariants as layer
use Rattle.kind.specs.declared.fault.Refusal.{Refusal}

-- one step after the other: the first fault ends it
abbrev pub and_then : {T U F : Type 0} → Result T F → (T → Result U F) → Result U F
and_then (Ok x) f = f x
and_then (Err e) f = Err e

-- the first refusal, in the order of the list
abbrev pub first_of : {F : Type 0} → List (Result Unit F) → Result Unit F
first_of [] = Ok tt
first_of (r ∷ rs) = and_then r (λ _. first_of rs)

-- the fault, unless the test passes
abbrev pub unless : {F : Type 0} → Bool → F → Result Unit F
unless ok fault = cond ok (Ok tt) (Err fault)

-- a lower layer's fault, kept whole, with the place that the layer above adds
abbrev pub wrapped : {T E F : Type 0} → (E → ℕ → F) → Result T E → ℕ → Result T F
wrapped up (Ok x) place = Ok x
wrapped up (Err e) place = Err (up e place)

-- the fault of the first bad entry of a list, with its place counted from i
abbrev pub first_bad : {X F : Type 0} → (X → Bool) → (ℕ → F) → ℕ → List X → Result Unit F
first_bad bad fault i [] = Ok tt
first_bad bad fault i (x ∷ xs) = cond (bad x) (Err (fault i)) (first_bad bad fault (i + 1) xs)

abbrev pub refusal_of : ℕ → Layer → ℕ → Refusal
refusal_of number layer place = record { number = number; layer = layer; place = place }

-- number, layer and place of each of the kind's faults
abbrev pub kind_refusal : KindFault → Refusal
kind_refusal (Length n) = refusal_of 6 layer.Kind n
kind_refusal (NotAnElement i) = refusal_of 11 layer.Kind i
kind_refusal (NotAScalar i) = refusal_of 12 layer.Kind i

-- a layer's name as it is printed
abbrev pub layer_text : Layer → List ℕ
layer_text layer.Kind = codes "kind"
layer_text layer.Method = codes "method"
layer_text layer.Writer = codes "writer"
layer_text layer.Station = codes "station"
layer_text layer.Record = codes "record"
layer_text layer.Bundle = codes "bundle"
