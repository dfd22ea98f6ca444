-- The product call: when it is refused, and what it answers. Assumes nothing.
use Rattle.std.specs.Prelude.{ℕ, not, List, [], ◌∷◌, length, is_some, Ok, Result, ◌==◌, nat_le}
use Rattle.protocol.specs.Group.{product}
use Rattle.kind.specs.Faults.{and_then, first_of, unless, first_bad}
use Rattle.kind.specs.Kinds.{Meaning, elements}
use Rattle.kind.specs.declared.fault.KindFault.{KindFault}
use Rattle.kind.specs.declared.fault.KindFault.TheVariants.{Length, NotAnElement, NotAScalar}

module _ {M E : Type 0} (s : Meaning M E) where
  -- 11 at the first entry that is no element's
  abbrev pub entries_refusal : List E → Result Unit KindFault
  entries_refusal es = first_bad (λ e. not (is_some (s.element e))) NotAnElement 0 es

  -- 12 at the first scalar that is not below the order
  abbrev pub scalars_refusal : List ℕ → Result Unit KindFault
  scalars_refusal ss = first_bad (nat_le s.order) NotAScalar 0 ss

  -- 6, 11, 12 in that order, else the joined powers
  abbrev pub product_answer : List E → List ℕ → Result M KindFault
  product_answer es ss =
      and_then (first_of (unless (length ss == length es) (Length (length ss)) ∷ entries_refusal es ∷ scalars_refusal ss ∷ []))
      (λ _. Ok (product s.group (elements s es) ss))
