-- What the quick check answers. Assumes nothing.
use Rattle.std.specs.Prelude.{◌≡◌, ℕ, ◌*◌, ◌^◌, Bool, true, false, ◌&&◌, List, [], ◌∷◌, ◌++◌, length, Ok, Result, nat_lt}
use Rattle.protocol.specs.Group.{power, product}
use Rattle.protocol.specs.Quick.{quick_scalars}
use Rattle.protocol.specs.Weights.{HWeights}
use Rattle.kind.specs.Faults.{and_then, first_of, unless, wrapped}
use Rattle.kind.specs.Kinds.{Meaning, elements}
use Rattle.kind.specs.Products.{entries_refusal}
use Rattle.kind.specs.declared.pair.Pair.{Pair}
use Rattle.method.specs.Meaning.{size_refusal, length_refusal, room_refusal, scalar_refusal, reduced, method_answer, verdict_of}
use Rattle.method.specs.declared.fault.MethodFault.{MethodFault}
use Rattle.method.specs.declared.fault.MethodFault.TheVariants.{Kind, NotAChallenge}

-- 5, 6 and 8 of a list of g entries, to be n long, and of the work lists
abbrev pub quick_lengths : ℕ → ℕ → ℕ → ℕ → List (Result Unit MethodFault)
quick_lengths n g we wn = size_refusal g ∷ length_refusal n g ∷ room_refusal n we ∷ room_refusal n wn ∷ []

module _ {M E : Type 0} (s : Meaning M E) where
  -- 13 of a weight that is 0 or not below the order
  abbrev pub weight_refusal : ℕ → Result Unit MethodFault
  weight_refusal w = unless (nat_lt 0 w && nat_lt w s.order) (NotAChallenge 0)

  -- 11 of the list, 12 of the last pair, 13 of the weight
  abbrev pub quick_content : List E → ℕ → ℕ → ℕ → List (Result Unit MethodFault)
  quick_content gs a b w = wrapped Kind (entries_refusal s gs) 0 ∷ scalar_refusal s a ∷ scalar_refusal s b ∷ weight_refusal w ∷ []

  -- as a method refuses, with one list for G and H, and then 13 for the weight
  abbrev pub quick_refused : List ℕ → List E → ℕ → ℕ → ℕ → ℕ → ℕ → Result Unit MethodFault
  quick_refused cs gs a b w we wn = first_of (quick_lengths (2 ^ length cs) (length gs) we wn ++ quick_content gs a b w)

  -- the one equation; ws are the H weights of the challenges modulo the order
  abbrev pub quick_passes : List ℕ → Pair M → List E → M → ℕ → ℕ → ℕ → Bool
  quick_passes ws z gs k a b w =
      s.same
      (s.group.join (product s.group (elements s gs) (quick_scalars ws a b w)) (power s.group k (w * a * b)))
      (s.group.join z.a (power s.group z.b w))

  abbrev pub quick_answer : List ℕ → List ℕ → Pair M → List E → M → ℕ → ℕ → ℕ → ℕ → ℕ → Result Bool MethodFault
  quick_answer cs ws z gs k a b w we wn = and_then (quick_refused cs gs a b w we wn) (λ _. Ok (quick_passes ws z gs k a b w))

  -- What the quick check has to do with the methods, over one list for G and H, whatever it does not refuse.
  pub record QuickDecides (cs ws : List ℕ) (z : Pair M) (gs : List E) (k : M) (a b we wn : ℕ) : Type 0 where
    -- the methods do not refuse it either
    pub judged : (w : ℕ) → quick_refused cs gs a b w we wn ≡ Ok tt → method_answer s cs z gs gs k a b we wn ≡ Ok (verdict_of s cs z gs gs k a b)
    -- every weight passes what the methods pass
    pub passes : (w : ℕ) → quick_refused cs gs a b w we wn ≡ Ok tt → method_answer s cs z gs gs k a b we wn ≡ Ok true
        → quick_answer cs ws z gs k a b w we wn ≡ Ok true
    -- at most one weight passes what they fail
    pub one_at_most : method_answer s cs z gs gs k a b we wn ≡ Ok false
        → (v w : ℕ) → quick_answer cs ws z gs k a b v we wn ≡ Ok true → quick_answer cs ws z gs k a b w we wn ≡ Ok true → v ≡ w

-- for whatever table, folded pair, list, K and last pair
abbrev pub QuickCheck : {M E : Type 0} → Meaning M E → Type 0
QuickCheck {M} {E} s =
    (cs ws : List ℕ) → HWeights s.order (reduced s cs) ws
    → (z : Pair M) (gs : List E) (k : M) (a b we wn : ℕ) → QuickDecides s cs ws z gs k a b we wn
