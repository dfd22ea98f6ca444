-- What a checking method answers, and what it leaves. Assumes nothing.
use Rattle.std.specs.Prelude.{ℕ, ◌*◌, ◌%◌, ◌^◌, Bool, ◌&&◌, ◌||◌, List, [], ◌∷◌, ◌++◌, map, length, drop, replicate, Ok, Err, Result, ◌==◌, nat_le, nat_lt}
use Rattle.protocol.specs.Group.{power}
use Rattle.protocol.specs.Halving.{last_g, last_h}
use Rattle.kind.specs.Faults.{and_then, first_of, unless, wrapped}
use Rattle.kind.specs.Kinds.{Meaning, elements}
use Rattle.kind.specs.Products.{entries_refusal}
use Rattle.kind.specs.declared.pair.Pair.{Pair}
use Rattle.method.specs.declared.fault.MethodFault.{MethodFault}
use Rattle.method.specs.declared.fault.MethodFault.TheVariants.{Size, Length, Room, NotAScalar, Kind}

-- 1, 2, 4 and so on to 256
abbrev pub is_size : ℕ → Bool
is_size n = n == 1 || (n == 2 || (n == 4 || (n == 8 || (n == 16 || (n == 32 || (n == 64 || (n == 128 || n == 256)))))))

-- 5: a list of n entries has no such length
abbrev pub size_refusal : ℕ → Result Unit MethodFault
size_refusal n = unless (is_size n) (Size n)

-- 6: a list of m entries has not n
abbrev pub length_refusal : ℕ → ℕ → Result Unit MethodFault
length_refusal n m = unless (m == n) (Length m)

-- 8: a work list of m entries has not room for n
abbrev pub room_refusal : ℕ → ℕ → Result Unit MethodFault
room_refusal n m = unless (nat_le n m) (Room m)

-- 5, 6 and 8 of lists of g and h entries, to be n long, and of work lists of we elements and wn numbers
abbrev pub length_refusals : ℕ → ℕ → ℕ → ℕ → ℕ → List (Result Unit MethodFault)
length_refusals n g h we wn =
    size_refusal g ∷ size_refusal h ∷ length_refusal n g ∷ length_refusal n h ∷ room_refusal n we ∷ room_refusal n wn ∷ []

-- a work list after an answer: its first n entries are x, the rest is as it was; after a refusal all is
abbrev pub cleared : {T F A : Type 0} → Result T F → ℕ → A → List A → List A
cleared (Ok b) n x xs = replicate n x ++ drop n xs
cleared (Err e) n x xs = xs

module _ {M E : Type 0} (s : Meaning M E) where
  -- 12 of a scalar handed in alone
  abbrev pub scalar_refusal : ℕ → Result Unit MethodFault
  scalar_refusal a = unless (nat_lt a s.order) (NotAScalar 0)

  -- 11 of the lists and 12 of the last pair
  abbrev pub content_refusals : List E → List E → ℕ → ℕ → List (Result Unit MethodFault)
  content_refusals gs hs a b =
      wrapped Kind (entries_refusal s gs) 0 ∷ wrapped Kind (entries_refusal s hs) 0 ∷ scalar_refusal a ∷ scalar_refusal b ∷ []

  -- the first refusal of a method for k = length cs rounds
  abbrev pub method_refused : List ℕ → List E → List E → ℕ → ℕ → ℕ → ℕ → Result Unit MethodFault
  method_refused cs gs hs a b we wn =
      first_of (length_refusals (2 ^ length cs) (length gs) (length hs) we wn ++ content_refusals gs hs a b)

  -- the table's entries modulo the order
  abbrev pub reduced : List ℕ → List ℕ
  reduced cs = map (λ c. c % s.order) cs

  -- both equations of length 1, at the elements x and y
  abbrev pub passes : Pair M → M → M → M → ℕ → ℕ → Bool
  passes z k x y a b =
      s.same (power s.group x a) z.a
      && s.same (s.group.join (power s.group y b) (power s.group k (a * b))) z.b

  -- the published verdict: both equations, for G and H folded by the challenges
  abbrev pub verdict_of : List ℕ → Pair M → List E → List E → M → ℕ → ℕ → Bool
  verdict_of cs z gs hs k a b =
      passes z k (last_g s.order s.group (reduced cs) (elements s gs)) (last_h s.order s.group (reduced cs) (elements s hs)) a b

  -- the first refusal, else the verdict; we and wn are the work lists' lengths
  abbrev pub method_answer : List ℕ → Pair M → List E → List E → M → ℕ → ℕ → ℕ → ℕ → Result Bool MethodFault
  method_answer cs z gs hs k a b we wn =
      and_then (method_refused cs gs hs a b we wn) (λ _. Ok (verdict_of cs z gs hs k a b))
