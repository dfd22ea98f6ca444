-- What a writer's call refuses. Assumes nothing.
use Rattle.std.specs.Prelude.{ℕ, Bool, ◌||◌, List, [], ◌∷◌, length, Result, ◌==◌, nat_le, nat_lt}
use Rattle.kind.specs.Faults.{first_of, unless, wrapped, first_bad}
use Rattle.kind.specs.Kinds.{Meaning}
use Rattle.kind.specs.Products.{entries_refusal}
use Rattle.method.specs.Meaning.{is_size}
use Rattle.writer.specs.declared.fault.WriterFault.{WriterFault}
use Rattle.writer.specs.declared.fault.WriterFault.TheVariants.{Size, Length, LengthOne, NotAScalar, NotAChallenge, Kind}

-- 5: a list of n entries is not 1, 2, 4 .. 256 long
abbrev pub size_refusal : ℕ → Result Unit WriterFault
size_refusal n = unless (is_size n) (Size n)

-- 6: a list of m entries has not n
abbrev pub length_refusal : ℕ → ℕ → Result Unit WriterFault
length_refusal n m = unless (m == n) (Length m)

-- 5 of G, H, l and r, by their lengths
abbrev pub sizes_refused : ℕ → ℕ → ℕ → ℕ → Result Unit WriterFault
sizes_refused g h l r = first_of (size_refusal g ∷ size_refusal h ∷ size_refusal l ∷ size_refusal r ∷ [])

-- 6 of H, l and r, which are to be as long as G
abbrev pub lengths_refused : ℕ → ℕ → ℕ → ℕ → Result Unit WriterFault
lengths_refused g h l r = first_of (length_refusal g h ∷ length_refusal g l ∷ length_refusal g r ∷ [])

-- 7: lists of one entry
abbrev pub length_one_refused : ℕ → Result Unit WriterFault
length_one_refused n = unless (nat_lt 1 n) LengthOne

module _ {M E : Type 0} (s : Meaning M E) where
  -- 12 at the first scalar that is not below the order
  abbrev pub scalars_refusal : List ℕ → Result Unit WriterFault
  scalars_refusal xs = first_bad (nat_le s.order) NotAScalar 0 xs

  -- a challenge that is 0 or not below the order
  abbrev pub no_challenge : ℕ → Bool
  no_challenge c = c == 0 || nat_le s.order c

  -- 13 at the first that is no challenge
  abbrev pub challenges_refusal : List ℕ → Result Unit WriterFault
  challenges_refusal cs = first_bad no_challenge NotAChallenge 0 cs

  -- 11 of G and H, 12 of l and r
  abbrev pub content_refused : List E → List E → List ℕ → List ℕ → Result Unit WriterFault
  content_refused gs hs l r =
      first_of (wrapped Kind (entries_refusal s gs) 0 ∷ wrapped Kind (entries_refusal s hs) 0 ∷ scalars_refusal l ∷ scalars_refusal r ∷ [])

  abbrev pub claim_refused : List E → List E → List ℕ → List ℕ → Result Unit WriterFault
  claim_refused gs hs l r =
      first_of (
      sizes_refused (length gs) (length hs) (length l) (length r)
      ∷ lengths_refused (length gs) (length hs) (length l) (length r)
      ∷ content_refused gs hs l r
      ∷ []
      )

  abbrev pub message_refused : List E → List E → List ℕ → List ℕ → Result Unit WriterFault
  message_refused gs hs l r =
      first_of (
      sizes_refused (length gs) (length hs) (length l) (length r)
      ∷ lengths_refused (length gs) (length hs) (length l) (length r)
      ∷ length_one_refused (length gs)
      ∷ content_refused gs hs l r
      ∷ []
      )

  -- as the message call, and then 13 for the challenge
  abbrev pub fold_refused : List E → List E → List ℕ → List ℕ → ℕ → Result Unit WriterFault
  fold_refused gs hs l r c = first_of (message_refused gs hs l r ∷ challenges_refusal (c ∷ []) ∷ [])
