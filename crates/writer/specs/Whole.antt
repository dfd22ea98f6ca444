-- What the whole-proof call answers, and what it leaves. Assumes nothing.
use Rattle.std.specs.Prelude.{ℕ, ◌+◌, ◌^◌, ◌&&◌, List, [], ◌∷◌, ◌++◌, length, drop, Ok, Err, Result, ◌==◌, nat_le}
use Rattle.kind.specs.Faults.{and_then, first_of, unless}
use Rattle.kind.specs.Kinds.{Meaning}
use Rattle.record.specs.Parts.{record_length}
use Rattle.writer.specs.Refusals.{sizes_refused, lengths_refused, content_refused, challenges_refusal}
use Rattle.writer.specs.declared.fault.WriterFault.{WriterFault}
use Rattle.writer.specs.declared.fault.WriterFault.TheVariants.{Length, Room}

-- 6: there are k challenges, and not one for each round of lists of n entries
abbrev pub count_refused : ℕ → ℕ → Result Unit WriterFault
count_refused n k = unless (nat_le k 8 && 2 ^ k == n) (Length k)

-- 5 of G, H, l and r; 6 of H, l, r and of the k challenges
abbrev pub shape_refused : ℕ → ℕ → ℕ → ℕ → ℕ → Result Unit WriterFault
shape_refused g h l r k = first_of (sizes_refused g h l r ∷ lengths_refused g h l r ∷ count_refused g k ∷ [])

-- 8: a list of m entries has not room for n
abbrev pub room_refusal : ℕ → ℕ → Result Unit WriterFault
room_refusal n m = unless (nat_le n m) (Room m)

-- 8 of the output, for a record of k rounds at elements of w bytes, and of the work lists, for lists of n entries
abbrev pub rooms_refused : ℕ → ℕ → ℕ → ℕ → ℕ → ℕ → Result Unit WriterFault
rooms_refused w n k out we wn = first_of (room_refusal (record_length w k) out ∷ room_refusal (n + n) we ∷ room_refusal (n + n) wn ∷ [])

-- the output after an answer: bs at its start, the rest as it was; after a refusal all is
abbrev pub begun : {T F A : Type 0} → Result T F → List A → List A → List A
begun (Ok t) bs xs = bs ++ drop (length bs) xs
begun (Err e) bs xs = xs

module _ {M E : Type 0} (s : Meaning M E) where
  -- 5; 6 of the lists and of the challenges; 8; 11 and 12; 13. w is the width; out, we and wn are lengths
  abbrev pub whole_refused : ℕ → List E → List E → List ℕ → List ℕ → List ℕ → ℕ → ℕ → ℕ → Result Unit WriterFault
  whole_refused w gs hs l r cs out we wn =
      first_of (
      shape_refused (length gs) (length hs) (length l) (length r) (length cs)
      ∷ rooms_refused w (length gs) (length cs) out we wn
      ∷ content_refused s gs hs l r
      ∷ challenges_refusal s cs
      ∷ []
      )

  -- the first refusal, else the record's length
  abbrev pub whole_answer : ℕ → List E → List E → List ℕ → List ℕ → List ℕ → ℕ → ℕ → ℕ → Result ℕ WriterFault
  whole_answer w gs hs l r cs out we wn = and_then (whole_refused w gs hs l r cs out we wn) (λ _. Ok (record_length w (length cs)))
