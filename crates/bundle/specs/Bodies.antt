-- The records of a bundle, as bytes. Assumes nothing.
use Rattle.std.specs.Prelude.{◌≡◌, ℕ, ◌+◌, List, [], ◌∷◌, map, length, take, drop, Ok, Err, Result, Option, MatchOption}
use Rattle.std.specs.Borrow.{Bor}
use Rattle.std.specs.Iterator.{Count, at_most}
use Rattle.kind.specs.Faults.{and_then}
use Rattle.bundle.specs.declared.fault.BundleFault.{BundleFault}
use Rattle.bundle.specs.declared.pairs.Extent.{Extent}
use Rattle.bundle.specs.declared.records.Records.{Records}
use Rattle.bundle.specs.Layout.{all_pairs, to_come, directory_refusal}

-- the record that a pair tells of
abbrev pub body_at : List ℕ → Extent → List ℕ
body_at file p = take p.size (drop p.offset file)

-- all records of a bundle, in order
abbrev pub bodies_in : List ℕ → List (List ℕ)
bodies_in file = map (body_at file) (all_pairs file)

-- what a reader has yet to hand out
abbrev pub left : Records → List (List ℕ)
left r = map (body_at r.file.now) (to_come r.pairs)

-- how many records a reader has handed out
abbrev pub handed_out : Records → ℕ
handed_out r = r.pairs.index

-- a call handed out the next record, and counted it, or there was none and there is none
abbrev pub HandsOut : Records → Option (Bor (List ℕ)) → Records → Type 0
HandsOut before body after =
    MatchOption body ((left before ≡ []) × (left after ≡ [])) (λ b. left before ≡ b.now ∷ left after)
    × MatchOption body (handed_out after ≡ handed_out before) (λ _. handed_out after ≡ handed_out before + 1)

-- there are at most so many records
abbrev pub records_most : Records → Count
records_most r = at_most (length (left r))

-- what opening comes to: what the reader has yet to hand out and has handed out, or the fault
abbrev pub opened : Result Records BundleFault → Result (List (List ℕ) × ℕ) BundleFault
opened (Ok r) = Ok (left r, handed_out r)
opened (Err f) = Err f

-- a bundle opens at its first record, unless its directory is refused
abbrev pub opened_of : List ℕ → Result (List (List ℕ) × ℕ) BundleFault
opened_of file = and_then (directory_refusal file) (λ _. Ok (bodies_in file, 0))
