-- The directory of a bundle: a count, and as many pairs of offset and length, all written highest byte first. Assumes nothing.
use Rattle.std.specs.Prelude.{◌≡◌, ℕ, zero, suc, ◌+◌, ◌-◌, ◌*◌, cond, ◌&&◌, List, [], ◌∷◌, length, drop, Ok, Err, Result, Option, MatchOption, nat_le, slice_index}
use Rattle.std.specs.Iterator.{Count, at_most}
use Rattle.kind.specs.Bytes.{number_in}
use Rattle.kind.specs.Faults.{first_of, unless}
use Rattle.bundle.specs.declared.fault.BundleFault.{BundleFault}
use Rattle.bundle.specs.declared.fault.BundleFault.TheVariants.{Directory}
use Rattle.bundle.specs.declared.pairs.Extent.{Extent}
use Rattle.bundle.specs.declared.pairs.Pairs.{Pairs}

-- how many pairs the directory has: its first two bytes; a byte that is not there counts as 0
abbrev pub count_in : List ℕ → ℕ
count_in file = slice_index file 0 * 256 + slice_index file 1

-- the pair that the first eight bytes write
abbrev pub pair_in : List ℕ → Extent
pair_in bytes = record { offset = number_in bytes; size = number_in (drop 4 bytes) }

-- n pairs, one behind the other
abbrev pub pairs_in : ℕ → List ℕ → List Extent
pairs_in zero bytes = []
pairs_in (suc n) bytes = pair_in bytes ∷ pairs_in n (drop 8 bytes)

-- all pairs of a bundle
abbrev pub all_pairs : List ℕ → List Extent
all_pairs file = pairs_in (count_in file) (drop 2 file)

-- where a directory of n pairs ends
abbrev pub directory_end : ℕ → ℕ
directory_end n = 2 + 8 * n

-- where the record of a pair ends
abbrev pub end : Extent → ℕ
end p = p.offset + p.size

-- 9 where the file ends before the directory does, as a file of fewer than two bytes does at any count
abbrev pub whole_refusal : List ℕ → Result Unit BundleFault
whole_refusal file = unless (nat_le (directory_end (count_in file)) (length file)) (Directory 0)

-- 9 at the first pair that begins before `from`, the end of what stands before it, or ends behind the file; the first has the index i
abbrev pub pairs_refusal : ℕ → ℕ → ℕ → List Extent → Result Unit BundleFault
pairs_refusal i from total [] = Ok tt
pairs_refusal i from total (p ∷ ps) = cond (nat_le from p.offset && nat_le (end p) total) (pairs_refusal (i + 1) (end p) total ps) (Err (Directory i))

abbrev pub all_pairs_refusal : List ℕ → Result Unit BundleFault
all_pairs_refusal file = pairs_refusal 0 (directory_end (count_in file)) (length file) (all_pairs file)

-- the whole directory is there, and each of its pairs keeps its rule
abbrev pub directory_refusal : List ℕ → Result Unit BundleFault
directory_refusal file = first_of (whole_refusal file ∷ all_pairs_refusal file ∷ [])

-- the pairs that are still to come
abbrev pub to_come : Pairs → List Extent
to_come ps = pairs_in (ps.count - ps.index) ps.rest.now

-- a call gave the next pair, and counted it, or there was none and there is none
abbrev pub GivesPair : Pairs → Option Extent → Pairs → Type 0
GivesPair before pair after =
    MatchOption pair ((to_come before ≡ []) × (to_come after ≡ [])) (λ p. to_come before ≡ p ∷ to_come after)
    × MatchOption pair (after.index ≡ before.index) (λ _. after.index ≡ before.index + 1)

-- there are at most so many pairs
abbrev pub pairs_most : Pairs → Count
pairs_most p = at_most (length (to_come p))
