-- What the check of a directory comes to, in words. Assumes nothing.
use Rattle.std.specs.Prelude.{◌≡◌, ℕ, ◌+◌, ◌*◌, ◌<◌, ◌≤◌, ◌⊎◌, List, [], length, drop, Ok, MatchResult, slice_index_or}
use Rattle.bundle.specs.declared.fault.BundleFault.TheVariants.{Directory}
use Rattle.bundle.specs.declared.pairs.Extent.{Extent}
use Rattle.bundle.specs.Layout.{count_in, pair_in, directory_end, end, directory_refusal}
use Rattle.bundle.specs.Bodies.{body_at, bodies_in}

-- the pair of the index i: it stands behind the count and i pairs of eight bytes
abbrev pub pair_at : List ℕ → ℕ → Extent
pair_at file i = pair_in (drop (8 * i) (drop 2 file))

-- the rule of a pair: its record begins at or after the end of the directory and of the record before it, and ends inside the file
pub record KeepsRule (file : List ℕ) (i : ℕ) : Type 0 where
  pub after_directory : directory_end (count_in file) ≤ (pair_at file i).offset
  pub after_last : (j : ℕ) → j + 1 ≡ i → end (pair_at file j) ≤ (pair_at file i).offset
  pub inside : end (pair_at file i) ≤ length file

-- the directory is there whole, and each pair keeps its rule
pub record Sound (file : List ℕ) : Type 0 where
  pub whole : directory_end (count_in file) ≤ length file
  pub kept : (i : ℕ) → i < count_in file → KeepsRule file i

-- the directory is cut short, which has the place 0
pub record CutShort (file : List ℕ) (i : ℕ) : Type 0 where
  pub short : length file < directory_end (count_in file)
  pub place : i ≡ 0

-- the directory is there whole, and i is the index of the first pair that breaks its rule
pub record FirstBroken (file : List ℕ) (i : ℕ) : Type 0 where
  pub whole : directory_end (count_in file) ≤ length file
  pub within : i < count_in file
  pub before : (j : ℕ) → j < i → KeepsRule file j
  pub broken : KeepsRule file i → ⊥

-- a directory is refused at the first pair that breaks its rule, or where it is cut short, and only then
abbrev pub FaultIsFirst : Type 0
FaultIsFirst =
    (file : List ℕ) →
    MatchResult (directory_refusal file) (λ _. Sound file) (λ f. (i : ℕ) × (f ≡ Directory i) × (CutShort file i ⊎ FirstBroken file i))

-- there are as many records as pairs, and the record of each index has its pair's bytes, all of them
pub record WholeBodies (file : List ℕ) : Type 0 where
  pub many : length (bodies_in file) ≡ count_in file
  pub bytes : (i : ℕ) → i < count_in file → slice_index_or (bodies_in file) i [] ≡ body_at file (pair_at file i)
  pub long : (i : ℕ) → i < count_in file → length (slice_index_or (bodies_in file) i []) ≡ (pair_at file i).size

abbrev pub BodiesAreWhole : Type 0
BodiesAreWhole = (file : List ℕ) → directory_refusal file ≡ Ok tt → WholeBodies file
