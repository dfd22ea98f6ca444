-- Numbers and elements as bytes, the highest byte first. Assumes nothing.
use Rattle.std.specs.Prelude.{◌≡◌, ℕ, ◌+◌, ◌*◌, ◌/◌, ◌%◌, ◌<◌, ◌≤◌, cond, List, [], ◌∷◌, length, Some, None, Option, ◌==◌, slice_index}
use Rattle.kind.specs.Clears.{clear_of}
use Rattle.kind.specs.Residues.{residue_of}
use Rattle.kind.specs.declared.clear.Clear.{Clear}
use Rattle.kind.specs.declared.residue.Residue.{Residue}

-- the four bytes of a number
abbrev pub bytes_of : ℕ → List ℕ
bytes_of n = (n / 16777216 % 256) ∷ (n / 65536 % 256) ∷ (n / 256 % 256) ∷ (n % 256) ∷ []

-- the number of the first four bytes; a byte that is not there counts as 0
abbrev pub number_in : List ℕ → ℕ
number_in b = slice_index b 0 * 16777216 + slice_index b 1 * 65536 + slice_index b 2 * 256 + slice_index b 3

-- a list of n bytes
pub record Bytes (n : ℕ) (b : List ℕ) : Type 0 where
  pub long : length b ≡ n
  pub small : (i : ℕ) → slice_index b i < 256

-- how a kind's elements M are written
pub record Writing (M : Type 0) : Type 0 where
  pub width : ℕ
  pub bytes : M → List ℕ
  pub read : List ℕ → Option M

pub record WellWritten {M : Type 0} (w : Writing M) : Type 0 where
  pub some : 1 ≤ w.width
  pub few : w.width ≤ 64
  pub filled : (x : M) → length (w.bytes x) ≡ w.width
  -- an element written and read again is that element
  pub again : (x : M) → w.read (w.bytes x) ≡ Some x
  -- bytes that are read as an element are that element's writing
  pub only : (b : List ℕ) (x : M) → Bytes (length b) b → w.read b ≡ Some x → w.bytes x ≡ b

-- both number kinds write the number in four bytes
abbrev pub read_four : {M : Type 0} → (ℕ → Option M) → List ℕ → Option M
read_four of b = cond (length b == 4) (of (number_in b)) None

abbrev pub clear_writing : Writing Clear
clear_writing = record { width = 4; bytes = λ x. bytes_of x.v; read = read_four clear_of }

abbrev pub residue_writing : Writing Residue
residue_writing = record { width = 4; bytes = λ x. bytes_of x.v; read = read_four residue_of }
