-- Bytes in uppercase hexadecimal. Assumes nothing.
use Rattle.std.specs.Prelude.{ℕ, ◌+◌, ◌/◌, ◌%◌, cond, List, [], ◌∷◌, ◌++◌, nat_lt}

-- 0 to 9 are the codes from 48 on, and A to F those from 65 on
abbrev pub hex_digit : ℕ → ℕ
hex_digit n = cond (nat_lt n 10) (48 + n) (55 + n)

abbrev pub hex_pair : ℕ → List ℕ
hex_pair b = hex_digit (b / 16) ∷ hex_digit (b % 16) ∷ []

abbrev pub hex_of : List ℕ → List ℕ
hex_of [] = []
hex_of (b ∷ bs) = hex_pair b ++ hex_of bs

-- a line of digits for each of the records
abbrev pub hex_lines : List (List ℕ) → List ℕ
hex_lines [] = []
hex_lines (r ∷ rs) = (hex_of r ++ 10 ∷ []) ++ hex_lines rs
