-- The directory of a bundle whose records stand without gaps. Assumes nothing.
use Rattle.std.specs.Prelude.{ℕ, ◌+◌, ◌*◌, ◌/◌, ◌%◌, ◌^◌, cond, ◌&&◌, List, [], ◌∷◌, ◌++◌, length, Some, None, Option, nat_lt}
use Rattle.kind.specs.Bytes.{bytes_of}

abbrev pub total : List ℕ → ℕ
total [] = 0
total (n ∷ ns) = n + total ns

-- offset and length of each record, the first record at this offset
abbrev pub pairs_from : ℕ → List ℕ → List ℕ
pairs_from offset [] = []
pairs_from offset (n ∷ ns) = (bytes_of offset ++ bytes_of n) ++ pairs_from (offset + n) ns

-- where the directory of so many records ends
abbrev pub directory_end : ℕ → ℕ
directory_end count = 2 + 8 * count

-- the count in two bytes, then offset and length of each record, the first at the directory's end
abbrev pub directory_bytes : List ℕ → List ℕ
directory_bytes ns = (length ns / 256) ∷ (length ns % 256) ∷ pairs_from (directory_end (length ns)) ns

-- the directory, if the count is below 2 ^ 16 and the bundle's length below 2 ^ 32
abbrev pub directory_of : List ℕ → Option (List ℕ)
directory_of ns =
    cond (nat_lt (length ns) (2 ^ 16) && nat_lt (directory_end (length ns) + total ns) (2 ^ 32)) (Some (directory_bytes ns)) None
