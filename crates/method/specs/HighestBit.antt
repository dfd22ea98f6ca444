-- The highest one bit of an index, bits counted from 0. Assumes nothing.
use Rattle.std.specs.Prelude.{◌≡◌, ℕ, ◌+◌, ◌^◌, ◌<◌, ◌≤◌}

-- t is the highest one bit of i, and 0 where i is 0
pub record HighestBit (i t : ℕ) : Type 0 where
  pub none : i ≡ 0 → t ≡ 0
  pub low : 0 < i → 2 ^ t ≤ i
  pub high : 0 < i → i < 2 ^ t + 2 ^ t
