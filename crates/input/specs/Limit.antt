-- A whole input, up to a limit. Assumes nothing.
use Rattle.std.specs.Prelude.{ℕ, cond, List, length, Some, None, Option, nat_le}

-- the bytes, if there are no more than the limit
abbrev pub up_to_limit : ℕ → List ℕ → Option (List ℕ)
up_to_limit limit bs = cond (nat_le (length bs) limit) (Some bs) None
