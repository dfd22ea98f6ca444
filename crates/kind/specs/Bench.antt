-- The bench lists. Assumes nothing.
use Rattle.std.specs.Prelude.{ℕ, ◌+◌, ◌%◌, List, map}
use Rattle.std.specs.List.{range_with_len}
use Rattle.protocol.specs.Group.{power}
use Rattle.kind.specs.Kinds.{Meaning}

module _ {M E : Type 0} (s : Meaning M E) where
  -- the base joined 2 + (i mod 9) times
  abbrev pub bench_element : ℕ → M
  bench_element i = power s.group s.base (2 + i % 9)

  abbrev pub bench_entry : ℕ → E
  bench_entry i = s.entry (bench_element i)

  -- the first n entries
  abbrev pub bench_entries : ℕ → List E
  bench_entries n = map bench_entry (range_with_len 0 n)
