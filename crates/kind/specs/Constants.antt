-- The numbers of the two number kinds. Assumes nothing.
use Rattle.std.specs.Prelude.{◌≡◌, ℕ, ◌<◌, ◌≤◌}
use Rattle.kind.specs.Modular.{pow_mod}

-- q, the order of both
abbrev pub order : ℕ
order = 1073741789

-- p, the modulus of the residues
abbrev pub modulus : ℕ
modulus = 2147483579

-- n is a residue of the subgroup of order q: from 1 to p - 1, and n ^ q modulo p is 1
abbrev pub InSubgroup : ℕ → Type 0
InSubgroup n = (1 ≤ n) × (n < modulus) × (pow_mod modulus n order ≡ 1)
