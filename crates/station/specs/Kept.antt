-- What every station keeps. Assumes nothing.
use Rattle.std.specs.Prelude.{ℕ, Bool, true, false, Some, None, Option}
use Rattle.ledger.specs.declared.parts.Stage.{Stage}
use Rattle.ledger.specs.declared.parts.Stage.TheVariants.{ForMessage, ForDraw, ForLast}

abbrev pub is_last : {M : Type 0} → Stage M → Bool
is_last ForMessage = false
is_last (ForDraw m) = false
is_last ForLast = true

-- how many cases are open
abbrev pub open_cases : {X : Type 0} → Option X → ℕ
open_cases None = 0
open_cases (Some c) = 1
