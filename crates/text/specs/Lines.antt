-- The lines of a text. Assumes nothing.
use Rattle.std.specs.Prelude.{◌≡◌, ℕ, List, [], ◌∷◌, length, Some, None, Option}
use Rattle.std.specs.Borrow.{Bor}
use Rattle.std.specs.Iterator.{Count, at_most}
use Rattle.std.specs.Option.{unwrap_or}
use Rattle.text.specs.Words.{front_of, rest_of, pointed}
use Rattle.text.specs.declared.lines.Lines.{Lines}

-- what is left of a text
abbrev pub text_left : Lines → List ℕ
text_left l = l.rest.now

-- the next line of what is left, and what is left behind it. A line ends by a newline (10)
abbrev pub next_line : List ℕ → Option (List ℕ)
next_line [] = None
next_line (b ∷ bs) = Some (front_of 10 (b ∷ bs))

abbrev pub behind_line : List ℕ → List ℕ
behind_line bs = unwrap_or (rest_of 10 bs) []

-- there are at most so many lines
abbrev pub lines_most : Lines → Count
lines_most l = at_most (length (text_left l))

-- a call took the next line and left what stands behind it
abbrev pub TakesLine : Lines → Option (Bor (List ℕ)) → Lines → Type 0
TakesLine before line after = (pointed line ≡ next_line (text_left before)) × (text_left after ≡ behind_line (text_left before))
