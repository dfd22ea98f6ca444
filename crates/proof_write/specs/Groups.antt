-- The numbers of a line, and the lines of a text. Assumes nothing.
use Rattle.std.specs.Prelude.{◌≡◌, ℕ, cond, List, [], ◌∷◌, Some, None, vec_items, codes, Option, ◌==◌}
use Rattle.std.specs.Str.{bytes_eq}
use Rattle.text.specs.Words.{number_of}
use Rattle.text.specs.Lines.{next_line, behind_line}
use Rattle.proof_write.specs.declared.groups.Group.{Group}

-- a byte in front of the first word
abbrev pub begun : ℕ → List (List ℕ) → List (List ℕ)
begun b [] = (b ∷ []) ∷ []
begun b (w ∷ ws) = (b ∷ w) ∷ ws

-- the words of a line, which stand one space (32) apart
abbrev pub words_of : List ℕ → List (List ℕ)
words_of [] = [] ∷ []
words_of (b ∷ bs) = cond (b == 32) ([] ∷ words_of bs) (begun b (words_of bs))

-- the words of what is left of a line
abbrev pub words_left : Option (List ℕ) → List (List ℕ)
words_left None = []
words_left (Some line) = words_of line

abbrev pub in_front : Option ℕ → Option (List ℕ) → Option (List ℕ)
in_front None ns = None
in_front (Some n) None = None
in_front (Some n) (Some ns) = Some (n ∷ ns)

-- the numbers that words write, if each writes one
abbrev pub numbers_of : List (List ℕ) → Option (List ℕ)
numbers_of [] = Some []
numbers_of (w ∷ ws) = in_front (number_of w) (numbers_of ws)

abbrev pub behind_name : List ℕ → List (List ℕ) → Option (List ℕ)
behind_name name [] = None
behind_name name (w ∷ ws) = cond (bytes_eq w name) (numbers_of ws) None

-- the list of a line: its first word is the name, and the others write the numbers
abbrev pub numbers_in : List ℕ → List ℕ → Option (List ℕ)
numbers_in name line = behind_name name (words_of line)

-- the list of a line, if there is a line
abbrev pub list_in : List ℕ → Option (List ℕ) → Option (List ℕ)
list_in name None = None
list_in name (Some line) = numbers_in name line

-- a group is the lists of three lines
pub record ReadGroup (text : List ℕ) (g : Group) : Type 0 where
  pub quantities : list_in (codes "quantities") (next_line text) ≡ Some (vec_items g.quantities)
  pub prices : list_in (codes "prices") (next_line (behind_line text)) ≡ Some (vec_items g.prices)
  pub challenges : list_in (codes "challenges") (next_line (behind_line (behind_line text))) ≡ Some (vec_items g.challenges)
