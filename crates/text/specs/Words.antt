-- Lines, words and decimal numbers in bytes. Assumes nothing.
use Rattle.std.specs.Prelude.{◌≡◌, ℕ, suc, ◌+◌, ◌-◌, ◌*◌, ◌^◌, Bool, true, cond, ◌&&◌, List, [], ◌∷◌, length, take, drop, Some, None, Option, ◌==◌, nat_le, nat_lt}
use Rattle.std.specs.Borrow.{Bor}
use Rattle.std.specs.Iterator.{Count, at_most}
use Rattle.text.specs.declared.words.Words.{Words}

-- how many bytes stand before the first mark; all of them where there is none
abbrev pub count_before : ℕ → List ℕ → ℕ
count_before mark [] = 0
count_before mark (b ∷ bs) = cond (b == mark) 0 (suc (count_before mark bs))

-- what stands before the first mark
abbrev pub front_of : ℕ → List ℕ → List ℕ
front_of mark bs = take (count_before mark bs) bs

-- what stands behind the first mark, if there is a mark
abbrev pub rest_of : ℕ → List ℕ → Option (List ℕ)
rest_of mark bs = cond (count_before mark bs == length bs) None (Some (drop (count_before mark bs + 1) bs))

-- whether all bytes are digits, which are the codes 48 to 57
abbrev pub all_digits : List ℕ → Bool
all_digits [] = true
all_digits (d ∷ ds) = nat_le 48 d && (nat_le d 57 && all_digits ds)

-- the value of digits written behind a number n
abbrev pub value_from : ℕ → List ℕ → ℕ
value_from n [] = n
value_from n (d ∷ ds) = value_from (n * 10 + (d - 48)) ds

-- the number that a word writes: one digit or more, and a value below 2 ^ 32
abbrev pub number_of : List ℕ → Option ℕ
number_of [] = None
number_of (d ∷ ds) = cond (all_digits (d ∷ ds) && nat_lt (value_from 0 (d ∷ ds)) (2 ^ 32)) (Some (value_from 0 (d ∷ ds))) None

-- what a reference that may be there points to
abbrev pub pointed : Option (Bor (List ℕ)) → Option (List ℕ)
pointed None = None
pointed (Some b) = Some b.now

-- what is left of a line; None where its last word was taken
abbrev pub line_left : Words → Option (List ℕ)
line_left w = pointed w.rest

-- the next word of what is left of a line, and what is left behind it. Words stand one space (32) apart
abbrev pub next_word : Option (List ℕ) → Option (List ℕ)
next_word None = None
next_word (Some line) = Some (front_of 32 line)

abbrev pub behind_word : Option (List ℕ) → Option (List ℕ)
behind_word None = None
behind_word (Some line) = rest_of 32 line

-- the number that a word writes, if there is a word
abbrev pub number_if : Option (List ℕ) → Option ℕ
number_if None = None
number_if (Some word) = number_of word

-- a number, if it is at most m
abbrev pub up_to : ℕ → Option ℕ → Option ℕ
up_to m None = None
up_to m (Some n) = cond (nat_le n m) (Some n) None

-- whether nothing is left
abbrev pub at_end : Option (List ℕ) → Option Unit
at_end None = Some tt
at_end (Some line) = None

-- how much is left of a line: one more than its bytes, and 0 where its last word was taken
abbrev pub line_size : Option (List ℕ) → ℕ
line_size None = 0
line_size (Some line) = suc (length line)

-- there are at most so many words
abbrev pub words_most : Words → Count
words_most w = at_most (line_size (line_left w))

-- a call took the next word and left what stands behind it
abbrev pub TakesWord : Words → Option (Bor (List ℕ)) → Words → Type 0
TakesWord before word after = (pointed word ≡ next_word (line_left before)) × (line_left after ≡ behind_word (line_left before))
