-- Four lists of which nothing is refused. Assumes nothing.
use Rattle.std.specs.Prelude.{◌≡◌, ℕ, List, length}
use Rattle.kind.specs.Kinds.{Meaning, AllElements}

-- lists of h, l and r entries are as long as one of g
pub record AsLong (g h l r : ℕ) : Type 0 where
  pub long_h : h ≡ g
  pub long_l : l ≡ g
  pub long_r : r ≡ g

-- lists of one length, with G and H holding elements
pub record Ready {M E : Type 0} (s : Meaning M E) (gs hs : List E) (l r : List ℕ) : Type 0 where
  pub all_g : AllElements s gs
  pub all_h : AllElements s hs
  pub long_h : length hs ≡ length gs
  pub long_l : length l ≡ length gs
  pub long_r : length r ≡ length gs
