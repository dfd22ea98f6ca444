-- A case played by the rules, with the tokens as they are handed out. Assumes nothing.
use Rattle.std.specs.Prelude.{◌≡◌, ℕ, ◌+◌, ◌^◌, ◌<◌, ◌≤◌, true, List, [], ◌∷◌, map, length, None, slice_index}
use Rattle.kind.specs.Kinds.{Meaning, Lawful}
use Rattle.ledger.specs.Ledger.{Ledger, Call, opening, message, draw, last_pair, Last, numbers_at, one_opened, one_judged, final}
use Rattle.ledger.specs.Rules.{Lists, folded, claim_of, message_of, Follows}
use Rattle.ledger.specs.declared.parts.Numbers.{Numbers}
use Rattle.ledger.specs.declared.parts.Sort.TheVariants.{Waiting, Heard, Closing}

-- challenges from 1 to q - 1
abbrev pub Challenges : ℕ → List ℕ → Type 0
Challenges q [] = Unit {0}
Challenges q (c ∷ cs) = (0 < c) × (c < q) × Challenges q cs

-- what can be played: lists of 2 ^ k entries with k challenges, all scalars below the order
pub record Playable {M E : Type 0} (kind : Meaning M E) (x : Lists M) (cs : List ℕ) : Type 0 where
  pub few : length cs ≤ 8
  pub gs : length x.gs ≡ 2 ^ length cs
  pub hs : length x.hs ≡ 2 ^ length cs
  pub l : length x.l ≡ 2 ^ length cs
  pub r : length x.r ≡ 2 ^ length cs
  pub l_below : (i : ℕ) → slice_index x.l i < kind.order
  pub r_below : (i : ℕ) → slice_index x.r i < kind.order
  pub challenges : Challenges kind.order cs

-- token n: the token's numbers after n rounds
module _ {M E : Type 0} (kind : Meaning M E) (key : M) (elements numbers : ℕ) (token : ℕ → Numbers) (start : Lists M) where
  abbrev pub last_pair_to : Lists M → Last M E
  last_pair_to x = record {
    gs = map kind.entry start.gs;
    hs = map kind.entry start.hs;
    key = key;
    a = slice_index x.l 0;
    b = slice_index x.r 0;
    elements = elements;
    numbers = numbers;
  }

  abbrev pub rest_of : Lists M → ℕ → List ℕ → List (Call M E)
  rest_of x n [] = last_pair Closing (token n) (last_pair_to x) ∷ []
  rest_of x n (c ∷ cs) =
      message Waiting (token n) (message_of kind key x) ∷ (draw Heard (token n) c ∷ rest_of (folded kind c x) (n + 1) cs)

  -- opening, then message and draw for each challenge, then the last pair
  abbrev pub played : List ℕ → List (Call M E)
  played cs = opening (length cs) (claim_of kind key start) ∷ rest_of start 0 cs

-- Such a case follows the rules, and from any ledger with no open case and room on the page it is opened and passed.
abbrev pub GoesThrough : Type 0 → Type 0 → Type 0
GoesThrough M E =
    (kind : Meaning M E) → Lawful kind → (l : Ledger M) → l.running ≡ None → l.page.opened < 10000
    → (x : Lists M) (key : M) (cs : List ℕ) (elements numbers : ℕ) → Playable kind x cs → 2 ^ length cs ≤ elements → 2 ^ length cs ≤ numbers
    → let calls = played kind key elements numbers (numbers_at l.number (one_opened l.page)) x cs in
    Follows kind x key calls × ((final kind l calls).page ≡ one_judged true (one_opened l.page))
