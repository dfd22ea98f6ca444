-- The parts of a record, as lists of bytes: one byte k, then the claim, k rounds and the last pair. Assumes nothing.
use Rattle.std.specs.Prelude.{◌≡◌, ℕ, zero, suc, ◌+◌, ◌*◌, List, [], ◌∷◌, length, take, drop, Option, slice_index, MatchOption}
use Rattle.std.specs.Iterator.{Count, at_most}
use Rattle.record.specs.declared.part.Part.{Part}
use Rattle.record.specs.declared.part.Part.TheVariants as part
use Rattle.record.specs.declared.part.Stage.{Stage}
use Rattle.record.specs.declared.part.Stage.TheVariants as stage
use Rattle.record.specs.declared.part.Reader.{Reader}

-- a part with its bytes
pub data Piece : Type 0 where
  claim : List ℕ → Piece
  round : List ℕ → Piece
  last : List ℕ → Piece

abbrev pub piece_of : Part → Piece
piece_of (part.Claim bs) = claim bs.now
piece_of (part.Round bs) = round bs.now
piece_of (part.LastPair bs) = last bs.now

-- how many bytes each part has, at elements of w bytes, and a whole record of k rounds
abbrev pub size_of_claim : ℕ → ℕ
size_of_claim w = 2 * w

abbrev pub size_of_round : ℕ → ℕ
size_of_round w = 4 * w + 4

abbrev pub record_length : ℕ → ℕ → ℕ
record_length w k = 9 + 2 * w + k * (4 * w + 4)

-- the record's k
abbrev pub rounds_in : List ℕ → ℕ
rounds_in bs = slice_index bs 0

-- k rounds of the given size and the last pair
abbrev pub round_pieces : ℕ → ℕ → List ℕ → List Piece
round_pieces size zero bs = last (take 8 bs) ∷ []
round_pieces size (suc k) bs = round (take size bs) ∷ round_pieces size k (drop size bs)

-- the parts of a record, behind its first byte
abbrev pub pieces_in : ℕ → List ℕ → List Piece
pieces_in w bs = claim (take (size_of_claim w) (drop 1 bs)) ∷ round_pieces (size_of_round w) (rounds_in bs) (drop (size_of_claim w) (drop 1 bs))

abbrev pub coming : ℕ → ℕ → Stage → List ℕ → List Piece
coming cs rs (stage.Claim k) bs = claim (take cs bs) ∷ round_pieces rs k (drop cs bs)
coming cs rs (stage.Rounds k) bs = round_pieces rs k bs
coming cs rs stage.Done bs = []

-- what a reader has yet to hand out
abbrev pub left : Reader → List Piece
left r = coming r.claim_size r.round_size r.stage r.rest.now

-- a call handed out the next part, or there was none and there is none
abbrev pub HandsOut : Reader → Option Part → Reader → Type 0
HandsOut before part after = MatchOption part ((left before ≡ []) × (left after ≡ [])) (λ p. left before ≡ piece_of p ∷ left after)

-- there are at most so many parts
abbrev pub parts_most : Reader → Count
parts_most r = at_most (length (left r))
