-- The segregated, halving inner-product argument: claim, message, fold and verdict. Assumes nothing.
use Rattle.std.specs.Prelude.{◌≡◌, ℕ, ◌+◌, ◌*◌, ◌/◌, ◌%◌, ◌^◌, List, [], ◌∷◌, length, take, drop, slice_index, slice_index_or}
use Rattle.std.specs.Simd.Lanes.{zip2}
use Rattle.protocol.specs.Group.{Group, power, Laws, product}

-- the sum of the products, entry by entry
abbrev pub dot : List ℕ → List ℕ → ℕ
dot [] r = 0
dot (x ∷ l) [] = 0
dot (x ∷ l) (y ∷ r) = x * y + dot l r

-- <l, r>
abbrev pub inner : ℕ → List ℕ → List ℕ → ℕ
inner q l r = dot l r % q

abbrev pub first_half : {A : Type 0} → List A → List A
first_half xs = take (length xs / 2) xs

abbrev pub last_half : {A : Type 0} → List A → List A
last_half xs = drop (length xs / 2) xs

-- where a case stands: the bases G and H, the prover's scalars l and r, and the commitments Z1 and Z2
pub record Standing (E : Type 0) : Type 0 where
  pub gs : List E
  pub hs : List E
  pub l : List ℕ
  pub r : List ℕ
  pub z1 : E
  pub z2 : E

-- all four lists have n entries
pub record Sized {E : Type 0} (n : ℕ) (s : Standing E) : Type 0 where
  pub gs : length s.gs ≡ n
  pub hs : length s.hs ≡ n
  pub l : length s.l ≡ n
  pub r : length s.r ≡ n

-- the four elements that the prover sends in a round
pub record Message (E : Type 0) : Type 0 where
  pub l1 : E
  pub l2 : E
  pub r1 : E
  pub r2 : E

module _ {E : Type 0} (q : ℕ) (g : Group E) where
  -- Z1 and Z2 of two lists of scalars
  abbrev pub claim1 : List E → List ℕ → E
  claim1 gs l = product g gs l

  abbrev pub claim2 : E → List E → List ℕ → List ℕ → E
  claim2 k hs l r = g.join (product g hs r) (power g k (inner q l r))

  pub record TrueClaim (k : E) (s : Standing E) : Type 0 where
    pub one : s.z1 ≡ claim1 s.gs s.l
    pub two : s.z2 ≡ claim2 k s.hs s.l s.r

  -- the message of four lists: the claims of the halves across
  abbrev pub message : E → List E → List E → List ℕ → List ℕ → Message E
  message k gs hs l r = record {
    l1 = claim1 (first_half gs) (last_half l);
    l2 = claim2 k (last_half hs) (last_half l) (first_half r);
    r1 = claim1 (last_half gs) (first_half l);
    r2 = claim2 k (first_half hs) (first_half l) (last_half r);
  }

  -- each list folded by the challenge c
  abbrev pub fold_l : ℕ → List ℕ → List ℕ
  fold_l c l = zip2 (λ a b. (a + c * b) % q) (first_half l) (last_half l)

  abbrev pub fold_r : ℕ → List ℕ → List ℕ
  fold_r c r = zip2 (λ a b. (c * a + b) % q) (first_half r) (last_half r)

  abbrev pub fold_g : ℕ → List E → List E
  fold_g c gs = zip2 (λ x y. g.join (power g x c) y) (first_half gs) (last_half gs)

  abbrev pub fold_h : ℕ → List E → List E
  fold_h c hs = zip2 (λ x y. g.join x (power g y c)) (first_half hs) (last_half hs)

  -- a commitment z folded by c: L to the power c * c, z to the power c, and R, joined
  abbrev pub fold_commitment : ℕ → E → E → E → E
  fold_commitment c lower z upper = g.join (g.join (power g lower (c * c)) (power g z c)) upper

  -- one round by the rules: the message is sent, the challenge c is drawn, and all is folded
  abbrev pub round : E → ℕ → Standing E → Standing E
  round k c s =
      let m = message k s.gs s.hs s.l s.r in
      record {
        gs = fold_g c s.gs;
        hs = fold_h c s.hs;
        l = fold_l c s.l;
        r = fold_r c s.r;
        z1 = fold_commitment c m.l1 s.z1 m.r1;
        z2 = fold_commitment c m.l2 s.z2 m.r2;
      }

  abbrev pub rounds : E → List ℕ → Standing E → Standing E
  rounds k [] s = s
  rounds k (c ∷ cs) s = rounds k cs (round k c s)

  -- G and H folded by a list of challenges, the first round's first
  abbrev pub folds_g : List ℕ → List E → List E
  folds_g [] gs = gs
  folds_g (c ∷ cs) gs = folds_g cs (fold_g c gs)

  abbrev pub folds_h : List ℕ → List E → List E
  folds_h [] hs = hs
  folds_h (c ∷ cs) hs = folds_h cs (fold_h c hs)

  -- the element that a list folds to
  abbrev pub last_g : List ℕ → List E → E
  last_g cs gs = slice_index_or (folds_g cs gs) 0 g.unit

  abbrev pub last_h : List ℕ → List E → E
  last_h cs hs = slice_index_or (folds_h cs hs) 0 g.unit

  -- the published verdict at length 1: both equations hold of the last pair a, b
  pub record Passes (k x y : E) (a b : ℕ) (z1 z2 : E) : Type 0 where
    pub one : power g x a ≡ z1
    pub two : g.join (power g y b) (power g k (a * b)) ≡ z2

  -- the published verdict of lists folded by challenges
  abbrev pub FoldedPasses : E → List ℕ → List E → List E → ℕ → ℕ → E → E → Type 0
  FoldedPasses k cs gs hs a b z1 z2 = Passes k (last_g cs gs) (last_h cs hs) a b z1 z2

  -- the last pair of a standing of length 1 passes there
  abbrev pub LastPasses : E → Standing E → Type 0
  LastPasses k s = Passes k (slice_index_or s.gs 0 g.unit) (slice_index_or s.hs 0 g.unit) (slice_index s.l 0) (slice_index s.r 0) s.z1 s.z2

-- A round by the rules keeps a claim true, and halves the lists.
abbrev pub FoldingKeepsClaims : Type 0 → Type 0
FoldingKeepsClaims E =
    (q : ℕ) (g : Group E) → Laws q g → (k : E) (c m : ℕ) (s : Standing E)
    → Sized (m + m) s → TrueClaim q g k s → Sized m (round q g k c s) × TrueClaim q g k (round q g k c s)

-- Who follows the rules from a true claim over lists of 2 ^ rounds entries ends in a last pair that passes, whatever the challenges.
abbrev pub RulesPass : Type 0 → Type 0
RulesPass E =
    (q : ℕ) (g : Group E) → Laws q g → (k : E) (cs : List ℕ) (s : Standing E)
    → Sized (2 ^ length cs) s → TrueClaim q g k s → LastPasses q g k (rounds q g k cs s)
