-- The published rules, as a relation on the accepted calls of one case. Assumes nothing.
use Rattle.std.specs.Prelude.{◌≡◌, ℕ, ◌^◌, List, [], ◌∷◌, map, length}
use Rattle.protocol.specs.Halving.{fold_g, fold_h, fold_l, fold_r, claim1, claim2}
use Rattle.protocol.specs.Halving as halving
use Rattle.kind.specs.Kinds.{Meaning}
use Rattle.kind.specs.Pairs.{pair_of}
use Rattle.kind.specs.declared.pair.Pair.{Pair}
use Rattle.ledger.specs.Ledger.{Call, opening, message, draw, last_pair, Last}
use Rattle.ledger.specs.declared.parts.Message.{Message}
use Rattle.ledger.specs.declared.parts.Numbers.{Numbers}
use Rattle.ledger.specs.declared.parts.Sort.{Sort}

-- the bases G and H and the prover's scalars l and r
pub record Lists (M : Type 0) : Type 0 where
  pub gs : List M
  pub hs : List M
  pub l : List ℕ
  pub r : List ℕ

module _ {M E : Type 0} (kind : Meaning M E) where
  -- all four lists, folded by c
  abbrev pub folded : ℕ → Lists M → Lists M
  folded c x =
      let q = kind.order in
      let g = kind.group in
      record { gs = fold_g q g c x.gs; hs = fold_h q g c x.hs; l = fold_l q g c x.l; r = fold_r q g c x.r }

  -- the claim of the lists, over K
  abbrev pub claim_of : M → Lists M → Pair M
  claim_of key x = pair_of (claim1 kind.order kind.group x.gs x.l) (claim2 kind.order kind.group key x.hs x.l x.r)

  -- the message of the lists, over K
  abbrev pub message_of : M → Lists M → Message M
  message_of key x =
      let m = halving.message kind.order kind.group key x.gs x.hs x.l x.r in
      record { l1 = m.l1; l2 = m.l2; r1 = m.r1; r2 = m.r2 }

-- What comes after the opening, at lists x as folded by the draws accepted so far: a message, which is that of x, and a draw, which
-- folds x; or the last pair, which brings the lists that the case began with, K, and the a and b that are left of l and r.
pub data GoesOn {M E : Type 0} (kind : Meaning M E) (start : Lists M) (key : M) : Lists M → List (Call M E) → Type 0 where
  round : {x : Lists M} {o u : Sort} {s t : Numbers} {m : Message M} {c : ℕ} {rest : List (Call M E)}
      → m ≡ message_of kind key x
      → GoesOn kind start key (folded kind c x) rest
      → GoesOn kind start key x (message o s m ∷ (draw u t c ∷ rest))
  last : {x : Lists M} {o : Sort} {s : Numbers} {p : Last M E}
      → p.gs ≡ map kind.entry start.gs → p.hs ≡ map kind.entry start.hs → p.key ≡ key
      → x.l ≡ p.a ∷ [] → x.r ≡ p.b ∷ []
      → GoesOn kind start key x (last_pair o s p ∷ [])

-- The accepted calls of one case, its opening first, follow the published rules for l and r, over G, H and K.
pub record Follows {M E : Type 0} (kind : Meaning M E) (x : Lists M) (key : M) (calls : List (Call M E)) : Type 0 where
  pub k : ℕ
  pub rest : List (Call M E)
  pub opens : calls ≡ opening k (claim_of kind key x) ∷ rest
  pub gs : length x.gs ≡ 2 ^ k
  pub hs : length x.hs ≡ 2 ^ k
  pub l : length x.l ≡ 2 ^ k
  pub r : length x.r ≡ 2 ^ k
  pub goes_on : GoesOn kind x key x rest
