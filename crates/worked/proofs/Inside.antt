-- Residues that are no elements, and a claim in residues. Assumes nothing.
use Rattle.std.proofs.Common.{◌≡◌, ℕ, ◌+◌, ◌<◌, false, leb, [], ◌∷◌, is_some, Some, Ok, sym, refl, ap, ◌∙◌, arith, lit<}
use Rattle.protocol.specs.Group.{power}
use Rattle.kind.specs.Bench.{bench_element, bench_entries}
use Rattle.kind.specs.Constants.{order, modulus}
use Rattle.kind.specs.Kinds.{Meaning}
use Rattle.kind.specs.Modular.{fast, fast_is}
use Rattle.kind.specs.Residues.{residue_meaning, residue_number, residue_of_none, residue_of_some}
use Rattle.ledger.specs.Rules.{claim_of}
use Rattle.writer.specs.Answers.{claim_answer}
use Rattle.worked.specs.Numbers.{claim_numbers}

-- a power by squares that is not 1
pub outside : (n m : ℕ) → fast modulus 30 n order ≡ m → (m ≡ 1 → ⊥) → is_some (residue_meaning.element n) ≡ false
outside n m e far = ap is_some (residue_of_none n (λ h. far (sym e ∙ sym (fast_is modulus 30 n order (lit< tt)) ∙ h.2)))

pub too_high : (n : ℕ) → modulus < n + 1 → is_some (residue_meaning.element n) ≡ false
too_high n high = ap is_some (residue_of_none n (λ h. let low = h.1 in omega arith))

module _ {M E : Type 0} (s : Meaning M E) where
  -- the claim of lists of one entry
  pub one_claim : (e : E) (x k : M) (a b : ℕ) → s.element e ≡ Some x → leb s.order a ≡ false → leb s.order b ≡ false
      → claim_answer s (e ∷ []) (e ∷ []) k (a ∷ []) (b ∷ [])
      ≡ Ok ((claim_of s k (record { gs = x ∷ []; hs = x ∷ []; l = a ∷ []; r = b ∷ [] })).a, (claim_of s k (record { gs = x ∷ []; hs = x ∷ []; l = a ∷ []; r = b ∷ [] })).b)
  one_claim e x k a b h p q = simp (h, p, q)

pub claim_residues :
    claim_numbers residue_number
    (claim_answer residue_meaning (bench_entries residue_meaning 1) (bench_entries residue_meaning 1) residue_meaning.base (3 ∷ []) (5 ∷ []))
    ≡ Ok (4096, 36175872)
unfolding power
claim_residues =
    ap (claim_numbers residue_number)
    (one_claim residue_meaning _ (bench_element residue_meaning 0) residue_meaning.base 3 5 (residue_of_some (bench_element residue_meaning 0)) refl refl)
