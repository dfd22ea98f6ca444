-- The quick check in clear numbers, over two entries. Assumes nothing.
use Rattle.std.proofs.Common.{◌≡◌, ℕ, zero, suc, ◌+◌, ◌*◌, ◌%◌, Bool, eqb, List, [], ◌∷◌, Ok, sym, refl, ap, ◌∙◌, ap₂, suc-mul, add_comm, zero-mul}
use native.Mathlib.Nat.{add-mod-mod}
use native.Mathlib.Decide.{dec_lt}
use Rattle.protocol.specs.Group.{power, product}
use Rattle.protocol.specs.Weights.{HWeights}
use Rattle.protocol.proofs.Powers.{pow-zero, pow-suc}
use Rattle.protocol.proofs.Weights.{weights_are}
use Rattle.kind.specs.Clears.{clear_group, clear_meaning, clear_number, clear_of}
use Rattle.kind.specs.Constants.{order}
use Rattle.kind.specs.Faults.{and_then}
use Rattle.kind.specs.Kinds.{element_in}
use Rattle.kind.specs.declared.clear.Clear.{Clear}
use Rattle.method.specs.Meaning.{reduced}
use Rattle.method.specs.QuickCheck.{weight_refusal, quick_passes, quick_answer}
use Rattle.worked.specs.Worked.{bench, claim_folded}

power_clear : (x : Clear) (n : ℕ) → (power clear_group x n).v ≡ (n * x.v) % order
power_clear x zero = ap clear_number (pow-zero clear_group x) ∙ ap (λ (m : ℕ). m % order) (sym (zero-mul x.v))
power_clear x (suc n) =
    ap clear_number (pow-suc clear_group x n)
    ∙ ap (λ (m : ℕ). (x.v + m) % order) (power_clear x n)
    ∙ add-mod-mod x.v (n * x.v) order
    ∙ ap (λ (m : ℕ). m % order) (add_comm x.v (n * x.v) ∙ sym (suc-mul n x.v))

-- the number of x to the m, y to the n and k to the e, joined
product_number : (x y k : Clear) (m n e : ℕ)
    → (clear_group.join (product clear_group (x ∷ y ∷ []) (m ∷ n ∷ [])) (power clear_group k e)).v
    ≡ (((m * x.v) % order + ((n * y.v) % order + 0) % order) % order + (e * k.v) % order) % order
product_number x y k m n e = simp power_clear

commitment_number : (x y : Clear) (w : ℕ) → (clear_group.join x (power clear_group y w)).v ≡ (x.v + (w * y.v) % order) % order
commitment_number x y w = simp power_clear

bench_two : bench 2 ≡ 2 ∷ 3 ∷ []
unfolding power
bench_two = refl

-- the numbers of both sides of the quick check's equation for the pair (14, 25)
abbrev pub left : ℕ → ℕ
left w =
    (((14 * 2 + w * 25 * 1) * 2 % order + ((14 * 1 + w * 25 * 2) * 3 % order + 0) % order) % order + w * 14 * 25 * 1 % order) % order

abbrev pub right : ℕ → ℕ
right w = (91 + w * 525 % order) % order

-- where the weight is not refused, the answer is whether they are equal
pub quick_is : (w : ℕ) (b : Bool) → weight_refusal clear_meaning w ≡ Ok tt → eqb (left w) (right w) ≡ b
    → (ws : List ℕ) → HWeights order (reduced clear_meaning (2 ∷ [])) ws
    → quick_answer clear_meaning (2 ∷ []) ws claim_folded (bench 2) clear_meaning.base 14 25 w 2 2 ≡ Ok b
unfolding clear_of dec_lt
quick_is w b served e ws h =
    let two = element_in clear_meaning 2 in
    let three = element_in clear_meaning 3 in
    ap₂ (λ vs es. quick_answer clear_meaning (2 ∷ []) vs claim_folded es clear_meaning.base 14 25 w 2 2) (weights_are order (2 ∷ []) ws h) bench_two
    ∙ ap (λ t. and_then t (λ _. Ok (quick_passes clear_meaning (1 ∷ 2 ∷ []) claim_folded (2 ∷ 3 ∷ []) clear_meaning.base 14 25 w)))
    (ap (λ t. and_then t (λ _. Ok tt)) served)
    ∙ ap Ok (
    ap₂ eqb (product_number two three clear_meaning.base (14 * 2 + w * 25 * 1) (14 * 1 + w * 25 * 2) (w * 14 * 25)) (commitment_number claim_folded.a claim_folded.b w)
    ∙ e)
