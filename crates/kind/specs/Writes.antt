-- Bytes of numbers. Assumes nothing.
use Rattle.std.specs.Prelude.{◌≡◌, ℕ, ◌+◌, ◌*◌, ◌/◌, ◌%◌, ◌<◌, Bool, true, false, cond, List, [], ◌∷◌, length, Some, None, Option, ◌==◌, slice_index, refl}
use Rattle.std.proofs.Common.{sym, ap, ◌∙◌, div-add-mod', mod-eq_of_lt, arith, eqb-true}
use Rattle.std.proofs.Math.Nat.{div-div-eq-div-mul}
use Rattle.kind.specs.Bytes.{bytes_of, number_in, read_four, Bytes}

four : (n a b c r s t : ℕ) → n ≡ a * 256 + r → a ≡ b * 256 + s → b ≡ c * 256 + t → c * 16777216 + t * 65536 + s * 256 + r ≡ n
four n a b c r s t f g h = omega arith

-- the four bytes of a number say the number
pub bytes_number : (n : ℕ) → n < 4294967296 → number_in (bytes_of n) ≡ n
bytes_number n h =
    let top : n / 16777216 < 256 = omega arith in
    let f = sym (div-add-mod' n 256) in
    let g : n / 256 ≡ n / 65536 * 256 + n / 256 % 256 =
    sym (div-add-mod' (n / 256) 256) ∙ ap (λ (k : ℕ). k * 256 + n / 256 % 256) (div-div-eq-div-mul n 256 256) in
    let k : n / 65536 ≡ n / 16777216 * 256 + n / 65536 % 256 =
    sym (div-add-mod' (n / 65536) 256) ∙ ap (λ (k : ℕ). k * 256 + n / 65536 % 256) (div-div-eq-div-mul n 65536 256) in
    ap (λ (c : ℕ). c * 16777216 + n / 65536 % 256 * 65536 + n / 256 % 256 * 256 + n % 256) (mod-eq_of_lt top)
    ∙ four n (n / 256) (n / 65536) (n / 16777216) (n % 256) (n / 256 % 256) (n / 65536 % 256) f g k

digits : (a b c d : ℕ) → a < 256 → b < 256 → c < 256 → d < 256 → bytes_of (number_in (a ∷ b ∷ c ∷ d ∷ [])) ≡ a ∷ b ∷ c ∷ d ∷ []
digits a b c d ha hb hc hd =
    let n : ℕ = a * 16777216 + b * 65536 + c * 256 + d in
    let p : n / 16777216 % 256 ≡ a = omega arith in
    let q : n / 65536 % 256 ≡ b = omega arith in
    let r : n / 256 % 256 ≡ c = omega arith in
    let s : n % 256 ≡ d = omega arith in
    λ i. p i ∷ q i ∷ r i ∷ s i ∷ []

go : (bs : List ℕ) → length bs ≡ 4 → ((i : ℕ) → slice_index bs i < 256) → bytes_of (number_in bs) ≡ bs
go [] e h = absurd (omega arith)
go (a ∷ []) e h = absurd (omega arith)
go (a ∷ b ∷ []) e h = absurd (omega arith)
go (a ∷ b ∷ c ∷ []) e h = absurd (omega arith)
go (a ∷ b ∷ c ∷ d ∷ []) e h = digits a b c d (h 0) (h 1) (h 2) (h 3)
go (a ∷ b ∷ c ∷ d ∷ x ∷ bs) e h = absurd (omega arith)

-- four bytes are those of the number that they say
pub number_bytes : (b : List ℕ) → Bytes 4 b → bytes_of (number_in b) ≡ b
number_bytes b h = go b h.long h.small

-- what reads four bytes by a test of the number reads a number's own bytes back, and no others
module _ {M : Type 0} (of : ℕ → Option M) (number : M → ℕ) (fits : (x : M) → number x < 4294967296)
    (some : (x : M) → of (number x) ≡ Some x) (one : (n : ℕ) (x : M) → of n ≡ Some x → number x ≡ n) where
  pub reads_again : (x : M) → read_four of (bytes_of (number x)) ≡ Some x
  reads_again x = ap of (bytes_number (number x) (fits x)) ∙ some x

  pub reads_only : (b : List ℕ) (x : M) → Bytes (length b) b → read_four of b ≡ Some x → bytes_of (number x) ≡ b
  reads_only b x h e = by (length b == 4) refl
    where
      by : (t : Bool) → (length b == 4) ≡ t → bytes_of (number x) ≡ b
      by true p =
          let long : length b ≡ 4 = eqb-true (length b) 4 p in
          ap bytes_of (one (number_in b) x (sym (ap (λ t. cond t (of (number_in b)) None) p) ∙ e))
          ∙ number_bytes b (record { long = long; small = h.small })
      by false p = absurd (let z : None ≡ Some x = sym (ap (λ t. cond t (of (number_in b)) None) p) ∙ e in let c : ◌≡◌ {A = ℕ} 0 1 = cc in omega arith)
