-- What one folding does to a product of powers. Assumes nothing.
use Rattle.std.proofs.Common.{◌≡◌, ℕ, ◌+◌, ◌*◌, ◌%◌, List, sym, ap, ◌∙◌, mul_assoc, mul_comm, add-mul, mul-add, mul_left_comm}
use lib.Lanes.{zip2}
use Rattle.protocol.specs.Group.{Group, power, Laws, product}
use Rattle.protocol.specs.Halving.{dot, fold_commitment}
use Rattle.protocol.proofs.Rows.{Rows, none, more}
use Rattle.protocol.proofs.Powers.{pow-zero, left_comm, pow-add, pow-unit, pow-op, pow-pow, pow-mod}

module _ {E : Type 0} {q : ℕ} {o : Group E} (laws : Laws q o) (c : ℕ) where
  folded_unit : fold_commitment q o c o.unit (o.join o.unit o.unit) o.unit ≡ o.unit
  folded_unit = cc (laws.unit_left o.unit, pow-unit laws (c * c), pow-unit laws c)

  -- one pair of each half more, beside what the others come to
  step_g : (x y : E) (a b : ℕ) (p s t u : E)
      → o.join (power o (o.join (power o x c) y) ((a + c * b) % q)) (fold_commitment q o c p (o.join s t) u)
      ≡ fold_commitment q o c (o.join (power o x b) p) (o.join (o.join (power o x a) s) (o.join (power o y b) t)) (o.join (power o y a) u)
  step_g x y a b p s t u =
      simp (pow-mod laws, pow-op laws, pow-add laws, pow-pow laws, mul_comm, mul_left_comm, laws.assoc, laws.comm, left_comm laws)

  pub folded_g : {xs ys : List E} {ms ns : List ℕ} → Rows xs ys ms ns
      → product o (zip2 (λ x y. o.join (power o x c) y) xs ys) (zip2 (λ a b. (a + c * b) % q) ms ns)
      ≡ fold_commitment q o c (product o xs ns) (o.join (product o xs ms) (product o ys ns)) (product o ys ms)
  folded_g none = sym folded_unit
  folded_g (more {x} {y} {a} {b} rest) = ap (o.join _) (folded_g rest) ∙ step_g x y a b _ _ _ _

  step_h : (x y : E) (a b : ℕ) (p s t u : E)
      → o.join (power o (o.join x (power o y c)) ((c * a + b) % q)) (fold_commitment q o c p (o.join s t) u)
      ≡ fold_commitment q o c (o.join (power o y a) p) (o.join (o.join (power o x a) s) (o.join (power o y b) t)) (o.join (power o x b) u)
  step_h x y a b p s t u =
      simp (pow-mod laws, pow-op laws, pow-add laws, pow-pow laws, mul_comm, mul_left_comm, laws.assoc, laws.comm, left_comm laws)

  pub folded_h : {xs ys : List E} {ms ns : List ℕ} → Rows xs ys ms ns
      → product o (zip2 (λ x y. o.join x (power o y c)) xs ys) (zip2 (λ a b. (c * a + b) % q) ms ns)
      ≡ fold_commitment q o c (product o ys ms) (o.join (product o xs ms) (product o ys ns)) (product o xs ns)
  folded_h none = sym folded_unit
  folded_h (more {x} {y} {a} {b} rest) = ap (o.join _) (folded_h rest) ∙ step_h x y a b _ _ _ _

  -- the product of two reduced numbers, in an exponent
  pow-mul-mod : (k : E) (m n : ℕ) → power o k (m % q * (n % q)) ≡ power o k (m * n)
  pow-mul-mod k m n =
      sym (pow-pow laws k (m % q) (n % q)) ∙ pow-mod laws (power o k (m % q)) n ∙ ap (λ y. power o y n) (pow-mod laws k m) ∙ pow-pow laws k m n

  step_dot : (k : E) (x y a b : ℕ) (p s t u : ℕ)
      → o.join (power o k ((x + c * y) % q * ((c * a + b) % q))) (fold_commitment q o c (power o k p) (o.join (power o k s) (power o k t)) (power o k u))
      ≡ fold_commitment q o c (power o k (y * a + p)) (o.join (power o k (x * a + s)) (power o k (y * b + t))) (power o k (x * b + u))
  step_dot k x y a b p s t u =
      simp (pow-mul-mod, mul-add, add-mul, pow-op laws, pow-add laws, pow-pow laws, mul_assoc, mul_comm, mul_left_comm, laws.assoc, laws.comm, left_comm laws)

  pub folded_dot : (k : E) {us vs ms ns : List ℕ} → Rows us vs ms ns
      → power o k (dot (zip2 (λ a b. (a + c * b) % q) us vs) (zip2 (λ a b. (c * a + b) % q) ms ns))
      ≡ fold_commitment q o c (power o k (dot vs ms)) (o.join (power o k (dot us ms)) (power o k (dot vs ns))) (power o k (dot us ns))
  folded_dot k none = rw (pow-zero o k) (sym folded_unit)
  folded_dot k (more {x} {y} {a} {b} rest) =
      pow-add laws k _ _ ∙ ap (o.join _) (folded_dot k rest) ∙ step_dot k x y a b _ _ _ _
