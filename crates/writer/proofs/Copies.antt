-- A record's parts, and lists copied one behind the other. Assumes nothing.
use Rattle.std.proofs.Common.{◌≡◌, ℕ, List, ◌++◌, length, get_or, take, drop, sym, ap, ◌∙◌, subst, ap₂, arith}
use Rattle.std.proofs.lemmas.List.{take_at, drop_at, take_all, get_or_append_left, get_or-append_right, nil_from_length}
use Rattle.kind.specs.Bytes.{Writing, bytes_of}
use Rattle.kind.specs.Kinds.{Meaning, elements}
use Rattle.kind.proofs.Listed.{length-elements, elements-append}
use Rattle.ledger.specs.Rules.{Lists, claim_of}
use Rattle.writer.specs.Answers.{lists_of}
use Rattle.writer.specs.Laying.{Laid}
use Rattle.writer.specs.Records.{front_written, front_of, rest_of, record_of}
use Rattle.writer.specs.Rows.{lists_in}
use Rattle.writer.proofs.Laid.{next}
use Rattle.writer.proofs.Lengths.{rounds_count}

module _ {A : Type 0} where
  second_of : (a b : List A) (n : ℕ) → length a ≡ n → length b ≡ n → take n (drop n (a ++ b)) ≡ b
  second_of a b n h k = ap (take n) (drop_at a b n h) ∙ take_all n b (omega arith)

module _ {M E : Type 0} (s : Meaning M E) where
  pub copied : (n : ℕ) (g h es : List E) (l r ns : List ℕ) → es ≡ g ++ h → ns ≡ l ++ r → length g ≡ n → length h ≡ n → length l ≡ n → length r ≡ n
      → lists_in s n n es ns ≡ lists_of s g h l r
  copied n g h es l r ns ees ens eg eh el er =
      let lg : length (elements s g) ≡ n = length-elements s g ∙ eg in
      let lh : length (elements s h) ≡ n = length-elements s h ∙ eh in
      let p = ap (elements s) ees ∙ elements-append s g h in
      let a = ap (take n) p ∙ take_at (elements s g) (elements s h) n lg in
      let b = ap (λ x. take n (drop n x)) p ∙ second_of (elements s g) (elements s h) n lg lh in
      let c = ap (take n) ens ∙ take_at l r n el in
      let d = ap (λ x. take n (drop n x)) ens ∙ second_of l r n el er in
      λ i. record { gs = a i; hs = b i; l = c i; r = d i }

  module _ (w : Writing M) (key : M) (cs : List ℕ) (x : Lists M) where
    -- front and rest, laid one behind the other, are the record
    pub record_laid : {p e : ℕ} {a b c : List ℕ} → Laid 0 (front_of s w key (length cs) x) a b p → Laid p (rest_of s w key cs x) b c e
        → Laid 0 (record_of s w key cs x) a c e
    record_laid {p} {e} {a} {b} {c} front rest =
        subst (λ (k : ℕ). Laid 0 (front_written w k (claim_of s key x) ++ rest_of s w key cs x) a c e) (sym (rounds_count s key cs x)) (next front rest)

    -- where there are no rounds, the rest is the last pair: the one entry of l and of r, copied one behind the other
    pub rest_none : (ns : List ℕ) → length cs ≡ 0 → ns ≡ x.l ++ x.r → length x.l ≡ 1
        → bytes_of (get_or ns 0 0) ++ bytes_of (get_or ns 1 0) ≡ rest_of s w key cs x
    rest_none ns none is one =
        ap (λ n. bytes_of (get_or n 0 0) ++ bytes_of (get_or n 1 0)) is
        ∙ ap₂ (λ (a b : ℕ). bytes_of a ++ bytes_of b) (get_or_append_left x.l x.r 0 0 (omega arith)) (get_or-append_right x.l x.r 1 1 0 one (omega arith))
        ∙ ap (λ (ds : List ℕ). rest_of s w key ds x) (sym (nil_from_length cs none))
