-- Lists that can be played are refused by no call of a writer. Assumes nothing.
use Rattle.std.proofs.Common.{◌≡◌, ℕ, suc, ◌+◌, ◌^◌, ◌<◌, ◌≤◌, Bool, true, cond, ◌||◌, eqb, ltb, leb, List, [], ◌∷◌, length, get_or, Ok, Err, sym, refl, ap, ◌∙◌, ap₂, pow-suc, arith, pow_pos, lt-ltb, eq-eqb, ne_eqb}
use borrow.Author.Tests.{lt-leb}
use Rattle.kind.proofs.Listed.{length-elements}
use Rattle.kind.proofs.Steps.{none, more, all_pass}
use Rattle.kind.specs.Faults.{first_bad, wrapped}
use Rattle.kind.specs.Kinds.{Meaning, Lawful, elements, AllElements}
use Rattle.kind.specs.Products.{entries_refusal}
use Rattle.method.specs.Meaning.{is_size}
use Rattle.ledger.proofs.Agreement.{sizes, own, test}
use Rattle.ledger.specs.Script.{Playable}
use Rattle.writer.specs.Answers.{lists_of}
use Rattle.writer.specs.Refusals.{sizes_refused, lengths_refused, length_one_refused, challenges_refusal, content_refused, claim_refused, message_refused, fold_refused}
use Rattle.writer.specs.declared.fault.WriterFault.TheVariants.{Kind, NotAChallenge}

-- four lists of 2 ^ k entries
module _ (k g h l r : ℕ) (few : k ≤ 8) (eg : g ≡ 2 ^ k) (eh : h ≡ 2 ^ k) (el : l ≡ 2 ^ k) (er : r ≡ 2 ^ k) where
  size_free : (n : ℕ) → n ≡ 2 ^ k → is_size n ≡ true
  size_free n e = ap is_size e ∙ sizes k few

  sizes_free : sizes_refused g h l r ≡ Ok tt
  sizes_free =
      all_pass (more (test (is_size g) _ (size_free g eg)) (more (test (is_size h) _ (size_free h eh)) (more (test (is_size l) _ (size_free l el)) (more (test (is_size r) _ (size_free r er)) none))))

  lengths_free : lengths_refused g h l r ≡ Ok tt
  lengths_free =
      all_pass (more (test (eqb h g) _ (eq-eqb h g (eh ∙ sym eg))) (more (test (eqb l g) _ (eq-eqb l g (el ∙ sym eg))) (more (test (eqb r g) _ (eq-eqb r g (er ∙ sym eg))) none)))

above_one : (k n : ℕ) → n ≡ 2 ^ suc k → length_one_refused n ≡ Ok tt
above_one k n e =
    let t : 2 ^ suc k ≡ 2 ^ k + 2 ^ k = rw pow-suc (omega arith) in
    let p = pow_pos k in
    test (ltb 1 n) _ (lt-ltb 1 n (omega arith))

-- scalars below q
scalars_free : (q : ℕ) {F : Type 0} (fault : ℕ → F) (i : ℕ) (xs : List ℕ) → ((j : ℕ) → get_or xs j 0 < q) → first_bad (leb q) fault i xs ≡ Ok tt
scalars_free q fault i [] small = refl
scalars_free q fault i (x ∷ xs) small =
    ap (λ (b : Bool). cond b (Err (fault i)) (first_bad (leb q) fault (i + 1) xs)) (lt-leb q x (small 0))
    ∙ scalars_free q fault (i + 1) xs (λ j. small (suc j))

module _ {M E : Type 0} (s : Meaning M E) (laws : Lawful s) where
  entries_free : (es : List E) → AllElements s es → entries_refusal s es ≡ Ok tt
  entries_free es all = ap (entries_refusal s) (sym all) ∙ own s laws 0 (elements s es)

  challenge_free : (c : ℕ) → 0 < c → c < s.order → challenges_refusal s (c ∷ []) ≡ Ok tt
  challenge_free c pos small =
      ap (λ (b : Bool). cond b (Err (NotAChallenge 0)) (Ok tt)) (ap₂ ◌||◌ (ne_eqb c 0 (λ z. omega arith)) (lt-leb s.order c small))

  module _ (gs hs : List E) (l r cs : List ℕ) (all_g : AllElements s gs) (all_h : AllElements s hs) (ok : Playable s (lists_of s gs hs l r) cs) where
    long_g : length gs ≡ 2 ^ length cs
    long_g = sym (length-elements s gs) ∙ ok.gs

    long_h : length hs ≡ 2 ^ length cs
    long_h = sym (length-elements s hs) ∙ ok.hs

    content_free : content_refused s gs hs l r ≡ Ok tt
    content_free =
        all_pass (more (ap (λ e. wrapped Kind e 0) (entries_free gs all_g)) (more (ap (λ e. wrapped Kind e 0) (entries_free hs all_h))
        (more (scalars_free s.order _ 0 l ok.l_below) (more (scalars_free s.order _ 0 r ok.r_below) none))))

    pub claim_free : claim_refused s gs hs l r ≡ Ok tt
    claim_free =
        all_pass (more (sizes_free (length cs) (length gs) (length hs) (length l) (length r) ok.few long_g long_h ok.l ok.r)
        (more (lengths_free (length cs) (length gs) (length hs) (length l) (length r) ok.few long_g long_h ok.l ok.r)
        (more content_free none)))

  pub fold_free : (gs hs : List E) (l r : List ℕ) (c : ℕ) (cs : List ℕ) → AllElements s gs → AllElements s hs → Playable s (lists_of s gs hs l r) (c ∷ cs)
      → fold_refused s gs hs l r c ≡ Ok tt
  fold_free gs hs l r c cs all_g all_h ok =
      let lg = long_g gs hs l r (c ∷ cs) all_g all_h ok in
      let lh = long_h gs hs l r (c ∷ cs) all_g all_h ok in
      let told : message_refused s gs hs l r ≡ Ok tt =
      all_pass (more (sizes_free (suc (length cs)) (length gs) (length hs) (length l) (length r) ok.few lg lh ok.l ok.r)
      (more (lengths_free (suc (length cs)) (length gs) (length hs) (length l) (length r) ok.few lg lh ok.l ok.r)
      (more (above_one (length cs) (length gs) lg)
      (more (content_free gs hs l r (c ∷ cs) all_g all_h ok) none)))) in
      all_pass (more told (more (challenge_free c ok.challenges.0 ok.challenges.1) none))
