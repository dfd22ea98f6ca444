-- From entries to elements and back. Assumes nothing.
use Rattle.std.proofs.Common.{◌≡◌, ℕ, ◌+◌, ◌<◌, false, not, List, [], ◌∷◌, ◌++◌, map, length, get_or, take, drop, set, is_some, Some, None, Ok, Option, unwrap_or, sym, refl, ap, ◌∙◌, ap₂, arith}
use mathlib.Core.List.{map-append}
use Rattle.std.proofs.lemmas.List.{get_or-map, length-map, map-set, take-map, drop-map}
use Rattle.kind.specs.Faults.{first_bad}
use Rattle.kind.specs.Kinds.{Meaning, Lawful, element_in, elements, AllElements}
use Rattle.kind.specs.Products.{entries_refusal}
use Rattle.kind.specs.declared.fault.KindFault.TheVariants.{NotAnElement}
use Rattle.kind.proofs.Scans.{none_bad}

pub length-elements : {M E : Type 0} (s : Meaning M E) (es : List E) → length (elements s es) ≡ length es
length-elements s es = length-map es (element_in s)

-- parts of a list
module _ {M E : Type 0} (s : Meaning M E) where
  pub elements-take : (n : ℕ) (es : List E) → elements s (take n es) ≡ take n (elements s es)
  elements-take n es = sym (take-map _ n es)

  pub elements-drop : (n : ℕ) (es : List E) → elements s (drop n es) ≡ drop n (elements s es)
  elements-drop n es = sym (drop-map _ n es)

  pub all_take : (n : ℕ) (es : List E) → AllElements s es → AllElements s (take n es)
  all_take n es h = ap (map s.entry) (elements-take n es) ∙ sym (take-map s.entry n (elements s es)) ∙ ap (take n) h

  pub all_drop : (n : ℕ) (es : List E) → AllElements s es → AllElements s (drop n es)
  all_drop n es h = ap (map s.entry) (elements-drop n es) ∙ sym (drop-map s.entry n (elements s es)) ∙ ap (drop n) h

  pub elements-append : (a b : List E) → elements s (a ++ b) ≡ elements s a ++ elements s b
  elements-append a b = map-append _ a b

  pub all_append : (a b : List E) → AllElements s a → AllElements s b → AllElements s (a ++ b)
  all_append a b f h = ap (map s.entry) (elements-append a b) ∙ map-append s.entry (elements s a) (elements s b) ∙ ap₂ ◌++◌ f h

module _ {M E : Type 0} (s : Meaning M E) (laws : Lawful s) where
  pub element_entry : (x : M) → element_in s (s.entry x) ≡ x
  element_entry x = ap (λ o. unwrap_or o s.group.unit) (laws.back x)

  -- what has the entry e is the element in e
  pub known : (e : E) (r : M) → s.entry r ≡ e → r ≡ element_in s e
  known e r h = sym (element_entry r) ∙ ap (element_in s) h

  -- the element that was read at a place
  pub read_at : (es : List E) (i : ℕ) (e : E) (r : M) → i < length es → e ≡ get_or es i e → s.entry r ≡ e → r ≡ get_or (elements s es) i s.group.unit
  read_at es i e r h at is = known e r is ∙ ap (element_in s) at ∙ sym (get_or-map (element_in s) es i e s.group.unit h)

  pub elements-entries : (xs : List M) → elements s (map s.entry xs) ≡ xs
  elements-entries [] = refl
  elements-entries (x ∷ xs) = ap₂ ◌∷◌ (element_entry x) (elements-entries xs)

  pub all_entries : (xs : List M) → AllElements s (map s.entry xs)
  all_entries xs = ap (map s.entry) (elements-entries xs)

  pub all_at : (es : List E) (i : ℕ) (e : E) → AllElements s es → i < length es → e ≡ get_or es i e → s.entry (element_in s e) ≡ e
  all_at es i e all h at =
      let n = length-elements s es in
      ap (λ d. s.entry (element_in s d)) at
      ∙ ap s.entry (sym (get_or-map (element_in s) es i e (element_in s e) h))
      ∙ sym (get_or-map s.entry (elements s es) i (element_in s e) e (omega arith))
      ∙ ap (λ l. get_or l i e) all ∙ sym at

  pub elements-set : (es : List E) (i : ℕ) (x : M) → elements s (set es i (s.entry x)) ≡ set (elements s es) i x
  elements-set es i x = map-set (element_in s) es i (s.entry x) ∙ ap (set (elements s es) i) (element_entry x)

  pub all_set : (es : List E) (i : ℕ) (x : M) → AllElements s es → AllElements s (set es i (s.entry x))
  all_set es i x all =
      ap (map s.entry) (elements-set es i x) ∙ map-set s.entry (elements s es) i x ∙ ap (λ l. set l i (s.entry x)) all

  present : (e : E) (o : Option M) → s.element e ≡ o → not (is_some o) ≡ false → s.entry (element_in s e) ≡ e
  present e None p h = cc
  present e (Some x) p h = ap (λ o. s.entry (unwrap_or o s.group.unit)) p ∙ laws.only e x p

  all_from : (i : ℕ) (es : List E) → first_bad (λ e. not (is_some (s.element e))) NotAnElement i es ≡ Ok tt → AllElements s es
  all_from i [] h = refl
  all_from i (e ∷ es) h =
      let p = none_bad (λ d. not (is_some (s.element d))) NotAnElement i e es h in
      ap₂ ◌∷◌ (present e (s.element e) refl p.0) (all_from (i + 1) es p.1)

  -- a list that is not refused holds elements
  pub all_checked : (es : List E) → entries_refusal s es ≡ Ok tt → AllElements s es
  all_checked es h = all_from 0 es h
