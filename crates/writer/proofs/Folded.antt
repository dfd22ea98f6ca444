-- What stands in a list that was folded. Assumes nothing.
use Rattle.std.proofs.Common.{◌≡◌, ℕ, zero, suc, ◌+◌, List, ◌∷◌, ◌++◌, map, length, take, replicate, sym, refl, ap, ◌∙◌, subst, ap₂}
use Rattle.std.proofs.lemmas.List.{take_at, length-map}
use Rattle.kind.specs.Kinds.{Meaning, Lawful, elements, unit_entry, AllElements}
use Rattle.kind.specs.Sides.{fold_by, fold_pair, fold_of}
use Rattle.kind.specs.declared.side.Side.{Side}
use Rattle.kind.proofs.Foldings.{length-fold}
use Rattle.kind.proofs.Listed.{length-elements, element_entry, elements-entries, all_entries, all_append}

-- the fold stands in front
pub fold_front : {A : Type 0} (f : A → A → A) (m : ℕ) (ys a us : List A) → length ys ≡ m + m → a ≡ fold_by f ys ++ us → take m a ≡ fold_by f ys
fold_front f m ys a us two is = ap (take m) is ∙ take_at (fold_by f ys) us m (length-fold f m ys two)

module _ {M E : Type 0} (s : Meaning M E) (laws : Lawful s) where
  all_units : (n : ℕ) → AllElements s (replicate n (unit_entry s))
  all_units zero = refl
  all_units (suc n) = ap₂ ◌∷◌ (ap s.entry (element_entry s laws s.group.unit)) (all_units n)

  -- the elements of a list that was folded and cleared behind
  module _ (side : Side) (c m n : ℕ) (ys a : List E) (is : a ≡ map s.entry (fold_of s side c (elements s ys)) ++ replicate n (unit_entry s)) where
    pub fold_all : AllElements s a
    fold_all = subst (AllElements s) (sym is) (all_append s _ _ (all_entries s laws (fold_of s side c (elements s ys))) (all_units n))

    pub fold-elements : length ys ≡ m + m → elements s (take m a) ≡ fold_of s side c (elements s ys)
    fold-elements two =
        let fs = fold_of s side c (elements s ys) in
        let long : length fs ≡ m = length-fold (fold_pair s side c) m (elements s ys) (length-elements s ys ∙ two) in
        ap (λ l. elements s (take m l)) is
        ∙ ap (elements s) (take_at (map s.entry fs) (replicate n (unit_entry s)) m (length-map fs s.entry ∙ long))
        ∙ elements-entries s laws fs
