-- One turn of the product by both weights. Assumes nothing.
use Rattle.std.proofs.Common.{◌≡◌, ℕ, List, [], ◌∷◌, reverse, sym, ap, ◌∙◌, ap₂}
use Rattle.std.specs.List.{push}
use Rattle.std.proofs.lemmas.List.{reverse-append}
use lib.Lanes.{zip2}
use Rattle.protocol.specs.Group.{power, product}
use Rattle.kind.specs.Kinds.{Meaning, Lawful, elements}
use Rattle.kind.proofs.Listed.{known}

module _ {M E : Type 0} (s : Meaning M E) (laws : Lawful s) (f : ℕ → ℕ → ℕ) where
  -- the next element x, to the exponent f u v, is joined
  pub weigh_more : (es rest : List E) (e : E) (bs back : List ℕ) (u : ℕ) (hs ahead : List ℕ) (v : ℕ) (x total p y : M)
      → es ≡ e ∷ rest → bs ≡ push back u → hs ≡ v ∷ ahead → s.entry x ≡ e → p ≡ power s.group x (f u v) → y ≡ s.group.join total p
      → s.group.join y (product s.group (elements s rest) (zip2 f (reverse back) ahead))
      ≡ s.group.join total (product s.group (elements s es) (zip2 f (reverse bs) hs))
  weigh_more es rest e bs back u hs ahead v x total p y he hb hh hx hp hy =
      let left = product s.group (elements s rest) (zip2 f (reverse back) ahead) in
      let whole : product s.group (elements s es) (zip2 f (reverse bs) hs) ≡ s.group.join p left =
      ap₂ (λ l r. product s.group (elements s l) (zip2 f r hs)) he (ap reverse hb ∙ reverse-append back (u ∷ []))
      ∙ ap (λ l. product s.group (elements s (e ∷ rest)) (zip2 f (u ∷ reverse back) l)) hh
      ∙ ap (λ d. s.group.join d left) (ap (λ d. power s.group d (f u v)) (sym (known s laws e x hx)) ∙ sym hp) in
      ap (λ d. s.group.join d left) hy ∙ laws.group.assoc total p left ∙ ap (s.group.join total) (sym whole)
