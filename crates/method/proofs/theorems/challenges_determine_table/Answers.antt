use Rattle.std.proofs.Common.{◌≡◌, ℕ, ◌-◌, ◌++◌, length, replicate, sym, ap, ◌∙◌, ap₂}
use Rattle.std.proofs.lemmas.List.{take-append-drop}
use Rattle.method.proofs.Sized.{counted}
use Rattle.method.proofs.theorems.challenges_determine_table.Goals as goal

pub returns : goal.returns
returns c = λ t u e.
    let n : t.len ≡ u.len = sym (counted t) ∙ ap length e ∙ counted u in (
      sym (take-append-drop t.len t.entries)
          ∙ ap₂ ◌++◌ e (t.ok.3 ∙ ap (λ (k : ℕ). replicate (8 - k) 0) n ∙ sym u.ok.3)
          ∙ take-append-drop u.len u.entries,
      n,
    )
