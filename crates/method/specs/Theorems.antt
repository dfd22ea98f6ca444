-- What the definitions of this layer come to. Assumes nothing.
use Rattle.std.specs.Prelude.{◌≡◌, ℕ, true, List}
use Rattle.protocol.specs.Halving.{FoldedPasses}
use Rattle.kind.specs.Kinds.{Meaning, elements}
use Rattle.kind.specs.declared.pair.Pair.{Pair}
use Rattle.method.specs.Meaning.{reduced, verdict_of}
use Rattle.method.specs.Tables.{challenges}
use Rattle.method.specs.declared.table.ChallengeTable.{ChallengeTable}

-- The verdict is a pass exactly when the last pair meets both published equations for the folded lists.
abbrev pub VerdictIsPublished : {M E : Type 0} → Meaning M E → Type 0
VerdictIsPublished {M} {E} s =
    (cs : List ℕ) (z : Pair M) (gs hs : List E) (k : M) (a b : ℕ)
    → (verdict_of s cs z gs hs k a b ≡ true → FoldedPasses s.order s.group k (reduced s cs) (elements s gs) (elements s hs) a b z.a z.b)
    × (FoldedPasses s.order s.group k (reduced s cs) (elements s gs) (elements s hs) a b z.a z.b → verdict_of s cs z gs hs k a b ≡ true)

-- A table is known by its challenges: tables with the same challenges have the same entries and the same length.
abbrev pub TableDetermined : Type 0
TableDetermined = (t u : ChallengeTable) → challenges t ≡ challenges u → (t.entries ≡ u.entries) × (t.len ≡ u.len)
