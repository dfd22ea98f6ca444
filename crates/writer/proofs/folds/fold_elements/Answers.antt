use Rattle.std.proofs.Common.{◌≡◌, ℕ, ◌+◌, ◌/◌, map, length, take, sym, refl, ap, ◌∙◌, arith}
use Rattle.std.proofs.lemmas.List.{take_all, take-map}
use Rattle.kind.specs.Kinds.{elements, unit_entry}
use Rattle.kind.specs.Sides.{fold_of}
use Rattle.kind.proofs.Listed.{length-elements}
use Rattle.writer.proofs.ListParts.{cleared_half}
use Rattle.writer.proofs.folds.fold_elements.Goals as goal

pub returns : goal.returns
returns g c =
    let s = g.K.Kind.meaning in
    let xs = c.args.xs.now in
    let n : ℕ = length xs in
    let m : ℕ = n / 2 in
    let ws = c.fold_within.new.work in
    let even : m + m ≡ n = c.requires.even in
    let all : take (m + m) (elements s xs) ≡ elements s xs = take_all (m + m) (elements s xs) (omega (arith, length-elements s xs)) in
    let front : take m ws ≡ map s.entry (fold_of s c.args.side c.args.c (elements s xs)) =
    ap (take m) (sym c.fold_within.ensures.checked) ∙ take-map s.entry m (elements s ws)
    ∙ ap (map s.entry) (c.fold_within.ensures.folded ∙ ap (fold_of s c.args.side c.args.c) all) in
    cleared_half (length ws) m ws _ c.clear_entries.new.entries (unit_entry s) refl (omega arith) front c.clear_entries.ensures
