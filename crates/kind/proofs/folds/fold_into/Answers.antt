use Rattle.std.proofs.Common.{◌≡◌, ℕ, ◌+◌, [], ◌∷◌, ◌++◌, map, length, sym, ap, ◌∙◌, ap₂, arith}
use Rattle.std.proofs.lemmas.List.{take_more_set, take_all, map_more}
use Rattle.kind.specs.Kinds.{elements}
use Rattle.kind.specs.Sides.{fold_pair, fold_of}
use Rattle.kind.proofs.Listed.{length-elements}
use Rattle.kind.proofs.Foldings.{length-fold, fold_is}
use Rattle.kind.proofs.folds.fold_into.Goals as goal

pub loop-i-preserved : goal.loop-i-preserved
loop-i-preserved g c =
    let s = g.K.Kind.meaning in
    let es = c.args.src.now.entries.now in
    let xs = elements s es in
    let f = fold_pair s c.args.side c.args.c in
    let fs = fold_of s c.args.side c.args.c xs in
    let m : ℕ = length c.args.out.now in
    let i : ℕ = c.loop-i.i in
    let two : length xs ≡ m + m = length-elements s es ∙ sym c.requires in
    let n = length-fold f m xs two in
    let v = fold_is f m i xs c.at.result c.at-in-loop-i.result c.fold_pair.result s.group.unit s.group.unit
    two (omega arith) c.at.ensures c.at-in-loop-i.ensures c.fold_pair.ensures in
    take_more_set c.loop-i.out i c.to_entry.result (omega arith)
    ∙ ap₂ (λ l d. l ++ (d ∷ [])) c.loop-i.invariant (c.to_entry.ensures ∙ ap s.entry v)
    ∙ sym (map_more s.entry fs i s.group.unit (omega arith))

pub returns : goal.returns
returns g c =
    let s = g.K.Kind.meaning in
    let es = c.args.src.now.entries.now in
    let xs = elements s es in
    let m : ℕ = length c.args.out.now in
    let i : ℕ = c.loop-i.i in
    let two : length xs ≡ m + m = length-elements s es ∙ sym c.requires in
    let n = length-fold (fold_pair s c.args.side c.args.c) m xs two in
    sym (take_all i c.loop-i.out (omega arith)) ∙ c.loop-i.invariant
    ∙ ap (map s.entry) (take_all i (fold_of s c.args.side c.args.c xs) (omega arith))
