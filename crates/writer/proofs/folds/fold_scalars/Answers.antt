use Rattle.std.proofs.Common.{◌≡◌, ℕ, ◌+◌, ◌-◌, ◌/◌, List, length, take, drop, replicate, refl, rules, ap, ◌∙◌, arith}
use Rattle.std.proofs.lemmas.List.{take_all}
use Rattle.writer.specs.Folds.{folds_scalars}
use Rattle.writer.proofs.ListParts.{cleared_half}
use Rattle.writer.proofs.folds.fold_scalars.Goals as goal

pub returns : goal.returns
returns g c =
    let q : ℕ = g.K.Kind.meaning.order in
    let xs : List ℕ = c.args.xs.now in
    let n : ℕ = length xs in
    let m : ℕ = n / 2 in
    let even : m + m ≡ n = c.requires in
    let all : take (m + m) xs ≡ xs = take_all (m + m) xs (omega arith) in
    let ws : List ℕ = c.fold_scalars_within.new.xs in
    let zeros : c.fill.new.self ≡ replicate (length (take (length ws - m) (drop m ws))) 0 = search rules in
    cleared_half (length ws) m ws _ c.fill.new.self 0 refl (omega arith) (c.fold_scalars_within.ensures ∙ ap (folds_scalars q c.args.side c.args.c) all) zeros
