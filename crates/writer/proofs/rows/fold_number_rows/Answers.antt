use Rattle.std.proofs.Common.{◌≡◌, ℕ, ◌+◌, List, length, take, sym, ap, ◌∙◌, arith}
use Rattle.std.proofs.lemmas.List.{length-take-le, take-append-le}
use Rattle.kind.specs.declared.side.Side.TheVariants.{OfG, OfH}
use Rattle.writer.specs.Folds.{fold_scalars, folds_scalars}
use Rattle.writer.proofs.Folded.{fold_front}
use Rattle.writer.proofs.TwoRows.{front_is, back_is}
use Rattle.writer.proofs.rows.fold_number_rows.Goals as goal

pub returns : goal.returns
returns g c =
    let q : ℕ = g.K.Kind.meaning.order in
    let n : ℕ = c.args.n in
    let m : ℕ = c.args.m in
    let j : ℕ = m + m in
    let ch : ℕ = c.args.c in
    let split = c.split_at_mut-l.ensures in
    let first : List ℕ = c.split_at_mut-l.result.0.now in
    let second : List ℕ = c.split_at_mut-l.result.1.now in
    let a : List ℕ = c.fold_scalars.new.xs in
    let b : List ℕ = c.fold_scalars-2.new.xs in
    let long = c.requires.long in
    let rows = c.requires.rows in
    let la = split.front_len in
    let lb : length second ≡ n = omega (arith, split.back_len) in
    let ya : length (take j first) ≡ j = length-take-le j first (omega (arith, la)) in
    let yb : length (take j second) ≡ j = length-take-le j second (omega arith) in
    let na : length a ≡ j = omega arith in
    let nb : length b ≡ j = omega arith in
    record {
      l = front_is n j first second a b la rows na m (omega arith)
          ∙ fold_front (fold_scalars q OfG ch) m (take j first) a _ ya c.fold_scalars.ensures
          ∙ ap (folds_scalars q OfG ch) (sym (take-append-le j first second (omega arith)) ∙ ap (take j) (sym split.value));
      r = back_is n j first second a b la rows na m (omega arith)
          ∙ fold_front (fold_scalars q OfH ch) m (take j second) b _ yb c.fold_scalars-2.ensures
          ∙ ap (λ x. folds_scalars q OfH ch (take j x)) split.back;
    }
