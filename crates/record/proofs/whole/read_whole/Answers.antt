use Rattle.std.proofs.Common.{◌≡◌, ℕ, List, Ok, sym, ap, ◌∙◌}
use Rattle.kind.specs.Faults.{and_then}
use Rattle.record.specs.Contents.{shape_in, body_in}
use Rattle.record.specs.Folded.{reckoned}
use Rattle.record.specs.Parts.{rounds_in}
use Rattle.kind.proofs.Steps.{passed_on}
use Rattle.record.proofs.Reckoning.{whole_gathered}
use Rattle.record.proofs.whole.read_whole.Goals as goal

pub returns : goal.returns
returns g c =
    let s = g.K.Kind.meaning in
    let w = g.K.WrittenKind.writing in
    let bs : List ℕ = c.args.bytes.now in
    let shape : shape_in w.width bs ≡ Ok _ = sym c.check_shape.ensures ∙ c.in_ok-check_shape.was in
    let is = (passed_on _ (rounds_in bs) _ shape).1 in
    c.gather.ensures ∙ whole_gathered s w bs
    ∙ sym (ap (λ r. and_then (and_then r (λ k. body_in w s.order k bs)) (λ x. Ok (reckoned s x))) is)
