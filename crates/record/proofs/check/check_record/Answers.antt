use Rattle.std.proofs.Common.{◌≡◌, ℕ, ◌^◌, List, length, Ok, sym, ap, ◌∙◌}
use Rattle.kind.specs.Bytes.{Writing}
use Rattle.kind.specs.Kinds.{Meaning, Lawful, unit_entry}
use Rattle.kind.proofs.Steps.{both_went}
use Rattle.method.specs.Meaning.{cleared}
use Rattle.record.specs.Contents.{contents_in}
use Rattle.record.specs.Folded.{Reckoned, reckoned, seen_in, reckoned_in}
use Rattle.record.specs.Parts.{rounds_in}
use Rattle.record.proofs.Passing.{contents_rounds}
use Rattle.record.proofs.check.check_record.Goals as goal

-- what a record comes to has a challenge for each of its rounds
rounds_are : {M E : Type 0} (s : Meaning M E) (laws : Lawful s) (w : Writing M) (bs : List ℕ) (r : Reckoned M)
    → reckoned_in s w bs ≡ Ok r → length r.challenges ≡ rounds_in bs
rounds_are s laws w bs r e =
    let p = both_went (contents_in w s.order bs) _ r e in
    let h : Ok (reckoned s p.0) ≡ Ok r = p.2 in
    let same : reckoned s p.0 ≡ r = cc in
    ap (λ (y : Reckoned _). length y.challenges) (sym same) ∙ contents_rounds w s.order laws.order_high bs p.0 p.1

pub returns-clause-elements : goal.returns-clause-elements
returns-clause-elements g c =
    let s = g.K.Kind.meaning in
    let long = rounds_are s g.K.Kind.laws g.K.WrittenKind.writing c.args.bytes.now _ (sym c.read_whole.ensures ∙ ap seen_in c.in_ok-noted.was) in
    c.judge.ensures.elements ∙ ap (λ (n : ℕ). cleared c.judge.result (2 ^ n) (unit_entry s) c.args.work_elements.now) long

pub returns-clause-numbers : goal.returns-clause-numbers
returns-clause-numbers g c =
    let s = g.K.Kind.meaning in
    let long = rounds_are s g.K.Kind.laws g.K.WrittenKind.writing c.args.bytes.now _ (sym c.read_whole.ensures ∙ ap seen_in c.in_ok-noted.was) in
    c.judge.ensures.numbers ∙ ap (λ (n : ℕ). cleared c.judge.result (2 ^ n) 0 c.args.work_numbers.now) long
