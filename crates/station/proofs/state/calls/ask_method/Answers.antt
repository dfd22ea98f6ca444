use Rattle.std.proofs.Common.{ℕ, ◌^◌, ap, ◌∙◌}
use Rattle.kind.specs.Kinds.{unit_entry}
use Rattle.method.specs.Meaning.{cleared}
use Rattle.ledger.specs.Ledger.{case_answer}
use Rattle.station.proofs.state.calls.ask_method.Goals as goal

pub returns : goal.returns
unfolding case_answer
returns g c =
    let told = c.verdict.ensures in
    let counted = c.args.case.counted in
    record {
      answer = told.answer;
      elements = told.elements ∙ ap (λ (n : ℕ). cleared c.verdict.result (2 ^ n) (unit_entry g.K.Kind.meaning) c.args.«work_elements».now) counted;
      numbers = told.numbers ∙ ap (λ (n : ℕ). cleared c.verdict.result (2 ^ n) 0 c.args.«work_numbers».now) counted;
    }
