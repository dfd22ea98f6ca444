use Rattle.std.proofs.Common.{not, is_some, sym, ◌∙◌}
use Rattle.kind.specs.declared.fault.KindFault.TheVariants.{NotAnElement}
use Rattle.kind.proofs.Scans.{bad_at, none_at}
use Rattle.kind.proofs.entries.check_entries.Goals as goal

pub returns-in-Some : goal.returns-in-Some
returns-in-Some g c =
    bad_at (λ e. not (is_some (g.K.Kind.meaning.element e))) NotAnElement c.args.entries.now c.in-Some.i (sym c.first_no_element.ensures ∙ c.in-Some.is)

pub returns-in-None : goal.returns-in-None
returns-in-None g c =
    none_at (λ e. not (is_some (g.K.Kind.meaning.element e))) NotAnElement c.args.entries.now (sym c.first_no_element.ensures ∙ c.in-None.is)
