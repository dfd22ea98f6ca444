use Rattle.std.proofs.Common.{sym, ◌∙◌}
use Rattle.kind.proofs.Listed.{all_checked}
use Rattle.kind.proofs.checked.Checked.new.Goals as goal

pub invariant_of-result : goal.invariant_of-result
invariant_of-result g c = record { checked = all_checked g.K.Kind.meaning g.K.Kind.laws c.args.entries.now (sym c.check_entries.ensures ∙ c.in_ok-check_entries.was) }
