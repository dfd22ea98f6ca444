use Rattle.std.proofs.Common.{sym, ◌∙◌}
use Rattle.kind.proofs.Scans.{bad_at, none_at}
use Rattle.method.specs.Entries.{outside}
use Rattle.method.specs.declared.fault.MethodFault.TheVariants.{NotAChallenge}
use Rattle.method.proofs.tables.check_entries.Goals as goal

pub returns-in-Some : goal.returns-in-Some
returns-in-Some c = bad_at outside NotAChallenge c.args.entries.now c.in-Some.i (sym c.first_outside.ensures ∙ c.in-Some.is)

pub returns-in-None : goal.returns-in-None
returns-in-None c = none_at outside NotAChallenge c.args.entries.now (sym c.first_outside.ensures ∙ c.in-None.is)
