use Rattle.std.proofs.Common.{leb, sym, ◌∙◌}
use Rattle.kind.specs.declared.fault.KindFault.TheVariants.{NotAScalar}
use Rattle.kind.proofs.Scans.{bad_at, none_at}
use Rattle.kind.proofs.products.check_scalars.Goals as goal

pub returns-in-Some : goal.returns-in-Some
returns-in-Some g c = bad_at (leb g.K.Kind.meaning.order) NotAScalar c.args.scalars.now c.in-Some.i (sym c.first_no_scalar.ensures ∙ c.in-Some.is)

pub returns-in-None : goal.returns-in-None
returns-in-None g c = none_at (leb g.K.Kind.meaning.order) NotAScalar c.args.scalars.now (sym c.first_no_scalar.ensures ∙ c.in-None.is)
