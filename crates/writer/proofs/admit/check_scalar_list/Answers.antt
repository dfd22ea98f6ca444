use Rattle.std.proofs.Common.{◌≡◌, leb, rules, ap, ◌∙◌}
use Rattle.kind.specs.Faults.{kind_refusal}
use Rattle.kind.specs.declared.fault.KindFault.{KindFault}
use Rattle.kind.specs.declared.fault.KindFault.TheVariants.{NotAScalar}
use Rattle.writer.specs.declared.fault.WriterFault.{WriterFault}
use Rattle.writer.specs.declared.fault.WriterFault.TheVariants as writer
use Rattle.writer.proofs.Retold.{retold, first_retold}
use Rattle.writer.proofs.admit.check_scalar_list.Goals as goal

abbrev own : KindFault → WriterFault
own fault = writer.NotAScalar (kind_refusal fault).place

pub returns : goal.returns
returns g c =
    let told : c.map_err.result ≡ retold own c.check_scalars.result = search rules in
    told ∙ ap (retold own) c.check_scalars.ensures ∙ first_retold own (leb g.K.Kind.meaning.order) NotAScalar 0 c.args.xs.now
