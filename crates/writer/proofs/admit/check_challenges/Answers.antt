use Rattle.std.proofs.Common.{sym, ◌∙◌}
use Rattle.kind.proofs.Scans.{bad_at, none_at}
use Rattle.writer.specs.Refusals.{no_challenge}
use Rattle.writer.specs.declared.fault.WriterFault.TheVariants.{NotAChallenge}
use Rattle.writer.proofs.admit.check_challenges.Goals as goal

pub returns-in-Some : goal.returns-in-Some
returns-in-Some g c = bad_at (no_challenge g.K.Kind.meaning) NotAChallenge c.args.cs.now c.in-Some.i (sym c.first_no_challenge.ensures ∙ c.in-Some.is)

pub returns-in-None : goal.returns-in-None
returns-in-None g c = none_at (no_challenge g.K.Kind.meaning) NotAChallenge c.args.cs.now (sym c.first_no_challenge.ensures ∙ c.in-None.is)
