use Rattle.writer.proofs.Laid.{placed}
use Rattle.writer.proofs.laying.put_byte.Goals as goal

pub returns : goal.returns
returns c = placed c.args.at c.args.out.now c.args.b c.requires
