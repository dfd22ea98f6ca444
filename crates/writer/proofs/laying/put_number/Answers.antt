use Rattle.std.proofs.Common.{refl, ◌∙◌}
use Rattle.kind.specs.Bytes.{bytes_of}
use Rattle.writer.proofs.Laid.{filled}
use Rattle.writer.proofs.laying.put_number.Goals as goal

pub returns : goal.returns
returns c =
    filled c.args.at 4 c.args.out.now c.copy_from_slice.new.self (bytes_of c.args.x) (c.copy_from_slice.ensures.after ∙ c.to_be_bytes.ensures) refl c.requires
