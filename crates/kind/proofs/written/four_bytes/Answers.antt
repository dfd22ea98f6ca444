use Rattle.std.proofs.Common.{◌++◌, replicate, ap, ◌∙◌}
use Rattle.kind.proofs.written.four_bytes.Goals as goal

pub returns : goal.returns
returns c = ap (λ xs. xs ++ replicate 60 0) (c.copy_from_slice.ensures.after ∙ c.to_be_bytes.ensures)
