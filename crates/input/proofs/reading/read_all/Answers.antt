use Rattle.std.proofs.Common.{vec_items, ap, rules, arith}
use Rattle.input.proofs.Inputs.{read_is}
use Rattle.input.proofs.reading.read_all.Goals as goal

pub returns-clause-bytes : goal.returns-clause-bytes
returns-clause-bytes g c =
    read_is vec_items c.args.limit c.take.result.limit c.len.result _ _ c.new-all.result.items c.read_to_end.new.buf _
    (omega arith) (search rules) (ap g.R.Read.remaining c.take.ensures.inner) c.new-all.ensures.items
    c.then_some.ensures c.in_ok-read_to_end.ensures.bytes
