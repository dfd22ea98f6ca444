use Rattle.writer.proofs.Laid.{next}
use Rattle.writer.proofs.laying.put_round.Goals as goal

pub returns : goal.returns
returns g c =
    next (next (next (next c.put_element-l2.ensures c.put_element-r1.ensures) c.put_element-r2.ensures) c.put_element-challenge.ensures)
    c.put_number.ensures
