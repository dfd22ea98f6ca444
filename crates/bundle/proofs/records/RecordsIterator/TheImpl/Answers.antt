use Rattle.bundle.proofs.records.RecordsIterator.TheImpl.Goals as goal

pub next-tells : goal.next-tells
next-tells g x c = record { steps = (c.ensures.bodies, c.ensures.counted); goes = c.ensures.goes }
