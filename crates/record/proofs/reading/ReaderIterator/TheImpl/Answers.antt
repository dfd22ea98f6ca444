use Rattle.record.proofs.reading.ReaderIterator.TheImpl.Goals as goal

pub next-tells : goal.next-tells
next-tells g x c = record { steps = c.ensures.parts; goes = c.ensures.goes }
