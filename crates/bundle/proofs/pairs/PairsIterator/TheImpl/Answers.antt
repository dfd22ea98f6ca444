use Rattle.bundle.proofs.pairs.PairsIterator.TheImpl.Goals as goal

pub next-tells : goal.next-tells
next-tells g x c = record { steps = (c.ensures.pairs, c.ensures.counted); goes = c.ensures.goes }
