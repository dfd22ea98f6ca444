use Rattle.text.proofs.lines.LinesIterator.TheImpl.Goals as goal

pub next-tells : goal.next-tells
next-tells g x c = record { steps = (c.ensures.line, c.ensures.left); goes = c.ensures.goes }
