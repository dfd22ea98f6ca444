use Rattle.text.proofs.words.WordsIterator.TheImpl.Goals as goal

pub next-tells : goal.next-tells
next-tells g x c = record { steps = (c.ensures.word, c.ensures.left); goes = c.ensures.goes }
