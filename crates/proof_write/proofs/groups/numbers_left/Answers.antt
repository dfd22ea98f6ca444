use Rattle.text.specs.Words.{line_left}
use Rattle.proof_write.specs.Groups.{numbers_of, words_left}
use Rattle.proof_write.proofs.Taken.{read_more, read_bad}
use Rattle.proof_write.proofs.groups.numbers_left.Goals as goal

pub returns-in_default : goal.returns-in_default
returns-in_default c =
    read_bad (numbers_of (words_left (line_left c.args.words))) (line_left c.loop-word.word-iterator) (line_left c.next.new.self) _ _
    c.in-Some.ensures.word c.in-Some.ensures.left c.in_default.ensures c.loop-word.invariant

pub loop-word-preserved : goal.loop-word-preserved
loop-word-preserved c =
    read_more (numbers_of (words_left (line_left c.args.words))) (line_left c.loop-word.word-iterator) (line_left c.next.new.self) _ _ _ _
    c.in-Some.ensures.word c.in-Some.ensures.left c.in-Some-number.ensures c.in_ok-push.ensures.items
    c.loop-word.invariant
