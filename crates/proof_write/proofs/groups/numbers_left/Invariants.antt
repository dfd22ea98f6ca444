use Rattle.std.proofs.Common.{◌≡◌, vec_items}
use Rattle.text.specs.Words.{line_left, line_size}
use Rattle.proof_write.specs.Groups.{words_left, numbers_of}
use Rattle.proof_write.proofs.Taken.{behind_read}
use Rattle.proof_write.proofs.groups.numbers_left.Given as goal

abbrev pub invariant-loop-word : goal.invariant-loop-word
invariant-loop-word l =
    behind_read (vec_items l.numbers) (numbers_of (words_left (line_left l.word-iterator))) ≡ numbers_of (words_left (line_left l.initial.words))

abbrev pub decreases-loop-word : goal.decreases-loop-word
decreases-loop-word l = line_size (line_left l.word-iterator)
