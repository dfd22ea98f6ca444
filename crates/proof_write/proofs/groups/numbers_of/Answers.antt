use Rattle.std.proofs.Common.{◌≡◌, None, Some, sym, ap, ◌∙◌}
use Rattle.std.proofs.lemmas.Result.{IfOk-weaker}
use Rattle.text.specs.Words.{line_left, next_word, behind_word}
use Rattle.proof_write.proofs.Taken.{named, unnamed}
use Rattle.proof_write.proofs.groups.numbers_of.Goals.{in_default-via-in-Some+else-is, in_default-via-in_default}
use Rattle.proof_write.proofs.groups.numbers_of.Goals as goal

pub returns-in-Some : goal.returns-in-Some
returns-in-Some c =
    let e =
    named c.args.line.now c.args.name.now _ (line_left c.next.new.self) (c.in-Some.ensures.word ∙ ap next_word c.from-words.ensures)
    (c.in-Some.ensures.left ∙ ap behind_word c.from-words.ensures) (sym c.if-is.ensures) in
    IfOk-weaker c.numbers_left.result _ _ (λ o p. p ∙ e) c.numbers_left.ensures

pub returns-in_default : goal.returns-in_default
returns-in_default c =
    elim c.in_default.branch [
      | in_default-via-in-Some+else-is w ↦
          unnamed c.args.line.now c.args.name.now _ (line_left c.next.new.self) (w.in-Some.ensures.word ∙ ap next_word c.from-words.ensures)
          (w.in-Some.ensures.left ∙ ap behind_word c.from-words.ensures) (sym w.if-is.ensures)
      | in_default-via-in_default w ↦
          let none : None ≡ next_word (Some c.args.line.now) = w.in_default.ensures.word ∙ ap next_word c.from-words.ensures in cc
    ]
