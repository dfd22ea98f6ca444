use Rattle.std.proofs.Common.{◌≡◌, length}
use Rattle.ledger.specs.Ledger.{final}
use Rattle.ledger.specs.declared.parts.Answer.TheVariants.{Withdrawn}
use Rattle.station.specs.View.{ledger_of}
use Rattle.writer.specs.Answers.{lists_of}
use Rattle.settle.specs.Cases.{calls_after, last_answer}
use Rattle.settle.proofs.Underway.{Underway}
use Rattle.settle.proofs.play.play_rounds.Given as goal

abbrev pub invariant-loop-i : goal.invariant-loop-i
invariant-loop-i g l =
    let s = g.K.Kind.meaning in
    let x = lists_of s l.bases.g.now l.bases.h.now l.initial.fold_l l.initial.fold_r in
    let calls = calls_after s l.token l.bases.g.now l.bases.h.now l.bases.key l.initial.fold_l l.initial.fold_r l.cs in
    let begin = ledger_of l.initial.station in
    Underway s l.bases.key l.token (length l.bases.g.now) x l.cs l.i l.m l.fold_g l.fold_h l.fold_l l.fold_r (ledger_of l.station)
    (final s begin calls) (last_answer s begin Withdrawn calls)
    × (l.station.method ≡ l.initial.station.method)
