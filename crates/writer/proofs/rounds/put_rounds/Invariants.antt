use Rattle.std.proofs.Common.{◌+◌, length}
use Rattle.writer.specs.Laying.{laid}
use Rattle.writer.specs.Records.{rest_of}
use Rattle.writer.specs.Rows.{lists_in}
use Rattle.writer.proofs.Underway.{Underway}
use Rattle.writer.proofs.rounds.put_rounds.Given as goal

abbrev pub invariant-loop-c : goal.invariant-loop-c
invariant-loop-c g l =
    let s = g.K.Kind.meaning in
    let w = g.K.WrittenKind.writing in
    let all = rest_of s w l.key l.cs (lists_in s l.n l.n l.initial.elements l.initial.numbers) in
    Underway s w l.key l.cs l.n l.c-index l.m l.at l.elements l.numbers l.out (l.start + length all) (laid l.start all l.initial.out)
