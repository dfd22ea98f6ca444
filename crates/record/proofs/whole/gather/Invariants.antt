use Rattle.std.proofs.Common.{◌≡◌, ◌+◌, ◌≤◌, length}
use Rattle.method.specs.Tables.{challenges}
use Rattle.record.specs.Folded.{seen}
use Rattle.record.specs.Noting.{gathered, nothing, rounds_only, size_of_all}
use Rattle.record.specs.Parts.{left, pieces_in}
use Rattle.record.proofs.whole.gather.Given as goal

-- what is left decides; the rounds left have room, and the places left are small
abbrev pub invariant-loop-part : goal.invariant-loop-part
invariant-loop-part g l =
    let s = g.K.Kind.meaning in
    let w = g.K.WrittenKind.writing in
    (gathered s w l.place (seen l.noted) (left l.reader) ≡ gathered s w 1 (nothing s) (pieces_in w.width l.bytes))
    × (length (challenges l.noted.table) + rounds_only (left l.reader) ≤ 8)
    × (l.place + size_of_all w.width (left l.reader) ≤ 60000)

abbrev pub decreases-loop-part : goal.decreases-loop-part
decreases-loop-part g l = length (left l.reader)
