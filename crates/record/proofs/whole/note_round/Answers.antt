use Rattle.std.proofs.Common.{sym, ap, ◌∙◌}
use Rattle.method.specs.Tables.{listed}
use Rattle.method.proofs.Sized.{table_takes}
use Rattle.record.proofs.Passing.{round_inside}
use Rattle.record.proofs.whole.note_round.Goals as goal

-- a round's challenge is one for a table, which has room
pub returns-in_err-table : goal.returns-in_err-table
returns-in_err-table g c =
    let x = c.in_ok-round.round in
    let fine = round_inside g.K.WrittenKind.writing g.K.Kind.meaning.order g.K.Kind.laws.order_high c.args.place c.args.bytes.now x (sym c.read_round.ensures ∙ c.in_ok-round.was) in
    let e = sym (ap listed c.in_err-table.was) ∙ c.with.ensures ∙ table_takes c.args.noted.table x.challenge c.requires.room fine in
    cc
