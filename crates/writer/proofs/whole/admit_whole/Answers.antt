use Rattle.std.proofs.Common.{length, sym, ◌∙◌, arith}
use Rattle.writer.proofs.Unrefused.{shaped}
use Rattle.writer.proofs.whole.admit_whole.Goals as goal

pub check_rooms-requires : goal.check_rooms-requires
check_rooms-requires g c =
    let a = shaped (length c.args.g.now) (length c.args.h.now) (length c.args.l.now) (length c.args.r.now) (length c.args.cs.now)
    (sym c.check_shape.ensures ∙ c.in_ok-check_shape.was) in
    record { wide = omega (arith, c.width.ensures, g.met.K.WrittenKind.writes.few); few = a.0; size = a.2 }
