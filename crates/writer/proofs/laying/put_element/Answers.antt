use Rattle.std.proofs.Common.{ℕ, ◌-◌, List, take, replicate, sym, ◌∙◌, ap₂, arith}
use Rattle.std.proofs.lemmas.List.{take_at}
use Rattle.writer.proofs.Laid.{filled}
use Rattle.writer.proofs.laying.put_element.Goals as goal

pub returns : goal.returns
returns g c =
    let w = g.K.WrittenKind.writing in
    let bytes : List ℕ = w.bytes c.args.x in
    let long = g.met.K.WrittenKind.writes.filled c.args.x in
    let is = c.width-w.ensures in
    let cut_off = c.copy_from_slice.ensures.after ∙ c.cut.ensures.front ∙ ap₂ take is c.encode-all.ensures
    ∙ take_at bytes (replicate (64 - w.width) 0) w.width long in
    filled c.args.at c.width-w.result c.args.out.now c.copy_from_slice.new.self bytes
    cut_off (long ∙ sym is) (omega (arith, c.requires, is))
