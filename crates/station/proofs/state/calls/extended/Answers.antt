use Rattle.std.proofs.Common.{[], ◌∷◌, length, ap, ◌∙◌, length-append}
use Rattle.method.specs.Tables.{challenges}
use Rattle.station.proofs.Takes.{taken, longer}
use Rattle.station.proofs.state.calls.extended.Goals as goal

pub unwrap-requires : goal.unwrap-requires
unwrap-requires c = taken c.args.table c.args.c c.requires.room c.requires.fine _ c.with.ensures

pub returns : goal.returns
returns c =
    let is = longer c.args.table c.args.c c.requires.room c.requires.fine _ _ c.with.ensures c.unwrap.ensures in
    record { value = is; long = ap length is ∙ length-append (challenges c.args.table) (c.args.c ∷ []) }
