use Rattle.std.proofs.Common.{sym, ◌∙◌, arith}
use Rattle.writer.proofs.Admits.{fold_ready}
use Rattle.writer.proofs.calls.fold.Goals as goal

pub fold_elements-requires : goal.fold_elements-requires
fold_elements-requires g c =
    let a = fold_ready g.K.Kind.meaning g.K.Kind.laws c.args.g.now c.args.h.now c.args.l.now c.args.r.now c.args.c
    (sym c.admit_fold.ensures ∙ c.in_ok-admit_fold.was) in
    record { checked = a.0.all_g; even = a.1 }

pub fold_elements-requires-2 : goal.fold_elements-requires-2
fold_elements-requires-2 g c =
    let a = fold_ready g.K.Kind.meaning g.K.Kind.laws c.args.g.now c.args.h.now c.args.l.now c.args.r.now c.args.c
    (sym c.admit_fold.ensures ∙ c.in_ok-admit_fold.was) in
    record { checked = a.0.all_h; even = omega (arith, a.1, a.0.long_h) }

pub fold_scalars-requires : goal.fold_scalars-requires
fold_scalars-requires g c =
    let a = fold_ready g.K.Kind.meaning g.K.Kind.laws c.args.g.now c.args.h.now c.args.l.now c.args.r.now c.args.c
    (sym c.admit_fold.ensures ∙ c.in_ok-admit_fold.was) in
    omega (arith, a.1, a.0.long_l)

pub fold_scalars-requires-2 : goal.fold_scalars-requires-2
fold_scalars-requires-2 g c =
    let a = fold_ready g.K.Kind.meaning g.K.Kind.laws c.args.g.now c.args.h.now c.args.l.now c.args.r.now c.args.c
    (sym c.admit_fold.ensures ∙ c.in_ok-admit_fold.was) in
    omega (arith, a.1, a.0.long_r)
