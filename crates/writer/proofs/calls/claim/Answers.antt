use Rattle.std.proofs.Common.{Ok, length, sym, ap, ◌∙◌}
use Rattle.kind.specs.Faults.{and_then}
use Rattle.writer.proofs.Admits.{claim_ready}
use Rattle.writer.proofs.calls.claim.Goals as goal

pub join_powers-z1-requires : goal.join_powers-z1-requires
join_powers-z1-requires g c =
    let a = claim_ready g.K.Kind.meaning g.K.Kind.laws c.args.bases.now.g.now c.args.bases.now.h.now c.args.l.now c.args.r.now
    (sym c.admit_claim.ensures.refused ∙ ap (λ r. and_then r (λ _. Ok tt)) c.in_ok-g.was) in
    a.long_l ∙ sym (ap length c.in_ok-g.ensures.g)

pub commit_second-z2-requires : goal.commit_second-z2-requires
commit_second-z2-requires g c =
    let a = claim_ready g.K.Kind.meaning g.K.Kind.laws c.args.bases.now.g.now c.args.bases.now.h.now c.args.l.now c.args.r.now
    (sym c.admit_claim.ensures.refused ∙ ap (λ r. and_then r (λ _. Ok tt)) c.in_ok-g.was) in
    record { long = a.long_r ∙ sym a.long_h ∙ sym (ap length c.in_ok-g.ensures.h); same = a.long_r ∙ sym a.long_l }
