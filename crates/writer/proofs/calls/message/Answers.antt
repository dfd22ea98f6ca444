use Rattle.std.proofs.Common.{Ok, length, sym, ap, ◌∙◌, arith}
use Rattle.kind.specs.Faults.{and_then}
use Rattle.writer.proofs.Admits.{message_ready}
use Rattle.writer.proofs.calls.message.Goals as goal

pub message_across-requires : goal.message_across-requires
message_across-requires g c =
    let a = message_ready g.K.Kind.meaning g.K.Kind.laws c.args.bases.now.g.now c.args.bases.now.h.now c.args.l.now c.args.r.now
    (sym c.admit_message.ensures.refused ∙ ap (λ r. and_then r (λ _. Ok tt)) c.in_ok-g.was) in
    let same_g = ap length c.in_ok-g.ensures.g in
    let same_h = ap length c.in_ok-g.ensures.h in
    record {
      long = record {
        long_h = omega (arith, a.0.long_h);
        long_l = omega (arith, a.0.long_l);
        long_r = omega (arith, a.0.long_r);
      };
      even = omega (arith, a.1);
    }
