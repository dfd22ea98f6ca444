use Rattle.proof_write.proofs.Wrote.{wrote}
use Rattle.proof_write.proofs.prove.write_record.Goals as goal

pub returns : goal.returns
returns c =
    wrote c.args.group.now c.base.result c.args.bench.now c.deref.result.now c.deref-2.result.now
    c.deref-3.result.now c.args.out.now c.whole_proof.new.out _ c.whole_proof.result c.base.ensures
    c.deref.ensures.value c.deref-2.ensures.value c.deref-3.ensures.value c.whole_proof.ensures.answer
    c.whole_proof.ensures.out
