use Rattle.std.proofs.lemmas.Result.{on_ok_weaker}
use Rattle.proof_write.proofs.Lays.{laid_two, if_written}
use Rattle.proof_write.proofs.bundle.push_pair.Goals as goal

pub returns : goal.returns
returns c =
    let wrote = if_written c.extend_from_slice-2.result _ _ _ c.extend_from_slice-2.ensures.items in
    on_ok_weaker c.extend_from_slice-2.result
    (λ h. laid_two _ _ _ _ _ _ _ c.in_ok-extend_from_slice.ensures.items h c.to_be_bytes.ensures c.to_be_bytes-2.ensures) wrote
