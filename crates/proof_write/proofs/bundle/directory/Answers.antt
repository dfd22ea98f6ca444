use Rattle.std.proofs.Common.{◌≡◌, map, drop, Some, refl, ap, vec_items, vec_len, ◌∙◌, arith}
use Rattle.std.proofs.lemmas.List.{length-map, drop_all}
use Rattle.proof_write.specs.Bundle.{total, pairs_from, directory_bytes}
use Rattle.proof_write.proofs.Lays.{laid_all, directory_is}
use Rattle.proof_write.proofs.bundle.directory.Goals as goal

pub returns : goal.returns
returns c =
    let rs = c.args.records.now in
    let count = length-map rs vec_len in
    let done : total (map vec_len (drop c.loop-record.record-index rs)) ≡ 0 =
    ap (λ xs. total (map vec_len xs)) (drop_all c.loop-record.record-index rs c.loop-record-test.false) in
    let e =
    laid_all (λ xs. pairs_from c.loop-record.offset (map vec_len xs)) rs (directory_bytes (map vec_len rs)) c.loop-record.record-index
    (vec_items c.loop-record.out) c.loop-record-test.false refl c.loop-record.invariant.1 in
    ap Some e
    ∙ directory_is (map vec_len rs) (omega (arith, count, c.in-Ok.ensures))
    (omega (arith, count, done, c.loop-record.invariant.0, c.loop-record.invariant.2))
